-- Between the opening and each query stands a neighbour.
use Rattle.std.proofs.Common.{subst, sym}
use Rattle.p3_merkle_core.specs.Openings.{Opening}
use Rattle.p3_merkle_verifier.specs.Inner.Checks.{functions_of, opening_in, shape_in, AgreeBelow}
use Rattle.p3_merkle_verifier.specs.Inner.QueryPairs.{query_in}
use Rattle.p3_merkle_verifier.proofs.AgreeFacts.{neighbours_agree}
use Rattle.p3_merkle_verifier.proofs.pruned_extraction.Checker+P+PW+H+C+array+N+array+D+PW+Value+N+D.agrees_with_all.Goals as goal

pub returns-then-above-below : goal.returns-then-above-below
returns-then-above-below g c =
    let f = functions_of c.args.self.now in
    let s = shape_in c.args.self.now in
    let t = c.args.self.now.cap_layer in
    let agrees = λ (u : Opening _ _). AgreeBelow f s (opening_in c.args.first) u t in
    let lower = subst agrees c.opening.ensures (c.agree.ensures c.if-not-agree.false) in
    λ yes. neighbours_agree g.P.Value.PartialEq.eq g.PW.Value.PartialEq.eq f s t (opening_in c.args.first)
    c.args.queries.now c.neighbours-below.result.0 c.neighbours-below.result.1 g.met.P.PackedValue.eq_is_equality
    g.met.PW.PackedValue.eq_is_equality c.requires.first.arity c.requires.queries.consistent
    c.neighbours-below.ensures.between lower
    (subst (λ b. agrees (query_in c.args.queries.now b)) (sym c.if-above-below.true) lower)

pub returns-else-above-below : goal.returns-else-above-below
returns-else-above-below g c =
    let f = functions_of c.args.self.now in
    let s = shape_in c.args.self.now in
    let t = c.args.self.now.cap_layer in
    let agrees = λ (u : Opening _ _). AgreeBelow f s (opening_in c.args.first) u t in
    λ yes. neighbours_agree g.P.Value.PartialEq.eq g.PW.Value.PartialEq.eq f s t (opening_in c.args.first)
    c.args.queries.now c.neighbours-below.result.0 c.neighbours-below.result.1 g.met.P.PackedValue.eq_is_equality
    g.met.PW.PackedValue.eq_is_equality c.requires.first.arity c.requires.queries.consistent
    c.neighbours-below.ensures.between (subst agrees c.opening.ensures (c.agree.ensures c.if-not-agree.false))
    (subst agrees c.opening-else-above-below.ensures (c.agree-else-above-below.ensures yes))
