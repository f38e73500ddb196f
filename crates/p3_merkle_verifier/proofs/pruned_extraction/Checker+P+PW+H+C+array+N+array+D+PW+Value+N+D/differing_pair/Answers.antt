-- No query so far differs from one of the second list, so the first that does is the definition's.
use borrow.Author.Count.{below_more}
use Rattle.std.proofs.Common.{◌≡◌, None, ap, arith, length, subst, sym}
use Rattle.p3_merkle_core.specs.Openings.{Opening}
use Rattle.p3_merkle_verifier.specs.Inner.Checks.{params_in}
use Rattle.p3_merkle_verifier.specs.Inner.QueryPairs.{first_place, query_difference, query_in, ShowsAt}
use Rattle.p3_merkle_verifier.proofs.PlaceFacts.{no_pair, pair_found}
use Rattle.p3_merkle_verifier.proofs.pruned_extraction.Checker+P+PW+H+C+array+N+array+D+PW+Value+N+D.differing_pair.Goals as goal

pub loop-query-preserved : goal.loop-query-preserved
loop-query-preserved g c =
    let difference = query_difference g.P.Value.PartialEq.eq g.PW.Value.PartialEq.eq (params_in c.args.self.now) in
    let differs = λ (o : Opening _ _). first_place (λ b. difference o (query_in c.args.second.now b))
    (length c.args.second.now.paths.items) in
    let shown = subst (ShowsAt c.in_ok-found.found) (ap differs c.opening.ensures) c.in_ok-found.ensures in
    below_more (λ k. differs (query_in c.args.first.now k) ≡ None) c.loop-query.query c.loop-query.invariant
    (sym (rw c.in_default.is at shown))

pub returns-in-Some : goal.returns-in-Some
returns-in-Some g c =
    let difference = query_difference g.P.Value.PartialEq.eq g.PW.Value.PartialEq.eq (params_in c.args.self.now) in
    let m = length c.args.second.now.paths.items in
    let differs = λ (o : Opening _ _). first_place (λ b. difference o (query_in c.args.second.now b)) m in
    let shown = subst (ShowsAt c.in_ok-found.found) (ap differs c.opening.ensures) c.in_ok-found.ensures in
    pair_found (λ a b. difference (query_in c.args.first.now a) (query_in c.args.second.now b))
    (length c.args.first.now.paths.items) m c.loop-query.query (omega (arith, c.args.first.now.paths.ok.0))
    c.loop-query.invariant (rw c.in-Some.is at shown)

pub returns : goal.returns
returns g c =
    let difference = query_difference g.P.Value.PartialEq.eq g.PW.Value.PartialEq.eq (params_in c.args.self.now) in
    no_pair (λ a b. difference (query_in c.args.first.now a) (query_in c.args.second.now b))
    (length c.args.first.now.paths.items) (length c.args.second.now.paths.items)
    (λ k below. c.loop-query.invariant k (omega (arith, c.args.first.now.paths.ok.0)))
