-- The row is cut at the end of the first list.
use Rattle.std.proofs.Common.{◌∙◌, ◌++◌, length, sym}
use Rattle.std.proofs.lemmas.List.{take-append-drop}
use Rattle.std.specs.Cmp.Lexicographic.{pointwise}
use Rattle.std.specs.Prelude.{◌&&◌}
use Rattle.p3_support.proofs.RowFacts.{cut_compared}
use Rattle.p3_support.proofs.row_parts.is_joined.Goals as goal

pub returns-then-eq : goal.returns-then-eq
returns-then-eq g c =
    let eq = g.T.PartialEq.eq in
    let row = c.args.row.now in
    let front = c.split_at.result.0.now in
    let back = c.split_at.result.1.now in
    let cut = sym ((λ i. c.split_at.ensures.front i ++ c.split_at.ensures.back i)
    ∙ take-append-drop (length c.args.first.now) row) in
    let same = sym c.eq.ensures ∙ c.if-eq.true in
    c.eq-then-eq.ensures
    ∙ sym (cut_compared eq row c.args.first.now c.args.second.now front back cut c.split_at.ensures.front_len
    ∙ (λ i. same i && pointwise eq back c.args.second.now))

pub returns-else-eq : goal.returns-else-eq
returns-else-eq g c =
    let eq = g.T.PartialEq.eq in
    let row = c.args.row.now in
    let front = c.split_at.result.0.now in
    let back = c.split_at.result.1.now in
    let cut = sym ((λ i. c.split_at.ensures.front i ++ c.split_at.ensures.back i)
    ∙ take-append-drop (length c.args.first.now) row) in
    let other = sym c.eq.ensures ∙ c.if-eq.false in
    c.if-eq.false
    ∙ sym (cut_compared eq row c.args.first.now c.args.second.now front back cut c.split_at.ensures.front_len
    ∙ (λ i. other i && pointwise eq back c.args.second.now))
