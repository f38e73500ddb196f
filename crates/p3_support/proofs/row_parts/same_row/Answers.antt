-- The longer first part is cut at the end of the other.
use Rattle.std.proofs.Common.{◌∙◌, ◌++◌, length, sym}
use Rattle.std.proofs.lemmas.Cmp.{lists_equiv}
use Rattle.std.proofs.lemmas.List.{take-append-drop}
use Rattle.std.specs.Cmp.Lexicographic.{pointwise}
use Rattle.std.specs.Prelude.{◌&&◌}
use Rattle.p3_support.proofs.RowFacts.{longer_first, longer_second}
use Rattle.p3_support.proofs.row_parts.same_row.Goals as goal

pub returns-then-eq : goal.returns-then-eq
returns-then-eq g c =
    let eq = g.T.PartialEq.eq in
    let first = c.args.row.0.now in
    let second = c.args.row.1.now in
    let other = c.args.other.0.now in
    let rest = c.args.other.1.now in
    let front = c.split_at.result.0.now in
    let back = c.split_at.result.1.now in
    let cut = sym ((λ i. c.split_at.ensures.front i ++ c.split_at.ensures.back i)
    ∙ take-append-drop (length first) other) in
    let begins = sym c.eq-then-first-other_first.ensures ∙ c.if-eq.true in
    c.is_joined.ensures
    ∙ sym (longer_second eq first second other rest front back cut c.split_at.ensures.front_len
    ∙ (λ i. begins i && pointwise eq second (back ++ rest)))

pub returns-else-eq : goal.returns-else-eq
returns-else-eq g c =
    let eq = g.T.PartialEq.eq in
    let first = c.args.row.0.now in
    let second = c.args.row.1.now in
    let other = c.args.other.0.now in
    let rest = c.args.other.1.now in
    let front = c.split_at.result.0.now in
    let back = c.split_at.result.1.now in
    let cut = sym ((λ i. c.split_at.ensures.front i ++ c.split_at.ensures.back i)
    ∙ take-append-drop (length first) other) in
    let begins = sym c.eq-then-first-other_first.ensures ∙ c.if-eq.false in
    c.if-eq.false
    ∙ sym (longer_second eq first second other rest front back cut c.split_at.ensures.front_len
    ∙ (λ i. begins i && pointwise eq second (back ++ rest)))

pub returns-then-eq-2 : goal.returns-then-eq-2
returns-then-eq-2 g c =
    let eq = g.T.PartialEq.eq in
    let first = c.args.row.0.now in
    let second = c.args.row.1.now in
    let other = c.args.other.0.now in
    let rest = c.args.other.1.now in
    let front = c.split_at-else-first-other_first.result.0.now in
    let back = c.split_at-else-first-other_first.result.1.now in
    let cut = sym ((λ i. c.split_at-else-first-other_first.ensures.front i
    ++ c.split_at-else-first-other_first.ensures.back i) ∙ take-append-drop (length other) first) in
    let begins = sym c.eq-else-first-other_first.ensures ∙ c.if-eq-2.true in
    c.is_joined-then-eq-2.ensures ∙ (lists_equiv g.met.T.Eq.laws).symm rest (back ++ second)
    ∙ sym (longer_first eq first second other rest front back cut c.split_at-else-first-other_first.ensures.front_len
    ∙ (λ i. begins i && pointwise eq (back ++ second) rest))

pub returns-else-eq-2 : goal.returns-else-eq-2
returns-else-eq-2 g c =
    let eq = g.T.PartialEq.eq in
    let first = c.args.row.0.now in
    let second = c.args.row.1.now in
    let other = c.args.other.0.now in
    let rest = c.args.other.1.now in
    let front = c.split_at-else-first-other_first.result.0.now in
    let back = c.split_at-else-first-other_first.result.1.now in
    let cut = sym ((λ i. c.split_at-else-first-other_first.ensures.front i
    ++ c.split_at-else-first-other_first.ensures.back i) ∙ take-append-drop (length other) first) in
    let begins = sym c.eq-else-first-other_first.ensures ∙ c.if-eq-2.false in
    c.if-eq-2.false
    ∙ sym (longer_first eq first second other rest front back cut c.split_at-else-first-other_first.ensures.front_len
    ∙ (λ i. begins i && pointwise eq (back ++ second) rest))
