-- Rows in one piece are compared as they stand.
use Rattle.std.proofs.Common.{◌≡◌, ◌∙◌, List, None, Some, ap, subst, sym}
use Rattle.std.specs.Prelude.{MatchResult}
use Rattle.p3_support.specs.Rows.{rows_in}
use Rattle.p3_support.specs.Shown.{row_lists}
use Rattle.p3_support.proofs.RowFacts.{whole_in_parts}
use Rattle.p3_merkle_core.specs.Inner.Agreement.{rows_refusal}
use Rattle.p3_merkle_core.proofs.pruning.check_same_rows.Goals as goal

pub returns-in-Vecs-Vecs : goal.returns-in-Vecs-Vecs
returns-in-Vecs-Vecs g c =
    let own = sym (whole_in_parts (row_lists c.in-Vecs-Vecs.rows.now)) ∙ ap rows_in (sym c.in-Vecs-Vecs.is-0)
    ∙ c.rows.ensures in
    let first = sym (whole_in_parts (row_lists c.in-Vecs-Vecs.first_rows.now)) ∙ ap rows_in (sym c.in-Vecs-Vecs.is-1)
    ∙ c.rows-2.ensures in
    let refusal = rows_refusal g.T.PartialEq.eq c.args.matrices.now c.args.slot in
    subst (λ (rows : List (List _) × List (List _)). MatchResult c.check_same_vectors.result
    (λ ok. refusal rows.0 rows.1 ≡ None) (λ e. refusal rows.0 rows.1 ≡ Some e)) (λ i. (own i, first i))
    c.check_same_vectors.ensures
