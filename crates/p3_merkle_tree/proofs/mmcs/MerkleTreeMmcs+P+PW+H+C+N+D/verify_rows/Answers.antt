-- The answer is that of the checker's walk.
use Rattle.std.proofs.Common.{◌∙◌}
use Rattle.p3_support.proofs.RowFacts.{widened_none}
use Rattle.p3_support.specs.Rows.{rows_in}
use Rattle.p3_merkle_core.specs.Geometry.{shape_of}
use Rattle.p3_merkle_core.specs.Openings.{opening_of}
use Rattle.p3_merkle_core.specs.Refusals.{answer_under}
use Rattle.p3_merkle_tree.specs.Schemes.{params_of}
use Rattle.p3_merkle_tree.proofs.VerdictFacts.{exact_verdict}
use Rattle.p3_merkle_tree.proofs.mmcs.MerkleTreeMmcs+P+PW+H+C+N+D.verify_rows.Goals as goal

pub returns : goal.returns
returns g c =
    let scheme = c.args.self.now in
    let same = g.PW.Value.PartialEq.eq in
    let roots = c.args.roots.now in
    let opening = opening_of c.args.index (rows_in c.args.rows) c.args.siblings.now in
    exact_verdict same (params_of scheme (shape_of g.row.N c.args.dimensions.now)) roots opening
    g.met.PW.PackedValue.eq_is_equality c.check_opening.result
    (rw (widened_none c.checker.result.schedule.dimensions.now) at c.check_opening.ensures.answer
    ∙ (λ i. answer_under same (c.checker.ensures i) roots opening))
