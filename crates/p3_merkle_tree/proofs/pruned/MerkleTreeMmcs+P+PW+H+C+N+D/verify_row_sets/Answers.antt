-- The answer is that of the checker's walk.
use Rattle.std.proofs.Common.{subst}
use Rattle.p3_support.specs.RowSets.{sets_in}
use Rattle.p3_merkle_core.specs.Geometry.{shape_of}
use Rattle.p3_merkle_core.specs.Pruning.{pruned_of}
use Rattle.p3_merkle_core.specs.Refusals.{AnswersUnlessMemory, Refuses, pruned_early, pruned_refusal_under}
use Rattle.p3_merkle_tree.specs.Schemes.{params_of}
use Rattle.p3_merkle_tree.proofs.VerdictFacts.{pruned_verdict}
use Rattle.p3_merkle_tree.proofs.pruned.MerkleTreeMmcs+P+PW+H+C+N+D.verify_row_sets.Goals as goal

pub returns-clause-verdict : goal.returns-clause-verdict
returns-clause-verdict g c =
    let scheme = c.args.self.now in
    let eq = g.P.Value.PartialEq.eq in
    let same = g.PW.Value.PartialEq.eq in
    let roots = c.args.roots.now in
    let opening = pruned_of c.args.indices.now (sets_in c.args.rows) c.args.digests.now in
    pruned_verdict eq same (params_of scheme (shape_of g.row.N c.args.dimensions.now)) roots opening
    g.met.P.PackedValue.eq_is_equality g.met.PW.PackedValue.eq_is_equality scheme.arity c.check_pruned_opening.result
    (subst (AnswersUnlessMemory c.check_pruned_opening.result)
    (λ i. pruned_refusal_under eq same (c.checker.ensures i) roots opening) c.check_pruned_opening.ensures.answer)

pub returns-clause-checked : goal.returns-clause-checked
returns-clause-checked g c =
    let opening = pruned_of c.args.indices.now (sets_in c.args.rows) c.args.digests.now in
    subst (Refuses c.check_pruned_opening.result) (λ i. pruned_early (c.checker.ensures i).shape opening)
    c.check_pruned_opening.ensures.checked
