-- The paths are those of the checker's walk.
use Rattle.std.proofs.Common.{subst}
use Rattle.std.specs.Prelude.{◌≡◌, IfOk}
use Rattle.p3_support.specs.RowSets.{sets_in}
use Rattle.p3_merkle_core.specs.Geometry.{shape_of}
use Rattle.p3_merkle_core.specs.Pruning.{pruned_of, restored_paths}
use Rattle.p3_merkle_core.specs.Refusals.{AnswersUnlessMemory, Refuses, pruned_early, pruned_refusal}
use Rattle.p3_merkle_core.specs.Views.{shown_paths}
use Rattle.p3_merkle_tree.specs.Schemes.{cap_layer_of}
use Rattle.p3_merkle_tree.proofs.VerdictFacts.{restoring_verdict}
use Rattle.p3_merkle_tree.proofs.pruned.MerkleTreeMmcs+P+PW+H+C+N+D.restore_row_sets.Goals as goal

pub returns : goal.returns
returns g c =
    let scheme = c.args.self.now in
    let eq = g.P.Value.PartialEq.eq in
    let s = shape_of g.row.N c.args.dimensions.now in
    let alike = c.checker.ensures in
    let restored = c.restored_paths.result in
    let opening = pruned_of c.args.indices.now (sets_in c.args.rows) c.args.digests.now in
    record {
      verdict = restoring_verdict eq s (cap_layer_of scheme s) opening g.met.P.PackedValue.eq_is_equality restored
          (subst (AnswersUnlessMemory restored) (λ i. pruned_refusal eq (alike i).shape (alike i).layer opening)
          c.restored_paths.ensures.answer);
      checked = subst (Refuses restored) (λ i. pruned_early (alike i).shape opening) c.restored_paths.ensures.checked;
      paths = subst (λ (ps : _). IfOk restored (λ paths. shown_paths paths.items ≡ ps))
          (λ i. restored_paths (alike i) opening) c.restored_paths.ensures.paths;
    }
