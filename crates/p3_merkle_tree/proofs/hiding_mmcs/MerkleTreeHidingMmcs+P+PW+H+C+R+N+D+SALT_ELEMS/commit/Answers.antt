-- The plain commitment to the pairs is that to the salted matrices.
use Rattle.std.proofs.Common.{◌≡◌, ◌∙◌, List, None, ap, map, refl, rules, subst, sym}
use Rattle.std.proofs.lemmas.Result.{IfOk-from_err, IfOk-weaker}
use Rattle.p3_support.specs.Pairs.{left_of}
use Rattle.p3_support.specs.Batches.{dimensions_in}
use Rattle.p3_support.specs.declared.matrix.Dimensions.{Dimensions}
use Rattle.p3_merkle_core.specs.Views.{matrix_of}
use Rattle.p3_merkle_core.specs.Refusals.{AnswersUnlessMemory}
use Rattle.p3_merkle_core.specs.Nodes.{Batch, Matrix}
use Rattle.p3_merkle_tree.specs.SaltRefusals.{salted_commit_refusal}
use Rattle.p3_merkle_tree.specs.SaltedTrees.{HaveSaltColumns}
use Rattle.p3_merkle_tree.specs.Inner.SaltedParts.{pair_matrix}
use Rattle.p3_merkle_core.proofs.Lists.ViewFacts.{dimensions_are}
use Rattle.p3_merkle_tree.proofs.CommitmentFacts.{memory_alone}
use Rattle.p3_merkle_tree.proofs.CommitFacts.{both_made, memory_or, nothing_drawn, on_ok}
use Rattle.p3_merkle_tree.proofs.hiding_mmcs.MerkleTreeHidingMmcs+P+PW+H+C+R+N+D+SALT_ELEMS.commit.Goals as goal

pub returns-in_err-dimensions-clause-answer : goal.returns-in_err-dimensions-clause-answer
returns-in_err-dimensions-clause-answer g c =
    let height = g.M.Matrix.height_of in
    let width = g.M.Matrix.width_of in
    let are = ap (dimensions_in height width) c.deref.ensures.value
    ∙ sym (dimensions_are height width g.M.Matrix.row_of c.args.matrices.items) in
    subst (λ (ds : List Dimensions). AnswersUnlessMemory c.from_residual.result
    (salted_commit_refusal g.row.SALT_ELEMS ds)) are (search rules)

pub returns-in_err-pairs : goal.returns-in_err-pairs
returns-in_err-pairs g c =
    let r = c.from_residual-in_err-pairs.result in
    let err = c.from_residual-in_err-pairs.ensures.0 in
    record {
      answer = search rules;
      matrices = IfOk-from_err r _ err;
      batch = IfOk-from_err r _ err;
      committed = IfOk-from_err r _ err;
      drawn = record {
        generator_after = nothing_drawn _ r err;
        further = c.salted_pairs.ensures.further;
        scheme = refl;
      };
      untouched = search rules;
    }

pub returns : goal.returns
returns g c =
    let shown = map (matrix_of g.M.Matrix.height_of g.M.Matrix.width_of g.M.Matrix.row_of) in
    let e = g.row.SALT_ELEMS in
    let ms = c.args.matrices.items in
    let r = c.commit_checked.result in
    let are = ap (dimensions_in g.M.Matrix.height_of g.M.Matrix.width_of) c.deref.ensures.value
    ∙ sym (dimensions_are g.M.Matrix.height_of g.M.Matrix.width_of g.M.Matrix.row_of ms) in
    let none = subst (λ (ds : List Dimensions). salted_commit_refusal e ds ≡ None) are
    c.in_ok-dimensions.ensures.answer in
    let over : List (Matrix _) → Batch _ = λ z. record { arity = g.row.N; matrices = z } in
    let memory = c.commit_checked.ensures.memory in
    record {
      answer = subst (AnswersUnlessMemory r) (sym none) memory;
      matrices = IfOk-weaker r _ _ (λ made is. ap (map left_of) is ∙ c.in_ok-pairs.ensures.matrices)
          c.commit_checked.ensures.matrices;
      batch = IfOk-weaker r _ _
          (λ made is. ap (λ z. over (map pair_matrix z)) is ∙ ap over c.in_ok-pairs.ensures.salted)
          c.commit_checked.ensures.matrices;
      committed = both_made _ _ _ r (λ made is own. record {
        committed = own;
        columns = subst (λ (z : List _). HaveSaltColumns e z) (sym is) c.in_ok-pairs.ensures.columns;
      }) c.commit_checked.ensures.matrices c.commit_checked.ensures.committed;
      drawn = record {
        generator_after = on_ok _ r c.in_ok-pairs.ensures.generator_after;
        further = c.in_ok-pairs.ensures.further;
        scheme = refl;
      };
      untouched = memory_or _ r (memory_alone r memory);
    }
