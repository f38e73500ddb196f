-- The indices are looked at where heights and widths are taken.
use Rattle.std.proofs.Common.{◌<◌, ◌∙◌, ℕ, List, Option, Some, ap, inr, subst, sym}
use Rattle.std.specs.Prelude.{All, map}
use Rattle.std.specs.Option.{option_or}
use Rattle.std.proofs.lemmas.Result.{err_from_is_err_and}
use Rattle.p3_support.specs.Batches.{dimensions_in, greatest, heights_of}
use Rattle.p3_support.specs.Pairs.{left_of}
use Rattle.p3_support.specs.declared.matrix.Dimensions.{Dimensions}
use Rattle.p3_merkle_tree.specs.Geometry.{heights}
use Rattle.p3_merkle_tree.specs.HidingSchemes.{generator_of}
use Rattle.p3_merkle_tree.specs.MerkleTreeError.{MerkleTreeError}
use Rattle.p3_merkle_tree.specs.Nodes.{Batch, shape}
use Rattle.p3_merkle_tree.specs.Parts.{matrices_of, tree_batch}
use Rattle.p3_merkle_tree.specs.Refusals.{AnswersUnlessMemory, queries_refusal}
use Rattle.p3_merkle_tree.specs.Views.{batch_of}
use Rattle.end_to_end.proofs.SaltedFacts.{first_below, heights_stay, salted_widened}
use Rattle.end_to_end.proofs.salted.salted_committed.Goals as goal

pub returns-in_err-check_indices-clause-answer : goal.returns-in_err-check_indices-clause-answer
returns-in_err-check_indices-clause-answer g c =
    let b = batch_of g.M.Matrix.height_of g.M.Matrix.width_of g.M.Matrix.row_of g.row.N c.args.matrices.items in
    let e = g.row.SALT_ELEMS in
    let drawn = g.R.Rng.stream (generator_of c.args.scheme.now) in
    let tallest = c.get_max_height.ensures
    ∙ ap (λ (salted : Batch _). greatest (heights (shape salted))) c.in_ok-cap.ensures.batch
    ∙ ap (λ (ds : List Dimensions). greatest (heights_of ds))
    (salted_widened g.P.Value.SaltWord.of_salt_word e b.matrices drawn)
    ∙ ap greatest (heights_stay e (shape b).dimensions) in
    let r = c.from_residual-in_err-check_indices.result in
    let indices = c.args.indices.now in
    let p = err_from_is_err_and r c.from_residual-in_err-check_indices.ensures.1 in
    let here : AnswersUnlessMemory r (queries_refusal c.get_max_height.result indices) =
    rw p.1 (inr (c.in_err-check_indices.ensures.answer ∙ ap (λ (e : MerkleTreeError). Some e) (sym p.2))) in
    let refused = subst (λ (m : ℕ). AnswersUnlessMemory r (queries_refusal m indices)) tallest here in
    subst (λ (o : Option _). AnswersUnlessMemory r
    (option_or o (queries_refusal (greatest (heights_of (shape b).dimensions)) indices)))
    (sym c.in_ok-cap.ensures.answer) refused

pub returns-clause-answer : goal.returns-clause-answer
returns-clause-answer g c =
    let b = batch_of g.M.Matrix.height_of g.M.Matrix.width_of g.M.Matrix.row_of g.row.N c.args.matrices.items in
    let e = g.row.SALT_ELEMS in
    let drawn = g.R.Rng.stream (generator_of c.args.scheme.now) in
    let tallest = c.get_max_height.ensures
    ∙ ap (λ (salted : Batch _). greatest (heights (shape salted))) c.in_ok-cap.ensures.batch
    ∙ ap (λ (ds : List Dimensions). greatest (heights_of ds))
    (salted_widened g.P.Value.SaltWord.of_salt_word e b.matrices drawn)
    ∙ ap greatest (heights_stay e (shape b).dimensions) in
    let indices = c.args.indices.now in
    ap (λ (o : Option _). option_or o (queries_refusal (greatest (heights_of (shape b).dimensions)) indices))
    c.in_ok-cap.ensures.answer
    ∙ ap (λ (m : ℕ). queries_refusal m indices) (sym tallest) ∙ c.in_ok-check_indices.ensures.answer

pub returns-clause-first : goal.returns-clause-first
returns-clause-first g c =
    let m = greatest (heights (shape (tree_batch c.in_ok-cap.tree))) in
    let below = subst (λ (m : ℕ). All (λ i. i < m) c.args.indices.now) c.get_max_height.ensures
    c.in_ok-check_indices.ensures.below in
    first_below m c.args.indices.now c.in_ok-cap.tree.lawful.some_above_0 below

pub returns-clause-dimensions : goal.returns-clause-dimensions
returns-clause-dimensions g c =
    let taken = dimensions_in g.M.Matrix.height_of g.M.Matrix.width_of in
    let ms = map left_of (matrices_of c.in_ok-cap.tree) in
    c.in_ok-dimensions.ensures ∙ ap taken (c.deref.ensures.value ∙ sym c.in_ok-cap.ensures.matrices)
    ∙ sym (c.dimensions.ensures ms)
