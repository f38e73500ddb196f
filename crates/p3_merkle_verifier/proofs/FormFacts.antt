-- An opening of the right form is answered by the cap's entry.
use Rattle.std.proofs.Common.{◌≡◌, ◌∙◌, ◌+◌, ℕ, Bool, List, None, length, refl, sym}
use Rattle.std.specs.Option.{option_or}
use Rattle.std.specs.Cmp.Lexicographic.{pointwise}
use Rattle.std.proofs.lemmas.List.{length-map}
use Rattle.p3_support.specs.Batches.{widened}
use Rattle.p3_support.specs.declared.matrix.Dimensions.{Dimensions}
use Rattle.p3_merkle_core.specs.Checks.{params, path_digest}
use Rattle.p3_merkle_core.specs.Geometry.{ancestor, shape_of}
use Rattle.p3_merkle_core.specs.Nodes.{Functions}
use Rattle.p3_merkle_core.specs.Openings.{Opening}
use Rattle.p3_merkle_core.specs.Refusals.{answer_under, form_refusal, is_entry}
use Rattle.p3_answers.specs.Answers.{unless, ok_unless}
use Rattle.p3_merkle_core.specs.declared.error.MerkleTreeError.TheVariants.{CapMismatch}
use Rattle.p3_merkle_core.proofs.Shapes.Widened.{ancestor_same, heights_widened, path_same, siblings_same}
use Rattle.p3_merkle_verifier.specs.Inner.Checks.{salted_form_refusal, IsPathState}
use Rattle.p3_merkle_verifier.specs.declared.path.PathState.{PathState}

-- the form of an opening of wider matrices: all but the widths depends on their heights
pub form_widened : {T : Type 0} (e n : ℕ) (ds : List Dimensions) (t index : ℕ) (rows : List (List T)) (count : ℕ) →
    salted_form_refusal e (shape_of n ds) t index rows count
    ≡ form_refusal (shape_of n (widened e ds)) t index rows count
form_widened e n ds t index rows count =
    rw (
      length-map {B = Dimensions} ds (λ d. record { width = d.width + e; height = d.height }),
      heights_widened e ds,
      siblings_same n (widened e ds) ds (heights_widened e ds) t,
    )
    refl

pub answered_by_entry : {T W : Type 0} (same : W → W → Bool) (roots : List (List W)) (e : ℕ) {f : Functions T W}
    {n : ℕ} {ds : List Dimensions} {t : ℕ} {o : Opening T W} {state : PathState (List W)} {entry known : Bool} →
    salted_form_refusal e (shape_of n ds) t o.index o.rows (length o.siblings) ≡ None →
    IsPathState f (shape_of n ds) o t state → entry ≡ is_entry (pointwise same) roots state.node state.digest →
    entry ≡ known →
    ok_unless (unless known CapMismatch) (tt {0}) ≡ answer_under same (params f (shape_of n (widened e ds)) t) roots o
answered_by_entry same roots e {f} {n} {ds} {t} {o} form is is_known at =
    let wider = heights_widened e ds in
    let decided : _
    ≡ is_entry (pointwise same) roots (ancestor (shape_of n (widened e ds)) t o.index)
    (path_digest f (shape_of n (widened e ds)) o t) =
    sym at ∙ is_known ∙ (λ j. is_entry (pointwise same) roots (is.at_node j) (is.reached j))
    ∙ rw (ancestor_same n (widened e ds) ds wider t o.index, path_same n (widened e ds) ds wider f o t) refl in
    let formed = sym form ∙ form_widened e n ds t o.index o.rows (length o.siblings) in
    λ i. ok_unless (option_or (formed i) (unless (decided i) CapMismatch)) (tt {0})
