-- What the scheme hands to its checker, for rows without salts and with them.
use Rattle.std.proofs.Common.{◌≡◌, ◌∙◌, ℕ, Bool, List, ap, sym}
use Rattle.p3_support.specs.Batches.{widened}
use Rattle.p3_support.specs.declared.matrix.Dimensions.{Dimensions}
use Rattle.p3_merkle_core.specs.Caps.{cap_layer}
use Rattle.p3_merkle_core.specs.Checks.{params}
use Rattle.p3_merkle_core.specs.Geometry.{shape_of}
use Rattle.p3_merkle_core.specs.Nodes.{Functions}
use Rattle.p3_merkle_core.specs.declared.cap.CapRule.{CapRule}
use Rattle.p3_merkle_core.specs.declared.schedule.Schedule.{Schedule}
use Rattle.p3_merkle_core.proofs.Shapes.Widened.{cap_layer_same, difference_same, heights_widened}
use Rattle.p3_merkle_core.specs.Extraction.{difference_of}
use Rattle.p3_merkle_core.specs.Openings.{Opening}

-- what the steps of some dimensions are of, and the cap's layer by them
pub record IsSchedule (n : ℕ) (dimensions : List Dimensions) (rule : CapRule) (height : ℕ) (schedule : Schedule)
    (t : ℕ) :
    Type 0 where
  pub tree : shape_of schedule.arity schedule.dimensions.now ≡ shape_of n dimensions
  pub at_cap : t ≡ cap_layer (shape_of n dimensions) rule height

module _ (n : ℕ) (dimensions : List Dimensions) (rule : CapRule) (height : ℕ) (schedule : Schedule) (t : ℕ)
    (arity : schedule.arity ≡ n) (same : schedule.dimensions.now ≡ dimensions)
    (at : t ≡ cap_layer (shape_of schedule.arity schedule.dimensions.now) rule height) where
  pub are_steps : IsSchedule n dimensions rule height schedule t
  are_steps =
      let tree : shape_of schedule.arity schedule.dimensions.now ≡ shape_of n dimensions
      = λ i. shape_of (arity i) (same i) in
      record { tree = tree; at_cap = at ∙ ap (λ s. cap_layer s rule height) tree }

  -- the parameters of checks by these steps, where the arity is named in either way
  pub params_alike : {T W : Type 0} (f g : Functions T W) (a : ℕ) → f ≡ g → a ≡ n →
      params f (shape_of a schedule.dimensions.now) t
      ≡ params g (shape_of n dimensions) (cap_layer (shape_of n dimensions) rule height)
  params_alike f g a functions named = λ i. params (functions i) (shape_of (named i) (same i)) (are_steps.at_cap i)

-- so the parameters are, where each row has e salts
pub widened_alike : {T W : Type 0} (f g : Functions T W) (a n : ℕ) (es ds : List Dimensions) (t : ℕ) (rule : CapRule)
    (height : ℕ) → params f (shape_of a es) t ≡ params g (shape_of n ds) (cap_layer (shape_of n ds) rule height) →
    (e : ℕ) → params f (shape_of a (widened e es)) t
    ≡ params g (shape_of n (widened e ds)) (cap_layer (shape_of n (widened e ds)) rule height)
widened_alike f g a n es ds t rule height is e =
    (λ i. params (is i).functions (shape_of (is i).shape.arity (widened e (is i).shape.dimensions)) (is i).layer)
    ∙ ap (λ l. params g (shape_of n (widened e ds)) l)
    (sym (cap_layer_same n (widened e ds) ds (heights_widened e ds) rule height))

-- and the checks of two openings differ alike
pub difference_alike : {T W : Type 0} (eq : T → T → Bool) (same : W → W → Bool) (f g : Functions T W) (a n : ℕ)
    (es ds : List Dimensions) (t : ℕ) (rule : CapRule) (height : ℕ) → params f (shape_of a es) t
    ≡ params g (shape_of n ds) (cap_layer (shape_of n ds) rule height) → (e : ℕ) (o u : Opening T W) →
    difference_of eq same (params f (shape_of a es) t) o u
    ≡ difference_of eq same
    (params g (shape_of n (widened e ds)) (cap_layer (shape_of n (widened e ds)) rule height)) o u
difference_alike eq same f g a n es ds t rule height is e o u =
    sym (difference_same a (widened e es) es (heights_widened e es) eq same f t o u)
    ∙ (λ i. difference_of eq same (widened_alike f g a n es ds t rule height is e i) o u)
