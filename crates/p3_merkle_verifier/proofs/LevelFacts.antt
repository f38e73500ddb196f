-- One level of the check of an opening.
use Rattle.std.proofs.Common.{insert, ◌≡◌, ℕ, zero, suc, ◌+◌, ◌-◌, ◌%◌, ◌<◌, ◌≤◌, add-suc, Bool, true, false, List}
use Rattle.std.proofs.Common.{[], ◌∷◌, refl, ap, sym, ◌∙◌, arith, zip, None, Some}
use Rattle.std.proofs.lemmas.Bool.{cond_both}
use Rattle.p3_merkle_core.specs.Geometry.{Shape, has_rows, heights, is_bridge, layer_exponent, shape_of, step}
use Rattle.p3_support.specs.declared.matrix.Dimensions.{Dimensions}
use Rattle.p3_merkle_core.specs.Nodes.{Functions, padded}
use Rattle.p3_merkle_core.specs.Openings.{Opening}
use Rattle.p3_merkle_core.specs.Checks.{layer_words, path_digest, siblings_below, words_of_exponent}
use Rattle.p3_merkle_core.proofs.Checks.Completeness.{reached_next}
use Rattle.p3_merkle_core.proofs.Shapes.SiblingFacts.{siblings_next}
use Rattle.p3_merkle_core.proofs.Shapes.StepFacts.{anc_next, step_above_1}
use Rattle.p3_merkle_verifier.specs.Inner.Checks.{CanStep, IsAbove, IsLevelOfCheck, IsPathState, step_siblings}
use Rattle.p3_merkle_verifier.specs.Inner.Paths.{CanReach}
use Rattle.p3_merkle_verifier.specs.declared.path.PathState.{PathState}
use Rattle.p3_merkle_core.proofs.Checks.CheckFacts.{full_group, inputs_with_rows, inputs_alone}

-- a step from layer l, to the exponent of the next layer, and whether matrices belong to that layer
pub record IsStepFrom (s : Shape) (l n y : ℕ) (has : Bool) : Type 0 where
  pub is_step : n ≡ step s l
  pub above : y ≡ layer_exponent s (suc l)
  pub rows : has ≡ has_rows s (suc l)

-- the same where the arity has another name
pub step_from : (ds : List Dimensions) {a m : ℕ} (l : ℕ) {n y : ℕ} {has : Bool} → a ≡ m →
    n ≡ step (shape_of m ds) l → y ≡ layer_exponent (shape_of m ds) (suc l) → has ≡ has_rows (shape_of m ds) (suc l) →
    IsStepFrom (shape_of a ds) l n y has
step_from ds l same is_step above rows = rw same (record { is_step = is_step; above = above; rows = rows })

-- more levels have more siblings
siblings_mono : (s : Shape) (l k : ℕ) → siblings_below s l ≤ siblings_below s (l + k)
siblings_mono s l zero = let z : l + 0 ≡ l = omega arith in rw z (omega arith)
siblings_mono s l (suc k) = rw (add-suc, siblings_next s (l + k)) (omega (arith, siblings_mono s l k))

-- below layer t the step of each level has its siblings
pub can_step : {s : Shape} {t n used count : ℕ} (l : ℕ) → CanReach s t count → l < t → n ≡ step s l →
    used ≡ siblings_below s l → CanStep s.arity n used count
can_step {s} {t} l w inside is_step taken =
    let two = w.arity.above_1 in
    let rest : suc l + (t - suc l) ≡ t = omega arith in
    let more = rw rest at (siblings_mono s (suc l) (t - suc l)) in
    record {
      wide = rw is_step (step_above_1 s l two);
      narrow = rw is_step (cond_both (is_bridge s (layer_exponent s l)) 2 s.arity (λ x. x ≤ s.arity) (λ t. two)
          (λ t. omega arith));
      enough = omega (arith, siblings_next s l, is_step, taken, more, w.all_siblings);
    }

module _ {T W : Type 0} {f : Functions T W} {s : Shape} {o : Opening T W} {l n y : ℕ} {has : Bool}
    {state : PathState (List W)} (from : IsStepFrom s l n y has) (at : IsPathState f s o l state) where
  -- the group of the level
  abbrev group : List (List W)
  group = padded s.arity f.default_digest
      (insert (step_siblings n o.siblings state.used) (state.node % n) state.digest)

  group_is : {made : List (List W)} → made ≡ group → made ≡ full_group f s o l
  group_is e = e ∙ rw (from.is_step, at.taken, at.at_node, at.reached) refl

  -- the check stands at the next layer, if the digest there is the one that the path reaches
  progress_above : {above : PathState (List W)} {digest : List W} → IsAbove n y digest state above →
      digest ≡ path_digest f s o (suc l) → IsPathState f s o (suc l) above
  progress_above up reached =
      record {
        at_exponent = up.at_exponent ∙ from.above;
        at_node = up.at_node ∙ rw (at.at_node, from.is_step) (sym (anc_next s l o.index));
        taken = up.taken ∙ rw (at.taken, from.is_step) (sym (siblings_next s l));
        reached = up.reached ∙ reached;
      }

  -- a level with rows above it
  pub level_with_rows : {made pair : List (List W)} {above : PathState (List W)} → made ≡ group → has ≡ true → pair
      ≡ padded s.arity f.default_digest (f.compression made ∷ f.hash (words_of_exponent y (zip (heights s) o.rows))
      ∷ []) → IsAbove n y (f.compression pair) state above →
      IsLevelOfCheck f s o l (record { level = l; group = made; pair = Some pair; above = above })
  level_with_rows {pair = pair} e has_is p up =
      let whole = group_is e in
      let present = sym from.rows ∙ has_is in
      let full : pair
      ≡ padded s.arity f.default_digest (f.compression (full_group f s o l) ∷ f.hash (layer_words s o.rows (suc l))
      ∷ []) = rw (whole, from.above) at p in
      record {
        at_level = refl;
        inputs_are = rw (whole, full) (sym (inputs_with_rows f s o l present));
        state = progress_above up (ap f.compression full ∙ sym (rw present at (reached_next f s o l)));
      }

  -- a level without
  pub level_alone : {made : List (List W)} {above : PathState (List W)} → made ≡ group → has ≡ false →
      IsAbove n y (f.compression made) state above →
      IsLevelOfCheck f s o l (record { level = l; group = made; pair = None; above = above })
  level_alone e has_is up =
      let whole = group_is e in
      let absent = sym from.rows ∙ has_is in
      record {
        at_level = refl;
        inputs_are = rw whole (sym (inputs_alone f s o l absent));
        state = progress_above up (ap f.compression whole ∙ sym (rw absent at (reached_next f s o l)));
      }
