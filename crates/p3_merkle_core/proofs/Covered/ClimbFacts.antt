-- A climb from the covered nodes of a layer to those of the layer above.
use Rattle.std.proofs.Common.{◌≡◌, ℕ, suc, ◌+◌, ◌-◌, ◌*◌, ◌/◌, ◌^◌, ◌<◌, ◌≤◌, List, length, map, sym, ◌∙◌}
use Rattle.std.proofs.Common.{add-one, ap, arith, refl}
use Rattle.p3_merkle_core.specs.Geometry.{Shape, layer_exponent, layer_len, shape_of, step}
use Rattle.p3_merkle_core.specs.Pruning.{CanQuery, is_covered}
use Rattle.p3_merkle_core.specs.Inner.Agreement.{distinct, IsAscending}
use Rattle.p3_merkle_core.specs.Inner.Covered.{covered_at, AreCovered}
use Rattle.p3_merkle_core.specs.declared.covered_nodes.Covered.{Covered}
use Rattle.p3_merkle_core.specs.declared.schedule.LevelStep.{LevelStep}
use Rattle.p3_merkle_core.proofs.Covered.CoveredFacts.{counted_at, covered_above, pruned_next}
use Rattle.p3_merkle_core.proofs.Lists.RisingFacts.{rising_filter}
use Rattle.p3_merkle_core.proofs.Pruned.SlotFacts.{ascending_from, parents_once}
use Rattle.p3_merkle_core.proofs.Shapes.StepFacts.{step_above_1}

abbrev pub shape_over : Covered → Shape
shape_over covered = shape_of covered.schedule.now.arity covered.schedule.now.dimensions.now

-- `here` covered nodes have `above` parents, n children each: what is counted of these fits
pub record IsClimb (covered : Covered) (x n here above : ℕ) (parents : List ℕ) : Type 0 where
  pub mul_fits : n * above < 2 ^ 64
  pub sub_fits : here ≤ n * above
  pub add_fits : covered.boundary_below + (n * above - here) < 2 ^ 64
  pub there : AreCovered (shape_over covered) covered.indices.now (covered.layer + 1) x parents
      (covered.boundary_below + (n * above - here))

pub climbs : (covered : Covered) (up : LevelStep) (here above : ℕ) (parents : List ℕ) →
    covered.layer < covered.schedule.now.num_levels → up.step ≡ step (shape_over covered) covered.layer →
    up.exponent ≡ layer_exponent (shape_over covered) (suc covered.layer) → here ≡ length covered.nodes.items →
    above ≡ length parents →
    (IsAscending covered.nodes.items → parents ≡ distinct (map (λ j. j / up.step) covered.nodes.items)) →
    IsClimb covered up.exponent up.step here above parents
climbs covered up here above parents h is_step is_exponent many fewer divided =
    let s = shape_over covered in
    let queries = covered.indices.now in
    let l = covered.layer in
    let c = covered.at_layer in
    let w : CanQuery s queries (suc l) =
    record {
      well_shaped = c.queried.well_shaped;
      below = c.queried.below;
      in_tree = omega (arith, covered.schedule.now.walked.whole);
    } in
    let order = ascending_from (covered_at s queries l) (rising_filter (is_covered s queries l) 0 (layer_len s l)) in
    let some : 0 < step s l = omega (arith, step_above_1 s l w.well_shaped.above_1) in
    let is : parents ≡ covered_at s queries (suc l) =
    divided (rw c.nodes_are order)
    ∙ rw (is_step, c.nodes_are) (sym (parents_once (covered_at s queries l) (step s l) some order))
    ∙ covered_above s queries (suc l) w l (omega arith) in
    let k = counted_at s queries (suc l) w c.low l (omega arith) in
    let product : up.step * above ≡ step s l * length (covered_at s queries (suc l)) = rw (is_step, fewer, is) refl in
    let long : here ≡ length (covered_at s queries l) = many ∙ ap length c.nodes_are in
    record {
      mul_fits = omega (arith, k.small);
      sub_fits = omega (arith, k.counted);
      add_fits = omega (arith, k.counted, k.small, k.few, c.boundary_is);
      there = rw add-one (record {
        queried = w;
        low = c.low;
        nodes_are = is;
        at_exponent = is_exponent;
        boundary_is = omega (arith, k.counted, pruned_next s queries l, c.boundary_is);
      });
    }

-- the same of a tree of this shape, of these queries, on this layer
pub covered_here : (covered : Covered) (s : Shape) (queries : List ℕ) (l : ℕ) → shape_over covered ≡ s →
    covered.indices.now ≡ queries → covered.layer ≡ l →
    AreCovered s queries l covered.exponent covered.nodes.items covered.boundary_below
covered_here covered s queries l a b d = rw (← a, ← b, ← d) covered.at_layer
