-- The bits tell which exponents the matrices so far have; the steps that are kept are those of the walk up to the layer
-- that it has reached, and no matrix belongs above the last.
use Rattle.std.proofs.Common.{◌≡◌, ◌<◌, ◌≤◌, ◌+◌, ap, arith, eqb, get_or, length, length-set, refl, sym, ◌∙◌}
use Rattle.std.proofs.lemmas.List.{get_or-replicate, get_or-map, get_or-set_other, length-map}
use Rattle.std.proofs.lemmas.Nat.Bits.{bit_at-zero}
use Rattle.std.specs.Int.{bit_at, div_ceil}
use Rattle.p3_support.specs.Batches.{heights_of}
use Rattle.p3_support.specs.declared.matrix.Dimensions.{Dimensions}
use Rattle.p3_merkle_core.proofs.Shapes.ExponentFacts.{none_left, one_more, some_below, with_bit, without_bit, none}
use Rattle.p3_merkle_core.proofs.Shapes.ExponentFacts.{whole_steps, IsWalked, kept_more, level_is}
use Rattle.p3_merkle_core.proofs.Shapes.QuotientFacts.{ceil_below, ceil_covers, ceil_le_self}
use Rattle.p3_merkle_core.proofs.Shapes.StepFacts.{at_start, at_more, at_end, layer_start, next_falls, whole_step_falls}
use Rattle.p3_merkle_core.proofs.Shapes.LeastFacts.{exponent_le}
use Rattle.p3_merkle_core.proofs.schedule.schedule_of.Goals.{then-bit, else-bit, In-loop-matrices}
use Rattle.p3_merkle_core.specs.Geometry.{exponent, shape_of}
use Rattle.p3_merkle_core.proofs.schedule.schedule_of.Goals as goal

pub loop-matrix-init : goal.loop-matrix-init
loop-matrix-init c = record { marked = λ e small. ap (λ b. eqb b 1) (bit_at-zero e) }

pub loop-matrix-preserved : goal.loop-matrix-preserved
loop-matrix-preserved c =
    let ds = c.args.dimensions.now in
    let i = c.loop-matrix.matrix-index in
    let k = c.exponent_of-bit.result in
    let bits = c.loop-matrix.bits in
    let height : get_or (heights_of ds) i 0 ≡ (get_or ds i (record { width = 0; height = 0 })).height =
    get_or-map (λ (d : Dimensions). d.height) ds i _ 0 c.loop-matrix-test.true in
    one_more (heights_of ds) i k bits c.if-bit.bits
    (omega (arith, c.loop-matrix-test.true, length-map ds (λ (d : Dimensions). d.height)))
    (c.exponent_of-bit.ensures ∙ ap exponent (sym height)) c.loop-matrix.invariant
    (λ e small. elim c.if-bit.branch [
      | then-bit w ↦ ap (λ n. eqb (bit_at n e) 1) w.bits-is ∙ with_bit bits k e w.if-bit.true
      | else-bit w ↦
          ap (λ n. eqb (bit_at n e) 1) w.bits-is
          ∙ without_bit (eqb (bit_at bits e) 1) k e (λ same. omega (arith, same, small, w.if-bit.false))
    ])

pub exponents_at-exponents-requires : goal.exponents_at-exponents-requires
exponents_at-exponents-requires c =
    omega (arith, c.exponent_of-exponent.ensures, exponent_le c.extremes_of-max_height.result.0 64 (omega arith))

pub loop-matrices-init : goal.loop-matrices-init
loop-matrices-init c = (
  at_start (shape_of c.args.arity c.args.dimensions.now) c.exponents_at-exponents.result.layer
      (c.exponents_at-exponents.ensures.layer ∙ c.exponent_of-exponent.ensures
      ∙ ap exponent c.extremes_of-max_height.ensures.greatest),
  c.exponents_at-exponents.ensures.next,
  refl,
  refl,
  λ n above below. get_or-replicate 64 n none none (omega (arith, below)),
)

-- a layer above the root, which is one of the first 64
walking : (c : In-loop-matrices) →
    (0 < c.loop-matrices.exponents.layer) × (c.loop-matrices.exponents.layer + c.loop-matrices.num_levels ≤ 64)
walking c =
    let some = some_below c.loop-matrices.exponents.layer c.loop-matrices.exponents.next_lower_exponent
    (heights_of c.args.dimensions.now) c.loop-matrices.invariant.1.next_is
    (sym c.is_some.ensures ∙ c.loop-matrices-test.true) in
    let low = exponent_le c.extremes_of-max_height.result.0 64 (omega arith) in
    (some, omega (arith, c.loop-matrices.invariant.0.room, ap exponent c.extremes_of-max_height.ensures.greatest))

pub next_step-requires-clause-below : goal.next_step-requires-clause-below
next_step-requires-clause-below c = (walking (goal.at.next_step-requires-clause-below c).In-loop-matrices).0

pub next_step-requires-clause-layer : goal.next_step-requires-clause-layer
next_step-requires-clause-layer c =
    let at = walking (goal.at.next_step-requires-clause-layer c).In-loop-matrices in omega (arith, at.1)

pub bounds-of_level-num_levels : goal.bounds-of_level-num_levels
bounds-of_level-num_levels c =
    let at = walking (goal.at.bounds-of_level-num_levels c).In-loop-matrices in omega (arith, at.0, at.1)

pub offset_bounds-of_level-num_levels : goal.offset_bounds-of_level-num_levels
offset_bounds-of_level-num_levels c =
    let at = walking (goal.at.offset_bounds-of_level-num_levels c).In-loop-matrices in omega (arith, at.0, at.1)

pub loop-matrices-smaller : goal.loop-matrices-smaller
loop-matrices-smaller c = next_falls (shape_of c.args.arity c.args.dimensions.now) c.loop-matrices.exponents.layer
    c.next_step.result.1.layer c.requires (walking (goal.at.loop-matrices-smaller c).In-loop-matrices).0
    c.next_step.ensures.layer

pub loop-matrices-preserved : goal.loop-matrices-preserved
loop-matrices-preserved c =
    let s = shape_of c.args.arity c.args.dimensions.now in
    let x = c.loop-matrices.exponents.layer in
    let y = c.next_step.result.1.layer in
    let found = c.next_step.ensures in
    let kept = c.loop-matrices.of_level in
    let n = c.loop-matrices.num_levels in
    let at = c.loop-matrices.invariant.0 in
    let (some, room) = walking (goal.at.loop-matrices-preserved c).In-loop-matrices in
    let step = level_is s n x y c.next_step.result.0 at.at_x found.bridge found.layer found.rows in (
      at_more s n x y c.requires at some found.layer,
      found.next,
      length-set kept n c.next_step.result.0
          ∙ c.loop-matrices.invariant.2,
      kept_more s kept n c.next_step.result.0 c.loop-matrices.invariant.3
          (omega (arith, some, room, c.loop-matrices.invariant.2)) step,
      λ l above below. get_or-set_other kept n l c.next_step.result.0 none (λ same. omega (arith, same, above))
          ∙ c.loop-matrices.invariant.4 l (omega (arith, above))
          (omega (arith, below, length-set kept n c.next_step.result.0)),
    )

pub div_ceil-num_levels-requires : goal.div_ceil-num_levels-requires
div_ceil-num_levels-requires c = omega (arith, c.exponent_of.ensures, whole_step_falls c.args.arity c.requires)

-- the walk with the whole steps that are left
walked : (c : goal.After-div_ceil-num_levels) → IsWalked (shape_of c.args.arity c.args.dimensions.now)
    c.loop-matrices.of_level (c.loop-matrices.num_levels + c.div_ceil-num_levels.result)
walked c =
    let s = shape_of c.args.arity c.args.dimensions.now in
    let x = c.loop-matrices.exponents.layer in
    let n = c.loop-matrices.num_levels in
    let k = c.div_ceil-num_levels.result in
    let e = exponent c.args.arity in
    let at = c.loop-matrices.invariant.0 in
    let some : 0 < e = whole_step_falls c.args.arity c.requires in
    let is : k ≡ div_ceil x e = c.div_ceil-num_levels.ensures ∙ ap (div_ceil x) c.exponent_of.ensures in
    let room : n + k ≤ length c.loop-matrices.of_level = omega (
      arith,
      is,
      ceil_le_self x e some,
      at.room,
      ap exponent c.extremes_of-max_height.ensures.greatest,
      exponent_le c.extremes_of-max_height.result.0 64 (omega arith),
      c.loop-matrices.invariant.2,
    ) in
    whole_steps s k n x (n + k) c.loop-matrices.of_level refl c.requires room at
    (sym c.loop-matrices.invariant.1.next_is
    ∙ none_left c.loop-matrices.exponents.next_lower_exponent (sym c.is_some.ensures ∙ c.loop-matrices-test.false))
    (rw is (ceil_covers x e some)) (λ j below. ceil_below x e j some (omega (arith, is, below)))
    c.loop-matrices.invariant.4 c.loop-matrices.invariant.3

pub overflow_add-num_levels : goal.overflow_add-num_levels
overflow_add-num_levels c =
    omega (
      arith,
      c.loop-matrices.invariant.0.room,
      ap exponent c.extremes_of-max_height.ensures.greatest,
      exponent_le c.extremes_of-max_height.result.0 64 (omega arith),
    )

pub invariant_of-result : goal.invariant_of-result
invariant_of-result c =
    let s = shape_of c.args.arity c.args.dimensions.now in
    let w = walked c in
    record {
      walked = record {
        wide = c.requires;
        tallest = c.extremes_of-max_height.ensures.greatest;
        shortest = c.extremes_of-max_height.ensures.least;
        leaves = c.exponent_of-exponent.ensures ∙ ap exponent c.extremes_of-max_height.ensures.greatest
            ∙ sym (layer_start s);
        whole = at_end s (c.loop-matrices.num_levels + c.div_ceil-num_levels.result) 0 w.at_root refl;
        few = omega (
          arith,
          w.at_root.room,
          ap exponent c.extremes_of-max_height.ensures.greatest,
          exponent_le c.extremes_of-max_height.result.0 64 (omega arith),
        );
        long = c.loop-matrices.invariant.2;
        kept = w.all;
      };
    }
