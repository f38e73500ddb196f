-- The covered nodes of a layer, ascending: those of the leaves, those of the layer above, and what is left of their
-- groups.
use Rattle.std.proofs.Common.{◌≡◌, ℕ, zero, suc, ◌+◌, ◌*◌, ◌/◌, ◌^◌, ◌<◌, ◌≤◌, Bool, true, not, eqb, ◌||◌, List, []}
use Rattle.std.proofs.Common.{◌∷◌, map, refl, ap, sym, ◌∙◌, arith, inl, inr, length, filter, All, eq-eqb}
use Rattle.std.proofs.lemmas.Grind.{common_steps}
use Rattle.std.proofs.lemmas.Bool.{cases_eq, and_parts, and_from, or_cases, or_left, or_right, eqb-true, true≢false}
use Rattle.std.proofs.lemmas.Bool.{both_ways, not-true, not_from_false, false_from_ne_true}
use Rattle.std.proofs.lemmas.List.{length-map, length-append}
use Rattle.std.proofs.Math.Nat.{mul-le-mul_left}
use Rattle.std.proofs.Math.Pow.{pow_mono}
use Rattle.std.specs.{List.dedup, List.range_with_len}
use Rattle.p3_support.specs.Lists.{is_among}
use Rattle.p3_merkle_core.specs.Geometry.{Shape, step, ancestor, raw_len, layer_len, padded_len}
use Rattle.p3_merkle_core.specs.Geometry.{leaves_under, levels, layer_exponent, exponent, heights, height_limit}
use Rattle.p3_support.specs.Batches.{greatest}
use Rattle.p3_merkle_core.specs.Pruning.{CanQuery, is_covered, is_boundary, boundary_at, boundary, pruned_len}
use Rattle.p3_merkle_core.specs.Inner.Covered.{covered_at}
use Rattle.p3_merkle_core.proofs.Shapes.LeastFacts.{exponent_le}
use Rattle.p3_merkle_core.proofs.Shapes.LadderFacts.{levels_le, exact}
use Rattle.p3_merkle_core.proofs.Shapes.RawFacts.{children_fit, filled, positive_below}
use Rattle.p3_merkle_core.proofs.Shapes.StepFacts.{anc_next, anc_start, step_above_1}
use Rattle.p3_merkle_core.proofs.Lists.ListFacts.{joined_more}
use Rattle.p3_merkle_core.proofs.Covered.Under.{covered_up}
use Rattle.p3_merkle_core.proofs.Covered.Sufficient.{covered_below}
use Rattle.p3_merkle_core.proofs.Checks.CheckFacts.{padded_ge}
use Rattle.p3_merkle_core.proofs.Lists.RisingFacts.{rising_filter, filter_is, listed_in, listed_there}
use Rattle.p3_merkle_core.proofs.Lists.RisingFacts.{by_groups, groups_are, groups_count, listed_dedup, listed_map}
use Rattle.p3_merkle_core.proofs.Lists.RisingFacts.{map_lists, rising_dedup, rising_length}

-- ---- which nodes are listed

-- a tree with levels has leaves
pub some_leaf : (s : Shape) (l : ℕ) → l < levels s → 0 < greatest (heights s)
some_leaf s l h =
    elim (cases_eq (greatest (heights s)) 0) [
      | inl z ↦ absurd (omega (arith, levels_le s, exponent_le (greatest (heights s)) 0 (omega arith)))
      | inr nz ↦ omega arith
    ]

pub listed_covered : (s : Shape) (queries : List ℕ) (l j : ℕ) → is_among (covered_at s queries l) j ≡ true →
    is_covered s queries l j ≡ true
listed_covered s queries l j h = (listed_in (is_covered s queries l) 0 (layer_len s l) j h).2

pub covered_listed : (s : Shape) (queries : List ℕ) (t : ℕ) → CanQuery s queries t → (l j : ℕ) → l ≤ t →
    is_covered s queries l j ≡ true → is_among (covered_at s queries l) j ≡ true
covered_listed s queries t w l j h c = grind (arith, common_steps, covered_below, padded_ge, listed_there)

-- the children of a covered node are slots of the layer below
pub group_fits : (s : Shape) (queries : List ℕ) (t : ℕ) → CanQuery s queries t → (l : ℕ) → l < t → (g : ℕ) →
    is_among (covered_at s queries (suc l)) g ≡ true → step s l * g + step s l ≤ layer_len s l
group_fits s queries t w l h g c =
    let inside = covered_below s queries t w (suc l) g (omega arith) (listed_covered s queries (suc l) g c) in
    let low : l < levels s = omega (arith, w.in_tree) in
    let all = children_fit s w.well_shaped (some_leaf s l low) l low in
    let most : step s l * suc g ≤ step s l * raw_len s (suc l) = mul-le-mul_left (step s l) inside in
    omega arith

-- ---- the leaves

pub covered_leaf : (s : Shape) (queries : List ℕ) (j : ℕ) → is_covered s queries 0 j ≡ is_among queries j
covered_leaf s [] j = refl
covered_leaf s (q ∷ queries) j = rw (anc_start s q) (ap (λ b. eqb q j || b) (covered_leaf s queries j))

pub raw_start : (s : Shape) → raw_len s 0 ≡ greatest (heights s)
unfolding raw_len
raw_start s = refl

pub listed_below : (m : ℕ) (queries : List ℕ) (j : ℕ) → All (λ q. q < m) queries → is_among queries j ≡ true → j < m
listed_below m [] j below h = absurd (true≢false (sym h))
listed_below m (q ∷ queries) j below h =
    elim (or_cases (eqb q j) (is_among queries j) h) [
      | inl e ↦ let is = eqb-true q j e in omega (arith, below 0 0 (omega arith))
      | inr rest ↦ listed_below m queries j (λ k d l. below (suc k) d (omega arith)) rest
    ]

-- ---- from layer to layer

-- a covered node has a covered child, since the tree's leaves are those of the queries
pub covered_child : (s : Shape) (queries : List ℕ) (l j : ℕ) → is_covered s queries (suc l) j ≡ true →
    (k : ℕ) × (is_covered s queries l k ≡ true) × (k / step s l ≡ j)
covered_child s [] l j c = absurd (true≢false (sym c))
covered_child s (q ∷ queries) l j c =
    elim (or_cases (eqb (ancestor s (suc l) q) j) (is_covered s queries (suc l) j) c) [
      | inl e ↦ (
        ancestor s l q,
        or_left (eqb (ancestor s l q) (ancestor s l q)) (is_covered s queries l (ancestor s l q))
            (eq-eqb (ancestor s l q) (ancestor s l q) refl),
        sym (anc_next s l q) ∙ eqb-true (ancestor s (suc l) q) j e,
      )
      | inr rest ↦
          let k = covered_child s queries l j rest in
          (k.0, or_right (eqb (ancestor s l q) k.0) (is_covered s queries l k.0) k.1, k.2)
    ]

-- the covered nodes of a layer, each divided by the step, with repeats dropped, are those of the layer above
pub covered_above : (s : Shape) (queries : List ℕ) (t : ℕ) → CanQuery s queries t → (l : ℕ) → l < t →
    dedup eqb (map (λ j. j / step s l) (covered_at s queries l)) ≡ covered_at s queries (suc l)
covered_above s queries t w l h =
    let n = step s l in
    let two = step_above_1 s l w.well_shaped.above_1 in
    let here = covered_at s queries l in
    let above = map (λ j. j / n) here in
    filter_is (is_covered s queries (suc l)) 0 (layer_len s (suc l)) (dedup eqb above) (record {
      rising = rising_dedup n (omega arith) here (rising_filter (is_covered s queries l) 0 (layer_len s l));
      sound = λ j k.
          let from = listed_map (λ j. j / n) here j (sym (listed_dedup above j) ∙ k) in
          let c : is_covered s queries (suc l) j
          ≡ true = rw from.2 at (covered_up s queries l from.0 (listed_covered s queries l from.0 from.1)) in (
            omega (arith, covered_below s queries t w (suc l) j (omega arith) c, padded_ge (raw_len s (suc l)) s.arity),
            c,
          );
      complete = λ j low high c.
          let child = covered_child s queries l j c in
          listed_dedup above j
          ∙ rw child.2 at
          (map_lists (λ j. j / n) here child.0 (covered_listed s queries t w l child.0 (omega arith) child.1));
    })

not_if : (x y : Bool) → (x ≡ true → y ≡ true) → not y ≡ true → not x ≡ true
not_if x y h n = not_from_false x (false_from_ne_true x (λ e. both_ways y (not-true y n) (h e)))

-- parent by parent, the covered children are the covered nodes of the layer
pub covered_by_groups : (s : Shape) (queries : List ℕ) (t : ℕ) → CanQuery s queries t → (l : ℕ) → l < t →
    by_groups (step s l) (is_covered s queries l) (covered_at s queries (suc l)) ≡ covered_at s queries l
covered_by_groups s queries t w l h =
    let two = step_above_1 s l w.well_shaped.above_1 in
    groups_are (step s l) (omega arith) (is_covered s queries l) (is_covered s queries l) (covered_at s queries (suc l))
    (layer_len s l)
    (rising_filter (is_covered s queries (suc l)) 0 (layer_len s (suc l))) (group_fits s queries t w l h)
    (λ j c. (covered_listed s queries t w (suc l) (j / step s l) (omega arith) (covered_up s queries l j c), c))
    (λ j g c. c)

-- those that are not covered are the boundary nodes
pub boundary_by_groups : (s : Shape) (queries : List ℕ) (t : ℕ) → CanQuery s queries t → (l : ℕ) → l < t →
    by_groups (step s l) (λ j. not (is_covered s queries l j)) (covered_at s queries (suc l))
    ≡ filter (is_boundary s queries l) (range_with_len 0 (layer_len s l))
boundary_by_groups s queries t w l h =
    grind (arith, common_steps, and_parts, rising_filter, groups_are, listed_covered, covered_listed, group_fits)

-- the same by what is listed below
pub boundary_by_lists : (s : Shape) (queries : List ℕ) (t : ℕ) → CanQuery s queries t → (l : ℕ) → l < t →
    by_groups (step s l) (λ j. not (is_among (covered_at s queries l) j)) (covered_at s queries (suc l))
    ≡ filter (is_boundary s queries l) (range_with_len 0 (layer_len s l))
boundary_by_lists s queries t w l h =
    let two = step_above_1 s l w.well_shaped.above_1 in
    let here = covered_at s queries l in
    groups_are (step s l) (omega arith) (λ j. not (is_among here j)) (is_boundary s queries l)
    (covered_at s queries (suc l)) (layer_len s l)
    (rising_filter (is_covered s queries (suc l)) 0 (layer_len s (suc l))) (group_fits s queries t w l h)
    (λ j b.
    let p = and_parts (is_covered s queries (suc l) (j / step s l)) (not (is_covered s queries l j)) b in (
      covered_listed s queries t w (suc l) (j / step s l) (omega arith) p.0,
      not_if (is_among here j) (is_covered s queries l j) (listed_covered s queries l j) p.1,
    ))
    (λ j g c. and_from (is_covered s queries (suc l) (j / step s l)) (not (is_covered s queries l j))
    (listed_covered s queries (suc l) (j / step s l) g)
    (not_if (is_covered s queries l j) (is_among here j) (covered_listed s queries t w l j (omega arith)) c))

-- the boundary nodes and the covered nodes of a layer are the children of the covered nodes above
pub covered_count : (s : Shape) (queries : List ℕ) (t : ℕ) → CanQuery s queries t → (l : ℕ) → l < t →
    length (boundary_at s queries l) + length (covered_at s queries l)
    ≡ step s l * length (covered_at s queries (suc l))
covered_count s queries t w l h =
    let out = filter (is_boundary s queries l) (range_with_len 0 (layer_len s l)) in
    let long : length (boundary_at s queries l) ≡ length out = length-map out (λ j. (l, j)) in
    let total = groups_count (step s l) (is_covered s queries l) (covered_at s queries (suc l)) in
    omega (
      arith,
      long,
      ap length (boundary_by_groups s queries t w l h),
      ap length (covered_by_groups s queries t w l h),
    )

-- ---- how many digests there are

pub pruned_start : (s : Shape) (queries : List ℕ) → pruned_len s queries 0 ≡ 0
pruned_start s queries = refl

pub pruned_next : (s : Shape) (queries : List ℕ) (l : ℕ) → pruned_len s queries (suc l)
    ≡ pruned_len s queries l + length (boundary_at s queries l)
pruned_next s queries l = ap length (joined_more (boundary_at s queries) l)
    ∙ length-append (boundary s queries l) (boundary_at s queries l)

leaves_next : (s : Shape) (l : ℕ) → leaves_under s (suc l) ≡ leaves_under s l * step s l
unfolding leaves_under
leaves_next s l = refl

pub leaves_above_0 : (s : Shape) → 2 ≤ s.arity → (l : ℕ) → 1 ≤ leaves_under s l
unfolding leaves_under
leaves_above_0 s two zero = omega arith
leaves_above_0 s two (suc l) =
    let more : leaves_under s l * 1 ≤ leaves_under s l * step s l =
    mul-le-mul_left (leaves_under s l) (let a = step_above_1 s l two in omega arith) in
    omega (arith, leaves_above_0 s two l)

-- each digest below layer l stands for some leaf slots under a covered node of layer l
pruned_few : (s : Shape) (queries : List ℕ) (t : ℕ) → CanQuery s queries t → (l : ℕ) → l ≤ t →
    pruned_len s queries l ≤ leaves_under s l * length (covered_at s queries l)
pruned_few s queries t w zero h = omega (arith, pruned_start s queries)
pruned_few s queries t w (suc l) h =
    let under = leaves_under s l in
    let here = length (boundary_at s queries l) in
    let below = length (covered_at s queries l) in
    let above = length (covered_at s queries (suc l)) in
    let ih = pruned_few s queries t w l (omega arith) in
    let count = covered_count s queries t w l (omega arith) in
    let all : under * (here + below) ≡ under * (step s l * above) = ap (λ n. under * n) count in
    let some : here * 1 ≤ here * under = mul-le-mul_left here (leaves_above_0 s w.well_shaped.above_1 l) in
    let is : leaves_under s (suc l) * above ≡ under * step s l * above = ap (λ n. n * above) (leaves_next s l) in
    omega (arith, pruned_next s queries l)

-- what the walk counts on a level, and that it fits
pub record IsCounted (s : Shape) (queries : List ℕ) (l : ℕ) : Type 0 where
  pub counted : length (boundary_at s queries l) + length (covered_at s queries l)
      ≡ step s l * length (covered_at s queries (suc l))
  pub small : step s l * length (covered_at s queries (suc l)) ≤ 2 ^ 63
  pub low : layer_len s l < 2 ^ 64
  pub few : pruned_len s queries l ≤ 2 ^ 62

covered_few : (s : Shape) (queries : List ℕ) (t : ℕ) → CanQuery s queries t → (l : ℕ) → l ≤ t →
    length (covered_at s queries l) ≤ raw_len s l
covered_few s queries t w l h =
    let r = rising_length 0 (raw_len s l) (covered_at s queries l) (omega arith)
    (rising_filter (is_covered s queries l) 0 (layer_len s l))
    (λ j c. covered_below s queries t w l j h (listed_covered s queries l j c)) in
    omega arith

pub padded_le : (r n : ℕ) → 0 < n → padded_len r n ≤ r + n
padded_le r n h = grind (arith, common_steps)

pub counted_at : (s : Shape) (queries : List ℕ) (t : ℕ) → CanQuery s queries t → greatest (heights s) ≤ height_limit →
    (l : ℕ) → l < t → IsCounted s queries l
counted_at s queries t w low l h =
    let in_tree : l < levels s = omega (arith, w.in_tree) in
    let some = some_leaf s l in_tree in
    let under = leaves_under s l in
    let x = layer_exponent s l in
    let whole = exact s w.well_shaped l (positive_below s l in_tree) in
    let top : 2 ^ exponent (greatest (heights s)) ≤ 2 ^ 62 =
    pow_mono {i = exponent (greatest (heights s))} {j = 62} (exponent_le (greatest (heights s)) 62 low) in
    let fits = (filled s w.well_shaped some l (omega arith)).fits in
    let covered : under * length (covered_at s queries l) ≤ under * 2 ^ x =
    mul-le-mul_left under (omega (arith, covered_few s queries t w l (omega arith))) in
    let one : 2 ^ x * 1 ≤ 2 ^ x * under = mul-le-mul_left (2 ^ x) (leaves_above_0 s w.well_shaped.above_1 l) in
    let above : step s l * length (covered_at s queries (suc l)) ≤ step s l * raw_len s (suc l) =
    mul-le-mul_left (step s l) (covered_few s queries t w (suc l) (omega arith)) in
    let padded = padded_le (raw_len s l) s.arity (let two = w.well_shaped.above_1 in omega arith) in
    record {
      counted = covered_count s queries t w l h;
      small = omega (arith, children_fit s w.well_shaped some l in_tree, padded, w.well_shaped.fits);
      low = omega (arith, padded, w.well_shaped.fits);
      few = omega (arith, pruned_few s queries t w l (omega arith));
    }
