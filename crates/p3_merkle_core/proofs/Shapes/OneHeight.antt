-- Trees over matrices of one height: their steps, lengths and cap layers, and what their nodes are.
use Rattle.std.proofs.Common.{◌≡◌, ℕ, zero, suc, ◌+◌, ◌-◌, ◌*◌, ◌/◌, ◌^◌, ◌<◌, ◌≤◌, true, false, nat_le, nat_lt, List}
use Rattle.std.proofs.Common.{[], ◌∷◌, map, length, filter, get_or, refl, sym, ap, ◌∙◌, arith, inl, inr, cond, ◌&&◌}
use Rattle.std.proofs.Math.Nat.{mul_comm, mul-div_cancel_left, mul-le-mul_left, pow-succ', pow-zero, suc-mul}
use Rattle.std.proofs.Math.Pow.{pow_mono}
use Rattle.std.proofs.lemmas.Grind.{common_steps}
use Rattle.std.proofs.lemmas.Bool.{cases_lt, cond-false, cond-true, eq-eqb, le-leb, le-ltb, leb-true, lt-leb, lt-ltb}
use Rattle.std.proofs.lemmas.List.FromFn.{length-map-range_with_len}
use Rattle.std.proofs.lemmas.Nat.{pow-add, pow_pos}
use Rattle.std.specs.Prelude.{All, ◌==◌}
use Rattle.std.specs.Int.{div_ceil}
use Rattle.std.specs.List.{range_with_len}
use Rattle.p3_support.specs.Batches.{greatest, heights_of}
use Rattle.p3_support.specs.declared.matrix.Dimensions.{Dimensions}
use Rattle.p3_merkle_core.specs.Caps.{cap_layer}
use Rattle.p3_merkle_core.specs.Geometry.{Shape, IsArity, exponent, has_rows}
use Rattle.p3_merkle_core.specs.Geometry.{heights, is_bridge, layer_exponent, least, levels, padded_len, raw_len, step}
use Rattle.p3_merkle_core.specs.Nodes.{Batch, Functions, Matrix, at_layer, compress_padded, dimensions_of, joined_rows}
use Rattle.p3_merkle_core.specs.Nodes.{node, row_digest, shape, with_rows}
use Rattle.p3_merkle_core.specs.OneHeight.{HasHeight, cap_layer_of_height, levels_of_height, nodes_of_height}
use Rattle.p3_merkle_core.specs.declared.cap.CapRule.{CapRule}
use Rattle.p3_merkle_core.specs.declared.cap.CapRule.TheVariants.{Lowered, Fixed}
use Rattle.p3_merkle_core.proofs.Shapes.CapFacts.{levels_from, no_bridge_from, no_rows_below, whole_steps}
use Rattle.p3_merkle_core.proofs.Shapes.FallFacts.{falls_above}
use Rattle.p3_merkle_core.proofs.Shapes.LeastFacts.{below_exponent, exponent_covers}
use Rattle.p3_merkle_core.proofs.Shapes.LeastFacts.{exponent_le, least_is, least_le, least_passes, n_below_pow}
use Rattle.p3_merkle_core.proofs.Shapes.QuotientFacts.{ceil_below, ceil_ceil, ceil_covers, ceil_is, ceil_le, ceil-one}
use Rattle.p3_merkle_core.proofs.Shapes.RawFacts.{above_1, filled, least_multiple, padded_long, padded_short}
use Rattle.p3_merkle_core.proofs.Shapes.RawFacts.{positive_below, raw_next}
use Rattle.p3_merkle_core.proofs.Shapes.StepFacts.{layer_start, whole_step_falls}

-- ---- heights

-- each of the heights is h
pub heights_same : (h : ℕ) (ds : List Dimensions) → All (λ d. d.height ≡ h) ds → All (λ x. x ≡ h) (heights_of ds)
heights_same h [] each = λ k x inside. absurd (omega arith)
heights_same h (d ∷ ds) each = λ k.
    elim k as (λ k. (x : ℕ) → k < length (heights_of (d ∷ ds)) → get_or (heights_of (d ∷ ds)) k x ≡ h) [
      | zero ↦ λ x inside. each 0 d (omega arith)
      | suc k ↦ λ x inside. heights_same h ds (λ k d inside. each (suc k) d (omega arith)) k x (omega arith)
    ]

-- and so is the greatest
pub greatest_same : (h : ℕ) (ds : List Dimensions) → 0 < length ds → All (λ d. d.height ≡ h) ds →
    greatest (heights_of ds) ≡ h
greatest_same h [] some each = absurd (omega arith)
greatest_same h (d ∷ []) some each = omega (arith, each 0 d (omega arith))
greatest_same h (d ∷ e ∷ ds) some each =
    omega (
      arith,
      each 0 d (omega arith),
      greatest_same h (e ∷ ds) (omega arith) (λ k d inside. each (suc k) d (omega arith)),
    )

-- how many groups of n a layer of r nodes has
pub padded_groups : (r n : ℕ) → 1 < r → 2 ≤ n → padded_len r n / n ≡ div_ceil r n
padded_groups r n more two =
    let some : 0 < n = omega arith in
    elim (cases_lt r n) [
      | inl short ↦
          let one : div_ceil r n ≡ 1 = ceil_is r n 1 some (omega arith) (λ j below. let z : j ≡ 0 = omega arith in
          rw z (omega arith)) in
          let is : padded_len r n ≡ n * 1 = padded_short r n more short ∙ omega arith in
          rw (is, mul-div_cancel_left 1 {n = n} some) (sym one)
      | inr long ↦
          let m = least_multiple r n some in
          let q = m.0 in
          let is : padded_len r n ≡ n * q = padded_long r n more long ∙ m.1.is in
          let enough = m.1.enough in
          rw (is, mul-div_cancel_left q {n = n} some)
          (sym (ceil_is r n q some (omega (arith, mul_comm q n)) (λ j below. elim (cases_lt (j * n) r) [
            | inl less ↦ less
            | inr not_less ↦ absurd (omega (arith, m.1.least j (omega (arith, mul_comm j n))))
          ])))
    ]

-- a power of an arity is one of two
pub arity_power : (n : ℕ) → IsArity n → (l : ℕ) → n ^ l ≡ 2 ^ (l * exponent n)
arity_power n w zero = let z : 0 * exponent n ≡ 0 = omega arith in rw (z, pow-zero) refl
arity_power n w (suc l) = grind (arith, common_steps, arity_power n w l, pow-add, pow-succ', suc-mul)

pub arity_power_pos : (n : ℕ) → IsArity n → (l : ℕ) → 0 < n ^ l
arity_power_pos n w l = rw (arity_power n w l) (pow_pos (l * exponent n))

-- the levels, by exponents
pub levels_by_exponents : (n : ℕ) → IsArity n → (h : ℕ) → div_ceil (exponent h) (exponent n) ≡ levels_of_height n h
levels_by_exponents n w h =
    let e = exponent h in
    let a = exponent n in
    let z = div_ceil e a in
    let some : 0 < a = whole_step_falls n w.above_1 in
    let low : e ≤ h = exponent_le h h (omega (arith, n_below_pow h)) in
    let up : h ≤ h * a = omega (arith, mul-le-mul_left {m = 1} {n = a} h some) in
    sym (least_is (λ k. nat_le h (n ^ k)) h z (ceil_le e a h some (omega arith))
    (λ j below. lt-leb h (n ^ j) (rw (arity_power n w j) (below_exponent h (j * a) (ceil_below e a j some below))))
    (λ less. le-leb h (n ^ z)
    (rw (arity_power n w z) (omega (arith, exponent_covers h, pow_mono {i = e} {j = z * a} (ceil_covers e a some))))))

-- the levels cover the height
pub levels_cover : (n : ℕ) → IsArity n → (h : ℕ) → h ≤ n ^ levels_of_height n h
levels_cover n w h =
    let p = λ (k : ℕ). nat_le h (n ^ k) in
    elim (cases_lt (least p h) h) [
      | inl less ↦ leb-true h (n ^ least p h) (least_passes p h less)
      | inr all ↦
          let up : h ≤ h * exponent n =
          omega (arith, mul-le-mul_left {m = 1} {n = exponent n} h (whole_step_falls n w.above_1)) in
          let is : least p h ≡ h = omega (arith, least_le p h) in
          rw (is, arity_power n w h)
          (omega (arith, n_below_pow h, pow_mono {i = h} {j = h * exponent n} up))
    ]

-- ---- shapes

module _ (s : Shape) (w : IsArity s.arity) (h : ℕ) (one : HasHeight s h) where
  pub greatest_is : greatest (heights s) ≡ h
  greatest_is = greatest_same h s.dimensions one.some_matrix one.each

  none_lower : All (λ x. exponent h ≤ exponent x) (heights s)
  none_lower = λ k d inside. let is = heights_same h s.dimensions one.each k d inside in rw is (omega arith)

  -- each step takes as many halvings as the arity
  pub exponent_at : (l : ℕ) → layer_exponent s l ≡ exponent h - l * exponent s.arity
  exponent_at l =
      let start : layer_exponent s 0 ≡ exponent h = layer_start s ∙ ap exponent greatest_is in
      let z : 0 + l ≡ l = omega arith in
      rw z at (whole_steps s w (exponent h) none_lower 0 start l)

  -- none is a bridge step
  pub no_bridge : (l : ℕ) → is_bridge s (layer_exponent s l) ≡ false
  no_bridge l = no_bridge_from s w (exponent h) none_lower (layer_exponent s l) (omega (arith, exponent_at l))

  pub step_is_arity : (l : ℕ) → step s l ≡ s.arity
  step_is_arity l = cond-false (is_bridge s (layer_exponent s l)) 2 s.arity (no_bridge l)

  -- the steps up to the root
  pub levels_are : levels s ≡ levels_of_height s.arity h
  levels_are =
      let z = div_ceil (exponent h) (exponent s.arity) in
      let start : layer_exponent s 0 ≡ exponent h = layer_start s ∙ ap exponent greatest_is in
      let is : levels s ≡ 0 + z = levels_from s w (exponent h) none_lower 0 (omega arith) start in
      is ∙ omega arith ∙ levels_by_exponents s.arity w h

  -- the nodes of each layer
  pub raw_is : 0 < h → (l : ℕ) → l ≤ levels s → raw_len s l ≡ nodes_of_height s.arity h l
  unfolding raw_len
  raw_is some zero le = greatest_is ∙ sym (ceil-one h) ∙ ap (λ z. div_ceil h z) (sym (pow-zero s.arity))
  raw_is some (suc l) le =
      let n = s.arity in
      let r = raw_len s l in
      let tall : 0 < greatest (heights s) = rw greatest_is some in
      let more : 1 < r = above_1 (layer_exponent s l) r (positive_below s l (omega arith))
      (filled s w tall l (omega arith)) in
      let whole = padded_len r n in
      let groups : raw_len s (suc l) ≡ whole / n = raw_next s l
      ∙ ap (λ b. cond (b && nat_lt r n) (2 ^ layer_exponent s l) whole / step s l) (no_bridge l)
      ∙ ap (λ z. whole / z) (step_is_arity l) in
      let two = w.above_1 in
      let below : r ≡ div_ceil h (n ^ l) = raw_is some l (omega arith) in
      groups ∙ padded_groups r n more two ∙ ap (λ z. div_ceil z n) below
      ∙ ceil_ceil h (n ^ l) n (arity_power_pos n w l) (omega arith)
      ∙ ap (λ z. div_ceil h z) (mul_comm (n ^ l) n ∙ sym (pow-succ' n l))

  -- the leaves alone have rows
  pub no_rows_above : (l : ℕ) → 0 < l → l ≤ levels s → has_rows s l ≡ false
  no_rows_above l up le =
      let start : layer_exponent s 0 ≡ exponent h = layer_start s ∙ ap exponent greatest_is in
      no_rows_below s (exponent h) l none_lower (omega (arith, falls_above s 0 l w (omega arith) up))

  -- both rules give one cap layer
  pub cap_layer_is : (rule : CapRule) (c : ℕ) → cap_layer s rule c ≡ cap_layer_of_height s.arity h c
  cap_layer_is Fixed c = omega (arith, levels_are)
  cap_layer_is Lowered c = grind (arith, common_steps, least_is, levels_are, no_rows_above)

-- ---- nodes

-- each matrix belongs to the leaves
all_leaves : {T : Type 0} (x h : ℕ) (ms : List (Matrix T)) → x ≡ exponent h →
    All (λ d. d.height ≡ h) (dimensions_of ms) → filter (λ m. exponent m.height == x) ms ≡ ms
all_leaves x h [] is each = refl
all_leaves x h (m ∷ ms) is each =
    let here : m.height ≡ h = each 0 (record { width = m.width; height = m.height }) (omega arith) in
    let same : (exponent m.height == x) ≡ true = eq-eqb (exponent m.height) x (ap exponent here ∙ sym is) in
    rw same (ap (λ ys. m ∷ ys) (all_leaves x h ms is (λ k d inside. each (suc k) d (omega arith))))

-- a group with no room for default digests
pub full_group : {T W : Type 0} (f : Functions T W) (n : ℕ) (ds : List (List W)) → length ds ≡ n →
    compress_padded f n ds ≡ f.compression ds
full_group f n ds full = grind (arith, common_steps)

module _ {T W : Type 0} (f : Functions T W) (b : Batch T) (w : IsArity b.arity) (h : ℕ) (some : 0 < h)
    (one : HasHeight (shape b) h) where
  -- a leaf is the hash of its rows
  pub leaf_is : (j : ℕ) → j < h → node f b 0 j ≡ f.hash (joined_rows b.matrices j)
  unfolding node raw_len
  leaf_is j below =
      let s = shape b in
      let start : layer_exponent s 0 ≡ exponent h = layer_start s ∙ ap exponent (greatest_is s w h one) in
      let all : at_layer b 0 ≡ b.matrices = all_leaves (layer_exponent s 0) h b.matrices start one.each in
      let in_layer : nat_lt j (greatest (heights s)) ≡ true =
      lt-ltb j (greatest (heights s)) (rw (greatest_is s w h one) below) in
      cond-true (nat_lt j (greatest (heights s))) (f.hash (joined_rows (at_layer b 0) j)) f.default_digest in_layer
      ∙ ap (λ ms. f.hash (joined_rows ms j)) all

  -- any other node is the compression of its children, as many as the arity
  pub node_is : (l j : ℕ) → l < levels (shape b) → j < nodes_of_height b.arity h (suc l) → node f b (suc l) j
      ≡ f.compression (map (λ i. node f b l (b.arity * j + i)) (range_with_len 0 b.arity))
  unfolding node
  node_is l j le below =
      let s = shape b in
      let n = b.arity in
      let k = step s l in
      let children = λ (n : ℕ). map (λ i. node f b l (n * j + i)) (range_with_len 0 n) in
      let inside : nat_lt j (raw_len s (suc l)) ≡ true =
      lt-ltb j (raw_len s (suc l)) (rw (raw_is s w h one some (suc l) le) below) in
      let c = compress_padded f n (children k) in
      let r = row_digest f (at_layer b (suc l)) j in
      cond-true (nat_lt j (raw_len s (suc l))) (with_rows f n (has_rows s (suc l)) c r) f.default_digest inside
      ∙ ap (λ has. with_rows f n has c r) (no_rows_above s w h one (suc l) (omega arith) le)
      ∙ ap (λ k. compress_padded f n (children k)) (step_is_arity s w h one l)
      ∙ full_group f n (children n) (length-map-range_with_len (λ i. node f b l (n * j + i)) 0 n)

  -- and what is no node is padding
  pub padding_is : (l j : ℕ) → l ≤ levels (shape b) → nodes_of_height b.arity h l ≤ j → node f b l j ≡ f.default_digest
  unfolding node
  padding_is zero j le past =
      let s = shape b in
      let out : nat_lt j (raw_len s 0) ≡ false =
      le-ltb j (raw_len s 0) (rw (raw_is s w h one some 0 le) past) in
      cond-false (nat_lt j (raw_len s 0)) (f.hash (joined_rows (at_layer b 0) j)) f.default_digest out
  padding_is (suc l) j le past =
      let s = shape b in
      let out : nat_lt j (raw_len s (suc l)) ≡ false =
      le-ltb j (raw_len s (suc l)) (rw (raw_is s w h one some (suc l) le) past) in
      cond-false (nat_lt j (raw_len s (suc l))) _ f.default_digest out
