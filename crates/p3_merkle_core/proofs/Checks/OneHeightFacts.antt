-- Trees over matrices of one height: ancestors, siblings, the words of a leaf, and nodes by the leaves below them.
use Rattle.std.proofs.Common.{◌≡◌, ℕ, zero, suc, ◌+◌, ◌-◌, ◌*◌, ◌/◌, ◌^◌, ◌<◌, ◌≤◌, nat_le, List, [], ◌∷◌, ◌++◌, map}
use Rattle.std.proofs.Common.{length, zip, refl, ap, sym, ◌∙◌, arith, true}
use Rattle.std.proofs.lemmas.Grind.{common_steps}
use Rattle.std.proofs.lemmas.Bool.{cases_lt, eq-eqb, leb-false}
use Rattle.std.proofs.Math.Nat.{mul-le-mul_right, pow-suc, pow-zero, suc-mul}
use Rattle.std.specs.Prelude.{All, ◌==◌}
use Rattle.std.specs.List.{flat_map, range_with_len}
use Rattle.p3_support.specs.Batches.{heights_of}
use Rattle.p3_support.specs.declared.matrix.Dimensions.{Dimensions}
use Rattle.p3_merkle_core.specs.Geometry.{IsArity, Shape, ancestor, exponent, layer_exponent, leaves_under, levels}
use Rattle.p3_merkle_core.specs.Nodes.{Batch, Functions, joined_rows, node, shape}
use Rattle.p3_merkle_core.specs.OneHeight.{HasHeight, levels_of_height, nodes_of_height}
use Rattle.p3_merkle_core.specs.Checks.{layer_words, siblings_below, words_of_exponent}
use Rattle.p3_merkle_core.proofs.Lists.ListFacts.{map_shift}
use Rattle.p3_merkle_core.proofs.Shapes.LeastFacts.{below_least}
use Rattle.p3_merkle_core.proofs.Shapes.OneHeight.{arity_power_pos, greatest_is, leaf_is, node_is, padding_is}
use Rattle.p3_merkle_core.proofs.Shapes.OneHeight.{step_is_arity}
use Rattle.p3_merkle_core.proofs.Shapes.QuotientFacts.{ceil_covers, ceil_le}
use Rattle.p3_merkle_core.proofs.Shapes.SiblingFacts.{siblings_next, siblings_start}
use Rattle.p3_merkle_core.proofs.Shapes.StepFacts.{layer_start}

-- below its root a tree has layers whose nodes have fewer leaves under them than it has rows
pub power_below : (n h l : ℕ) → l < levels_of_height n h → n ^ l < h
power_below n h l less = leb-false h (n ^ l) (below_least (λ k. nat_le h (n ^ k)) h l less)

-- ---- paths

all_words : {T : Type 0} (x h : ℕ) (ds : List Dimensions) (rows : List (List T)) → x ≡ exponent h →
    All (λ d. d.height ≡ h) ds → length rows ≡ length ds →
    words_of_exponent x (zip (heights_of ds) rows) ≡ flat_map (λ row. row) rows
all_words x h [] [] is each e = refl
all_words x h [] (r ∷ rows) is each e = absurd (omega arith)
all_words x h (d ∷ ds) [] is each e = absurd (omega arith)
all_words x h (d ∷ ds) (r ∷ rows) is each e =
    let here : d.height ≡ h = each 0 d (omega arith) in
    let same : (exponent d.height == x) ≡ true = eq-eqb (exponent d.height) x (ap exponent here ∙ sym is) in
    rw same (ap (λ ys. r ++ ys) (all_words x h ds rows is (λ k d inside. each (suc k) d (omega arith)) (omega arith)))

module _ (s : Shape) (w : IsArity s.arity) (h : ℕ) (one : HasHeight s h) where
  under_is : (l : ℕ) → leaves_under s l ≡ s.arity ^ l
  unfolding leaves_under
  under_is zero = sym (pow-zero s.arity)
  under_is (suc l) = rw (under_is l, step_is_arity s w h one l) (sym (pow-suc s.arity l))

  pub ancestor_is : (l i : ℕ) → ancestor s l i ≡ i / s.arity ^ l
  ancestor_is l i = ap (λ p. i / p) (under_is l)

  pub siblings_are : (l : ℕ) → siblings_below s l ≡ l * (s.arity - 1)
  siblings_are zero = siblings_start s ∙ omega arith
  siblings_are (suc l) =
      siblings_next s l ∙ ap (λ n. siblings_below s l + (n - 1)) (step_is_arity s w h one l)
      ∙ ap (λ n. n + (s.arity - 1)) (siblings_are l) ∙ omega (arith, suc-mul l (s.arity - 1))

  -- all rows are hashed at the leaf
  pub leaf_words : {T : Type 0} (rows : List (List T)) → length rows ≡ length s.dimensions →
      layer_words s rows 0 ≡ flat_map (λ row. row) rows
  leaf_words rows e =
      let start : layer_exponent s 0 ≡ exponent h = layer_start s ∙ ap exponent (greatest_is s w h one) in
      all_words (layer_exponent s 0) h s.dimensions rows start one.each e

-- ---- nodes

module _ {T W : Type 0} (f : Functions T W) (b : Batch T) (n : ℕ) (arity : b.arity ≡ n) (a : IsArity n) (h : ℕ)
    (some : 0 < h) (one : HasHeight (shape b) h) where
  own : IsArity b.arity
  own = rw arity a

  pub leaf_of : (j : ℕ) → j < h → node f b 0 j ≡ f.hash (joined_rows b.matrices j)
  leaf_of = leaf_is f b own h some one

  -- the nodes that begin below the height
  inside : (l j : ℕ) → j * n ^ l < h → j < nodes_of_height b.arity h l
  inside l j below = grind (arith, common_steps, cases_lt, mul-le-mul_right, arity_power_pos, ceil_covers, own)

  pub next_of : (l j : ℕ) → l < levels (shape b) → j * n ^ suc l < h → node f b (suc l) j
      ≡ f.compression (map (node f b l) (range_with_len (n * j) n))
  next_of l j below low =
      let z : n * j + 0 ≡ n * j = omega arith in
      node_is f b own h some one l j below (inside (suc l) j low)
      ∙ ap (λ n. f.compression (map (λ i. node f b l (n * j + i)) (range_with_len 0 n))) arity
      ∙ ap f.compression (rw z at (map_shift (node f b l) (n * j) 0 n))

  pub padding_of : (l j : ℕ) → l ≤ levels (shape b) → h ≤ j * n ^ l → node f b l j ≡ f.default_digest
  padding_of l j below past =
      let same : j * n ^ l ≡ j * b.arity ^ l = ap (λ x. j * x ^ l) (sym arity) in
      padding_is f b own h some one l j below
      (ceil_le h (b.arity ^ l) j (arity_power_pos b.arity own l) (omega arith))
