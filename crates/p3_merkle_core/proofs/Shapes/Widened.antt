-- Steps, paths and cap layers depend on the heights of matrices alone: matrices with more columns have the same.
use Rattle.std.proofs.Common.{◌≡◌, ◌∙◌, ℕ, zero, suc, ◌+◌, ◌-◌, Bool, List, [], ◌∷◌, ap, refl, sym}
use Rattle.std.specs.Prelude.{◌&&◌, ◌==◌, flat_map, if◌then◌else◌, min, nat_lt}
use Rattle.std.specs.List.{list_any, range_with_len}
use Rattle.p3_support.specs.Batches.{greatest, heights_of, widened}
use Rattle.p3_support.specs.declared.matrix.Dimensions.{Dimensions}
use Rattle.p3_merkle_core.specs.Caps.{cap_layer, levels_above_rows, max_cap_height}
use Rattle.p3_merkle_core.specs.declared.cap.CapRule.{CapRule}
use Rattle.p3_merkle_core.specs.declared.cap.CapRule.TheVariants.{Fixed, Lowered}
use Rattle.p3_merkle_core.specs.Extraction.{difference_of, input_eq, last_difference}
use Rattle.p3_merkle_core.specs.Checks.{inputs_at, layer_words, meeting_level, params, path_digest, shared_inputs}
use Rattle.p3_merkle_core.specs.Checks.{siblings_below, words_at}
use Rattle.p3_merkle_core.specs.Geometry.{ancestor, exponent, has_rows, is_bridge, layer_below_root, layer_exponent}
use Rattle.p3_merkle_core.specs.Geometry.{leaves_under, levels}
use Rattle.p3_merkle_core.specs.Geometry.{least, shape_of, step}
use Rattle.p3_merkle_core.specs.declared.collision.Place.TheVariants.{Leaf}
use Rattle.p3_merkle_core.specs.Nodes.{Functions}
use Rattle.p3_merkle_core.specs.Openings.{Opening}
use Rattle.p3_merkle_core.proofs.Checks.Completeness.{reached_leaf, reached_next}

pub heights_widened : (e : ℕ) (ds : List Dimensions) → heights_of (widened e ds) ≡ heights_of ds
heights_widened e [] = refl
heights_widened e (d ∷ ds) = λ i. d.height ∷ heights_widened e ds i

-- dimensions with the same heights
module _ (n : ℕ) (ds es : List Dimensions) (same : heights_of ds ≡ heights_of es) where
  bridge_same : (x : ℕ) → is_bridge (shape_of n ds) x ≡ is_bridge (shape_of n es) x
  bridge_same x = ap (list_any (λ h. nat_lt (x - exponent n) (exponent h) && nat_lt (exponent h) x)) same

  pub exponent_same : (l : ℕ) → layer_exponent (shape_of n ds) l ≡ layer_exponent (shape_of n es) l
  unfolding layer_exponent
  exponent_same zero = ap (λ hs. exponent (greatest hs)) same
  exponent_same (suc l) = rw (exponent_same l, bridge_same (layer_exponent (shape_of n es) l)) refl

  pub step_same : (l : ℕ) → step (shape_of n ds) l ≡ step (shape_of n es) l
  step_same l = rw (exponent_same l, bridge_same (layer_exponent (shape_of n es) l)) refl

  pub siblings_same : (l : ℕ) → siblings_below (shape_of n ds) l ≡ siblings_below (shape_of n es) l
  unfolding siblings_below
  siblings_same zero = refl
  siblings_same (suc l) = rw (siblings_same l, step_same l) refl

  leaves_under_same : (l : ℕ) → leaves_under (shape_of n ds) l ≡ leaves_under (shape_of n es) l
  unfolding leaves_under
  leaves_under_same zero = refl
  leaves_under_same (suc l) = rw (leaves_under_same l, step_same l) refl

  pub ancestor_same : (l i : ℕ) → ancestor (shape_of n ds) l i ≡ ancestor (shape_of n es) l i
  ancestor_same l i = rw (leaves_under_same l) refl

  pub has_rows_same : (l : ℕ) → has_rows (shape_of n ds) l ≡ has_rows (shape_of n es) l
  has_rows_same l = rw (exponent_same l, same) refl

  pub path_same : {T W : Type 0} (f : Functions T W) (o : Opening T W) (l : ℕ) →
      path_digest f (shape_of n ds) o l ≡ path_digest f (shape_of n es) o l
  path_same f o zero =
      reached_leaf f (shape_of n ds) o ∙ rw (exponent_same 0, same) (sym (reached_leaf f (shape_of n es) o))
  path_same f o (suc l) =
      reached_next f (shape_of n ds) o l
      ∙ rw (
        path_same f o l,
        siblings_same l,
        step_same l,
        leaves_under_same l,
        has_rows_same (suc l),
        exponent_same (suc l),
        same,
      ) (sym (reached_next f (shape_of n es) o l))

  words_same : {T : Type 0} (rows : List (List T)) (l : ℕ) →
      layer_words (shape_of n ds) rows l ≡ layer_words (shape_of n es) rows l
  words_same rows l = rw (exponent_same l, same) refl

  inputs_same : {T W : Type 0} (f : Functions T W) (o : Opening T W) (l : ℕ) →
      inputs_at f (shape_of n ds) o l ≡ inputs_at f (shape_of n es) o l
  inputs_same f o l =
      rw (
        path_same f o l,
        siblings_same l,
        step_same l,
        leaves_under_same l,
        has_rows_same (suc l),
        exponent_same (suc l),
        same,
      ) refl

  meeting_same : (t i j : ℕ) → meeting_level (shape_of n ds) t i j ≡ meeting_level (shape_of n es) t i j
  meeting_same t i j = λ k. least (λ l. ancestor_same (suc l) i k == ancestor_same (suc l) j k) t

  pub shared_same : {T W : Type 0} (f : Functions T W) (t i j : ℕ) (o : Opening T W) →
      shared_inputs (params f (shape_of n ds) t) i j o ≡ shared_inputs (params f (shape_of n es) t) i j o
  shared_same f t i j o =
      λ k. let m = meeting_same t i j k in
      if i == j then words_at Leaf (words_same o.rows 0 k) ∷ flat_map (λ l. inputs_same f o l k) (range_with_len 0 t)
      else flat_map (λ l. inputs_same f o (m + l) k) (range_with_len 0 (t - m))

  pub difference_same : {T W : Type 0} (eq : T → T → Bool) (same : W → W → Bool) (f : Functions T W) (t : ℕ)
      (o u : Opening T W) →
      difference_of eq same (params f (shape_of n ds) t) o u ≡ difference_of eq same (params f (shape_of n es) t) o u
  difference_same eq test f t o u =
      λ k. last_difference (input_eq eq test) (shared_same f t o.index u.index o k)
      (shared_same f t o.index u.index u k)

  levels_same : levels (shape_of n ds) ≡ levels (shape_of n es)
  levels_same = λ k. least (λ l. exponent_same l k == 0) (exponent (greatest (same k)))

  rows_below_root_same : (x : ℕ) →
      has_rows (shape_of n ds) (layer_below_root (shape_of n ds) x)
      ≡ has_rows (shape_of n es) (layer_below_root (shape_of n es) x)
  rows_below_root_same x = has_rows_same (levels (shape_of n ds) - x)
      ∙ ap (λ l. has_rows (shape_of n es) (l - x)) levels_same

  max_cap_height_same : (rule : CapRule) → max_cap_height (shape_of n ds) rule ≡ max_cap_height (shape_of n es) rule
  max_cap_height_same Lowered = λ k. least (λ x. rows_below_root_same x k) (levels_same k)
  max_cap_height_same Fixed = levels_same

  pub cap_layer_same : (rule : CapRule) (cap_height : ℕ) →
      cap_layer (shape_of n ds) rule cap_height ≡ cap_layer (shape_of n es) rule cap_height
  cap_layer_same rule cap_height = λ k. levels_same k - min cap_height (max_cap_height_same rule k)
