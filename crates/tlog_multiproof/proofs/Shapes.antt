-- The tree of a log of some entries: its layers, and what a check of an opening reaches in them.
use Rattle.std.proofs.Common.{◌≡◌, ℕ, zero, suc, ◌+◌, ◌-◌, ◌*◌, ◌/◌, ◌%◌, ◌^◌, ◌<◌, ◌≤◌, List, [], ◌∷◌, length, take}
use Rattle.std.proofs.Common.{drop, get_or, insert, refl, ap, sym, ◌∙◌, arith, true, inl, inr}
use Rattle.std.proofs.lemmas.Bool.{cases_eq}
use Rattle.std.proofs.lemmas.List.{at_drop_more}
use Rattle.std.proofs.lemmas.List.Edits.{length-insert}
use Rattle.std.proofs.Math.Nat.{div-mul-le_self, mul_assoc, pow-succ'}
use Rattle.std.specs.Prelude.{All}
use Rattle.p3_support.specs.Batches.{greatest}
use Rattle.p3_merkle_core.specs.Geometry.{IsArity, expected_height, height_limit, IsLawful, ancestor, exponent, heights}
use Rattle.p3_merkle_core.specs.Geometry.{levels, step, position_in_group}
use Rattle.p3_merkle_core.specs.Nodes.{compress_padded, with_rows}
use Rattle.p3_merkle_core.specs.OneHeight.{HasHeight}
use Rattle.p3_merkle_core.specs.Openings.{Opening, level_siblings}
use Rattle.p3_merkle_core.specs.Checks.{group_at, layer_words, path_digest, siblings_at, siblings_below}
use Rattle.p3_merkle_core.specs.Pruning.{is_covered}
use Rattle.p3_merkle_core.proofs.Shapes.OneHeight.{full_group, greatest_is, levels_are, levels_cover, no_rows_above}
use Rattle.p3_merkle_core.proofs.Shapes.OneHeight.{step_is_arity}
use Rattle.p3_merkle_core.proofs.Checks.OneHeightFacts.{ancestor_is, leaf_words, power_below, siblings_are}
use Rattle.p3_merkle_core.proofs.Covered.Sufficient.{covered_query}
use Rattle.p3_merkle_core.proofs.Checks.Completeness.{reached_leaf, reached_next}
use Rattle.tlog.specs.Rfc9162.{Hash as HashFunction}
use Rattle.tlog.specs.Verdicts.{size_limit}
use Rattle.tlog_multiproof.specs.Nodes.{last_word, parent_digest}
use Rattle.tlog_multiproof.specs.Instance.{leaf_row_set, log_functions, log_shape, sibling_slot}
use Rattle.tlog_multiproof.specs.declared.tree.Node.{Node}
use Rattle.tlog_multiproof.specs.declared.tree.Node.TheVariants.{Hash}

pub two_is_arity : IsArity 2
unfolding exponent
two_is_arity = record { power = refl; above_1 = omega arith; fits = omega arith }

-- of one element
pub only : {X : Type 0} (P : X → Type 0) (x : X) → P x → All P (x ∷ [])
only P x h zero d inside = h
only P x h (suc k) d inside = absurd (omega arith)

-- an element
pub one_taken : {X : Type 0} (xs : List X) (l : ℕ) (d : X) → l < length xs → take 1 (drop l xs) ≡ get_or xs l d ∷ []
one_taken xs l d there = at_drop_more (take 1) xs l d there

-- the first of the two slots below one
pub double_slot : (j l : ℕ) → (2 * j + 0) * 2 ^ l ≡ j * 2 ^ suc l
double_slot j l =
    let double : 2 * j + 0 ≡ j * 2 = omega arith in rw (double, mul_assoc j 2 (2 ^ l), ← pow-succ' 2 l) refl

module _ (size : ℕ) where
  pub one_column : HasHeight (log_shape size) size
  one_column = record {
    some_matrix = omega arith;
    each = only (λ d. d.height ≡ size) (record { width = 1; height = size }) refl;
  }

  pub step_of_two : (l : ℕ) → step (log_shape size) l ≡ 2
  step_of_two l = step_is_arity (log_shape size) two_is_arity size one_column l

  pub tallest : greatest (heights (log_shape size)) ≡ size
  tallest = greatest_is (log_shape size) two_is_arity size one_column

  pub lawful : 0 < size → size ≤ size_limit → IsLawful (heights (log_shape size))
  lawful some small =
      let tall : greatest (heights (log_shape size)) ≡ size = tallest in
      let none : exponent size - exponent size ≡ 0 = omega arith in
      record {
        some_above_0 = rw tall some;
        none_too_large = only (λ h. h ≤ height_limit) size small;
        on_ladder = only (λ h. h ≡ expected_height (greatest (heights (log_shape size))) h) size
            (rw (tall, none) (omega arith));
      }

  -- below the root there is more than one node, and the root is one
  pub more_below : (l : ℕ) → l < levels (log_shape size) → 2 ^ l < size
  more_below l below =
      power_below 2 size l (omega (arith, levels_are (log_shape size) two_is_arity size one_column))

  pub root_covers : size ≤ 2 ^ levels (log_shape size)
  root_covers = rw (levels_are (log_shape size) two_is_arity size one_column) (levels_cover 2 two_is_arity size)

  pub ancestor_of_two : (l i : ℕ) → ancestor (log_shape size) l i ≡ i / 2 ^ l
  ancestor_of_two l i = ancestor_is (log_shape size) two_is_arity size one_column l i

  pub one_sibling : (l : ℕ) → siblings_below (log_shape size) l ≡ l
  one_sibling l = siblings_are (log_shape size) two_is_arity size one_column l ∙ omega arith

  -- a covered node has entries below it
  pub covered_inside : (indices : List ℕ) → All (λ i. i < size) indices → (l j : ℕ) →
      is_covered (log_shape size) indices l j ≡ true → j * 2 ^ l < size
  covered_inside indices below l j covered =
      let q = covered_query (log_shape size) indices l j (rw tallest below) covered in
      let at : q.0 / 2 ^ l ≡ j = sym (ancestor_of_two l q.0) ∙ q.2 in
      let inside : q.0 < size = rw tallest at q.1 in
      rw (← at) (omega (arith, div-mul-le_self q.0 (2 ^ l)))

  -- each level of a path has one sibling
  pub one_level_sibling : {X : Type 0} (value : ℕ → ℕ → X) (i l : ℕ) →
      level_siblings value (log_shape size) i l ≡ value l (sibling_slot i l) ∷ []
  one_level_sibling value i l =
      let place = i / 2 ^ l % 2 in
      rw (step_of_two l, ancestor_of_two l i, ancestor_of_two (suc l) i) (elim (cases_eq place 0) [
        | inl even ↦ rw even refl
        | inr odd ↦ let one : place ≡ 1 = omega arith in rw one refl
      ])

  module _ (hash : HashFunction) (o : Opening Node Node) where
    -- the leaf
    pub leaf_reached : (leaf : List ℕ) → o.rows ≡ leaf_row_set leaf →
        path_digest (log_functions hash) (log_shape size) o 0 ≡ Hash leaf ∷ []
    leaf_reached leaf is =
        reached_leaf (log_functions hash) (log_shape size) o
        ∙ ap last_word (ap (λ rows. layer_words (log_shape size) rows 0) is
        ∙ leaf_words (log_shape size) two_is_arity size one_column (leaf_row_set leaf) refl)

    -- each other digest is that of a group
    pub next_reached : (l : ℕ) → l < levels (log_shape size) → l < length o.siblings →
        path_digest (log_functions hash) (log_shape size) o (suc l)
        ≡ parent_digest hash (insert (get_or o.siblings l [] ∷ []) (o.index / 2 ^ l % 2)
        (path_digest (log_functions hash) (log_shape size) o l))
    next_reached l below there =
        let s = log_shape size in
        let f = log_functions hash in
        let d = path_digest f s o l in
        let group = group_at f s o l d in
        let here : siblings_at s o l ≡ get_or o.siblings l [] ∷ [] =
        rw (step_of_two l, one_sibling l) (one_taken o.siblings l [] there) in
        let place : position_in_group s l o.index ≡ o.index / 2 ^ l % 2 =
        rw (step_of_two l, ancestor_of_two l o.index) refl in
        let is : group ≡ insert (get_or o.siblings l [] ∷ []) (o.index / 2 ^ l % 2) d = rw (here, place) refl in
        reached_next f s o l
        ∙ ap (λ has. with_rows f 2 has (compress_padded f 2 group) (f.hash (layer_words s o.rows (suc l))))
        (no_rows_above s two_is_arity size one_column (suc l) (omega arith) below)
        ∙ ap (λ ds. compress_padded f 2 ds) is
        ∙ full_group f 2 (insert (get_or o.siblings l [] ∷ []) (o.index / 2 ^ l % 2) d)
        (length-insert (get_or o.siblings l [] ∷ []) (o.index / 2 ^ l % 2) d (omega arith))
