-- Two pruned openings of one list of indices: if their paths are the same, so are their digests; and from the same
-- digests and rows they restore the same values.
use Rattle.std.proofs.Common.{◌≡◌, ℕ, zero, suc, ◌+◌, ◌-◌, ◌*◌, ◌/◌, ◌%◌, ◌<◌, ◌≤◌, Bool, not, cond}
use Rattle.std.proofs.Common.{List, [], ◌∷◌, refl, ap, sym, ◌∙◌, arith, inl, inr, length, get_or, remove, zip}
use Rattle.std.proofs.lemmas.Bool.{and_parts, cases_Bool, cases_eq, cases_lt, not-true, true≢false}
use Rattle.std.proofs.lemmas.List.Edits.{get_or-remove_above, get_or-remove_below}
use Rattle.std.proofs.lemmas.List.FromFn.{get_or-map-range_with_len, length-map-range_with_len}
use Rattle.p3_merkle_core.specs.Geometry.{Shape, IsArity, ancestor, position_in_group, step}
use Rattle.p3_merkle_core.specs.Nodes.{Functions}
use Rattle.p3_merkle_core.specs.Openings.{level_siblings, siblings_by}
use Rattle.p3_merkle_core.specs.Checks.{layer_words, params}
use Rattle.p3_merkle_core.specs.Pruning.{PrunedOpening, boundary, boundary_by, is_covered, pruned_of, restored_node}
use Rattle.p3_merkle_core.specs.Pruning.{restored_path, sent_digest, value_at, value_of, words_under}
use Rattle.p3_merkle_core.proofs.Checks.PathFacts.{group_values, joined_same, map_same, piece, piece_length}
use Rattle.p3_merkle_core.proofs.Covered.Equivalence.{query_covered, restored_leaf, restored_next, rows_under_is}
use Rattle.p3_merkle_core.proofs.Covered.Minimal.{in_boundary}
use Rattle.p3_merkle_core.proofs.Covered.ValueFacts.{digests_are, same_on}
use Rattle.p3_merkle_core.proofs.Lists.ListFacts.{pieces_same}
use Rattle.p3_merkle_core.proofs.Shapes.StepFacts.{anc_next, step_above_1}

-- ---- from paths to digests

-- lists that are the same without one place are the same at each other place
same_elsewhere : {X : Type 0} (xs ys : List X) (p k : ℕ) (d : X) → p < length xs → p < length ys → (k ≡ p → ⊥) →
    remove xs p ≡ remove ys p → get_or xs k d ≡ get_or ys k d
same_elsewhere xs ys p k d in_xs in_ys other same =
    elim (cases_lt k p) [
      | inl below ↦ sym (get_or-remove_below xs p d k below in_xs) ∙ ap (λ zs. get_or zs k d) same
          ∙ get_or-remove_below ys p d k below in_ys
      | inr not_below ↦
          let back : (k - 1) + 1 ≡ k = elim (cases_eq k p) [ inl e ↦ absurd (other e) | inr ne ↦ omega arith ] in
          let low : p ≤ k - 1 = elim (cases_eq k p) [ inl e ↦ absurd (other e) | inr ne ↦ omega arith ] in
          let at = sym (get_or-remove_above xs p d (k - 1) low in_xs) ∙ ap (λ zs. get_or zs (k - 1) d) same
          ∙ get_or-remove_above ys p d (k - 1) low in_ys in
          rw back at at
    ]

-- where two paths of a leaf are the same, so are the values of each sibling
sibling_same : {X : Type 0} (s : Shape) → IsArity s.arity → (v u : ℕ → ℕ → X) (t i l k : ℕ) → l < t → k < step s l →
    (k ≡ position_in_group s l i → ⊥) → siblings_by v s t i ≡ siblings_by u s t i →
    v l (step s l * ancestor s (suc l) i + k) ≡ u l (step s l * ancestor s (suc l) i + k)
sibling_same s w v u t i l k h small other same =
    let n = step s l in
    let a = ancestor s (suc l) i in
    let p = position_in_group s l i in
    let two = step_above_1 s l w.above_1 in
    let d = v l (n * a + k) in
    let here = pieces_same (piece s v i) (piece s u i) t
    (λ m. piece_length s w v i m ∙ sym (piece_length s w u i m)) same l h in
    let long = length-map-range_with_len (λ k. v l (n * a + k)) 0 n in
    let long_too = length-map-range_with_len (λ k. u l (n * a + k)) 0 n in
    sym (get_or-map-range_with_len (λ k. v l (n * a + k)) 0 n k k d small (omega arith))
    ∙ same_elsewhere (group_values s v l a) (group_values s u l a) p k d (omega arith) (omega arith) other here
    ∙ get_or-map-range_with_len (λ k. u l (n * a + k)) 0 n k k d small (omega arith)

-- so the values of boundary nodes are the same where all paths are
boundary_same : {T W X : Type 0} (s : Shape) → IsArity s.arity → (v u : ℕ → ℕ → X) (t : ℕ) (p : PrunedOpening T W) →
    length p.rows ≡ length p.indices →
    ((a : ℕ) → a < length p.indices →
    siblings_by v s t (get_or p.indices a 0) ≡ siblings_by u s t (get_or p.indices a 0)) →
    boundary_by v s p.indices t ≡ boundary_by u s p.indices t
boundary_same s w v u t p in_pairs paths =
    same_on (λ (l, j). v l j) (λ (l, j). u l j) (boundary s p.indices t) (λ l j e.
    let b = in_boundary s p.indices t l j e in
    let n = step s l in
    let two = step_above_1 s l w.above_1 in
    let parts = and_parts (is_covered s p.indices (suc l) (j / n)) (not (is_covered s p.indices l j)) b.1 in
    let query = rows_under_is s p.indices p.rows (suc l) (j / n) in_pairs parts.0 in
    let i = get_or p.indices query.0 0 in
    let above : ancestor s (suc l) i ≡ j / n = query.2 in
    let whole : n * (j / n) + j % n ≡ j = omega arith in
    let is : n * ancestor s (suc l) i + j % n ≡ j = rw above whole in
    let other : j % n ≡ position_in_group s l i → ⊥ = λ place.
    let up : ancestor s (suc l) i ≡ ancestor s l i / n = anc_next s l i in
    let own : ancestor s l i ≡ n * (ancestor s l i / n) + ancestor s l i % n = omega arith in
    let on_path : ancestor s l i ≡ j = own ∙ rw (← up, ← place) is in
    true≢false (sym (query_covered s p.indices query.0 l query.1)
    ∙ ap (is_covered s p.indices l) on_path ∙ not-true (is_covered s p.indices l j) parts.1) in
    rw is at (sibling_same s w v u t i l (j % n) b.0 (omega arith) other (paths query.0 query.1)))

-- and so are the digests of two openings
pub digests_same : {T W : Type 0} (f : Functions T W) (s : Shape) (t : ℕ) (p q : PrunedOpening T W) →
    IsArity s.arity → p.indices ≡ q.indices → length p.rows ≡ length p.indices →
    length p.digests ≡ length (boundary s p.indices t) → length q.digests ≡ length (boundary s q.indices t) →
    ((a : ℕ) → a < length p.indices →
    restored_path (params f s t) p (get_or p.indices a 0) ≡ restored_path (params f s t) q (get_or p.indices a 0)) →
    p.digests ≡ q.digests
digests_same f s t p q w one in_pairs count count_too paths =
    sym (digests_are f s t p count)
    ∙ boundary_same s w (value_of (params f s t) p) (value_of (params f s t) q) t p in_pairs paths
    ∙ ap (λ indices. boundary_by (value_of (params f s t) q) s indices t) one
    ∙ digests_are f s t q count_too

-- ---- from digests and rows to paths

-- of row sets with the same words of a layer, those that stand for a node have the same words
pub words_alike : {T : Type 0} (s : Shape) (l : ℕ) (passes : ℕ → Bool) (indices : List ℕ)
    (us vs : List (List (List T))) → length us ≡ length indices → length vs ≡ length indices →
    ((a : ℕ) → a < length indices → layer_words s (get_or us a []) l ≡ layer_words s (get_or vs a []) l) →
    layer_words s (value_at passes (zip indices us) []) l ≡ layer_words s (value_at passes (zip indices vs) []) l
words_alike s l passes [] us vs a b each = refl
words_alike s l passes (i ∷ indices) [] vs a b each = absurd (omega arith)
words_alike s l passes (i ∷ indices) (u ∷ us) [] a b each = absurd (omega arith)
words_alike s l passes (i ∷ indices) (u ∷ us) (v ∷ vs) a b each =
    elim (cases_Bool (passes i)) [
      | inl t ↦ rw t (each 0 (omega arith))
      | inr f ↦ rw f (words_alike s l passes indices us vs (omega arith) (omega arith)
          (λ k h. each (suc k) (omega arith)))
    ]

module _ {T W : Type 0} (f : Functions T W) (s : Shape) (t : ℕ) (indices : List ℕ) (us vs : List (List (List T)))
    (ds : List (List W))
    (words : (l j : ℕ) → l ≤ t →
    words_under s (pruned_of indices us ds) l j ≡ words_under s (pruned_of indices vs ds) l j) where
  abbrev first : PrunedOpening T W
  first = pruned_of indices us ds

  abbrev second : PrunedOpening T W
  second = pruned_of indices vs ds

  restored_same : (l j : ℕ) → l ≤ t → restored_node (params f s t) first l j ≡ restored_node (params f s t) second l j
  restored_same zero j h =
      restored_leaf f s t first j ∙ ap f.hash (words 0 j h) ∙ sym (restored_leaf f s t second j)
  restored_same (suc l) j h =
      let group = map_same (λ i. value_of (params f s t) first l (step s l * j + i))
      (λ i. value_of (params f s t) second l (step s l * j + i)) 0 (step s l)
      (λ i low high.
      let k = step s l * j + i in
      ap (λ digest. cond (is_covered s indices l k) digest (sent_digest (params f s t) first l k))
      (restored_same l k (omega arith))) in
      restored_next f s t first l j ∙ rw (group, words (suc l) j h) (sym (restored_next f s t second l j))

  value_same : (l k : ℕ) → l ≤ t → value_of (params f s t) first l k ≡ value_of (params f s t) second l k
  value_same l k h =
      ap (λ digest. cond (is_covered s indices l k) digest (sent_digest (params f s t) first l k))
      (restored_same l k h)

  -- the paths are the same
  pub path_same : (i : ℕ) → restored_path (params f s t) first i ≡ restored_path (params f s t) second i
  path_same i =
      joined_same (level_siblings (value_of (params f s t) first) s i)
      (level_siblings (value_of (params f s t) second) s i) t (λ l h.
      ap (λ group. remove group (position_in_group s l i))
      (map_same (λ k. value_of (params f s t) first l (step s l * ancestor s (suc l) i + k))
      (λ k. value_of (params f s t) second l (step s l * ancestor s (suc l) i + k)) 0 (step s l)
      (λ k low high. value_same l (step s l * ancestor s (suc l) i + k) (omega arith))))
