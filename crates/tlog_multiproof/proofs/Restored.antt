-- A pruned opening of a log's tree that is filled by the count: each of its queries is accepted exactly if the standard
-- accepts the restored siblings that are there.
use Rattle.std.proofs.Common.{◌≡◌, ℕ, zero, suc, ◌+◌, ◌-◌, ◌*◌, ◌/◌, ◌%◌, ◌^◌, ◌<◌, ◌≤◌, true, List, [], ◌∷◌, length}
use Rattle.std.proofs.Common.{◌==◌, ◌&&◌, eqb, map, get_or, refl, sym, ap, ◌∙◌, arith, inl, inr, zip}
use Rattle.std.proofs.lemmas.Bool.{and_parts, cases_Bool, cases_lt, cond-false, cond-true, eqb-true, true≢false}
use Rattle.std.proofs.lemmas.List.{get_or-map, length-map}
use Rattle.std.proofs.lemmas.List.FromFn.{get_or-map-range_with_len}
use Rattle.std.specs.Prelude.{All, ◌↔◌}
use Rattle.std.specs.List.{find, flat_map, range_with_len}
use Rattle.std.specs.Option.{option_map, unwrap_or}
use Rattle.p3_merkle_core.specs.Geometry.{ancestor, levels}
use Rattle.p3_merkle_core.specs.Nodes.{compress_padded, with_rows}
use Rattle.p3_merkle_core.specs.Openings.{level_siblings}
use Rattle.p3_merkle_core.specs.Checks.{IsAccepted, layer_words}
use Rattle.p3_merkle_core.specs.Pruning.{PrunedOpening, boundary, is_covered, is_in, opening_at, pruned_of}
use Rattle.p3_merkle_core.specs.Pruning.{restored_node, restored_path, sent_digest, value_of, first_rows}
use Rattle.p3_merkle_core.proofs.Checks.PathFacts.{group_values, path_length}
use Rattle.p3_merkle_core.proofs.Covered.Equivalence.{query_covered, restored_leaf, restored_next, rows_under_is}
use Rattle.p3_merkle_core.proofs.Covered.Sufficient.{child_listed}
use Rattle.p3_merkle_core.proofs.Checks.OneHeightFacts.{leaf_words}
use Rattle.p3_merkle_core.proofs.Shapes.OneHeight.{full_group, no_rows_above}
use Rattle.tlog.specs.Rfc9162.{Hash as HashFunction, node_hash}
use Rattle.tlog.specs.Verdicts.{IsIncluded, size_limit}
use Rattle.tlog_multiproof.specs.Nodes.{last_word, parent_digest}
use Rattle.tlog_multiproof.specs.Instance.{root_cap, sibling_slot, AreLogDigests}
use Rattle.tlog_multiproof.specs.Instance.{IsLogDigest, leaf_row_set, log_functions, log_params, log_shape, present}
use Rattle.tlog_multiproof.specs.declared.tree.Node.{Node}
use Rattle.tlog_multiproof.specs.declared.tree.Node.TheVariants.{Absent, Hash}
use Rattle.tlog_multiproof.proofs.Shapes.{ancestor_of_two, one_column, one_level_sibling, one_sibling, step_of_two}
use Rattle.tlog_multiproof.proofs.Shapes.{covered_inside, double_slot, two_is_arity}
use Rattle.tlog_multiproof.proofs.ShapeFacts.{log_query}
use Rattle.tlog_multiproof.proofs.Included.{accepted_if_included}

-- what is found for a slot that is listed
found_filled : (size l j : ℕ) (slots : List (ℕ × ℕ)) (digests : List (List Node)) (d : List Node) →
    AreLogDigests size slots digests → is_in slots l j ≡ true →
    IsLogDigest size l j (unwrap_or (option_map (λ (slot, digest). digest)
    (find (λ ((m, k), digest). eqb m l && eqb k j) (zip slots digests))) d)
found_filled size l j [] [] d w e = absurd (true≢false (sym e))
found_filled size l j [] (digest ∷ digests) d w e = absurd (true≢false (sym e))
found_filled size l j (slot ∷ slots) [] d w e = absurd w
found_filled size l j ((m, k) ∷ slots) (digest ∷ digests) d w e =
    elim (cases_Bool (eqb m l && eqb k j)) [
      | inl t ↦
          let p = and_parts (eqb m l) (eqb k j) t in
          let a = eqb-true m l p.0 in
          let b = eqb-true k j p.1 in
          rw (t, ← a, ← b) w.0
      | inr f ↦ rw f (found_filled size l j slots digests d w.1 (rw f at e))
    ]

-- the parent of a group of two, the first of which is there
parent_there : (hash : HashFunction) (size l i j : ℕ) (left right : List Node) → i * 2 ^ l < size →
    IsLogDigest size l i left → IsLogDigest size l j right →
    (value : List ℕ) × (parent_digest hash (left ∷ right ∷ []) ≡ Hash value ∷ [])
parent_there hash size l i j left right inside first second =
    let a = first.node inside in
    elim (cases_lt (j * 2 ^ l) size) [
      | inl below ↦ let b = second.node below in (node_hash hash a.0 b.0, rw (a.1, b.1) refl)
      | inr above ↦ let b = second.padding above in (a.0, rw (a.1, b) refl)
    ]

module _ (hash : HashFunction) (size : ℕ) (indices : List ℕ) (leaves : List (List ℕ)) (digests : List (List Node))
    (below : All (λ i. i < size) indices) (paired : length leaves ≡ length indices)
    (filled : AreLogDigests size (boundary (log_shape size) indices (levels (log_shape size))) digests) where
  abbrev top : ℕ
  top = levels (log_shape size)

  abbrev p : PrunedOpening Node Node
  p = pruned_of indices (map leaf_row_set leaves) digests

  abbrev value : ℕ → ℕ → List Node
  value = value_of (log_params hash size) p

  -- the children of a covered node, where those that are covered are there
  pub child_filled : (l j k : ℕ) → l < top → is_covered (log_shape size) indices (suc l) j ≡ true → k < 2 →
      (is_covered (log_shape size) indices l (2 * j + k) ≡ true →
      (hash_value : List ℕ) × (restored_node (log_params hash size) p l (2 * j + k) ≡ Hash hash_value ∷ [])) →
      IsLogDigest size l (2 * j + k) (value l (2 * j + k))
  child_filled l j k low covered two there =
      let s = log_shape size in
      let c = log_params hash size in
      let restored = restored_node c p l (2 * j + k) in
      let sent = sent_digest c p l (2 * j + k) in
      elim (cases_Bool (is_covered s indices l (2 * j + k))) [
        | inl y ↦
            let is : value l (2 * j + k) ≡ restored =
            cond-true (is_covered s indices l (2 * j + k)) restored sent y in
            let inside = covered_inside size indices below l (2 * j + k) y in
            rw is (record { node = λ h. there y; padding = λ h. absurd (omega arith) })
        | inr n ↦
            let is : value l (2 * j + k) ≡ sent =
            cond-false (is_covered s indices l (2 * j + k)) restored sent n in
            let step_is = step_of_two size l in
            let listed : is_in (boundary s indices top) l (2 * j + k) ≡ true =
            rw step_is at (child_listed s indices top (log_query size indices below) l j k low (rw step_is two) covered
            (rw step_is n)) in
            rw is (found_filled size l (2 * j + k) (boundary s indices top) digests (Absent ∷ []) filled listed)
      ]

  -- a covered node is there
  there : (l j : ℕ) → l ≤ top → is_covered (log_shape size) indices l j ≡ true →
      (hash_value : List ℕ) × (restored_node (log_params hash size) p l j ≡ Hash hash_value ∷ [])
  there zero j low covered =
      let s = log_shape size in
      let u = rows_under_is s indices (map leaf_row_set leaves) 0 j (length-map leaves leaf_row_set ∙ paired) covered in
      let leaf = get_or leaves u.0 [] in
      let row : first_rows (λ i. ancestor s 0 i == j) p ≡ leaf_row_set leaf =
      u.3 ∙ get_or-map leaf_row_set leaves u.0 [] [] (let k = u.1 in omega arith) in (
        leaf,
        restored_leaf (log_functions hash) s top p j
            ∙ ap last_word (ap (λ rows. layer_words s rows 0) row
            ∙ leaf_words s two_is_arity size (one_column size) (leaf_row_set leaf) refl),
      )
  there (suc l) j low covered =
      let s = log_shape size in
      let f = log_functions hash in
      let left = value l (2 * j + 0) in
      let right = value l (2 * j + 1) in
      let first = child_filled l j 0 low covered (omega arith) (λ y. there l (2 * j + 0) (omega arith) y) in
      let second = child_filled l j 1 low covered (omega arith) (λ y. there l (2 * j + 1) (omega arith) y) in
      let inside : (2 * j + 0) * 2 ^ l < size =
      rw (double_slot j l) (covered_inside size indices below (suc l) j covered) in
      let parent = parent_there hash size l (2 * j + 0) (2 * j + 1) left right inside first second in
      let group : group_values s value l j ≡ left ∷ right ∷ [] = rw (step_of_two size l) refl in (
        parent.0,
        restored_next f s top p l j
            ∙ ap (λ has. with_rows f 2 has (compress_padded f 2 (group_values s value l j))
            (f.hash (layer_words s (first_rows (λ i. ancestor s (suc l) i == j) p) (suc l))))
            (no_rows_above s two_is_arity size (one_column size) (suc l) (omega arith) low)
            ∙ ap (λ ds. compress_padded f 2 ds) group
            ∙ full_group f 2 (left ∷ right ∷ []) refl
            ∙ parent.1,
      )

  -- the siblings on a restored path
  path_is : (i a n : ℕ) → flat_map (level_siblings value (log_shape size) i) (range_with_len a n)
      ≡ map (λ l. value l (sibling_slot i l)) (range_with_len a n)
  path_is i a zero = refl
  path_is i a (suc n) = rw (one_level_sibling size value i a, path_is i (a + 1) n) refl

  -- each query is accepted exactly if the standard accepts its siblings that are there
  pub query_accepted : (k : ℕ) (root : List ℕ) → size ≤ size_limit → k < length indices →
      let i = get_or indices k 0 in
      IsAccepted (log_params hash size) (root_cap root) (opening_at (log_params hash size) p k)
      ↔ IsIncluded hash i size (get_or leaves k []) (present (restored_path (log_params hash size) p i)) root
  query_accepted k root small inside =
      let i = get_or indices k 0 in
      let leaf = get_or leaves k [] in
      let path = restored_path (log_params hash size) p i in
      let row : get_or (map leaf_row_set leaves) k [] ≡ leaf_row_set leaf =
      get_or-map leaf_row_set leaves k [] [] (omega arith) in
      rw row (accepted_if_included hash size i leaf path (below k 0 inside) small
      (record {
        count = path_length (log_shape size) two_is_arity value i top ∙ one_sibling size top;
        each = λ l low.
            let at : get_or path l [] ≡ value l (sibling_slot i l) =
            ap (λ ds. get_or ds l []) (path_is i 0 top)
            ∙ get_or-map-range_with_len (λ l. value l (sibling_slot i l)) 0 top l l [] low (omega arith) in
            let covered : is_covered (log_shape size) indices (suc l) (i / 2 ^ suc l) ≡ true =
            rw (ancestor_of_two size (suc l) i) at (query_covered (log_shape size) indices k (suc l) inside) in
            rw at (child_filled l (i / 2 ^ suc l) (1 - i / 2 ^ l % 2) low covered (omega arith)
            (λ y. there l (sibling_slot i l) (omega arith) y));
      }) root)
