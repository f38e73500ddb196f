-- The honest openings of a log's tree are the honest proofs of the standard.
use Rattle.std.proofs.Common.{◌≡◌, ℕ, zero, suc, ◌+◌, ◌-◌, ◌*◌, ◌/◌, ◌%◌, ◌^◌, ◌<◌, ◌≤◌, List, [], ◌∷◌, ◌++◌, length}
use Rattle.std.proofs.Common.{get_or, map, filter, refl, sym, ap, ◌∙◌, arith, inl, inr}
use Rattle.std.proofs.lemmas.Bool.{cases_lt}
use Rattle.std.proofs.lemmas.List.{map-append}
use Rattle.std.proofs.Math.Nat.{div-eq_of_lt, div-mul-le_self}
use Rattle.std.specs.Prelude.{All}
use Rattle.std.specs.List.{flat_map, range_with_len}
use Rattle.p3_merkle_core.specs.Geometry.{layer_len, levels}
use Rattle.p3_merkle_core.specs.Nodes.{node}
use Rattle.p3_merkle_core.specs.Openings.{honest, level_siblings}
use Rattle.p3_merkle_core.specs.Pruning.{IsHonestQuery, boundary, boundary_at, honest_query, is_boundary, restored_path}
use Rattle.p3_merkle_core.proofs.Covered.Restoration.{honest_paths}
use Rattle.tlog.specs.Rfc9162.{Hash as HashFunction, path}
use Rattle.tlog.specs.Verdicts.{size_limit}
use Rattle.tlog.proofs.Climbs.{parity, path_above}
use Rattle.tlog.proofs.Layers.{itself, only_at, pair_at, sibling}
use Rattle.tlog_multiproof.specs.Instance.{AreLogDigests, hash_in, log_batch, log_functions, log_params, log_shape}
use Rattle.tlog_multiproof.specs.Instance.{present}
use Rattle.tlog_multiproof.specs.declared.tree.Node.{Node}
use Rattle.tlog_tree.specs.Inner.Layers.{layer_of}
use Rattle.tlog_tree.proofs.Paths.{layer_next, path_of_one}
use Rattle.tlog_multiproof.proofs.Nodes.{length-layer, node_filled, node_in_layer, outside_slot}
use Rattle.tlog_multiproof.proofs.Nodes.{padding_is_absent, slot_inside}
use Rattle.tlog_multiproof.proofs.Shapes.{lawful, one_level_sibling, root_covers, tallest, two_is_arity}
use Rattle.tlog_multiproof.proofs.Walks.{half_of}

module _ (hash : HashFunction) (leaves : List (List ℕ)) (i : ℕ) (inside : i < length leaves) where
  abbrev value : ℕ → ℕ → List Node
  value = node (log_functions hash) (log_batch leaves)

  -- a sibling, if it is there
  sibling_present : (l m : ℕ) → l ≤ levels (log_shape (length leaves)) → m < length (layer_of hash l leaves) →
      flat_map hash_in (value l (2 * (m / 2) + (1 - m % 2))) ≡ sibling itself m (layer_of hash l leaves)
  sibling_present l m low within =
      let some : 0 < length leaves = omega arith in
      let L = layer_of hash l leaves in
      elim (parity m) [
        | inr (k, e) ↦
            let slot : 2 * (m / 2) + (1 - m % 2) ≡ k + k = omega arith in
            rw (slot, node_in_layer hash leaves some l (k + k) low (omega arith), e)
            (sym (pair_at hash itself k (k + k) L [] [] refl (omega arith)).2)
        | inl (k, e) ↦
            let slot : 2 * (m / 2) + (1 - m % 2) ≡ suc (k + k) = omega arith in
            rw (slot, e) (elim (cases_lt (suc (k + k)) (length L)) [
              | inl both ↦ rw (node_in_layer hash leaves some l (suc (k + k)) low both)
                  (sym (pair_at hash itself k (k + k) L [] [] refl (omega arith)).1)
              | inr alone ↦
                  let past = outside_slot hash l (suc (k + k)) leaves alone in
                  rw (padding_is_absent hash leaves some l (suc (k + k)) low past)
                  (sym (only_at hash itself k (k + k) L [] [] refl (omega arith)).1)
            ])
      ]

  path_from : (d l : ℕ) → l + d ≡ levels (log_shape (length leaves)) →
      present (flat_map (level_siblings value (log_shape (length leaves)) i) (range_with_len l d))
      ≡ path hash itself (i / 2 ^ l) (layer_of hash l leaves)
  path_from zero l e =
      let covers = root_covers (length leaves) in
      let top : levels (log_shape (length leaves)) ≡ l = omega arith in
      let last : (length leaves - 1) / 2 ^ l ≡ 0 = div-eq_of_lt (let c = rw top at covers in omega arith) in
      sym (path_of_one hash (layer_of hash l leaves) (i / 2 ^ l)
      (length-layer hash l leaves (omega arith) ∙ ap (λ n. n + 1) last))
  path_from (suc d) l e =
      let L = layer_of hash l leaves in
      let m = i / 2 ^ l in
      let low : l ≤ levels (log_shape (length leaves)) = omega arith in
      let within : m < length L = slot_inside hash l m leaves (omega (arith, div-mul-le_self i (2 ^ l))) in
      let next : l + 1 ≡ suc l = omega arith in
      let up = rw (half_of i l, layer_next hash l leaves) at (path_from d (suc l) (omega arith)) in
      rw (one_level_sibling (length leaves) value i l, half_of i l, next)
      (rw (sibling_present l m low within)
      (ap (λ rest. sibling itself m L ++ rest) up ∙ sym (path_above hash itself m L within)))

  -- the honest siblings that are there are PATH
  pub honest_is_path :
      present (honest (log_functions hash) (log_batch leaves) (levels (log_shape (length leaves))) i).siblings
      ≡ path hash itself i leaves
  unfolding layer_of
  honest_is_path =
      let first : i / 2 ^ 0 ≡ i = omega arith in
      rw first at (path_from (levels (log_shape (length leaves))) 0 (omega arith))

-- ---- several entries

filled-append : (size : ℕ) (slots more : List (ℕ × ℕ)) (digests rest : List (List Node)) →
    AreLogDigests size slots digests → AreLogDigests size more rest →
    AreLogDigests size (slots ++ more) (digests ++ rest)
filled-append size [] more [] rest a b = b
filled-append size [] more (digest ∷ digests) rest a b = absurd a
filled-append size (slot ∷ slots) more [] rest a b = absurd a
filled-append size ((l, j) ∷ slots) more (digest ∷ digests) rest a b =
    (a.0, filled-append size slots more digests rest a.1 b)

module _ (hash : HashFunction) (leaves : List (List ℕ)) (some : 0 < length leaves) where
  abbrev node_at : ℕ × ℕ → List Node
  node_at (l, j) = node (log_functions hash) (log_batch leaves) l j

  layer_filled : (l : ℕ) (slots : List ℕ) → l ≤ levels (log_shape (length leaves)) →
      AreLogDigests (length leaves) (map (λ j. (l, j)) slots) (map node_at (map (λ j. (l, j)) slots))
  layer_filled l [] low = tt
  layer_filled l (j ∷ slots) low = (node_filled hash leaves some l j low, layer_filled l slots low)

  layers_filled : (indices : List ℕ) (l n : ℕ) → l + n ≤ levels (log_shape (length leaves)) →
      let slots = flat_map (boundary_at (log_shape (length leaves)) indices) (range_with_len l n) in
      AreLogDigests (length leaves) slots (map node_at slots)
  layers_filled indices l zero low = tt
  layers_filled indices l (suc n) low =
      let s = log_shape (length leaves) in
      let here = boundary_at s indices l in
      let rest = flat_map (boundary_at s indices) (range_with_len (l + 1) n) in
      rw (map-append node_at here rest)
      (filled-append (length leaves) here rest (map node_at here) (map node_at rest)
      (layer_filled l (filter (is_boundary s indices l) (range_with_len 0 (layer_len s l))) (omega arith))
      (layers_filled indices (l + 1) n (omega arith)))

  -- the digests of the honest opening
  pub honest_filled : (indices : List ℕ) → let s = log_shape (length leaves) in
      AreLogDigests (length leaves) (boundary s indices (levels s))
      (honest_query (log_functions hash) (log_batch leaves) (levels s) indices).digests
  honest_filled indices = layers_filled indices 0 (levels (log_shape (length leaves))) (omega arith)

  -- the restored siblings that are there are PATH
  pub restored_is_path : (indices : List ℕ) (k : ℕ) → length leaves ≤ size_limit →
      All (λ i. i < length leaves) indices → k < length indices →
      let t = levels (log_shape (length leaves)) in
      let i = get_or indices k 0 in
      present (restored_path (log_params hash (length leaves))
      (honest_query (log_functions hash) (log_batch leaves) t indices) i) ≡ path hash itself i leaves
  restored_is_path indices k small below inside =
      let s = log_shape (length leaves) in
      let t = levels s in
      let tall = tallest (length leaves) in
      let query : IsHonestQuery (log_batch leaves) t indices = record {
        queried = record { well_shaped = two_is_arity; below = rw tall below; in_tree = omega arith };
        lawful = lawful (length leaves) some small;
      } in
      ap present (honest_paths (log_functions hash) (log_batch leaves) t indices query k inside)
      ∙ honest_is_path hash leaves (get_or indices k 0) (below k 0 inside)
