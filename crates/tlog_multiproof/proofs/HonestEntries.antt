-- The values of the nodes of a proof of entries are accepted under the root.
use Rattle.std.proofs.Common.{◌≡◌, ℕ, zero, suc, ◌+◌, ◌-◌, ◌*◌, ◌^◌, ◌<◌, ◌≤◌, List, [], ◌∷◌, ◌++◌, length, map, filter}
use Rattle.std.proofs.Common.{get_or, refl, sym, ap, ◌∙◌, arith, inl, inr, All}
use Rattle.std.proofs.lemmas.Bool.{cases_Bool, ltb-true, ltb-false}
use Rattle.std.proofs.lemmas.List.{get_or-map, length-map}
use Rattle.std.specs.Prelude.{nat_lt}
use Rattle.std.specs.List.{flat_map, range_with_len}
use Rattle.p3_merkle_core.specs.Geometry.{exponent, heights, halved_index, layer_len, levels}
use Rattle.p3_merkle_core.specs.Nodes.{node}
use Rattle.p3_merkle_core.specs.Openings.{honest_rows}
use Rattle.p3_merkle_core.specs.Pruning.{boundary_at, honest_query, is_boundary, restored_path}
use Rattle.p3_support.specs.Batches.{greatest}
use Rattle.tlog.specs.Rfc9162.{Hash as HashFunction}
use Rattle.tlog.specs.Verdicts.{size_limit}
use Rattle.tlog.proofs.Honest.{included}
use Rattle.tlog.proofs.Layers.{itself}
use Rattle.tlog_tree.specs.Trees.{all_there, leaves_root, node_at, values_at as tree_values}
use Rattle.tlog_tree.specs.declared.node_id.NodeId.{NodeId}
use Rattle.tlog_multiproof.specs.Entries.{AreIncluded, entries_opening, is_node, proof_nodes, with_padding}
use Rattle.tlog_multiproof.specs.Instance.{leaf_row_set, log_batch, log_functions, log_params, log_shape, nodes_at}
use Rattle.tlog_multiproof.specs.Instance.{present}
use Rattle.tlog_multiproof.specs.declared.tree.Node.{Node}
use Rattle.tlog_multiproof.proofs.Honest.{restored_is_path}
use Rattle.tlog_multiproof.proofs.Nodes.{node_is_mth, padding_is_absent}
use Rattle.tlog_multiproof.proofs.Shapes.{tallest}

module _ (hash : HashFunction) (leaves : List (List ℕ)) (some : 0 < length leaves) where
  -- the leaf hashes at indices
  abbrev pub leaves_at : List ℕ → List (List ℕ)
  leaves_at indices = map (λ i. get_or leaves i []) indices

  -- the values of nodes
  abbrev pub values_at : List NodeId → List (List ℕ)
  values_at nodes = map (λ (node : NodeId). node_at hash leaves node.layer node.slot) nodes

  rows_at : (indices : List ℕ) → map (honest_rows (log_batch leaves)) indices ≡ map leaf_row_set (leaves_at indices)
  rows_at [] = refl
  rows_at (i ∷ indices) =
      let n = length leaves in
      let none : exponent n - exponent n ≡ 0 = omega arith in
      let same : halved_index (greatest (heights (log_shape n))) n i ≡ i = rw (tallest n, none) (omega arith) in
      rw (same, rows_at indices) refl

  abbrev value : ℕ × ℕ → List Node
  value (l, j) = node (log_functions hash) (log_batch leaves) l j

  -- the digest of one more slot
  padded_more : (l j : ℕ) (slots : List (ℕ × ℕ)) → l ≤ levels (log_shape (length leaves)) →
      with_padding (length leaves) slots (values_at (nodes_at (filter (is_node (length leaves)) slots)))
      ≡ map value slots →
      with_padding (length leaves) ((l, j) ∷ slots)
      (values_at (nodes_at (filter (is_node (length leaves)) ((l, j) ∷ slots))))
      ≡ map value ((l, j) ∷ slots)
  padded_more l j slots low rest =
      elim (cases_Bool (nat_lt (j * 2 ^ l) (length leaves))) [
        | inl t ↦
            let is = node_is_mth hash leaves some l j low (ltb-true (j * 2 ^ l) (length leaves) t) in
            rw (t, is, rest) refl
        | inr f ↦
            let is = padding_is_absent hash leaves some l j low (ltb-false (j * 2 ^ l) (length leaves) f) in
            rw (f, is, rest) refl
      ]

  layer_padded : (l : ℕ) (js : List ℕ) (slots : List (ℕ × ℕ)) → l ≤ levels (log_shape (length leaves)) →
      with_padding (length leaves) slots (values_at (nodes_at (filter (is_node (length leaves)) slots)))
      ≡ map value slots →
      let all = map (λ j. (l, j)) js ++ slots in
      with_padding (length leaves) all (values_at (nodes_at (filter (is_node (length leaves)) all))) ≡ map value all
  layer_padded l [] slots low rest = rest
  layer_padded l (j ∷ js) slots low rest =
      padded_more l j (map (λ j. (l, j)) js ++ slots) low (layer_padded l js slots low rest)

  layers_padded : (indices : List ℕ) (l n : ℕ) → l + n ≤ levels (log_shape (length leaves)) →
      let slots = flat_map (boundary_at (log_shape (length leaves)) indices) (range_with_len l n) in
      with_padding (length leaves) slots (values_at (nodes_at (filter (is_node (length leaves)) slots)))
      ≡ map value slots
  layers_padded indices l zero low = refl
  layers_padded indices l (suc n) low =
      let s = log_shape (length leaves) in
      layer_padded l (filter (is_boundary s indices l) (range_with_len 0 (layer_len s l)))
      (flat_map (boundary_at s indices) (range_with_len (l + 1) n)) (omega arith)
      (layers_padded indices (l + 1) n (omega arith))

  -- the opening of entries by these values is the honest one
  pub opening_is_honest : (indices : List ℕ) →
      entries_opening (length leaves) indices (leaves_at indices) (values_at (proof_nodes (length leaves) indices))
      ≡ honest_query (log_functions hash) (log_batch leaves) (levels (log_shape (length leaves))) indices
  opening_is_honest indices =
      let n = length leaves in
      let s = log_shape n in
      rw (← rows_at indices, layers_padded indices 0 (levels s) (omega arith)) refl

  pub honest_included : (indices : List ℕ) → 0 < length indices → All (λ i. i < length leaves) indices →
      length leaves ≤ size_limit →
      AreIncluded hash (length leaves) indices (leaves_at indices) (values_at (proof_nodes (length leaves) indices))
      (leaves_root hash leaves)
  honest_included indices any within small = record {
    some = any;
    in_pairs = length-map indices (λ i. get_or leaves i []);
    within = within;
    count = length-map (proof_nodes (length leaves) indices)
        (λ (node : NodeId). node_at hash leaves node.layer node.slot);
    one_leaf = λ a b h g same.
        let at = λ (k : ℕ) (h : k < length indices). get_or-map (λ i. get_or leaves i []) indices k 0 [] h in
        at a h ∙ ap (λ i. get_or leaves i []) same ∙ sym (at b g);
    each = λ k h.
        let i = get_or indices k 0 in
        let leaf = get_or-map (λ i. get_or leaves i []) indices k 0 [] h in
        let path_is =
        ap (λ p. present (restored_path (log_params hash (length leaves)) p i)) (opening_is_honest indices)
        ∙ restored_is_path hash leaves some indices k small within h in
        rw (leaf, path_is)
        (record { within = within k 0 h; ends = included hash itself leaves i [] (within k 0 h) small });
  }

  -- they are all there in the tree
  pub values_there : (slots : List (ℕ × ℕ)) → let nodes = nodes_at (filter (is_node (length leaves)) slots) in
      tree_values hash leaves nodes ≡ all_there (values_at nodes)
  values_there [] = refl
  values_there ((l, j) ∷ slots) =
      elim (cases_Bool (nat_lt (j * 2 ^ l) (length leaves))) [
        | inl t ↦ rw (t, values_there slots, t) refl
        | inr f ↦ rw f (values_there slots)
      ]
