-- The values that a walk over ascending entries computes are those that the opening of the entries restores.
use Rattle.std.proofs.Common.{◌≡◌, ◌≢◌, ℕ, zero, suc, ◌+◌, ◌-◌, ◌*◌, ◌/◌, ◌^◌, ◌<◌, ◌≤◌, Bool, true, false}
use Rattle.std.proofs.Common.{◌==◌, ◌&&◌, List, [], ◌∷◌, ◌++◌, map, filter, zip, refl, ap, sym, ◌∙◌, arith, inl, inr}
use Rattle.std.proofs.Common.{length, length-append, length-drop, get_or, get_or-drop, take, drop, All, eqb, eq-eqb}
use Rattle.std.proofs.Common.{ne_eqb, append_assoc}
use Rattle.std.proofs.lemmas.Bool.{and_from, and_parts, and_right, cases_Bool, cases_lt, cond-false, cond-true}
use Rattle.std.proofs.lemmas.Bool.{true≢false}
use Rattle.std.proofs.lemmas.Grind.{flat_map-append}
use Rattle.std.proofs.lemmas.List.{map-append}
use Rattle.std.proofs.lemmas.List.Elements.{filter-append}
use Rattle.std.specs.List.{flat_map, range_with_len}
use Rattle.p3_merkle_core.specs.Checks.{Params, layer_words}
use Rattle.p3_merkle_core.specs.Geometry.{Shape, ancestor, layer_len, levels}
use Rattle.p3_merkle_core.specs.Nodes.{compress_padded, with_rows}
use Rattle.p3_merkle_core.specs.Pruning.{PrunedOpening, boundary, boundary_at, first_rows, is_boundary, is_covered}
use Rattle.p3_merkle_core.specs.Pruning.{is_in}
use Rattle.p3_merkle_core.specs.Pruning.{restored_node, sent_digest, value_at, value_of}
use Rattle.p3_merkle_core.proofs.Checks.OneHeightFacts.{leaf_words}
use Rattle.p3_merkle_core.proofs.Checks.PathFacts.{group_values}
use Rattle.p3_merkle_core.proofs.Covered.Equivalence.{restored_leaf, restored_next}
use Rattle.p3_merkle_core.proofs.Lists.ListFacts.{joined_more}
use Rattle.p3_merkle_core.proofs.Lists.RisingFacts.{range_joined}
use Rattle.p3_merkle_core.proofs.Shapes.OneHeight.{full_group, no_rows_above}
use Rattle.tlog.specs.Rfc9162.{Hash as HashFunction}
use Rattle.tlog_multiproof.specs.Entries.{entries_opening, is_node, proof_nodes, with_padding}
use Rattle.tlog_multiproof.specs.Inner.Ascents.{StandsAt, is_sent, sent_before}
use Rattle.tlog_multiproof.specs.Instance.{leaf_row_set, log_functions, log_params, log_shape}
use Rattle.tlog_multiproof.specs.Nodes.{last_word, parent_digest}
use Rattle.tlog_multiproof.specs.declared.tree.Node.{Node}
use Rattle.tlog_multiproof.specs.declared.tree.Node.TheVariants.{Absent, Hash}
use Rattle.tlog_multiproof.proofs.NodeSlots.{as_many}
use Rattle.tlog_multiproof.proofs.AscentFacts.{boundary_fits, kept_both, sent_is}
use Rattle.tlog_multiproof.proofs.PaddingFacts.{padded_filled}
use Rattle.tlog_multiproof.proofs.Restored.{child_filled}
use Rattle.tlog_multiproof.proofs.Shapes.{ancestor_of_two, covered_inside, one_column, one_taken, step_of_two}
use Rattle.tlog_multiproof.proofs.Shapes.{two_is_arity}

-- ---- what is found

-- the first key that passes
pub first_at : {X Y : Type 0} (test : ℕ → Bool) (f : X → Y) (keys : List ℕ) (xs : List X) (k : ℕ) (d : X) (e : Y) →
    k < length keys → length xs ≡ length keys → test (get_or keys k 0) ≡ true →
    ((a : ℕ) → a < k → test (get_or keys a 0) ≡ false) →
    value_at test (zip keys (map f xs)) e ≡ f (get_or xs k d)
first_at test f [] xs k d e h same t none = absurd (omega arith)
first_at test f (i ∷ keys) [] k d e h same t none = absurd (omega arith)
first_at test f (i ∷ keys) (x ∷ xs) zero d e h same t none = rw t refl
first_at test f (i ∷ keys) (x ∷ xs) (suc k) d e h same t none =
    rw (none 0 (omega arith))
    (first_at test f keys xs k d e (omega arith) (omega arith) t (λ a less. none (suc a) (omega arith)))

-- the digest of a node, by how many nodes are listed before it
pub sent_at : (size l j : ℕ) (slots rest : List (ℕ × ℕ)) (proof : List (List ℕ)) (d : List Node) →
    is_in slots l j ≡ false → is_node size (l, j) ≡ true → length (filter (is_node size) slots) < length proof →
    value_at (λ (slot : ℕ × ℕ). eqb slot.0 l && eqb slot.1 j)
    (zip (slots ++ (l, j) ∷ rest) (with_padding size (slots ++ (l, j) ∷ rest) proof)) d
    ≡ Hash (get_or proof (length (filter (is_node size) slots)) []) ∷ []
sent_at size l j [] rest proof d missing node more =
    let found : (eqb l l && eqb j j) ≡ true =
    and_from (eqb l l) (eqb j j) (eq-eqb l l refl) (eq-eqb j j refl) in
    let first : take 1 proof ≡ get_or proof 0 [] ∷ [] = one_taken proof 0 [] more in
    rw (node, first, found) refl
sent_at size l j ((m, k) ∷ slots) rest proof d missing node more =
    let both = eqb m l && eqb k j in
    elim (cases_Bool both) [
      | inl t ↦ absurd (true≢false (rw t at missing))
      | inr f ↦
          let others : is_in slots l j ≡ false = rw f at missing in
          elim (cases_Bool (is_node size (m, k))) [
            | inl u ↦
                let n = length (filter (is_node size) slots) in
                let left : suc n < length proof = rw u at more in
                let first : take 1 proof ≡ get_or proof 0 [] ∷ [] = one_taken proof 0 [] (omega arith) in
                let next : 1 + n ≡ suc n = omega arith in
                let shifted : get_or (drop 1 proof) n [] ≡ get_or proof (suc n) [] =
                rw next at (get_or-drop 1 proof n []) in
                rw (u, first, f) (sent_at size l j slots rest (drop 1 proof) d others node
                (omega (arith, length-drop 1 proof)) ∙ ap (λ value. Hash value ∷ []) shifted)
            | inr u ↦ rw (u, f) (sent_at size l j slots rest proof d others node (rw u at more))
          ]
    ]

-- an only child is passed on
pub only_child : (hash : HashFunction) (left : Node) →
    parent_digest hash ((left ∷ []) ∷ ((Absent ∷ []) ∷ [])) ≡ left ∷ []
only_child hash Absent = refl
only_child hash (Hash value) = refl

-- ---- what is listed before a node

other_layer : (m l j : ℕ) (xs : List ℕ) → m ≢ l → is_in (map (λ k. (m, k)) xs) l j ≡ false
other_layer m l j [] ne = refl
other_layer m l j (x ∷ xs) ne = rw (ne_eqb m l ne) (other_layer m l j xs ne)

none_here : (p : ℕ → Bool) (l a n j : ℕ) → a + n ≤ j →
    is_in (map (λ k. (l, k)) (filter p (range_with_len a n))) l j ≡ false
none_here p l a zero j h = refl
none_here p l a (suc n) j h =
    let rest = none_here p l (a + 1) n j (omega arith) in
    elim (cases_Bool (p a)) [
      | inl t ↦
          let other : (eqb l l && eqb a j) ≡ false = and_right (eqb l l) (eqb a j) (ne_eqb a j (omega arith)) in
          rw (t, other) rest
      | inr f ↦ rw f rest
    ]

in_neither : (l j : ℕ) (xs ys : List (ℕ × ℕ)) → is_in xs l j ≡ false → is_in ys l j ≡ false →
    is_in (xs ++ ys) l j ≡ false
in_neither l j [] ys a b = b
in_neither l j ((m, k) ∷ xs) ys a b =
    elim (cases_Bool (eqb m l && eqb k j)) [
      | inl t ↦ absurd (true≢false (rw t at a))
      | inr f ↦ rw f (in_neither l j xs ys (rw f at a) b)
    ]

none_below : (s : Shape) (indices : List ℕ) (l j t : ℕ) → t ≤ l → is_in (boundary s indices t) l j ≡ false
none_below s indices l j zero h = refl
none_below s indices l j (suc t) h =
    rw (joined_more (boundary_at s indices) t)
    (in_neither l j (boundary s indices t) (boundary_at s indices t) (none_below s indices l j t (omega arith))
    (other_layer t l j (filter (is_boundary s indices t) (range_with_len 0 (layer_len s t))) (omega arith)))

module _ (hash : HashFunction) (size : ℕ) (indices : List ℕ) (leaves proof : List (List ℕ))
    (below : All (λ i. i < size) indices) (paired : length leaves ≡ length indices) where
  abbrev s : Shape
  s = log_shape size

  abbrev top : ℕ
  top = levels s

  abbrev p : PrunedOpening Node Node
  p = entries_opening size indices leaves proof

  abbrev c : Params Node Node
  c = log_params hash size

  abbrev value : ℕ → ℕ → List Node
  value = value_of c p

  pub value_covered : (l j : ℕ) → is_covered s indices l j ≡ true → value l j ≡ restored_node c p l j
  value_covered l j t = cond-true (is_covered s indices l j) (restored_node c p l j) (sent_digest c p l j) t

  pub value_sent : (l j : ℕ) → is_covered s indices l j ≡ false → value l j ≡ sent_digest c p l j
  value_sent l j f = cond-false (is_covered s indices l j) (restored_node c p l j) (sent_digest c p l j) f

  -- a leaf has the leaf hash of the next entry
  pub leaf_value : (j next : ℕ) → StandsAt indices j next → is_covered s indices 0 j ≡ true → next < length indices →
      get_or indices next 0 ≡ j → value 0 j ≡ Hash (get_or leaves next []) ∷ []
  leaf_value j next w covered inside is =
      let leaf = get_or leaves next [] in
      let test = λ (i : ℕ). ancestor s 0 i == j in
      let own : (i : ℕ) → ancestor s 0 i ≡ i =
      λ i. let one : i / 2 ^ 0 ≡ i = omega arith in ancestor_of_two size 0 i ∙ one in
      let row : first_rows test p ≡ leaf_row_set leaf =
      first_at test leaf_row_set indices leaves next [] [] inside paired
      (eq-eqb (ancestor s 0 (get_or indices next 0)) j (own (get_or indices next 0) ∙ is))
      (λ a less. ne_eqb (ancestor s 0 (get_or indices a 0)) j
      (omega (arith, own (get_or indices a 0), w.passed a less))) in
      value_covered 0 j covered ∙ restored_leaf (log_functions hash) s top p j
      ∙ ap last_word (ap (λ rows. layer_words s rows 0) row
      ∙ leaf_words s two_is_arity size (one_column size) (leaf_row_set leaf) refl)

  -- a covered node has the parent of its children
  pub parent_value : (l j : ℕ) → l < top → is_covered s indices (suc l) j ≡ true →
      value (suc l) j ≡ parent_digest hash (value l (2 * j) ∷ value l (2 * j + 1) ∷ [])
  parent_value l j low covered =
      let f = log_functions hash in
      let left = value l (2 * j) in
      let right = value l (2 * j + 1) in
      let none : 2 * j + 0 ≡ 2 * j = omega arith in
      let group : group_values s value l j ≡ left ∷ right ∷ [] = rw (step_of_two size l, none) refl in
      value_covered (suc l) j covered ∙ restored_next f s top p l j
      ∙ ap (λ has. with_rows f 2 has (compress_padded f 2 (group_values s value l j))
      (f.hash (layer_words s (first_rows (λ i. ancestor s (suc l) i == j) p) (suc l))))
      (no_rows_above s two_is_arity size (one_column size) (suc l) (omega arith) low)
      ∙ ap (λ ds. compress_padded f 2 ds) group
      ∙ full_group f 2 (left ∷ right ∷ []) refl

  module _ (count : length proof ≡ length (proof_nodes size indices)) where
    slot_count : length proof ≡ length (filter (is_node size) (boundary s indices top))
    slot_count = count ∙ as_many (filter (is_node size) (boundary s indices top))

    -- a second child without entries below it is absent
    pub outside_value : (l j : ℕ) → l < top → is_covered s indices (suc l) j ≡ true → size ≤ (2 * j + 1) * 2 ^ l →
        value l (2 * j + 1) ≡ Absent ∷ []
    outside_value l j low covered past =
        (child_filled hash size indices leaves (with_padding size (boundary s indices top) proof) below paired
        (padded_filled size (boundary s indices top) proof slot_count) l j 1 low covered (omega arith)
        (λ y. let inside = covered_inside size indices below l (2 * j + 1) y in absurd (omega arith))).padding past

    -- an uncovered node has the digest of its place in the proof
    pub sent_value : (l j start used : ℕ) → l < top → is_covered s indices l j ≡ false →
        is_sent size indices l j ≡ true → start ≡ length (filter (is_node size) (boundary s indices l)) →
        used ≡ sent_before size indices l j →
        (start + used < length proof) × (value l j ≡ Hash (get_or proof (start + used) []) ∷ [])
    sent_value l j start used low uncovered sent start_is used_is =
        let node = is_node size in
        let b = is_boundary s indices l in
        let both = and_parts (b j) (node (l, j)) sent in
        let n = layer_len s l in
        let inside : j < n = elim (cases_lt j n) [
          | inl less ↦ less
          | inr more ↦ absurd (true≢false (sym both.0 ∙ boundary_fits size indices below l j low more))
        ] in
        let slot : ℕ → ℕ × ℕ = λ k. (l, k) in
        let here = map slot (filter b (range_with_len 0 j)) in
        let before = boundary s indices l ++ here in
        let after = map slot (filter b (range_with_len (j + 1) (n - suc j))) in
        let above = flat_map (boundary_at s indices) (range_with_len (l + 1) (top - suc l)) in
        let rest : List (ℕ × ℕ) = slot j ∷ (after ++ above) in
        let places : range_with_len 0 n ≡ range_with_len 0 j ++ j ∷ range_with_len (j + 1) (n - suc j) =
        let sum : j + suc (n - suc j) ≡ n = omega arith in
        let z : 0 + j ≡ j = omega arith in rw (sum, z) at (range_joined 0 j (suc (n - suc j))) in
        let layer : boundary_at s indices l ≡ here ++ slot j ∷ after =
        ap (λ js. map slot (filter b js)) places
        ∙ ap (map slot) (filter-append b (range_with_len 0 j) (j ∷ range_with_len (j + 1) (n - suc j)))
        ∙ map-append slot (filter b (range_with_len 0 j)) (filter b (j ∷ range_with_len (j + 1) (n - suc j)))
        ∙ rw both.0 refl in
        let layers : range_with_len 0 top ≡ range_with_len 0 l ++ l ∷ range_with_len (l + 1) (top - suc l) =
        let sum : l + suc (top - suc l) ≡ top = omega arith in
        let z : 0 + l ≡ l = omega arith in rw (sum, z) at (range_joined 0 l (suc (top - suc l))) in
        let whole : boundary s indices top ≡ before ++ rest =
        ap (flat_map (boundary_at s indices)) layers
        ∙ flat_map-append (boundary_at s indices) (range_with_len 0 l) (l ∷ range_with_len (l + 1) (top - suc l))
        ∙ ap (λ xs. boundary s indices l ++ (xs ++ above)) layer
        ∙ ap (λ xs. boundary s indices l ++ xs) (append_assoc here (slot j ∷ after) above)
        ∙ sym (append_assoc (boundary s indices l) here rest) in
        let place : length (filter node before) ≡ start + used =
        ap length (filter-append node (boundary s indices l) here)
        ∙ length-append (filter node (boundary s indices l)) (filter node here)
        ∙ omega (
          arith,
          start_is,
          used_is,
          kept_both b node slot (range_with_len 0 j),
          sent_is size indices l j,
        ) in
        let last : length (filter node rest) ≡ suc (length (filter node (after ++ above))) =
        rw both.1 refl in
        let total : length proof ≡ length (filter node before) + length (filter node rest) =
        slot_count ∙ ap (λ xs. length (filter node xs)) whole
        ∙ ap length (filter-append node before rest)
        ∙ length-append (filter node before) (filter node rest) in
        let more : length (filter node before) < length proof = omega arith in
        let is_place : ℕ × ℕ → Bool = λ x. eqb x.0 l && eqb x.1 j in
        let missing = in_neither l j (boundary s indices l) here (none_below s indices l j l (omega arith))
        (none_here b l 0 j j (omega arith)) in (
          omega arith,
          value_sent l j uncovered
              ∙ ap (λ xs. value_at is_place (zip xs (with_padding size xs proof)) (Absent ∷ [])) whole
              ∙ sent_at size l j before (after ++ above) proof (Absent ∷ []) missing both.1 more
              ∙ ap (λ k. Hash (get_or proof k []) ∷ []) place,
        )
