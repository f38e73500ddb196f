-- The verdict on entries hangs on no order of them.
use Rattle.std.proofs.Common.{◌≡◌, ℕ, zero, suc, ◌+◌, ◌*◌, ◌/◌, ◌^◌, ◌<◌, ◌≤◌, Bool, true, List, [], ◌∷◌, ap, arith}
use Rattle.std.proofs.Common.{refl, sym, ◌∙◌, inl, inr, length, map, get_or, zip, filter, eqb, eq-eqb, nat_lt, not}
use Rattle.std.proofs.Common.{◌&&◌, ◌==◌}
use Rattle.std.proofs.Common.{All, Option, Some, None}
use Rattle.std.proofs.lemmas.Bool.{cases_Bool, eqb-true, lt-ltb, ltb-true, true≢false}
use Rattle.std.proofs.lemmas.List.{get_or_default, get_or-map, length-map}
use Rattle.std.proofs.lemmas.List.Folds.{Any-from_list_any}
use Rattle.std.proofs.lemmas.List.Sorted.{Contains-permutation, IsPermutation-sym, length_permutation}
use Rattle.std.specs.List.{flat_map, range_with_len}
use Rattle.std.specs.List.Sorted.{IsPermutation}
use Rattle.p3_merkle_core.specs.Checks.{layer_words}
use Rattle.p3_merkle_core.specs.Geometry.{Shape, ancestor, layer_len, levels, step}
use Rattle.p3_merkle_core.specs.Pruning.{boundary, first_rows, is_covered, restored_node, sent_digest, value_at}
use Rattle.p3_merkle_core.specs.Pruning.{value_of}
use Rattle.p3_merkle_core.proofs.Covered.Equivalence.{restored_leaf, rows_under_is}
use Rattle.p3_merkle_core.proofs.Pruned.SlotFacts.{all_below}
use Rattle.p3_merkle_core.proofs.Checks.OneHeightFacts.{leaf_words}
use Rattle.p3_support.specs.Batches.{greatest}
use Rattle.tlog.specs.Rfc9162.{Hash as HashFunction}
use Rattle.tlog_multiproof.specs.Instance.{nodes_at}
use Rattle.tlog_multiproof.specs.Entries.{entries_opening, entries_refusal, form_refusal, is_node}
use Rattle.tlog_multiproof.specs.Entries.{is_one_leaf_each, proof_nodes, with_padding}
use Rattle.tlog_multiproof.specs.Instance.{leaf_row_set, log_functions, log_params, log_shape}
use Rattle.tlog_multiproof.specs.Nodes.{last_word, parent_digest}
use Rattle.tlog_multiproof.specs.declared.error.EntriesError.{EntriesError}
use Rattle.tlog_multiproof.specs.declared.tree.Node.{Node}
use Rattle.tlog_multiproof.specs.declared.tree.Node.TheVariants.{Absent, Hash}
use Rattle.tlog_multiproof.proofs.AscentStands.{query_above, root_covered}
use Rattle.tlog_multiproof.proofs.AscentValues.{parent_value, value_covered, value_sent}
use Rattle.tlog_multiproof.proofs.AscentVerdicts.{form_refused, other_root, root_verdict, same_root, two_leaves}
use Rattle.tlog_multiproof.proofs.EntriesFacts.{HaveForm, HaveOneLeaf, form_from, highest_below}
use Rattle.tlog_multiproof.proofs.EntriesFacts.{one_leaf_from, one_leaf_to}
use Rattle.tlog_multiproof.proofs.Shapes.{ancestor_of_two, one_column, two_is_arity}

-- each entry of some is one of others
abbrev pub AreAmong : List ℕ → List (List ℕ) → List ℕ → List (List ℕ) → Type 0
AreAmong indices leaves others hashes = (k : ℕ) → k < length indices → (m : ℕ) × (m < length others)
    × (get_or others m 0 ≡ get_or indices k 0) × (get_or hashes m [] ≡ get_or leaves k [])

-- where a covered node's query stands
covered_at_query : (size : ℕ) (indices : List ℕ) (l j : ℕ) → is_covered (log_shape size) indices l j ≡ true →
    (k : ℕ) × (k < length indices) × (get_or indices k 0 / 2 ^ l ≡ j)
covered_at_query size indices l j c =
    let s = log_shape size in
    let q = Any-from_list_any (λ i. eqb (ancestor s l i) j) indices c in
    let is : ancestor s l (get_or indices q.0 0) ≡ j = eqb-true (ancestor s l (get_or indices q.0 0)) j
    (ap (λ x. eqb (ancestor s l x) j) (get_or_default indices q.0 0 q.1 q.2 ∙ q.3) ∙ q.4) in
    (q.0, q.2, sym (ancestor_of_two size l (get_or indices q.0 0)) ∙ is)

-- one way
module _ (size : ℕ) (indices : List ℕ) (leaves : List (List ℕ)) (others : List ℕ) (hashes : List (List ℕ))
    (among : AreAmong indices leaves others hashes) where
  covered_too : (l j : ℕ) → is_covered (log_shape size) indices l j ≡ true →
      is_covered (log_shape size) others l j ≡ true
  covered_too l j c =
      let q = covered_at_query size indices l j c in
      let m = among q.0 q.1 in
      query_above size others m.0 l j m.1 (ap (λ i. i / 2 ^ l) m.2 ∙ q.2)

  below_too : All (λ i. i < size) others → All (λ i. i < size) indices
  below_too below k d h =
      let m = among k h in
      rw (get_or_default indices k d 0 h) (omega (arith, below m.0 0 m.1, m.2))

  one_too : HaveOneLeaf others hashes → HaveOneLeaf indices leaves
  one_too one a b h g e =
      let m = among a h in
      let n = among b g in
      sym m.3 ∙ one m.0 n.0 m.1 n.1 (m.2 ∙ e ∙ sym n.2) ∙ n.3

-- ---- both ways

module _ (size : ℕ) (indices : List ℕ) (leaves : List (List ℕ)) (others : List ℕ) (hashes : List (List ℕ))
    (paired : length leaves ≡ length indices) (other_paired : length hashes ≡ length others)
    (long : length others ≡ length indices)
    (among : AreAmong indices leaves others hashes) (back : AreAmong others hashes indices leaves) where
  abbrev s : Shape
  s = log_shape size

  same_covered : (l j : ℕ) → is_covered s indices l j ≡ is_covered s others l j
  same_covered l j = elim (cases_Bool (is_covered s indices l j)) [
    | inl t ↦ t ∙ sym (covered_too size indices leaves others hashes among l j t)
    | inr f ↦ elim (cases_Bool (is_covered s others l j)) [
      | inl t ↦ absurd (true≢false (sym (covered_too size others hashes indices leaves back l j t) ∙ f))
      | inr n ↦ f ∙ sym n
    ]
  ]

  -- the boundary, by what is covered
  abbrev boundary_of : (ℕ → ℕ → Bool) → ℕ → List (ℕ × ℕ)
  boundary_of covered t =
      flat_map (λ l. map (λ j. (l, j)) (filter (λ j. covered (suc l) (j / step s l) && not (covered l j))
      (range_with_len 0 (layer_len s l)))) (range_with_len 0 t)

  same_boundary : (t : ℕ) → boundary s indices t ≡ boundary s others t
  same_boundary t =
      let all : is_covered s indices ≡ is_covered s others = λ i l j. same_covered l j i in
      ap (λ covered. boundary_of covered t) all

  same_nodes : proof_nodes size indices ≡ proof_nodes size others
  same_nodes = ap (λ slots. nodes_at (filter (is_node size) slots)) (same_boundary (levels s))

  same_within : 0 < length indices → nat_lt (greatest indices) size ≡ nat_lt (greatest others) size
  same_within some =
      elim (cases_Bool (nat_lt (greatest indices) size)) [
        | inl t ↦
            let below = all_below size indices (ltb-true (greatest indices) size t) in
            t ∙ sym (lt-ltb (greatest others) size (highest_below size others (omega arith)
            (below_too size others hashes indices leaves back below)))
        | inr f ↦ elim (cases_Bool (nat_lt (greatest others) size)) [
          | inl t ↦
              let below = all_below size others (ltb-true (greatest others) size t) in
              absurd (true≢false (sym (lt-ltb (greatest indices) size (highest_below size indices some
              (below_too size indices leaves others hashes among below))) ∙ f))
          | inr n ↦ f ∙ sym n
        ]
      ]

  same_one : is_one_leaf_each (zip indices leaves) ≡ is_one_leaf_each (zip others hashes)
  same_one =
      elim (cases_Bool (is_one_leaf_each (zip indices leaves))) [
        | inl t ↦ t ∙ sym (one_leaf_to others hashes other_paired
            (one_too size others hashes indices leaves back (one_leaf_from indices leaves paired t)))
        | inr f ↦ elim (cases_Bool (is_one_leaf_each (zip others hashes))) [
          | inl t ↦ absurd (true≢false (sym (one_leaf_to indices leaves paired
              (one_too size indices leaves others hashes among (one_leaf_from others hashes other_paired t))) ∙ f))
          | inr n ↦ f ∙ sym n
        ]
      ]

  same_form : (digests : ℕ) → 0 < length indices →
      form_refusal size indices (length leaves) digests ≡ form_refusal size others (length hashes) digests
  same_form digests some =
      let each = eq-eqb (length leaves) (length indices) paired in
      let each_other = eq-eqb (length hashes) (length others) other_paired in
      rw (each, each_other, same_within some, ← long, same_nodes) refl

  -- ---- what is restored

  module _ (hash : HashFunction) (proof : List (List ℕ)) (below : All (λ i. i < size) indices)
      (other_below : All (λ i. i < size) others) (one : HaveOneLeaf others hashes) where
    abbrev value : ℕ → ℕ → List Node
    value = value_of (log_params hash size) (entries_opening size indices leaves proof)

    abbrev other_value : ℕ → ℕ → List Node
    other_value = value_of (log_params hash size) (entries_opening size others hashes proof)

    -- a digest of the proof
    sent_same : (l j : ℕ) → sent_digest (log_params hash size) (entries_opening size indices leaves proof) l j
        ≡ sent_digest (log_params hash size) (entries_opening size others hashes proof) l j
    sent_same l j =
        ap (λ (xs : List (ℕ × ℕ)). value_at (λ (x : ℕ × ℕ). eqb x.0 l && eqb x.1 j)
        (zip xs (with_padding size xs proof)) (Absent ∷ [])) (same_boundary (levels s))

    -- the leaf hash of some query of a leaf
    leaf_of : (keys : List ℕ) (xs : List (List ℕ)) (j : ℕ) → length xs ≡ length keys →
        is_covered s keys 0 j ≡ true → (k : ℕ) × (k < length keys) × (get_or keys k 0 ≡ j)
        × (restored_node (log_params hash size) (entries_opening size keys xs proof) 0 j ≡ Hash (get_or xs k []) ∷ [])
    leaf_of keys xs j same c =
        let p = entries_opening size keys xs proof in
        let u = rows_under_is s keys (map leaf_row_set xs) 0 j (length-map xs leaf_row_set ∙ same) c in
        let leaf = get_or xs u.0 [] in
        let row : first_rows (λ i. ancestor s 0 i == j) p ≡ leaf_row_set leaf =
        u.3 ∙ get_or-map leaf_row_set xs u.0 [] [] (let k = u.1 in omega arith) in
        let whole : get_or keys u.0 0 / 2 ^ 0 ≡ get_or keys u.0 0 = omega arith in (
          u.0,
          u.1,
          sym whole ∙ sym (ancestor_of_two size 0 (get_or keys u.0 0)) ∙ u.2,
          restored_leaf (log_functions hash) s (levels s) p j
              ∙ ap last_word (ap (λ rows. layer_words s rows 0) row
              ∙ leaf_words s two_is_arity size (one_column size) (leaf_row_set leaf) refl),
        )

    leaf_same : (j : ℕ) → is_covered s indices 0 j ≡ true → value 0 j ≡ other_value 0 j
    leaf_same j c =
        let o = sym (same_covered 0 j) ∙ c in
        let a = leaf_of indices leaves j paired c in
        let b = leaf_of others hashes j other_paired o in
        let m = among a.0 a.1 in
        let leaf : get_or leaves a.0 [] ≡ get_or hashes b.0 [] =
        sym m.3 ∙ one m.0 b.0 m.1 b.1 (m.2 ∙ a.2 ∙ sym b.2) in
        value_covered hash size indices leaves proof below paired 0 j c ∙ a.3
        ∙ ap (λ h. Hash h ∷ []) leaf ∙ sym b.3
        ∙ sym (value_covered hash size others hashes proof other_below other_paired 0 j o)

    value_same : (l j : ℕ) → l ≤ levels s → value l j ≡ other_value l j
    value_same zero j low = elim (cases_Bool (is_covered s indices 0 j)) [
      | inl t ↦ leaf_same j t
      | inr f ↦ value_sent hash size indices leaves proof below paired 0 j f ∙ sent_same 0 j
          ∙ sym (value_sent hash size others hashes proof other_below other_paired 0 j (sym (same_covered 0 j) ∙ f))
    ]
    value_same (suc l) j low = elim (cases_Bool (is_covered s indices (suc l) j)) [
      | inl t ↦
          let o = sym (same_covered (suc l) j) ∙ t in
          parent_value hash size indices leaves proof below paired l j (omega arith) t
          ∙ ap (λ (d : List Node). parent_digest hash (d ∷ (value l (2 * j + 1) ∷ [])))
          (value_same l (2 * j) (omega arith))
          ∙ ap (λ (d : List Node). parent_digest hash (other_value l (2 * j) ∷ (d ∷ [])))
          (value_same l (2 * j + 1) (omega arith))
          ∙ sym (parent_value hash size others hashes proof other_below other_paired l j (omega arith) o)
      | inr f ↦ value_sent hash size indices leaves proof below paired (suc l) j f ∙ sent_same (suc l) j
          ∙ sym (value_sent hash size others hashes proof other_below other_paired (suc l) j
          (sym (same_covered (suc l) j) ∙ f))
    ]

    root_same : 0 < length indices →
        restored_node (log_params hash size) (entries_opening size indices leaves proof) (levels s) 0
        ≡ restored_node (log_params hash size) (entries_opening size others hashes proof) (levels s) 0
    root_same some =
        sym (value_covered hash size indices leaves proof below paired (levels s) 0
        (root_covered size indices some below))
        ∙ value_same (levels s) 0 (omega arith)
        ∙ value_covered hash size others hashes proof other_below other_paired (levels s) 0
        (root_covered size others (omega arith) other_below)

  -- ---- the verdict

  module _ (hash : HashFunction) (proof : List (List ℕ)) (root : List ℕ) where
    abbrev refusal : Option EntriesError
    refusal = entries_refusal hash size indices leaves proof root

    abbrev other_refusal : Option EntriesError
    other_refusal = entries_refusal hash size others hashes proof root

    accepted_same : HaveForm size indices (length leaves) (length proof) →
        HaveForm size others (length hashes) (length proof) → is_one_leaf_each (zip indices leaves) ≡ true →
        refusal ≡ other_refusal
    accepted_same form other_form t =
        let o = sym same_one ∙ t in
        let below = all_below size indices form.highest in
        let other_below = all_below size others other_form.highest in
        let same = root_same hash proof below other_below (one_leaf_from others hashes other_paired o) form.some in
        elim (root_verdict hash size indices leaves proof root form t) [
          | inl none ↦ none.1 ∙ sym (same_root hash size others hashes proof root other_form o (sym same ∙ none.0))
          | inr some ↦
              some.1 ∙ sym (other_root hash size others hashes proof root other_form o (λ r. some.0 (same ∙ r)))
        ]

    pub refusal_same : 0 < length indices → refusal ≡ other_refusal
    refusal_same some = by (form_refusal size indices (length leaves) (length proof)) refl
      where
        by : (o : Option EntriesError) → form_refusal size indices (length leaves) (length proof) ≡ o →
            refusal ≡ other_refusal
        by (Some e) is =
            form_refused hash size indices leaves proof root e is
            ∙ sym (form_refused hash size others hashes proof root e (sym (same_form (length proof) some) ∙ is))
        by None is =
            let form = form_from size indices (length leaves) (length proof) is in
            let other_form = form_from size others (length hashes) (length proof)
            (sym (same_form (length proof) some) ∙ is) in
            elim (cases_Bool (is_one_leaf_each (zip indices leaves))) [
              | inl t ↦ accepted_same form other_form t
              | inr f ↦ two_leaves hash size indices leaves proof root form f
                  ∙ sym (two_leaves hash size others hashes proof root other_form (sym same_one ∙ f))
            ]

-- ---- permutations

among_permuted : {X : Type 0} (index : X → ℕ) (leaf : X → List ℕ) (xs ys : List X) → IsPermutation xs ys →
    AreAmong (map index xs) (map leaf xs) (map index ys) (map leaf ys)
among_permuted {X} index leaf xs ys moved k inside = at xs refl
  where
    at : (zs : List X) → xs ≡ zs →
        (m : ℕ) × (m < length (map index ys)) × (get_or (map index ys) m 0 ≡ get_or (map index xs) k 0)
        × (get_or (map leaf ys) m [] ≡ get_or (map leaf xs) k [])
    at [] is = absurd (let none = ap length is in omega (arith, length-map xs index))
    at (z ∷ zs) is =
        let x = get_or xs k z in
        let within : k < length xs = omega (arith, length-map xs index) in
        let c = Contains-permutation xs ys x moved (k, within, get_or_default xs k x z within) in (
          c.0,
          omega (arith, c.1, length-map ys index),
          get_or-map index ys c.0 x 0 c.1 ∙ ap index c.2 ∙ sym (get_or-map index xs k z 0 within),
          get_or-map leaf ys c.0 x [] c.1 ∙ ap leaf c.2 ∙ sym (get_or-map leaf xs k z [] within),
        )

pub permuted : {X : Type 0} (hash : HashFunction) (size : ℕ) (index : X → ℕ) (leaf : X → List ℕ) (xs ys : List X)
    (proof : List (List ℕ)) (root : List ℕ) → IsPermutation xs ys →
    entries_refusal hash size (map index xs) (map leaf xs) proof root
    ≡ entries_refusal hash size (map index ys) (map leaf ys) proof root
permuted hash size index leaf [] [] proof root moved = refl
permuted hash size index leaf [] (y ∷ ys) proof root moved =
    absurd (let long = length_permutation [] (y ∷ ys) moved in omega arith)
permuted hash size index leaf (x ∷ xs) ys proof root moved =
    let zs = x ∷ xs in
    let long = length_permutation zs ys moved in
    refusal_same size (map index zs) (map leaf zs) (map index ys) (map leaf ys)
    (length-map zs leaf ∙ sym (length-map zs index)) (length-map ys leaf ∙ sym (length-map ys index))
    (length-map ys index ∙ long ∙ sym (length-map zs index)) (among_permuted index leaf zs ys moved)
    (among_permuted index leaf ys zs (IsPermutation-sym zs ys moved)) hash proof root
    (omega (arith, length-map zs index))
