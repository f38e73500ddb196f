-- What the answer of a check of the opening of entries says of them.
use Rattle.std.proofs.Common.{◌≡◌, ℕ, zero, suc, ◌<◌, ◌≤◌, Bool, true, false, List, [], ◌∷◌, refl, ap, filter}
use Rattle.std.proofs.Common.{sym, ◌∙◌, arith, eqb, inl, inr, length, get_or, nat_lt, zip, Option, Some, None}
use Rattle.std.specs.Prelude.{Result, Ok, Err, ◌⊎◌, ◌≢◌, ◌||◌}
use Rattle.std.specs.Option.{option_map, option_or}
use Rattle.std.specs.Cmp.Lexicographic.{pointwise, pointwise_decides}
use Rattle.std.proofs.lemmas.Bool.{cases_Bool, cond-false, lt-ltb, ne_eqb, true≢false}
use Rattle.std.proofs.lemmas.List.{get_or-map, length-map}
use Rattle.p3_support.specs.Batches.{greatest}
use Rattle.p3_merkle_core.specs.Checks.{Params, layer_rows}
use Rattle.p3_merkle_core.specs.Geometry.{Shape, ancestor, exponent, heights, layer_exponent, levels}
use Rattle.p3_merkle_core.specs.Gate.{gate_refusal}
use Rattle.p3_merkle_core.specs.Pruning.{IsPrunedAccepted, IsRestorable, PrunedOpening, boundary}
use Rattle.p3_merkle_core.specs.Refusals.{AnswersUnlessMemory, IsEquality, cap_refusal, digest_count_refusal}
use Rattle.p3_merkle_core.specs.Refusals.{duplicate_refusal, group_refusal, idle_refusal, pruned_refusal}
use Rattle.p3_merkle_core.specs.Refusals.{pruned_refusal_under, queries_refusal, rows_of, size_refusal, slot_of}
use Rattle.p3_merkle_core.specs.Refusals.{slots_below, width_refusal}
use Rattle.p3_answers.specs.Answers.{first_of, first_some, ok_unless, unless}
use Rattle.p3_merkle_core.specs.declared.error.MerkleTreeError.{MerkleTreeError}
use Rattle.p3_merkle_core.specs.declared.error.MerkleTreeError.TheVariants.{CapMismatch, IndexOutOfBounds}
use Rattle.p3_merkle_core.specs.declared.error.MerkleTreeError.TheVariants.{MalformedPrunedProof}
use Rattle.p3_merkle_core.specs.declared.error.PrunedProofError.TheVariants.{InconsistentDuplicateOpenings}
use Rattle.p3_answers.proofs.AnswerFacts.{none_unless, paired_none, unless_none, verdict_ok}
use Rattle.p3_merkle_core.proofs.Checks.Verdicts.{pruned_accepted}
use Rattle.p3_merkle_core.proofs.Pruned.SlotFacts.{all_below}
use Rattle.p3_merkle_core.proofs.Pruned.Unrefused.{size_none, unrefused as port_unrefused}
use Rattle.p3_merkle_core.proofs.Shapes.GateFacts.{gate_lawful}
use Rattle.p3_merkle_core.proofs.Shapes.OneHeight.{no_rows_above}
use Rattle.tlog.specs.Rfc9162.{Hash as HashFunction}
use Rattle.tlog.specs.Verdicts.{inclusion_refusal}
use Rattle.tlog_multiproof.specs.Entries.{AreIncluded, entries_opening, entries_refusal, entry_path, form_refusal}
use Rattle.tlog_multiproof.specs.Entries.{is_node, is_one_leaf_each}
use Rattle.tlog_multiproof.specs.Instance.{AreLogDigests, leaf_row_set, log_functions, log_params, log_shape, root_cap}
use Rattle.tlog_multiproof.specs.Inner.Meanings.{IsMeaning}
use Rattle.tlog_multiproof.specs.declared.error.EntriesError.{EntriesError}
use Rattle.tlog_multiproof.specs.declared.error.EntriesError.TheVariants.{TwoLeafHashes, RootMismatch}
use Rattle.tlog_multiproof.specs.declared.tree.Node.{Node}
use Rattle.tlog_multiproof.proofs.EntriesFacts.{HaveForm, HaveOneLeaf, accepted_from, form_to, one_leaf_from, Keeps}
use Rattle.tlog_multiproof.proofs.EntriesFacts.{keeps}
use Rattle.tlog_multiproof.proofs.EntriesFacts.{one_leaf_to, paths_refusal, unrefused}
use Rattle.tlog_multiproof.proofs.NodeSlots.{as_many}
use Rattle.tlog_multiproof.proofs.PaddingFacts.{filled_length, padded_filled}
use Rattle.tlog_multiproof.proofs.Restored.{query_accepted}
use Rattle.tlog_multiproof.proofs.Shapes.{ancestor_of_two, lawful, one_column, tallest, two_is_arity}

-- ---- options

pub skip : {E : Type 0} (x y a : Option E) → x ≡ None → y ≡ a → option_or x y ≡ a
skip None y a none is = is
skip (Some x) y a none is = absurd cc

-- where nothing is refused, an error says that memory ran out
pub not_refused : {E : Type 0} {refusal : Option E} {e memory : E} → e ≢ memory →
    (e ≡ memory) ⊎ (refusal ≡ Some e) → refusal ≡ None → ⊥
not_refused other (inl is) none = other is
not_refused other (inr is) none = absurd cc

-- none answers, or one does
found : {X E : Type 0} (h : X → Option E) (xs : List X) →
    (first_of h xs ≡ None) ⊎ ((x : X) × (e : E) × (h x ≡ Some e) × (first_of h xs ≡ Some e))
found h [] = inl refl
found {X} {E} h (x ∷ xs) = by (h x) refl (found h xs)
  where
    by : (o : Option E) → h x ≡ o →
        ((first_of h xs ≡ None) ⊎ ((y : X) × (e : E) × (h y ≡ Some e) × (first_of h xs ≡ Some e))) →
        (first_of h (x ∷ xs) ≡ None) ⊎ ((y : X) × (e : E) × (h y ≡ Some e) × (first_of h (x ∷ xs) ≡ Some e))
    by None e rest = elim rest [
      | inl none ↦ inl (skip (h x) (first_of h xs) None e none)
      | inr q ↦ inr (q.0, q.1, q.2, skip (h x) (first_of h xs) (Some q.1) e q.3)
    ]
    by (Some v) e rest = inr (x, v, e, ap (λ o. option_or o (first_of h xs)) e)

unless_some : {E : Type 0} (b : Bool) (why e : E) → unless b why ≡ Some e → e ≡ why
unless_some true why e is = absurd cc
unless_some false why e is = cc

-- a map to one value answers nothing, or that
pub mapped : {X Y : Type 0} (y : Y) (o : Option X) → (option_map (λ x. y) o ≡ None) ⊎ (option_map (λ x. y) o ≡ Some y)
mapped y None = inl refl
mapped y (Some x) = inr refl

or_nothing : (b : Bool) → (b || false) ≡ false → b ≡ false
or_nothing true e = e
or_nothing false e = refl

-- ---- the opening

module _ (hash : HashFunction) (size : ℕ) (indices : List ℕ) (leaves proof : List (List ℕ)) (root : List ℕ)
    (form : HaveForm size indices (length leaves) (length proof)) where
  abbrev s : Shape
  s = log_shape size

  abbrev p : PrunedOpening Node Node
  p = entries_opening size indices leaves proof

  abbrev c : Params Node Node
  c = log_params hash size

  some : 0 < size
  some = omega (arith, form.highest)

  filled : AreLogDigests size (boundary s indices (levels s)) p.digests
  filled =
      let slots = boundary s indices (levels s) in
      padded_filled size slots proof (form.count ∙ as_many (filter (is_node size) slots))

  row : (a : ℕ) → a < length indices → get_or p.rows a [] ≡ leaf_row_set (get_or leaves a [])
  row a h =
      let inside : a < length leaves = omega (arith, form.in_pairs) in
      get_or-map leaf_row_set leaves a [] [] inside

  -- above the leaves no rows are looked at
  no_rows : (leaf : List ℕ) (l : ℕ) → 0 < l → l ≤ levels s → layer_rows s (leaf_row_set leaf) l ≡ []
  no_rows leaf l up le =
      let none = or_nothing (eqb (exponent size) (layer_exponent s l))
      (no_rows_above s two_is_arity size (one_column size) l up le) in rw none refl

  pub restorable : HaveOneLeaf indices leaves → IsRestorable s (levels s) p
  restorable one = record {
    lawful = lawful size some form.small;
    below = rw (tallest size) (all_below size indices form.highest);
    count = filled_length size (boundary s indices (levels s)) p.digests filled;
    rows_fit = λ k d h.
        let inside : k < length leaves = omega (arith, length-map leaves leaf_row_set) in
        rw (get_or-map leaf_row_set leaves k [] d inside) refl;
    agreed = record {
      in_pairs = length-map leaves leaf_row_set ∙ form.in_pairs;
      repeats = λ a b h g same. row a h ∙ ap leaf_row_set (one a b h g same) ∙ sym (row b g);
      groups = λ l. elim l as (λ l. (a b : ℕ) → l ≤ levels s → a < length indices → b < length indices →
          ancestor s l (get_or indices a 0) ≡ ancestor s l (get_or indices b 0) →
          layer_rows s (get_or p.rows a []) l ≡ layer_rows s (get_or p.rows b []) l) [
            | zero ↦ λ a b le h g same.
                let alone : get_or indices a 0 ≡ get_or indices b 0 =
                omega (
                  arith,
                  same,
                  ancestor_of_two size 0 (get_or indices a 0),
                  ancestor_of_two size 0 (get_or indices b 0),
                ) in
                ap (λ rows. layer_rows s rows 0) (row a h ∙ ap leaf_row_set (one a b h g alone) ∙ sym (row b g))
            | suc l ↦ λ a b le h g same.
                rw (row a h, row b g) (no_rows (get_or leaves a []) (suc l) (omega arith) le
                ∙ sym (no_rows (get_or leaves b []) (suc l) (omega arith) le))
          ];
    };
  }

  one_leaf : IsRestorable s (levels s) p → HaveOneLeaf indices leaves
  one_leaf w a b h g same =
      let e : leaf_row_set (get_or leaves a []) ≡ leaf_row_set (get_or leaves b []) =
      sym (row a h) ∙ w.agreed.repeats a b h g same ∙ row b g in cc

  -- ---- acceptance

  pub each_included : IsPrunedAccepted c (root_cap root) p → AreIncluded hash size indices leaves proof root
  each_included w = record {
    some = form.some;
    in_pairs = form.in_pairs;
    within = all_below size indices form.highest;
    count = form.count;
    one_leaf = one_leaf w.restorable;
    each = λ k h. (query_accepted hash size indices leaves p.digests (all_below size indices form.highest) form.in_pairs
        filled k root form.small h).0 (w.each_accepted k h);
  }

  pub each_accepted : AreIncluded hash size indices leaves proof root → IsPrunedAccepted c (root_cap root) p
  each_accepted is = record {
    restorable = restorable is.one_leaf;
    each_accepted = λ k h. (query_accepted hash size indices leaves p.digests (all_below size indices form.highest)
        form.in_pairs filled k root form.small h).1 (is.each k h);
  }

  -- ---- refusals

  no_form_refusal : form_refusal size indices (length leaves) (length proof) ≡ None
  no_form_refusal = form_to size indices (length leaves) (length proof) form

  module _ (row_eq digest_eq : Node → Node → Bool) (dec : IsEquality row_eq) where
    -- two leaf hashes of one index are refused as two openings of it
    refused_twice : (HaveOneLeaf indices leaves → ⊥) → (slot : ℕ) × (pruned_refusal row_eq s (levels s) p
        ≡ Some (MalformedPrunedProof (InconsistentDuplicateOpenings slot)))
    refused_twice two =
        let why = λ (x : ℕ × List (List Node)).
        MalformedPrunedProof (InconsistentDuplicateOpenings (slot_of indices x.0)) in
        let test = λ (x : ℕ × List (List Node)). pointwise (pointwise row_eq) x.1 (rows_of p x.0) in
        let paired : length p.rows ≡ length indices = length-map leaves leaf_row_set ∙ form.in_pairs in
        let gate = (gate_lawful (heights s)).1 (lawful size some form.small) in
        let sizes = size_none (length indices) (length p.rows) (sym paired) in
        let idle = cond-false (eqb (length indices) 0) (digest_count_refusal 0 (length p.digests)) None
        (ne_eqb (length indices) 0 (λ z. omega (arith, form.some))) in
        let highest = none_unless (nat_lt (greatest indices) (greatest (heights s)))
        (IndexOutOfBounds (greatest (heights s)) (greatest indices))
        (lt-ltb (greatest indices) (greatest (heights s)) (omega (arith, form.highest, tallest size))) in
        let late = digest_count_refusal (length (boundary s indices (levels s))) (length p.digests)
        ∷ first_of (λ i. width_refusal s.dimensions (rows_of p i)) (slots_below (greatest (heights s)) indices)
        ∷ group_refusal row_eq s (levels s) p ∷ [] in
        elim (found (λ x. unless (test x) (why x)) (zip indices p.rows)) [
          | inl none ↦ absurd (two (λ a b h g same.
              let first = λ (k : ℕ) (l : k < length indices).
              (pointwise_decides (pointwise_decides dec) (get_or p.rows k []) (rows_of p (get_or indices k 0))).0
              (unless_none (test (get_or indices k 0, get_or p.rows k []))
              (why (get_or indices k 0, get_or p.rows k []))
              (paired_none (λ x. unless (test x) (why x)) indices p.rows k [] none paired l)) in
              let e : leaf_row_set (get_or leaves a []) ≡ leaf_row_set (get_or leaves b []) =
              sym (row a h) ∙ first a h ∙ ap (rows_of p) same ∙ sym (first b g) ∙ row b g in cc))
          | inr q ↦
              let is = unless_some (test q.0) (why q.0) q.1 q.2 in
              let duplicate : duplicate_refusal row_eq p ≡ Some (why q.0) = q.3 ∙ ap Some is in (
                slot_of indices q.0.0,
                skip (gate_refusal (heights s)) _ _ gate (skip (size_refusal (length indices) (length p.rows)) _ _ sizes
                    (skip (idle_refusal (length indices) (length p.digests)) _ _ idle
                    (skip (queries_refusal (greatest (heights s)) indices) _ _ highest
                    (ap (λ o. option_or o (first_some late)) duplicate)))),
              )
        ]

    -- why the opening is refused under the root
    abbrev refusal : Option MerkleTreeError
    refusal = pruned_refusal_under row_eq digest_eq c (root_cap root) p

    pub restored_unrefused : AreIncluded hash size indices leaves proof root →
        pruned_refusal row_eq s (levels s) p ≡ None
    restored_unrefused is =
        verdict_ok (pruned_refusal row_eq s (levels s) p)
        (port_unrefused row_eq s (levels s) p dec (restorable is.one_leaf))

    module _ (dec_digests : IsEquality digest_eq) where
      pub unrefused_included : refusal ≡ None → AreIncluded hash size indices leaves proof root
      unrefused_included none =
          each_included ((pruned_accepted row_eq digest_eq (log_functions hash) s (levels s) (root_cap root) p dec
          dec_digests two_is_arity).0 (ap (λ o. ok_unless o (tt {0})) none))

      pub included_unrefused : AreIncluded hash size indices leaves proof root → refusal ≡ None
      included_unrefused is =
          verdict_ok refusal ((pruned_accepted row_eq digest_eq (log_functions hash) s (levels s) (root_cap root) p dec
          dec_digests two_is_arity).1 (each_accepted is))

      other_root : refusal ≡ Some CapMismatch →
          entries_refusal hash size indices leaves proof root ≡ Some RootMismatch
      other_root is =
          let pairs = zip indices leaves in
          let one = is_one_leaf_each pairs in
          elim (cases_Bool one) [
            | inr f ↦
                let twice = refused_twice (λ h. true≢false (sym (one_leaf_to indices leaves form.in_pairs h) ∙ f)) in
                let no = sym (ap (λ o. option_or o (cap_refusal digest_eq c (root_cap root) p)) twice.1) ∙ is in
                absurd cc
            | inl t ↦ elim (mapped RootMismatch (first_of (λ (x : ℕ × List ℕ). inclusion_refusal hash x.0 size x.1
                (entry_path hash size indices leaves proof x.0) root) pairs)) [
                  | inl none ↦
                      let no = sym is ∙ included_unrefused
                      (accepted_from hash size indices leaves proof root form t none) in
                      absurd cc
                  | inr e ↦ skip (form_refusal size indices (length leaves) (length proof)) _ _ no_form_refusal
                      (skip (unless one TwoLeafHashes) _ _ (none_unless one TwoLeafHashes t)
                      (ap (λ o. option_or o None) e))
                ]
          ]

      other_error : (e : MerkleTreeError) → e ≢ CapMismatch → refusal ≡ Some e →
          entries_refusal hash size indices leaves proof root ≡ Some TwoLeafHashes
      other_error e no_mismatch is =
          let pairs = zip indices leaves in
          let one = is_one_leaf_each pairs in
          let paths = paths_refusal hash size indices leaves proof root in
          elim (cases_Bool one) [
            | inr f ↦ skip (form_refusal size indices (length leaves) (length proof)) _ _ no_form_refusal
                (ap (λ b. option_or (unless b TwoLeafHashes) (first_some (paths ∷ []))) f)
            | inl t ↦
                let w = restorable (one_leaf_from indices leaves form.in_pairs t) in
                let none = verdict_ok (pruned_refusal row_eq s (levels s) p)
                (port_unrefused row_eq s (levels s) p dec w) in
                let capped = sym (skip (pruned_refusal row_eq s (levels s) p)
                (cap_refusal digest_eq c (root_cap root) p) _
                none refl) ∙ is in
                absurd (no_mismatch (unless_some _ CapMismatch e capped))
          ]

      -- what the check answers is answered of entries
      pub meaning_kept : (verdict : Result (Unit {0}) MerkleTreeError) (result : Result (Unit {0}) EntriesError) →
          AnswersUnlessMemory verdict refusal → IsMeaning verdict result →
          Keeps hash size indices leaves proof root result
      meaning_kept (Ok v) result none is =
          rw is (keeps hash size indices leaves proof root (Ok v)
          ((unrefused hash size indices leaves proof root).1 (form.small, unrefused_included none)))
      meaning_kept (Err e) result why means = rw means.1 (keeps hash size indices leaves proof root (Err means.0)
          (elim means.2 [
            | inl memory ↦ inl memory.1
            | inr rest ↦ elim why [
              | inl out ↦ elim rest [
                | inl other ↦ absurd cc
                | inr two ↦ absurd (two.0 out)
              ]
              | inr is ↦ elim rest [
                | inl other ↦ inr (other_root (is ∙ ap Some other.0) ∙ ap Some (sym other.1))
                | inr two ↦ inr (other_error e two.1 is ∙ ap Some (sym two.2))
              ]
            ]
          ]))
