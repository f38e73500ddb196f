-- What a walk over ascending entries ends in is the verdict on them.
use Rattle.std.proofs.Common.{◌≡◌, ◌≢◌, ℕ, zero, suc, ◌+◌, ◌-◌, ◌*◌, ◌^◌, ◌<◌, ◌≤◌, true, false, List, [], ◌∷◌, length}
use Rattle.std.proofs.Common.{zip}
use Rattle.std.proofs.Common.{refl, ap, sym, ◌∙◌, arith, inl, inr, get_or, All, Option, Some, None, nat_le, nat_lt}
use Rattle.std.proofs.Common.{mul-le-mul_right}
use Rattle.std.proofs.lemmas.Bool.{cases_lt, eq-eqb, false_from_ne_true, le-leb, leb-true, lt-ltb, ltb-true}
use Rattle.std.proofs.lemmas.List.{get_or_default}
use Rattle.std.specs.Prelude.{◌⊎◌, Err, MatchResult, Ok, Result}
use Rattle.std.specs.Option.{option_or}
use Rattle.p3_answers.specs.Answers.{first_of, first_some, unless}
use Rattle.p3_answers.proofs.AnswerFacts.{none_unless}
use Rattle.p3_merkle_core.specs.Checks.{Params}
use Rattle.p3_merkle_core.specs.Geometry.{Shape, levels}
use Rattle.p3_merkle_core.specs.Pruning.{IsCapped, PrunedOpening, restored_node}
use Rattle.p3_merkle_core.proofs.Covered.Equivalence.{equivalent}
use Rattle.p3_merkle_core.proofs.Pruned.SlotFacts.{all_below}
use Rattle.p3_support.specs.Batches.{greatest}
use Rattle.tlog.specs.Rfc9162.{Hash as HashFunction}
use Rattle.tlog.specs.Verdicts.{inclusion_refusal, size_limit}
use Rattle.tlog_multiproof.specs.Ascending.{IsAscending}
use Rattle.tlog_multiproof.specs.Entries.{AreIncluded, entries_opening, entries_refusal, entry_path, form_refusal}
use Rattle.tlog_multiproof.specs.Entries.{is_one_leaf_each, proof_nodes}
use Rattle.tlog_multiproof.specs.Instance.{log_functions, log_params, log_shape, root_cap}
use Rattle.tlog_multiproof.specs.declared.error.EntriesError.{EntriesError}
use Rattle.tlog_multiproof.specs.declared.error.EntriesError.TheVariants.{SizeTooLarge, NoIndices, IndexPastEnd}
use Rattle.tlog_multiproof.specs.declared.error.EntriesError.TheVariants.{RootMismatch, TooFewDigests, TooManyDigests}
use Rattle.tlog_multiproof.specs.declared.error.EntriesError.TheVariants.{TwoLeafHashes}
use Rattle.tlog_multiproof.specs.declared.tree.Node.{Node}
use Rattle.tlog_multiproof.specs.declared.tree.Node.TheVariants.{Hash}
use Rattle.tlog_multiproof.proofs.AscentStands.{root_covered}
use Rattle.tlog_multiproof.proofs.EntriesFacts.{HaveForm, HaveOneLeaf, accepted_from, form_to, highest_below}
use Rattle.tlog_multiproof.proofs.EntriesFacts.{one_leaf_from, one_leaf_to, paths_refusal, unrefused}
use Rattle.tlog_multiproof.proofs.Shapes.{covered_inside, root_covers, two_is_arity}
use Rattle.tlog_multiproof.proofs.VerdictFacts.{each_accepted, each_included, mapped, restorable, skip}

-- ---- ascending indices

-- all are below a size if the last is
pub below_last : (size : ℕ) (indices : List ℕ) → IsAscending indices → 0 < length indices →
    get_or indices (length indices - 1) 0 < size → (k : ℕ) → k < length indices → get_or indices k 0 < size
below_last size indices up some last k inside = omega (arith, up k (length indices - 1) (omega arith) (omega arith))

pub all_below_last : (size : ℕ) (indices : List ℕ) → IsAscending indices → 0 < length indices →
    get_or indices (length indices - 1) 0 < size → All (λ i. i < size) indices
all_below_last size indices up some last k d h =
    rw (get_or_default indices k d 0 h) (below_last size indices up some last k h)

-- equal indices have equal leaf hashes if neighbours do
chain : (indices : List ℕ) (leaves : List (List ℕ)) → IsAscending indices →
    ((k : ℕ) → suc k < length indices → get_or indices k 0 ≡ get_or indices (suc k) 0 →
    get_or leaves k [] ≡ get_or leaves (suc k) []) → (a d : ℕ) → a + d < length indices →
    get_or indices a 0 ≡ get_or indices (a + d) 0 → get_or leaves a [] ≡ get_or leaves (a + d) []
chain indices leaves up same a zero inside e = let z : a + 0 ≡ a = omega arith in rw z refl
chain indices leaves up same a (suc d) inside e =
    let next : a + suc d ≡ suc (a + d) = omega arith in
    let first = up a (a + d) (omega arith) (omega arith) in
    let last = up (a + d) (suc (a + d)) (omega arith) (omega arith) in
    let at : get_or indices a 0 ≡ get_or indices (suc (a + d)) 0 = rw next at e in
    let here : get_or indices a 0 ≡ get_or indices (a + d) 0 = omega arith in
    rw next (chain indices leaves up same a d (omega arith) here ∙ same (a + d) (omega arith) (sym here ∙ at))

pub neighbours_agree : (indices : List ℕ) (leaves : List (List ℕ)) → length leaves ≡ length indices →
    IsAscending indices → ((k : ℕ) → suc k < length indices → get_or indices k 0 ≡ get_or indices (suc k) 0 →
    get_or leaves k [] ≡ get_or leaves (suc k) []) → is_one_leaf_each (zip indices leaves) ≡ true
neighbours_agree indices leaves paired up same =
    one_leaf_to indices leaves paired (λ a b h g e. elim (cases_lt a b) [
      | inl less ↦
          let sum : a + (b - a) ≡ b = omega arith in
          rw sum at (chain indices leaves up same a (b - a) (omega arith) (rw sum e))
      | inr more ↦
          let sum : b + (a - b) ≡ a = omega arith in
          sym (rw sum at (chain indices leaves up same b (a - b) (omega arith) (rw sum (sym e))))
    ])

pub neighbours_differ : (indices : List ℕ) (leaves : List (List ℕ)) (k : ℕ) → length leaves ≡ length indices →
    suc k < length indices → get_or indices k 0 ≡ get_or indices (suc k) 0 →
    get_or leaves k [] ≢ get_or leaves (suc k) [] → is_one_leaf_each (zip indices leaves) ≡ false
neighbours_differ indices leaves k paired inside e ne =
    false_from_ne_true (is_one_leaf_each (zip indices leaves))
    (λ t. ne (one_leaf_from indices leaves paired t k (suc k) (omega arith) inside e))

-- ---- the form

module _ (size : ℕ) (indices : List ℕ) (leaves digests : ℕ) where
  abbrev refused : EntriesError → Type 0
  refused e = form_refusal size indices leaves digests ≡ Some e

  pub too_large : size_limit < size → refused SizeTooLarge
  too_large more =
      let no : nat_le size size_limit ≡ false =
      false_from_ne_true (nat_le size size_limit) (λ t. let le = leb-true size size_limit t in absurd (omega arith)) in
      rw no refl

  module _ (small : size ≤ size_limit) where
    pub no_indices : length indices ≡ 0 → refused NoIndices
    no_indices none =
        let yes = le-leb size size_limit small in
        let no : nat_lt 0 (length indices) ≡ false =
        false_from_ne_true (nat_lt 0 (length indices))
        (λ t. let less = ltb-true 0 (length indices) t in absurd (omega arith)) in
        rw (yes, no) refl

    module _ (some : 0 < length indices) (paired : leaves ≡ length indices) where
      pub past_end : (k : ℕ) → k < length indices → size ≤ get_or indices k 0 → refused IndexPastEnd
      past_end k inside past =
          let yes = le-leb size size_limit small in
          let any = lt-ltb 0 (length indices) some in
          let each = eq-eqb leaves (length indices) paired in
          let no : nat_lt (greatest indices) size ≡ false =
          false_from_ne_true (nat_lt (greatest indices) size) (λ t.
          let low = all_below size indices (ltb-true (greatest indices) size t) k 0 inside in absurd (omega arith)) in
          rw (yes, any, each, no) refl

      module _ (within : All (λ i. i < size) indices) where
        pub too_few : digests < length (proof_nodes size indices) → refused TooFewDigests
        too_few less =
            let yes = le-leb size size_limit small in
            let any = lt-ltb 0 (length indices) some in
            let each = eq-eqb leaves (length indices) paired in
            let low = lt-ltb (greatest indices) size (highest_below size indices some within) in
            let expected = length (proof_nodes size indices) in
            let no : nat_le expected digests ≡ false =
            false_from_ne_true (nat_le expected digests)
            (λ t. let le = leb-true expected digests t in absurd (omega arith)) in
            rw (yes, any, each, low, no) refl

        pub too_many : length (proof_nodes size indices) < digests → refused TooManyDigests
        too_many more =
            let yes = le-leb size size_limit small in
            let any = lt-ltb 0 (length indices) some in
            let each = eq-eqb leaves (length indices) paired in
            let low = lt-ltb (greatest indices) size (highest_below size indices some within) in
            let expected = length (proof_nodes size indices) in
            let enough = le-leb expected digests (omega arith) in
            let no : nat_le digests expected ≡ false =
            false_from_ne_true (nat_le digests expected)
            (λ t. let le = leb-true digests expected t in absurd (omega arith)) in
            rw (yes, any, each, low, enough, no) refl

-- a form that is right
pub right_form : (size : ℕ) (indices : List ℕ) (leaves digests : ℕ) → size ≤ size_limit → 0 < length indices →
    leaves ≡ length indices → All (λ i. i < size) indices → digests ≡ length (proof_nodes size indices) →
    HaveForm size indices leaves digests
right_form size indices leaves digests small some paired within count = record {
  small = small;
  some = some;
  in_pairs = paired;
  highest = highest_below size indices some within;
  count = count;
}

-- ---- verdicts

module _ (hash : HashFunction) (size : ℕ) (indices : List ℕ) (leaves proof : List (List ℕ)) (root : List ℕ) where
  abbrev s : Shape
  s = log_shape size

  abbrev p : PrunedOpening Node Node
  p = entries_opening size indices leaves proof

  abbrev c : Params Node Node
  c = log_params hash size

  abbrev refusal : Option EntriesError
  refusal = entries_refusal hash size indices leaves proof root

  pub form_refused : (e : EntriesError) → form_refusal size indices (length leaves) (length proof) ≡ Some e →
      refusal ≡ Some e
  form_refused e some =
      ap (λ (o : Option EntriesError). option_or o (first_some (unless (is_one_leaf_each (zip indices leaves))
      TwoLeafHashes ∷ paths_refusal hash size indices leaves proof root ∷ []))) some

  module _ (form : HaveForm size indices (length leaves) (length proof)) where
    within : All (λ i. i < size) indices
    within = all_below size indices form.highest

    no_form : form_refusal size indices (length leaves) (length proof) ≡ None
    no_form = form_to size indices (length leaves) (length proof) form

    -- the cap of one root is reached exactly if the root is
    root_included : HaveOneLeaf indices leaves → restored_node c p (levels s) 0 ≡ Hash root ∷ [] →
        AreIncluded hash size indices leaves proof root
    root_included one is =
        let w = restorable hash size indices leaves proof root form one in
        let capped : IsCapped c (root_cap root) p = λ j t.
        let inside = covered_inside size indices within (levels s) j t in
        let first : j ≡ 0 = elim (cases_lt 0 j) [
          | inl more ↦
              let up : 1 * 2 ^ levels s ≤ j * 2 ^ levels s = mul-le-mul_right (2 ^ levels s) more in
              absurd (omega (arith, root_covers size))
          | inr none ↦ omega arith
        ] in
        rw first (ap (λ d. Some d) (sym is)) in
        each_included hash size indices leaves proof root form (record {
          restorable = w;
          each_accepted = (equivalent (log_functions hash) s (levels s) (root_cap root) p two_is_arity w.lawful w.below
              w.rows_fit w.agreed).0 capped;
        })

    pub included_root : AreIncluded hash size indices leaves proof root →
        restored_node c p (levels s) 0 ≡ Hash root ∷ []
    included_root is =
        let w = each_accepted hash size indices leaves proof root form is in
        let r = w.restorable in
        let capped = (equivalent (log_functions hash) s (levels s) (root_cap root) p two_is_arity r.lawful r.below
        r.rows_fit r.agreed).1 w.each_accepted 0 (root_covered size indices form.some within) in
        let both : ◌≡◌ {A = Option (List Node)} (Some (Hash root ∷ [])) (Some (restored_node c p (levels s) 0))
        = capped in
        cc

    pub two_leaves : is_one_leaf_each (zip indices leaves) ≡ false → refusal ≡ Some TwoLeafHashes
    two_leaves f =
        skip (form_refusal size indices (length leaves) (length proof)) _ _ no_form
        (ap (λ b. option_or (unless b TwoLeafHashes)
        (first_some (paths_refusal hash size indices leaves proof root ∷ []))) f)

    -- by the value of the root's node
    module _ (one : is_one_leaf_each (zip indices leaves) ≡ true) where
      pub same_root : restored_node c p (levels s) 0 ≡ Hash root ∷ [] → refusal ≡ None
      same_root is =
          (unrefused hash size indices leaves proof root).1
          (form.small, root_included (one_leaf_from indices leaves form.in_pairs one) is)

      refused_paths : paths_refusal hash size indices leaves proof root ≡ Some RootMismatch →
          refusal ≡ Some RootMismatch
      refused_paths e =
          let b = is_one_leaf_each (zip indices leaves) in
          skip (form_refusal size indices (length leaves) (length proof)) _ _ no_form
          (skip (unless b TwoLeafHashes) _ _ (none_unless b TwoLeafHashes one) (ap (λ o. option_or o None) e))

      pub other_root : restored_node c p (levels s) 0 ≢ Hash root ∷ [] → refusal ≡ Some RootMismatch
      other_root ne =
          elim (mapped RootMismatch (first_of (λ (x : ℕ × List ℕ). inclusion_refusal hash x.0 size x.1
          (entry_path hash size indices leaves proof x.0) root) (zip indices leaves))) [
            | inl none ↦ absurd (ne (included_root (accepted_from hash size indices leaves proof root form one none)))
            | inr e ↦ refused_paths e
          ]

      -- by what is computed of it
      pub by_value : (value : Node) (result : Result (Unit {0}) EntriesError) →
          value ∷ [] ≡ restored_node c p (levels s) 0 →
          MatchResult result (λ ok. value ≡ Hash root) (λ e. (e ≡ RootMismatch) × (value ≢ Hash root)) →
          MatchResult result (λ ok. refusal ≡ None) (λ e. refusal ≡ Some e)
      by_value value (Ok v) is same = same_root (sym is ∙ ap (λ (node : Node). node ∷ []) same)
      by_value value (Err e) is (why, ne) =
          other_root (λ r. let both : value ∷ [] ≡ Hash root ∷ [] = is ∙ r in ne (cc)) ∙ ap Some (sym why)

      -- what decides, and what it decides
      pub root_verdict : ((restored_node c p (levels s) 0 ≡ Hash root ∷ []) × (refusal ≡ None))
          ⊎ ((restored_node c p (levels s) 0 ≢ Hash root ∷ []) × (refusal ≡ Some RootMismatch))
      root_verdict =
          elim (mapped RootMismatch (first_of (λ (x : ℕ × List ℕ). inclusion_refusal hash x.0 size x.1
          (entry_path hash size indices leaves proof x.0) root) (zip indices leaves))) [
            | inl none ↦
                let is = included_root (accepted_from hash size indices leaves proof root form one none) in
                inl (is, same_root is)
            | inr e ↦
                let ne : restored_node c p (levels s) 0 ≢ Hash root ∷ [] = λ is.
                let mismatch = refused_paths e in
                let none = same_root is in
                let both : ◌≡◌ {A = Option EntriesError} None (Some RootMismatch) = sym none ∙ mismatch in cc in
                inr (ne, refused_paths e)
          ]
