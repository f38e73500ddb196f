-- What is not refused is what is accepted.
use Rattle.std.proofs.Common.{◌≡◌, ℕ, suc, ◌<◌, ◌≤◌, Bool, true, not, ◌||◌, List, [], ◌∷◌, refl, ap, sym, ◌∙◌, arith}
use Rattle.std.proofs.Common.{eqb, eq-eqb, inl, inr, length, get_or, nat_le, nat_lt, zip, All, Option, Some, None}
use Rattle.std.proofs.lemmas.Bool.{and_from, cases_eq, eqb-true, le-leb, leb-true, lt-ltb, ltb-true, ne_eqb, true≢false}
use Rattle.std.proofs.lemmas.List.Sums.{AllPass-from_list_all}
use Rattle.std.proofs.lemmas.Slice.Zip.{get_or-zip, length-zip}
use Rattle.std.specs.Prelude.{Result, Ok, Err, IsOk, ◌↔◌, ◌⊎◌}
use Rattle.std.specs.List.{list_all}
use Rattle.std.specs.Option.{option_map, option_or}
use Rattle.std.specs.Cmp.Lexicographic.{bytes_decides}
use Rattle.p3_answers.specs.Answers.{AnswersUnless, first_of, first_some, unless}
use Rattle.p3_support.specs.Batches.{greatest}
use Rattle.p3_answers.proofs.AnswerFacts.{none_of_both, none_parts, paired_none, unless_none}
use Rattle.p3_merkle_core.proofs.Pruned.SlotFacts.{all_below}
use Rattle.tlog.specs.Rfc9162.{Hash as HashFunction}
use Rattle.tlog.specs.Verdicts.{IsIncluded, inclusion_refusal, is_same, size_limit}
use Rattle.tlog.proofs.Accepted.{inclusion_accepted}
use Rattle.tlog_multiproof.specs.Entries.{AreIncluded, digests_refusal, entries_refusal, entry_path, form_refusal}
use Rattle.tlog_multiproof.specs.Entries.{indices_refusal, is_one_leaf_each, proof_nodes}
use Rattle.tlog_multiproof.specs.declared.error.EntriesError.{EntriesError}
use Rattle.tlog_multiproof.specs.declared.error.EntriesError.TheVariants.{SizeTooLarge, NoIndices, LeafCountMismatch}
use Rattle.tlog_multiproof.specs.declared.error.EntriesError.TheVariants.{IndexPastEnd, TooFewDigests, TooManyDigests}
use Rattle.tlog_multiproof.specs.declared.error.EntriesError.TheVariants.{TwoLeafHashes, RootMismatch, OutOfMemory}

-- ---- pairs

each_pair : {X : Type 0} (p : ℕ × X → Bool) (is : List ℕ) (xs : List X) (d : X) (k : ℕ) → length xs ≡ length is →
    list_all p (zip is xs) ≡ true → k < length is → p (get_or is k 0, get_or xs k d) ≡ true
each_pair p is xs d k same t h =
    let inside : k < length (zip is xs) = omega (arith, length-zip is xs) in
    let long : k < length xs = omega arith in
    ap p (sym (get_or-zip is xs k (0, d) h long)) ∙ AllPass-from_list_all p (zip is xs) t k (0, d) inside

all_pairs : {X : Type 0} (p : ℕ × X → Bool) (is : List ℕ) (xs : List X) (d : X) → length xs ≡ length is →
    ((k : ℕ) → k < length is → p (get_or is k 0, get_or xs k d) ≡ true) → list_all p (zip is xs) ≡ true
all_pairs p [] xs d same e = refl
all_pairs p (i ∷ is) [] d same e = refl
all_pairs p (i ∷ is) (x ∷ xs) d same e =
    and_from (p (i, x)) (list_all p (zip is xs)) (e 0 (omega arith))
    (all_pairs p is xs d (omega arith) (λ k l. e (suc k) (omega arith)))

none_pairs : {X E : Type 0} (h : ℕ × X → Option E) (is : List ℕ) (xs : List X) (d : X) → length xs ≡ length is →
    ((k : ℕ) → k < length is → h (get_or is k 0, get_or xs k d) ≡ None) → first_of h (zip is xs) ≡ None
none_pairs h [] xs d same e = refl
none_pairs h (i ∷ is) [] d same e = refl
none_pairs h (i ∷ is) (x ∷ xs) d same e =
    none_of_both (h (i, x)) (first_of h (zip is xs)) (e 0 (omega arith))
    (none_pairs h is xs d (omega arith) (λ k l. e (suc k) (omega arith)))

-- ---- one leaf hash for each index

-- no two of the leaf hashes are for one index
abbrev pub HaveOneLeaf : List ℕ → List (List ℕ) → Type 0
HaveOneLeaf indices leaves = (a b : ℕ) → a < length indices → b < length indices →
    get_or indices a 0 ≡ get_or indices b 0 → get_or leaves a [] ≡ get_or leaves b []

pub one_leaf_from : (indices : List ℕ) (leaves : List (List ℕ)) → length leaves ≡ length indices →
    is_one_leaf_each (zip indices leaves) ≡ true → HaveOneLeaf indices leaves
one_leaf_from indices leaves same t a b h g e =
    let pairs = zip indices leaves in
    let i = get_or indices a 0 in
    let leaf = get_or leaves a [] in
    let outer = each_pair (λ (x : ℕ × List ℕ).
    list_all (λ (y : ℕ × List ℕ). not (eqb x.0 y.0) || is_same x.1 y.1) pairs)
    indices leaves [] a same t h in
    let inner = each_pair (λ (y : ℕ × List ℕ). not (eqb i y.0) || is_same leaf y.1) indices leaves [] b same outer g in
    (bytes_decides leaf (get_or leaves b [])).0 (rw (eq-eqb i (get_or indices b 0) e) at inner)

pub one_leaf_to : (indices : List ℕ) (leaves : List (List ℕ)) → length leaves ≡ length indices →
    HaveOneLeaf indices leaves → is_one_leaf_each (zip indices leaves) ≡ true
one_leaf_to indices leaves same one =
    let pairs = zip indices leaves in
    all_pairs (λ (x : ℕ × List ℕ). list_all (λ (y : ℕ × List ℕ). not (eqb x.0 y.0) || is_same x.1 y.1) pairs)
    indices leaves [] same (λ a h.
    let i = get_or indices a 0 in
    let leaf = get_or leaves a [] in
    all_pairs (λ (y : ℕ × List ℕ). not (eqb i y.0) || is_same leaf y.1) indices leaves [] same (λ b g.
    elim (cases_eq i (get_or indices b 0)) [
      | inl e ↦ rw (eq-eqb i (get_or indices b 0) e) ((bytes_decides leaf (get_or leaves b [])).1 (one a b h g e))
      | inr ne ↦ rw (ne_eqb i (get_or indices b 0) ne) refl
    ]))

-- ---- the standard's verdicts

pub unrefused_included : (hash : HashFunction) (i size : ℕ) (leaf : List ℕ) (path : List (List ℕ)) (root : List ℕ) →
    inclusion_refusal hash i size leaf path root ≡ None → IsIncluded hash i size leaf path root
unrefused_included hash i size leaf path root none =
    ((inclusion_accepted hash i size leaf path root (Ok tt) (sym none)).0 (search)).1

pub included_unrefused : (hash : HashFunction) (i size : ℕ) (leaf : List ℕ) (path : List (List ℕ)) (root : List ℕ) →
    size ≤ size_limit → IsIncluded hash i size leaf path root → inclusion_refusal hash i size leaf path root ≡ None
included_unrefused hash i size leaf path root small is = by (inclusion_refusal hash i size leaf path root) refl
  where
    by : (refusal : Option _) → inclusion_refusal hash i size leaf path root ≡ refusal → refusal ≡ None
    by None e = refl
    by (Some why) e =
        absurd (true≢false (sym ((inclusion_accepted hash i size leaf path root (Err why) (sym e)).1 (small, is))))

-- ---- the form

-- sizes, numbers and indices are as they must be
pub record HaveForm (size : ℕ) (indices : List ℕ) (leaves digests : ℕ) : Type 0 where
  pub small : size ≤ size_limit
  pub some : 0 < length indices
  pub in_pairs : leaves ≡ length indices
  pub highest : greatest indices < size
  pub count : digests ≡ length (proof_nodes size indices)

pub form_from : (size : ℕ) (indices : List ℕ) (leaves digests : ℕ) → form_refusal size indices leaves digests ≡ None →
    HaveForm size indices leaves digests
form_from size indices leaves digests none =
    let expected = length (proof_nodes size indices) in
    let small = unless (nat_le size size_limit) SizeTooLarge in
    let some = unless (nat_lt 0 (length indices)) NoIndices in
    let paired = unless (eqb leaves (length indices)) LeafCountMismatch in
    let within = unless (nat_lt (greatest indices) size) IndexPastEnd in
    let few = unless (nat_le expected digests) TooFewDigests in
    let many = unless (nat_le digests expected) TooManyDigests in
    let both = none_parts (indices_refusal size indices leaves) (digests_refusal expected digests) none in
    let a = none_parts small (first_some (some ∷ paired ∷ within ∷ [])) both.0 in
    let b = none_parts some (first_some (paired ∷ within ∷ [])) a.1 in
    let c = none_parts paired (first_some (within ∷ [])) b.1 in
    let d = none_parts within None c.1 in
    let e = none_parts few (first_some (many ∷ [])) both.1 in
    let f = none_parts many None e.1 in
    let least = leb-true expected digests (unless_none (nat_le expected digests) TooFewDigests e.0) in
    let most = leb-true digests expected (unless_none (nat_le digests expected) TooManyDigests f.0) in
    record {
      small = leb-true size size_limit (unless_none (nat_le size size_limit) SizeTooLarge a.0);
      some = ltb-true 0 (length indices) (unless_none (nat_lt 0 (length indices)) NoIndices b.0);
      in_pairs = eqb-true leaves (length indices) (unless_none (eqb leaves (length indices)) LeafCountMismatch c.0);
      highest = ltb-true (greatest indices) size (unless_none (nat_lt (greatest indices) size) IndexPastEnd d.0);
      count = omega arith;
    }

pub form_to : (size : ℕ) (indices : List ℕ) (leaves digests : ℕ) → HaveForm size indices leaves digests →
    form_refusal size indices leaves digests ≡ None
form_to size indices leaves digests w =
    let expected = length (proof_nodes size indices) in
    let small = le-leb size size_limit w.small in
    let some = lt-ltb 0 (length indices) w.some in
    let paired = eq-eqb leaves (length indices) w.in_pairs in
    let within = lt-ltb (greatest indices) size w.highest in
    let few = le-leb expected digests (omega (arith, w.count)) in
    let many = le-leb digests expected (omega (arith, w.count)) in
    rw (small, some, paired, within, few, many) refl

pub highest_below : (size : ℕ) (indices : List ℕ) → 0 < length indices → All (λ i. i < size) indices →
    greatest indices < size
highest_below size [] some below = absurd (omega arith)
highest_below size (i ∷ []) some below = omega (arith, below 0 0 (omega arith))
highest_below size (i ∷ (j ∷ indices)) some below =
    omega (
      arith,
      below 0 0 (omega arith),
      highest_below size (j ∷ indices) (omega arith) (λ k d h. below (suc k) d (omega arith)),
    )

-- ---- accepted

-- why a path is refused
abbrev pub paths_refusal : HashFunction → ℕ → List ℕ → List (List ℕ) → List (List ℕ) → List ℕ → Option EntriesError
paths_refusal hash size indices leaves proof root =
    option_map (λ e. RootMismatch) (first_of (λ (index, leaf).
    inclusion_refusal hash index size leaf (entry_path hash size indices leaves proof index) root) (zip indices leaves))

mapped_none : {X Y : Type 0} (f : X → Y) (o : Option X) → option_map f o ≡ None → o ≡ None
mapped_none f None e = refl
mapped_none f (Some x) e = absurd cc

pub accepted_from : (hash : HashFunction) (size : ℕ) (indices : List ℕ) (leaves proof : List (List ℕ)) (root : List ℕ) →
    HaveForm size indices (length leaves) (length proof) → is_one_leaf_each (zip indices leaves) ≡ true →
    paths_refusal hash size indices leaves proof root ≡ None → AreIncluded hash size indices leaves proof root
accepted_from hash size indices leaves proof root form one paths = record {
  some = form.some;
  in_pairs = form.in_pairs;
  within = all_below size indices form.highest;
  count = form.count;
  one_leaf = one_leaf_from indices leaves form.in_pairs one;
  each = λ k h. let i = get_or indices k 0 in
      unrefused_included hash i size (get_or leaves k []) (entry_path hash size indices leaves proof i) root
      (paired_none (λ (x : ℕ × List ℕ).
      inclusion_refusal hash x.0 size x.1 (entry_path hash size indices leaves proof x.0) root) indices leaves k []
      (mapped_none (λ e. RootMismatch) (first_of (λ (x : ℕ × List ℕ).
      inclusion_refusal hash x.0 size x.1 (entry_path hash size indices leaves proof x.0) root) (zip indices leaves))
      paths)
      form.in_pairs h);
}

pub accepted_to : (hash : HashFunction) (size : ℕ) (indices : List ℕ) (leaves proof : List (List ℕ)) (root : List ℕ) →
    size ≤ size_limit → AreIncluded hash size indices leaves proof root →
    HaveForm size indices (length leaves) (length proof) × (is_one_leaf_each (zip indices leaves) ≡ true)
    × (paths_refusal hash size indices leaves proof root ≡ None)
accepted_to hash size indices leaves proof root small is = (
  record {
    small = small;
    some = is.some;
    in_pairs = is.in_pairs;
    highest = highest_below size indices is.some is.within;
    count = is.count;
  },
  one_leaf_to indices leaves is.in_pairs is.one_leaf,
  ap (option_map (λ e. RootMismatch)) (none_pairs (λ (x : ℕ × List ℕ).
      inclusion_refusal hash x.0 size x.1 (entry_path hash size indices leaves proof x.0) root) indices leaves []
      is.in_pairs (λ k h. let i = get_or indices k 0 in
      included_unrefused hash i size (get_or leaves k []) (entry_path hash size indices leaves proof i) root small
      (is.each k h))),
)

pub unrefused : (hash : HashFunction) (size : ℕ) (indices : List ℕ) (leaves proof : List (List ℕ)) (root : List ℕ) →
    (entries_refusal hash size indices leaves proof root ≡ None)
    ↔ ((size ≤ size_limit) × AreIncluded hash size indices leaves proof root)
unrefused hash size indices leaves proof root =
    let form = form_refusal size indices (length leaves) (length proof) in
    let one = is_one_leaf_each (zip indices leaves) in
    let paths = paths_refusal hash size indices leaves proof root in (
      λ none.
          let a = none_parts form (first_some (unless one TwoLeafHashes ∷ paths ∷ [])) none in
          let b = none_parts (unless one TwoLeafHashes) (first_some (paths ∷ [])) a.1 in
          let c = none_parts paths None b.1 in
          let w = form_from size indices (length leaves) (length proof) a.0 in
          (w.small, accepted_from hash size indices leaves proof root w (unless_none one TwoLeafHashes b.0) c.0),
      λ (small, is).
          let w = accepted_to hash size indices leaves proof root small is in
          rw (form_to size indices (length leaves) (length proof) w.0, w.1, w.2) refl,
    )

-- ---- answers

-- an answer that keeps to the refusal accepts what is accepted
pub record Keeps (hash : HashFunction) (size : ℕ) (indices : List ℕ) (leaves proof : List (List ℕ)) (root : List ℕ)
    (result : Result (Unit {0}) EntriesError) : Type 0 where
  pub accepted : IsOk result → (size ≤ size_limit) × AreIncluded hash size indices leaves proof root
  pub complete : size ≤ size_limit → AreIncluded hash size indices leaves proof root →
      AnswersUnless (λ e. e ≡ OutOfMemory) result None
  pub refused : AnswersUnless (λ e. e ≡ OutOfMemory) result (entries_refusal hash size indices leaves proof root)

module _ (hash : HashFunction) (size : ℕ) (indices : List ℕ) (leaves proof : List (List ℕ)) (root : List ℕ) where
  pub keeps : (result : Result (Unit {0}) EntriesError) →
      AnswersUnless (λ e. e ≡ OutOfMemory) result (entries_refusal hash size indices leaves proof root) →
      Keeps hash size indices leaves proof root result
  keeps (Ok v) none = record {
    accepted = λ ok. (unrefused hash size indices leaves proof root).0 none;
    complete = λ small is. refl;
    refused = none;
  }
  keeps (Err e) why = record {
    accepted = λ ok. absurd (true≢false (sym ok));
    complete = λ small is. elim why [
      | inl memory ↦ inl memory
      | inr some ↦ let none = (unrefused hash size indices leaves proof root).1 (small, is) in absurd cc
    ];
    refused = why;
  }

  -- a form that is refused
  pub form_kept : {e : EntriesError} →
      (e ≡ OutOfMemory) ⊎ (form_refusal size indices (length leaves) (length proof) ≡ Some e) →
      Keeps hash size indices leaves proof root (Err e)
  form_kept {e} why = keeps (Err e) (elim why [
    | inl memory ↦ inl memory
    | inr some ↦
        inr (ap (λ (o : Option EntriesError). option_or o (first_some (unless (is_one_leaf_each (zip indices leaves))
        TwoLeafHashes ∷ paths_refusal hash size indices leaves proof root ∷ []))) some)
  ])
