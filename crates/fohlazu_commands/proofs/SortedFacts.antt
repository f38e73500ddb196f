-- The entries of a proof by where they stand in its text, in any order and in that of their indices.
use Rattle.std.proofs.Common.{◌≡◌, ℕ, zero, suc, ◌+◌, ◌-◌, ◌<◌, ◌≤◌, List, [], ◌∷◌, ◌++◌, map, drop, length, get_or}
use Rattle.std.proofs.Common.{refl, ap, sym}
use Rattle.std.proofs.Common.{◌∙◌, arith, append_assoc, append-nil, drop_at, length-append, Option, None, Some, Ok, Err}
use Rattle.std.proofs.lemmas.List.{get_or-map, length-map, map-append}
use Rattle.std.proofs.lemmas.List.Sorted.{IsNonDecreasingBy-from_sort}
use Rattle.std.specs.List.Sorted.{IsPermutation, IsSorted}
use Rattle.std.specs.Option.{option_map_or}
use Rattle.std.specs.Ordering.{is_lt, nat_cmp, ordering_then}
use Rattle.std.specs.Prelude.{false}
use Rattle.std.specs.Result.{result_ok}
use Rattle.std.specs.declared.cmp.Ordering.{Ordering}
use Rattle.std.specs.declared.cmp.Ordering.TheVariants.{Less, Equal, Greater}
use Rattle.sha2.specs.Sha256.{sha256}
use Rattle.tlog.specs.Rfc9162.{leaf_hash}
use Rattle.tlog_multiproof.specs.Ascending.{IsAscending}
use Rattle.tlog_multiproof.specs.Entries.{entries_refusal}
use Rattle.tlog_multiproof.proofs.Permuted.{permuted}
use Rattle.tlog_text.specs.InPlace.{entries_from}
use Rattle.tlog_text.specs.Reading.{Reads, entry_by}
use Rattle.tlog_text.specs.Texts.{EntryFields, entry_lines}
use Rattle.tlog_text.proofs.InPlaceFacts.{from_goes_on, next_from, none_from}
use Rattle.tlog_text.proofs.ProofLaws.{entry_spelled}
use Rattle.fohlazu_commands.specs.Inner.{ArePlaces, index_of, leaf_at}

-- ---- how many

-- the entries that begin with what is read of one, if anything is
length_after : (n : ℕ) (o : Option (EntryFields × List ℕ)) →
    ((rest : List ℕ) → length (entries_from rest n) ≤ n) →
    length (option_map_or (λ (read : EntryFields × List ℕ). read.0 ∷ entries_from read.1 n) o []) ≤ suc n
length_after n None others = omega arith
length_after n (Some read) others = let few = others read.1 in omega (arith, few)

-- there are no more entries than a text is said to have
pub length_from : (left : List ℕ) (n : ℕ) → length (entries_from left n) ≤ n
length_from left zero = rw (none_from left) (omega arith)
length_from left (suc n) =
    rw (next_from left n (result_ok (entry_by left)) refl)
    (length_after n (result_ok (entry_by left)) (λ rest. length_from rest n))

-- ---- entry by entry

-- what is said of an entry
abbrev pub number_at : EntryFields → ℕ
number_at e = e.number - 1

abbrev pub hash_at : EntryFields → List ℕ
hash_at e = leaf_hash sha256 e.bytes

-- the places of the entries so far, where `left` is left of the text, and so many entries at most
pub record ArePlacesSoFar (text : List ℕ) (count : ℕ) (left : List ℕ) (more : ℕ) (places : List (ℕ × ℕ)) : Type 0 where
  pub front : (done : List ℕ) × (text ≡ done ++ left)
  pub indices : map index_of places ++ map number_at (entries_from left more) ≡ map number_at (entries_from text count)
  pub leaves : map (leaf_at text) places ++ map hash_at (entries_from left more) ≡ map hash_at (entries_from text count)

pub none_yet : (text : List ℕ) (count : ℕ) (places : List (ℕ × ℕ)) → places ≡ [] →
    ArePlacesSoFar text count text (count - 0) places
none_yet text count places is =
    let all : count - 0 ≡ count = omega arith in
    rw (is, all) (record { front = ([], refl); indices = refl; leaves = refl })

-- an entry that is read
ok_from : (o : Reads EntryFields) (e : EntryFields) (rest : List ℕ) → Some (e, rest) ≡ result_ok o → o ≡ Ok (e, rest)
ok_from (Ok read) e rest is = let same : (e, rest) ≡ read = cc in ap Ok (sym same)
ok_from (Err stop) e rest is = cc

-- one entry more
pub one_more : (text : List ℕ) (count : ℕ) (left : List ℕ) (i : ℕ) (places new : List (ℕ × ℕ)) (e : EntryFields)
    (rest : List ℕ) → i < count → Some (e, rest) ≡ result_ok (entry_by left) →
    ArePlacesSoFar text count left (count - i) places →
    new ≡ places ++ (e.number - 1, length text - length left) ∷ [] →
    ArePlacesSoFar text count rest (count - (i + 1)) new
one_more text count left i places new e rest more is w added =
    let place = length text - length left in
    let (done, split) = w.front in
    let at : place ≡ length done = omega (arith, ap length split, length-append done left) in
    let here : drop place text ≡ left = rw (at, split) (drop_at done left (length done) refl) in
    let (spelled, parts) = (entry_spelled left).only (e, rest) (ok_from (entry_by left) e rest is) in
    let next = from_goes_on left (count - i) e rest (omega arith) is in
    let fewer : count - i - 1 ≡ count - (i + 1) = omega arith in
    let all : entries_from left (count - i) ≡ e ∷ entries_from rest (count - (i + 1)) = rw fewer at next in
    let leaf : leaf_at text (e.number - 1, place) ≡ hash_at e =
    ap (λ (xs : List ℕ). leaf_hash sha256 (option_map_or (λ (read : EntryFields × List ℕ). read.0.bytes)
    (result_ok (entry_by xs)) [])) here ∙ ap (λ o. leaf_hash sha256 (option_map_or
    (λ (read : EntryFields × List ℕ). read.0.bytes) o [])) (sym is) in
    record {
      front = (
        done ++ entry_lines e,
        split ∙ ap (λ xs. done ++ xs) parts ∙ sym (append_assoc done (entry_lines e) rest),
      );
      indices = ap (λ ps. map index_of ps ++ map number_at (entries_from rest (count - (i + 1)))) added
          ∙ ap (λ xs. xs ++ map number_at (entries_from rest (count - (i + 1))))
          (map-append index_of places ((e.number - 1, place) ∷ []))
          ∙ append_assoc (map index_of places) ((e.number - 1) ∷ [])
          (map number_at (entries_from rest (count - (i + 1))))
          ∙ ap (λ es. map index_of places ++ map number_at es) (sym all) ∙ w.indices;
      leaves = ap (λ ps. map (leaf_at text) ps ++ map hash_at (entries_from rest (count - (i + 1)))) added
          ∙ ap (λ xs. xs ++ map hash_at (entries_from rest (count - (i + 1))))
          (map-append (leaf_at text) places ((e.number - 1, place) ∷ []))
          ∙ append_assoc (map (leaf_at text) places) (leaf_at text (e.number - 1, place) ∷ [])
          (map hash_at (entries_from rest (count - (i + 1))))
          ∙ ap (λ h. map (leaf_at text) places ++ h ∷ map hash_at (entries_from rest (count - (i + 1)))) leaf
          ∙ ap (λ es. map (leaf_at text) places ++ map hash_at es) (sym all) ∙ w.leaves;
    }

-- no more entries
pub no_more : (text : List ℕ) (count : ℕ) (left : List ℕ) (more : ℕ) (places : List (ℕ × ℕ)) →
    entries_from left more ≡ [] → ArePlacesSoFar text count left more places →
    ArePlaces text (entries_from text count) places
no_more text count left more places none w = record {
  indices = sym (append-nil (map index_of places)) ∙ ap (λ es. map index_of places ++ map number_at es) (sym none)
      ∙ w.indices;
  leaves = sym (append-nil (map (leaf_at text) places))
      ∙ ap (λ es. map (leaf_at text) places ++ map hash_at es) (sym none) ∙ w.leaves;
}

-- ---- in order

-- no sort by a first key and a second puts a lower first key after a higher one
first_key : (o p : Ordering) → is_lt (ordering_then o p) ≡ false → is_lt o ≡ false
first_key Less p h = h
first_key Equal p h = refl
first_key Greater p h = refl

-- a sort leaves the indices in ascending order
pub sorted_ascends : (sorted : List (ℕ × ℕ)) →
    IsSorted (λ x y. ordering_then (nat_cmp x.0 y.0) (nat_cmp x.1 y.1)) sorted → IsAscending (map index_of sorted)
sorted_ascends sorted up i j le inside =
    let d : ℕ × ℕ = (0, 0) in
    let len = length-map sorted index_of in
    let within : j < length sorted = omega arith in
    let below = IsNonDecreasingBy-from_sort index_of sorted
    (λ k d low high. first_key (nat_cmp (get_or sorted (k + 1) d).0 (get_or sorted k d).0)
    (nat_cmp (get_or sorted (k + 1) d).1 (get_or sorted k d).1) (up k d low high)) i j d le within in
    rw (get_or-map index_of sorted i d 0 (omega arith), get_or-map index_of sorted j d 0 within) below

-- the verifier refuses sorted entries as it refuses those of the proof
pub sorted_refusal : (size : ℕ) (text : List ℕ) (entries : List EntryFields) (places sorted : List (ℕ × ℕ))
    (digests : List (List ℕ)) (root : List ℕ) → ArePlaces text entries places → IsPermutation places sorted →
    entries_refusal sha256 size (map index_of sorted) (map (leaf_at text) sorted) digests root
    ≡ entries_refusal sha256 size (map number_at entries) (map hash_at entries) digests root
sorted_refusal size text entries places sorted digests root are moved =
    sym (permuted sha256 size index_of (leaf_at text) places sorted digests root moved)
    ∙ ap (λ indices. entries_refusal sha256 size indices (map (leaf_at text) places) digests root) are.indices
    ∙ ap (λ leaves. entries_refusal sha256 size (map number_at entries) leaves digests root) are.leaves
