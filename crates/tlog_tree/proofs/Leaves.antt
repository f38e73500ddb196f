-- Entries that are hashed together with others.
use Rattle.std.proofs.Common.{◌≡◌, ℕ, suc, ◌+◌, ◌*◌, ◌<◌, ◌≤◌, List, [], ◌∷◌, ◌++◌, All, length, map, get_or, set, take}
use Rattle.std.proofs.Common.{sym, ap, ◌∙◌, arith, refl, subst, inl, inr}
use Rattle.std.proofs.lemmas.Bool.{cases_eq}
use Rattle.std.proofs.lemmas.List.{ext_get_or, get_or-map}
use Rattle.std.proofs.lemmas.List.{get_or-set_other, get_or-set_same, get_or-take, length-map, length-take-le}
use Rattle.std.proofs.lemmas.List.FromFn.{get_or-map-range_with_len, length-map-range_with_len, map-range_with_len_more}
use Rattle.std.proofs.lemmas.List.Sorted.{All-permutation, Contains-permutation}
use Rattle.std.specs.List.{flat_map, range_with_len}
use Rattle.std.specs.List.Sorted.{IsPermutation}
use Rattle.sha2.specs.Sha256.{padded_message, sha256}
use Rattle.tlog.specs.Rfc9162.{leaf_hash}
use Rattle.sha256_eights.proofs.Padding.{length-padded_message}
use Rattle.sha256_eights.specs.Messages.{message, messages}
use Rattle.tlog_tree.specs.Inner.Leaves.{AreHashes, Fills, IsHashed, IsOfLength, IsPlaceOf}
use Rattle.tlog_tree.proofs.Inputs.{hashed_pieces, length-pieces, message_is}

-- ---- places of entries

-- the length of an entry, and its index
abbrev pub place_of : List (List ℕ) → ℕ → ℕ × ℕ
place_of entries index = (length (get_or entries index []), index)

-- all places
abbrev pub places_of : List (List ℕ) → List (ℕ × ℕ)
places_of entries = map (place_of entries) (range_with_len 0 (length entries))

-- one more place
pub one_more_place : (E : List (List ℕ)) (i : ℕ) (places : List (ℕ × ℕ)) (entry : List ℕ) → entry ≡ get_or E i [] →
    places ≡ map (place_of E) (range_with_len 0 i) →
    places ++ (length entry, i) ∷ [] ≡ map (place_of E) (range_with_len 0 (i + 1))
one_more_place E i places entry is so_far =
    ap (λ (ps : List (ℕ × ℕ)). ps ++ (length entry, i) ∷ []) so_far
    ∙ ap (λ (e : List ℕ). map (place_of E) (range_with_len 0 i) ++ (length e, i) ∷ []) is
    ∙ sym (map-range_with_len_more (place_of E) 0 i i (omega arith))

-- sorted, once all are there
pub moved_places : (E : List (List ℕ)) (places sorted : List (ℕ × ℕ)) (n : ℕ) → n ≡ length E →
    places ≡ map (place_of E) (range_with_len 0 n) → IsPermutation places sorted → IsPermutation (places_of E) sorted
moved_places E places sorted n end are moved =
    let all = are ∙ ap (λ (k : ℕ). map (place_of E) (range_with_len 0 k)) end in
    subst (λ (ps : List (ℕ × ℕ)). IsPermutation ps sorted) all moved

place_at : (E : List (List ℕ)) (k : ℕ) (d : ℕ × ℕ) → k < length E → get_or (places_of E) k d ≡ place_of E k
place_at E k d h = get_or-map-range_with_len (place_of E) 0 (length E) k k d h (omega arith)

-- sorted places are those of entries
pub own_places : (E : List (List ℕ)) (sorted : List (ℕ × ℕ)) → IsPermutation (places_of E) sorted →
    All (λ (place : ℕ × ℕ). IsOfLength E place.0 place) sorted
own_places E sorted moved =
    let Own = λ (place : ℕ × ℕ). IsOfLength E place.0 place in
    All-permutation Own (places_of E) sorted moved (λ k d h.
    let inside : k < length E = omega (arith, length-map-range_with_len (place_of E) 0 (length E)) in
    subst Own (sym (place_at E k d inside)) (record { is = refl; within = inside; own = refl }))

-- where all places have their hashes, these are the leaf hashes of the entries
pub all_hashed : (E hashes : List (List ℕ)) (sorted : List (ℕ × ℕ)) → IsPermutation (places_of E) sorted →
    length hashes ≡ length E → All (λ (place : ℕ × ℕ). IsHashed E hashes place.1) sorted →
    hashes ≡ map (leaf_hash sha256) E
all_hashed E hashes sorted moved room hashed =
    ext_get_or [] hashes (map (leaf_hash sha256) E) (room ∙ sym (length-map E (leaf_hash sha256))) (λ i h.
    let inside : i < length E = omega (arith, room) in
    let (k, within, at) = Contains-permutation (places_of E) sorted (place_of E i) moved
    (i, omega (arith, length-map-range_with_len (place_of E) 0 (length E)), place_at E i (place_of E i) inside) in
    subst (λ (place : ℕ × ℕ). IsHashed E hashes place.1) at (hashed k (place_of E i) within)
    ∙ sym (get_or-map (leaf_hash sha256) E i [] [] inside))

-- the first places have the length of the first one
pub alike_places : (E : List (List ℕ)) (places : List (ℕ × ℕ)) (n : ℕ) → n ≤ length places →
    All (IsPlaceOf E) places →
    ((k : ℕ) (d : ℕ × ℕ) → k < n → (get_or places k d).0 ≡ (get_or places 0 (0, 0)).0) →
    All (IsOfLength E (get_or places 0 (0, 0)).0) (take n places)
alike_places E places n within own alike k d h =
    let below : k < n = omega (arith, length-take-le n places within) in
    let place = own k d (omega arith) in
    let is = alike k d below in
    rw (get_or-take n places k d below) (record { is = is; within = place.within; own = place.own ∙ is })

-- ---- a batch

-- the input of the leaf hash of the entry at a place
abbrev pub leaf_input : List (List ℕ) → ℕ × ℕ → List ℕ
leaf_input E place = 0 ∷ get_or E place.1 []

each_input : (E : List (List ℕ)) (len : ℕ) (batch : List (ℕ × ℕ)) → All (IsOfLength E len) batch → (k : ℕ) →
    k < length (map (leaf_input E) batch) → length (get_or (map (leaf_input E) batch) k []) ≡ suc len
each_input E len batch alike k h =
    let inside : k < length batch = omega (arith, length-map batch (leaf_input E)) in
    ap length (get_or-map (leaf_input E) batch k (0, 0) [] inside) ∙ ap suc ((alike k (0, 0) inside).own)

pub length-batch : (E : List (List ℕ)) (len n : ℕ) (batch : List (ℕ × ℕ)) (flat : List ℕ) →
    All (IsOfLength E len) batch → flat ≡ flat_map (λ x. x) (map (leaf_input E) batch) → n ≡ length batch →
    length flat ≡ suc len * n
length-batch E len n batch flat alike is many =
    ap length is ∙ length-pieces (suc len) (map (leaf_input E) batch) (each_input E len batch alike)
    ∙ ap (λ (m : ℕ). suc len * m) (length-map batch (leaf_input E) ∙ sym many)

-- its hashes
pub hashed_batch : (E : List (List ℕ)) (len n : ℕ) (batch : List (ℕ × ℕ)) (flat : List ℕ) (values : List (List ℕ)) →
    All (IsOfLength E len) batch → flat ≡ flat_map (λ x. x) (map (leaf_input E) batch) → n ≡ length batch →
    values ≡ map sha256 (messages (suc len) n flat) → AreHashes E batch values
hashed_batch E len n batch flat values alike is many are k d h =
    let inputs = map (leaf_input E) batch in
    let same : n ≡ length inputs = many ∙ sym (length-map batch (leaf_input E)) in
    let inside : k < length inputs = omega (arith, length-map batch (leaf_input E)) in
    let all : values ≡ map sha256 inputs =
    are ∙ rw (is, same) (hashed_pieces (suc len) sha256 inputs (each_input E len batch alike)) in
    ap (λ (vs : List (List ℕ)). get_or vs k []) all ∙ get_or-map sha256 inputs k [] [] inside
    ∙ ap sha256 (get_or-map (leaf_input E) batch k d [] h)

-- ---- eight

-- the input with its padding
abbrev pub padded_input : List (List ℕ) → ℕ × ℕ → List ℕ
padded_input E place = padded_message (leaf_input E place)

each_padded : (E : List (List ℕ)) (count : ℕ) (eight : List (ℕ × ℕ)) → All (IsPlaceOf E) eight →
    All (Fills count) eight → (k : ℕ) → k < length (map (padded_input E) eight) →
    length (get_or (map (padded_input E) eight) k []) ≡ 64 * count
each_padded E count eight own fill k h =
    let inside : k < length eight = omega (arith, length-map eight (padded_input E)) in
    let place = get_or eight k (0, 0) in
    ap length (get_or-map (padded_input E) eight k (0, 0) [] inside)
    ∙ length-padded_message (leaf_input E place)
    ∙ omega (arith, (own k (0, 0) inside).own, fill k (0, 0) inside)

pub length-eight : (E : List (List ℕ)) (count : ℕ) (eight : List (ℕ × ℕ)) (flat : List ℕ) → length eight ≡ 8 →
    All (IsPlaceOf E) eight → All (Fills count) eight → flat ≡ flat_map (λ x. x) (map (padded_input E) eight) →
    length flat ≡ 8 * (64 * count)
length-eight E count eight flat eights own fill is =
    ap length is ∙ length-pieces (64 * count) (map (padded_input E) eight) (each_padded E count eight own fill)
    ∙ ap (λ (m : ℕ). 64 * count * m) (length-map eight (padded_input E) ∙ eights)
    ∙ omega arith

-- each lies among the others
pub padded_at : (E : List (List ℕ)) (count : ℕ) (eight : List (ℕ × ℕ)) (flat : List ℕ) → All (IsPlaceOf E) eight →
    All (Fills count) eight → flat ≡ flat_map (λ x. x) (map (padded_input E) eight) → (k : ℕ) (d : ℕ × ℕ) →
    k < length eight → message (64 * count) flat k ≡ padded_input E (get_or eight k d)
padded_at E count eight flat own fill is k d h =
    let inside : k < length (map (padded_input E) eight) = omega (arith, length-map eight (padded_input E)) in
    ap (λ (xs : List ℕ). message (64 * count) xs k) is
    ∙ message_is (64 * count) (map (padded_input E) eight) (each_padded E count eight own fill) k inside
    ∙ get_or-map (padded_input E) eight k d [] h

-- ---- a hash is written

pub hashed_there : (E hashes : List (List ℕ)) (i : ℕ) (value : List ℕ) → i < length hashes →
    value ≡ leaf_hash sha256 (get_or E i []) → IsHashed E (set hashes i value) i
hashed_there E hashes i value inside is = get_or-set_same hashes i value [] inside ∙ is

pub stays_hashed : (E hashes : List (List ℕ)) (i : ℕ) (value : List ℕ) → i < length hashes →
    value ≡ leaf_hash sha256 (get_or E i []) → (j : ℕ) → IsHashed E hashes j → IsHashed E (set hashes i value) j
stays_hashed E hashes i value inside is j hashed =
    elim (cases_eq j i) as (λ _. IsHashed E (set hashes i value) j) [
      | inl same ↦
          subst (λ (k : ℕ). IsHashed E (set hashes i value) k) (sym same) (hashed_there E hashes i value inside is)
      | inr other ↦ get_or-set_other hashes i j value [] other ∙ hashed
    ]
