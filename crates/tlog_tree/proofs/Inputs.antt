-- The hashes of inputs of one length, which lie one after another, are the parents of a layer.
use Rattle.std.proofs.Common.{◌≡◌, ℕ, zero, suc, ◌+◌, ◌-◌, ◌*◌, ◌/◌, ◌<◌, List, [], ◌∷◌, ◌++◌, length, map, take, drop}
use Rattle.std.proofs.Common.{get_or, refl, sym, ap, ◌∙◌, arith, append_assoc, length-append, ◌%◌}
use Rattle.std.proofs.Math.Nat.{add-mul, one-mul}
use Rattle.std.proofs.Math.Seq.{take-append_seam, drop-append-add}
use Rattle.std.proofs.lemmas.List.{append-nil, drop_more, get_or-map, length-map}
use Rattle.std.proofs.lemmas.List.FromFn.{fill_by_all}
use Rattle.std.proofs.lemmas.Simd.{map-map}
use Rattle.std.specs.List.{flat_map, range_with_len}
use Rattle.tlog.specs.Rfc9162.{Hash}
use Rattle.sha256_eights.specs.Messages.{message, messages}
use Rattle.tlog_tree.specs.Inner.Layers.{parents_of}
use Rattle.tlog_tree.proofs.Whole.{length-single, single, single_is}

-- a piece, from where it stands
piece : (n : ℕ) (xs : List (List ℕ)) → ((k : ℕ) → k < length xs → length (get_or xs k []) ≡ n) → (j : ℕ) →
    j < length xs → take n (drop (j * n) (flat_map (λ x. x) xs)) ≡ get_or xs j []
piece n [] each j below = absurd (omega arith)
piece n (x ∷ xs) each zero below =
    let first : length x ≡ n = each 0 (omega arith) in
    let none : 0 * n ≡ 0 = omega arith in
    ap (λ (i : ℕ). take n (drop i (x ++ flat_map (λ y. y) xs))) none
    ∙ ap (λ (m : ℕ). take m (x ++ flat_map (λ y. y) xs)) (sym first)
    ∙ take-append_seam x (flat_map (λ y. y) xs)
piece n (x ∷ xs) each (suc j) below =
    let first : length x ≡ n = each 0 (omega arith) in
    let past : suc j * n ≡ length x + j * n = omega (arith, first, add-mul 1 j n, one-mul n) in
    ap (λ (i : ℕ). take n (drop i (x ++ flat_map (λ y. y) xs))) past
    ∙ ap (take n) (drop-append-add x (flat_map (λ y. y) xs) (j * n))
    ∙ piece n xs (λ k h. each (suc k) (omega arith)) j (omega arith)

pub message_is : (n : ℕ) (xs : List (List ℕ)) → ((k : ℕ) → k < length xs → length (get_or xs k []) ≡ n) → (j : ℕ) →
    j < length xs → message n (flat_map (λ x. x) xs) j ≡ get_or xs j []
message_is n xs each j below =
    let span : (j + 1) * n - j * n ≡ n = omega (arith, add-mul j 1 n, one-mul n) in
    ap (λ (m : ℕ). take m (drop (j * n) (flat_map (λ x. x) xs))) span ∙ piece n xs each j below

-- so many pieces are so long
pub length-pieces : (n : ℕ) (xs : List (List ℕ)) → ((k : ℕ) → k < length xs → length (get_or xs k []) ≡ n) →
    length (flat_map (λ x. x) xs) ≡ n * length xs
length-pieces n [] each = omega arith
length-pieces n (x ∷ xs) each =
    let first : length x ≡ n = each 0 (omega arith) in
    let rest = length-pieces n xs (λ k h. each (suc k) (omega arith)) in
    let more : n * suc (length xs) ≡ n * length xs + n = omega arith in
    omega (arith, length-append x (flat_map (λ y. y) xs))

-- the hashes of the messages are those of the pieces
pub hashed_pieces : (n : ℕ) (hash : Hash) (xs : List (List ℕ)) →
    ((k : ℕ) → k < length xs → length (get_or xs k []) ≡ n) →
    map hash (messages n (length xs) (flat_map (λ x. x) xs)) ≡ map hash xs
hashed_pieces n hash xs each =
    let of = λ (k : ℕ). hash (message n (flat_map (λ x. x) xs) k) in
    map-map hash (message n (flat_map (λ x. x) xs)) (range_with_len 0 (length xs))
    ∙ sym (fill_by_all of (map hash xs) (length xs) [] (length-map xs hash)
    (λ k h. get_or-map hash xs k [] [] h ∙ ap hash (sym (message_is n xs each k h))))

-- the inputs of the hashes of a layer's parents
abbrev pub node_inputs : List (List ℕ) → List (List ℕ)
node_inputs [] = []
node_inputs (node ∷ []) = []
node_inputs (left ∷ (right ∷ rest)) = (1 ∷ (left ++ right)) ∷ node_inputs rest

-- these bytes, one input after another
abbrev pub flat_inputs : List (List ℕ) → List ℕ
flat_inputs layer = flat_map (λ x. x) (node_inputs layer)

length-inputs : (L : List (List ℕ)) → length (node_inputs L) ≡ length L / 2
length-inputs [] = refl
length-inputs (node ∷ []) = refl
length-inputs (left ∷ (right ∷ rest)) = let h = length-inputs rest in omega arith

each_input : (n : ℕ) (L : List (List ℕ)) → ((k : ℕ) → k < length L → length (get_or L k []) ≡ n) → (k : ℕ) →
    k < length (node_inputs L) → length (get_or (node_inputs L) k []) ≡ suc (n + n)
each_input n [] each k h = absurd (omega arith)
each_input n (node ∷ []) each k h = absurd (omega arith)
each_input n (left ∷ (right ∷ rest)) each zero h =
    let l : length left ≡ n = each 0 (omega arith) in
    let r : length right ≡ n = each 1 (omega arith) in
    omega (arith, length-append left right)
each_input n (left ∷ (right ∷ rest)) each (suc k) h =
    each_input n rest (λ i b. each (suc (suc i)) (omega arith)) k (omega arith)

hashed_inputs : (hash : Hash) (L : List (List ℕ)) → map hash (node_inputs L) ≡ parents_of hash L
hashed_inputs hash [] = refl
hashed_inputs hash (node ∷ []) = refl
hashed_inputs hash (left ∷ (right ∷ rest)) =
    ap (λ (nodes : List (List ℕ)). hash (1 ∷ (left ++ right)) ∷ nodes) (hashed_inputs hash rest)

pub length-flat : (n : ℕ) (L : List (List ℕ)) → ((k : ℕ) → k < length L → length (get_or L k []) ≡ n) →
    length (flat_inputs L) ≡ suc (n + n) * (length L / 2)
length-flat n L each =
    length-pieces (suc (n + n)) (node_inputs L) (each_input n L each)
    ∙ ap (λ (m : ℕ). suc (n + n) * m) (length-inputs L)

-- the inputs of the first i pairs
abbrev pub IsSoFar : List (List ℕ) → ℕ → List (List ℕ) → Type 0
IsSoFar L i inputs = inputs ++ node_inputs (drop (2 * i) L) ≡ node_inputs L

-- one more input
pub inputs_more : (L : List (List ℕ)) (i : ℕ) (inputs : List (List ℕ)) → 2 * i + 1 < length L → IsSoFar L i inputs →
    IsSoFar L (i + 1) (inputs ++ (1 ∷ (get_or L (2 * i) [] ++ get_or L (2 * i + 1) [])) ∷ [])
inputs_more L i inputs h is =
    let input = 1 ∷ (get_or L (2 * i) [] ++ get_or L (2 * i + 1) []) in
    let twice : 2 * i + 1 + 1 ≡ 2 * (i + 1) = omega arith in
    let one = drop_more L (2 * i) [] (omega arith) in
    let two = drop_more L (2 * i + 1) [] h in
    append_assoc inputs (input ∷ []) (node_inputs (drop (2 * (i + 1)) L))
    ∙ ap (λ (rest : List (List ℕ)). inputs ++ rest)
    (sym (ap node_inputs (one ∙ ap (λ (rest : List (List ℕ)). get_or L (2 * i) [] ∷ rest) two)
    ∙ ap (λ (j : ℕ). input ∷ node_inputs (drop j L)) twice))
    ∙ is

-- no input is left
pub inputs_end : (L : List (List ℕ)) (i : ℕ) (inputs : List (List ℕ)) → i ≡ length L / 2 → IsSoFar L i inputs →
    inputs ≡ node_inputs L
inputs_end L i inputs e is =
    sym (append-nil inputs) ∙ ap (λ (rest : List (List ℕ)). inputs ++ rest) (sym left) ∙ is
  where
    none : (M : List (List ℕ)) → length M ≡ length L % 2 → node_inputs M ≡ []
    none [] m = refl
    none (node ∷ []) m = refl
    none (left ∷ (right ∷ rest)) m = absurd (omega arith)

    left : node_inputs (drop (2 * i) L) ≡ []
    left = rw (single_is L i e) (none (single L) (length-single L))

-- the hashes of the inputs of a layer's nodes of n bytes are the parents
pub hashes_are_parents : (n m : ℕ) (hash : Hash) (L hashes : List (List ℕ)) (flat : List ℕ) →
    flat ≡ flat_inputs L → m ≡ length L / 2 →
    ((k : ℕ) → k < length L → length (get_or L k []) ≡ n) →
    hashes ≡ map hash (messages (suc (n + n)) m flat) → hashes ≡ parents_of hash L
hashes_are_parents n m hash L hashes flat same half each are =
    let len = length-inputs L in
    let many : m ≡ length (node_inputs L) = omega arith in
    are ∙ rw (same, many) (hashed_pieces (suc (n + n)) hash (node_inputs L) (each_input n L each)
    ∙ hashed_inputs hash L)
