-- The trees of RFC 9162 and its two verifiers, as sections 2.1.1 to 2.1.4 write them. A byte string is a list of bytes,
-- and what the standard writes as || is ++. The hash function is open: `verify_inclusion` and `verify_consistency` take
-- SHA-256.
use Rattle.std.specs.Prelude.{ℕ, zero, suc, ◌-◌, ◌*◌, ◌/◌, ◌%◌, ◌^◌, ◌==◌, nat_lt, nat_le, Bool, true, false, ◌||◌}
use Rattle.std.specs.Prelude.{List, [], ◌∷◌, ◌++◌, length, take, drop, Option, Some, None}
use Rattle.std.specs.Int.{w64, trailing_zeros, trailing_ones, is_power_of_two}

-- a hash function: of a byte string
abbrev pub Hash : Type 0
Hash = List ℕ → List ℕ

-- ---- 2.1.1, trees

-- the hash of a leaf: HASH(0x00 || d)
abbrev pub leaf_hash : Hash → List ℕ → List ℕ
leaf_hash hash entry = hash (0 ∷ entry)

-- the hash of a node: HASH(0x01 || left || right)
abbrev pub node_hash : Hash → List ℕ → List ℕ → List ℕ
node_hash hash left right = hash (1 ∷ (left ++ right))

-- k, doubled as long as it then still is smaller than n
unfoldable pub doubled : ℕ → ℕ → ℕ → ℕ
doubled zero k n = k
doubled (suc times) k n = elim (nat_lt (2 * k) n) [ true ↦ doubled times (2 * k) n | false ↦ k ]

-- the largest power of two smaller than n, for n > 1
abbrev pub split : ℕ → ℕ
split n = doubled n 1 n

-- MTH(D): of no entry HASH(), of one its leaf hash, of more HASH(0x01 || MTH(D[0:k]) || MTH(D[k:n])), k being the
-- largest power of two smaller than n. `leaf` is the leaf hash of an entry. No tree is deeper than it has entries.
unfoldable pub mth_within : {X : Type 0} → ℕ → Hash → (X → List ℕ) → List X → List ℕ
mth_within depth hash leaf [] = hash []
mth_within depth hash leaf (d ∷ []) = leaf d
mth_within zero hash leaf (d ∷ (e ∷ rest)) = []
mth_within (suc depth) hash leaf (d ∷ (e ∷ rest)) =
    let k = split (length (d ∷ (e ∷ rest))) in
    node_hash hash (mth_within depth hash leaf (take k (d ∷ (e ∷ rest))))
    (mth_within depth hash leaf (drop k (d ∷ (e ∷ rest))))

abbrev pub mth : {X : Type 0} → Hash → (X → List ℕ) → List X → List ℕ
mth hash leaf entries = mth_within (length entries) hash leaf entries

-- ---- 2.1.3.1, inclusion proofs

-- PATH(m, D): of one entry nothing; of more PATH(m, D[0:k]) : MTH(D[k:n]) for m < k, else
-- PATH(m - k, D[k:n]) : MTH(D[0:k])
unfoldable pub path_within : {X : Type 0} → ℕ → Hash → (X → List ℕ) → ℕ → List X → List (List ℕ)
path_within depth hash leaf m [] = []
path_within depth hash leaf m (d ∷ []) = []
path_within zero hash leaf m (d ∷ (e ∷ rest)) = []
path_within (suc depth) hash leaf m (d ∷ (e ∷ rest)) =
    let k = split (length (d ∷ (e ∷ rest))) in
    elim (nat_lt m k) [
      | true ↦ path_within depth hash leaf m (take k (d ∷ (e ∷ rest))) ++ mth hash leaf (drop k (d ∷ (e ∷ rest))) ∷ []
      | false ↦
          path_within depth hash leaf (m - k) (drop k (d ∷ (e ∷ rest))) ++ mth hash leaf (take k (d ∷ (e ∷ rest))) ∷ []
    ]

abbrev pub path : {X : Type 0} → Hash → (X → List ℕ) → ℕ → List X → List (List ℕ)
path hash leaf m entries = path_within (length entries) hash leaf m entries

-- ---- 2.1.4.1, consistency proofs

-- SUBPROOF(m, D, b): for m = n nothing if b, else MTH(D); for m < n SUBPROOF(m, D[0:k], b) : MTH(D[k:n]) if m <= k,
-- else SUBPROOF(m - k, D[k:n], false) : MTH(D[0:k])
unfoldable pub subproof_within : {X : Type 0} → ℕ → Hash → (X → List ℕ) → ℕ → List X → Bool → List (List ℕ)
subproof_within zero hash leaf m entries b = []
subproof_within (suc depth) hash leaf m entries b =
    elim (m == length entries) [
      | true ↦ elim b [ true ↦ [] | false ↦ mth hash leaf entries ∷ [] ]
      | false ↦
          let k = split (length entries) in
          elim (nat_le m k) [
            | true ↦ subproof_within depth hash leaf m (take k entries) b ++ mth hash leaf (drop k entries) ∷ []
            | false ↦
                subproof_within depth hash leaf (m - k) (drop k entries) false ++ mth hash leaf (take k entries) ∷ []
          ]
    ]

abbrev pub subproof : {X : Type 0} → Hash → (X → List ℕ) → ℕ → List X → Bool → List (List ℕ)
subproof hash leaf m entries b = subproof_within (length entries) hash leaf m entries b

-- PROOF(m, D), for 0 < m < n: SUBPROOF(m, D, true)
abbrev pub consistency_proof : {X : Type 0} → Hash → (X → List ℕ) → ℕ → List X → List (List ℕ)
consistency_proof hash leaf m entries = subproof hash leaf m entries true

-- ---- the same of entries that are byte strings

-- MTH(D)
abbrev pub root_of : Hash → List (List ℕ) → List ℕ
root_of hash entries = mth hash (leaf_hash hash) entries

-- PATH(m, D)
abbrev pub path_of : Hash → ℕ → List (List ℕ) → List (List ℕ)
path_of hash m entries = path hash (leaf_hash hash) m entries

-- SUBPROOF(m, D, b)
abbrev pub subproof_of : Hash → ℕ → List (List ℕ) → Bool → List (List ℕ)
subproof_of hash m entries b = subproof hash (leaf_hash hash) m entries b

-- PROOF(m, D)
abbrev pub proof_of : Hash → ℕ → List (List ℕ) → List (List ℕ)
proof_of hash m entries = consistency_proof hash (leaf_hash hash) m entries

-- ---- 2.1.3.2, verifying inclusion; fn and sn are below 2^64

-- whether LSB(fn) is set, or fn is equal to sn: then a value of the path is a left sibling
abbrev pub is_left : ℕ → ℕ → Bool
is_left fn sn = (fn % 2 == 1) || (fn == sn)

-- 4: each value p of the path in turn. None if the iteration stops, since sn is 0 before a value; else sn and r, when
-- all values are used. Where p is a left sibling, fn and sn are right-shifted until LSB(fn) is set; fn is not 0 there,
-- the standard's other stop. After each value both are right-shifted once.
unfoldable pub inclusion_walk : Hash → List (List ℕ) → ℕ → ℕ → List ℕ → Option (ℕ × List ℕ)
inclusion_walk hash [] fn sn r = Some (sn, r)
inclusion_walk hash (p ∷ path) fn sn r = elim (sn == 0) [
  | true ↦ None
  | false ↦ elim (is_left fn sn) [
    | true ↦ let z = trailing_zeros w64 fn in
        inclusion_walk hash path (fn / 2 ^ z / 2) (sn / 2 ^ z / 2) (node_hash hash p r)
    | false ↦ inclusion_walk hash path (fn / 2) (sn / 2) (node_hash hash r p)
  ]
]

-- 2, 3: fn is the index, sn the size less 1, r the leaf hash. The proof of an index below the size (1) is accepted
-- exactly if the end is 0 and the root (5).
abbrev pub inclusion_end : Hash → ℕ → ℕ → List ℕ → List (List ℕ) → Option (ℕ × List ℕ)
inclusion_end hash index size leaf path = inclusion_walk hash path index (size - 1) leaf

-- ---- 2.1.4.2, verifying consistency, for 0 < first < second

-- 6: each further value c of the path in turn, as for inclusion; at the end sn, fr and sr
unfoldable pub consistency_walk : Hash → List (List ℕ) → ℕ → ℕ → List ℕ → List ℕ → Option (ℕ × List ℕ × List ℕ)
consistency_walk hash [] fn sn fr sr = Some (sn, fr, sr)
consistency_walk hash (c ∷ path) fn sn fr sr = elim (sn == 0) [
  | true ↦ None
  | false ↦ elim (is_left fn sn) [
    | true ↦ let z = trailing_zeros w64 fn in
        consistency_walk hash path (fn / 2 ^ z / 2) (sn / 2 ^ z / 2) (node_hash hash c fr) (node_hash hash c sr)
    | false ↦ consistency_walk hash path (fn / 2) (sn / 2) fr (node_hash hash sr c)
  ]
]

-- 3 to 5: fn is first - 1 and sn second - 1, both right-shifted until LSB(fn) is not set; fr and sr are the first value
abbrev pub consistency_from : Hash → ℕ → ℕ → List ℕ → List (List ℕ) → Option (ℕ × List ℕ × List ℕ)
consistency_from hash first second value path =
    let t = trailing_ones w64 (first - 1) in
    consistency_walk hash path ((first - 1) / 2 ^ t) ((second - 1) / 2 ^ t) value value

-- 1, 2: an empty path fails, here by an sn that is not 0; if first is an exact power of 2, the first root is put before
-- the path. The proof is accepted exactly if the end is 0 and both roots (7).
abbrev pub consistency_end : Hash → ℕ → ℕ → List ℕ → List (List ℕ) → Option (ℕ × List ℕ × List ℕ)
consistency_end hash first second first_root [] = Some (second, [], [])
consistency_end hash first second first_root (c ∷ path) = elim (is_power_of_two first) [
  | true ↦ consistency_from hash first second first_root (c ∷ path)
  | false ↦ consistency_from hash first second c path
]
