-- What follows from the definitions, for every hash function. D is a list of entries, and k the split of its length.
use Rattle.std.specs.Prelude.{◌≡◌, ℕ, suc, ◌-◌, ◌^◌, ◌<◌, ◌≤◌, Bool, true, false, List, [], ◌∷◌, ◌++◌}
use Rattle.std.specs.Prelude.{length, take, drop, slice_index_or}
use Rattle.tlog.specs.Rfc9162.{Hash, leaf_hash, node_hash, path_of, proof_of, root_of, split, subproof_of}
use Rattle.tlog.specs.Verdicts.{IsConsistent, IsIncluded, size_limit}

-- ---- the definitions are the standard's equations

-- k is the largest power of two smaller than n
abbrev pub SplitIsLargest : Type 0
SplitIsLargest = (n : ℕ) → 1 < n → (j : ℕ) × (split n ≡ 2 ^ j) × (2 ^ j < n) × (n ≤ 2 ^ suc j)

-- MTH({}) = HASH(), MTH({d}) = HASH(0x00 || d), MTH(D) = HASH(0x01 || MTH(D[0:k]) || MTH(D[k:n]))
pub record RootIsAsWritten : Type 0 where
  pub none : (hash : Hash) → root_of hash [] ≡ hash []
  pub one : (hash : Hash) (d : List ℕ) → root_of hash (d ∷ []) ≡ leaf_hash hash d
  pub more : (hash : Hash) (D : List (List ℕ)) → 1 < length D → let k = split (length D) in
      root_of hash D ≡ node_hash hash (root_of hash (take k D)) (root_of hash (drop k D))

-- PATH(0, {d}) = {}, PATH(m, D) = PATH(m, D[0:k]) : MTH(D[k:n]) for m < k, else PATH(m - k, D[k:n]) : MTH(D[0:k])
pub record PathIsAsWritten : Type 0 where
  pub one : (hash : Hash) (d : List ℕ) → path_of hash 0 (d ∷ []) ≡ []
  pub left : (hash : Hash) (m : ℕ) (D : List (List ℕ)) → 1 < length D → let k = split (length D) in m < k →
      path_of hash m D ≡ path_of hash m (take k D) ++ root_of hash (drop k D) ∷ []
  pub right : (hash : Hash) (m : ℕ) (D : List (List ℕ)) → 1 < length D → let k = split (length D) in k ≤ m →
      m < length D → path_of hash m D ≡ path_of hash (m - k) (drop k D) ++ root_of hash (take k D) ∷ []

-- SUBPROOF(n, D, true) = {}, SUBPROOF(n, D, false) = {MTH(D)}, for m < n SUBPROOF(m, D, b) =
-- SUBPROOF(m, D[0:k], b) : MTH(D[k:n]) if m <= k, else SUBPROOF(m - k, D[k:n], false) : MTH(D[0:k])
pub record SubproofIsAsWritten : Type 0 where
  pub known : (hash : Hash) (D : List (List ℕ)) → 0 < length D → subproof_of hash (length D) D true ≡ []
  pub whole : (hash : Hash) (D : List (List ℕ)) → 0 < length D →
      subproof_of hash (length D) D false ≡ root_of hash D ∷ []
  pub left : (hash : Hash) (m : ℕ) (D : List (List ℕ)) (b : Bool) → 0 < m → m < length D →
      let k = split (length D) in m ≤ k →
      subproof_of hash m D b ≡ subproof_of hash m (take k D) b ++ root_of hash (drop k D) ∷ []
  pub right : (hash : Hash) (m : ℕ) (D : List (List ℕ)) (b : Bool) → m < length D → let k = split (length D) in k < m →
      subproof_of hash m D b ≡ subproof_of hash (m - k) (drop k D) false ++ root_of hash (take k D) ∷ []

-- ---- honest proofs are accepted

-- PATH(m, D) shows the leaf hash of D's entry m under MTH(D)
abbrev pub HonestIsIncluded : Type 0
HonestIsIncluded = (hash : Hash) (D : List (List ℕ)) (m : ℕ) → m < length D → length D ≤ size_limit →
    IsIncluded hash m (length D) (leaf_hash hash (slice_index_or D m [])) (path_of hash m D) (root_of hash D)

-- PROOF(m, D) leads from MTH(D[0:m]) to MTH(D), for 0 < m ≤ n; from no entries no digests do
pub record HonestIsConsistent : Type 0 where
  pub grown : (hash : Hash) (D : List (List ℕ)) (m : ℕ) → 0 < m → m ≤ length D → length D ≤ size_limit →
      IsConsistent hash m (length D) (proof_of hash m D) (root_of hash (take m D)) (root_of hash D)
  pub from_nothing : (hash : Hash) (D : List (List ℕ)) →
      IsConsistent hash 0 (length D) [] (root_of hash []) (root_of hash D)
