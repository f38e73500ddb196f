-- Verdicts on queries of pruned openings, each with its path: the index and the siblings.
use Rattle.std.specs.Prelude.{ℕ, Bool, List, [], Result, slice_index_or}
use Rattle.p3_support.specs.declared.matrix.Dimensions.{Dimensions}
use Rattle.p3_merkle_tree.specs.Checks.{Params}
use Rattle.p3_merkle_tree.specs.MerkleTreeError.{MerkleTreeError}
use Rattle.p3_merkle_tree.specs.Openings.{opening_of}
use Rattle.p3_merkle_tree.specs.Presented.{IsExactVerdict, presented}
use Rattle.p3_merkle_tree.specs.SaltedOpenings.{salted_of}
use Rattle.p3_merkle_tree.specs.SaltedPresented.{presented_salted}

-- the verdict on the rows of a query with a path
abbrev pub IsVerdictOn : {T W : Type 0} → (W → W → Bool) → Params T W → (cap : List (List W)) →
    (ℕ × List (List W)) × List (List T) → Result (Unit {0}) MerkleTreeError → Type 0
IsVerdictOn digest_eq c cap ((i, siblings), rows) verdict =
    IsExactVerdict (presented digest_eq c cap (opening_of i rows siblings)) verdict

-- the path, the rows and the salts of query k
abbrev pub query_at : {T W : Type 0} → List (ℕ × List (List W)) → List (List (List T)) → List (List (List T)) → ℕ →
    (ℕ × List (List W)) × (List (List T) × List (List T))
query_at paths rows salts k =
    (slice_index_or paths k (0, []), (slice_index_or rows k [], slice_index_or salts k []))

-- the verdict on the rows and the salts of a query with a path
abbrev pub IsSaltedVerdictOn : {T W : Type 0} → (W → W → Bool) → ℕ → List Dimensions → Params T W →
    (cap : List (List W)) → (ℕ × List (List W)) × (List (List T) × List (List T)) →
    Result (Unit {0}) MerkleTreeError → Type 0
IsSaltedVerdictOn digest_eq e dimensions c cap ((i, siblings), (rows, salts)) verdict =
    IsExactVerdict (presented_salted digest_eq e dimensions c cap (salted_of i rows salts siblings)) verdict
