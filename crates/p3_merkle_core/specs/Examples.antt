-- Words of the worked examples, and the functions by which they are worked out.
use Rattle.std.specs.Prelude.{ℕ, ◌+◌, ◌*◌, List, [], ◌∷◌, map, length, slice_index, nat_eq, Option, Result}
use Rattle.std.specs.List.{concat, enumerate_from, fold}
use Rattle.p3_merkle_core.specs.Geometry.{Shape, shape_of}
use Rattle.p3_merkle_core.specs.Nodes.{Batch, Functions, Matrix, functions_of}
use Rattle.p3_merkle_core.specs.Openings.{Opening}
use Rattle.p3_merkle_core.specs.Checks.{Input, Params}
use Rattle.p3_merkle_core.specs.Pruning.{PrunedOpening, pruned_of}
use Rattle.p3_merkle_core.specs.Extraction.{extraction}
use Rattle.p3_merkle_core.specs.Presented.{presented, presented_pruned}
use Rattle.p3_merkle_core.specs.declared.error.MerkleTreeError.{MerkleTreeError}

-- A hash and a compression to digests of one word, for work by hand. A row's digest d starts at 1, and each word x
-- makes it 31 * d + x. A compression's starts at 0, and each child x makes it 31 * d + x, and its place is added.
abbrev pub example : Functions ℕ ℕ
example = functions_of (λ row. fold (λ d x. 31 * d + x) 1 row ∷ [])
    (λ children. fold (λ d (place, x). 31 * d + x + place) 0 (enumerate_from 0 (concat children)) ∷ []) (0 ∷ [])

-- a shape of rows of one word
abbrev pub narrow : ℕ → List ℕ → Shape
narrow arity heights = shape_of arity (map (λ h. record { width = 1; height = h }) heights)

-- a matrix of one column
abbrev pub column : List ℕ → Matrix ℕ
column xs = record { height = length xs; width = 1; row = λ r. slice_index xs r ∷ [] }

-- the batch of an arity and matrices
abbrev pub batch : ℕ → List (Matrix ℕ) → Batch ℕ
batch arity matrices = record { arity = arity; matrices = matrices }

-- a pruned opening of indices, row sets and digests
abbrev pub pruned : List ℕ → List (List (List ℕ)) → List (List ℕ) → PrunedOpening ℕ ℕ
pruned indices rows digests = pruned_of indices rows digests

-- what is answered to two openings under a cap
abbrev pub extracts : Params ℕ ℕ → List (List ℕ) → Opening ℕ ℕ → Opening ℕ ℕ →
    Result (Option (ℕ × ℕ × (Input ℕ ℕ × Input ℕ ℕ))) MerkleTreeError
extracts c cap o u = extraction nat_eq nat_eq c (presented nat_eq c cap o) (presented nat_eq c cap u)

-- the same of two pruned openings
abbrev pub extracts_pruned : Params ℕ ℕ → List (List ℕ) → PrunedOpening ℕ ℕ → PrunedOpening ℕ ℕ →
    Result (Option (ℕ × ℕ × (Input ℕ ℕ × Input ℕ ℕ))) MerkleTreeError
extracts_pruned c cap p r = extraction nat_eq nat_eq c (presented_pruned nat_eq nat_eq c cap p)
    (presented_pruned nat_eq nat_eq c cap r)
