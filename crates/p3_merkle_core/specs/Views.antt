-- How the values of the code are read by the definitions.
use Rattle.std.specs.Prelude.{◌≡◌, ℕ, ◌<◌, List, [], map, nat_lt, if◌then◌else◌, Option, Result, option_map}
use Rattle.std.specs.Result.{result_map_both}
use Rattle.std.specs.declared.vec.Vec.{Vec}
use Rattle.p3_support.specs.Shown.{row_lists, row_sets}
use Rattle.p3_support.specs.declared.opening.BatchOpening.{BatchOpening}
use Rattle.p3_support.specs.declared.opening.BatchOpeningRef.{BatchOpeningRef}
use Rattle.p3_support.specs.Batches.{heights_of}
use Rattle.p3_merkle_core.specs.Nodes.{Batch, Matrix, dimensions_of}
use Rattle.p3_merkle_core.specs.Openings.{Opening, opening_of}
use Rattle.p3_merkle_core.specs.Checks.{Input, digests_at, words_at}
use Rattle.p3_merkle_core.specs.Pruning.{PrunedOpening, pruned_of}
use Rattle.p3_merkle_core.specs.declared.collision.InputPair.{InputPair}
use Rattle.p3_merkle_core.specs.declared.collision.InputPair.TheVariants.{Words, Digests}
use Rattle.p3_merkle_core.specs.declared.error.MerkleTreeError.{MerkleTreeError}
use Rattle.p3_merkle_core.specs.declared.pruning.AuthPath.{AuthPath}
use Rattle.p3_merkle_core.specs.declared.pruning.PrunedProof.{PrunedProof}
use Rattle.p3_merkle_core.specs.declared.pruning.PrunedRows.{PrunedRows}

-- ---- matrices

module _ {T M : Type 0} (height width : M → ℕ) (row : M → ℕ → List T) where
  -- a matrix, by what its type says of it; past its height its rows are empty
  abbrev pub matrix_of : M → Matrix T
  matrix_of m = record { height = height m; width = width m; row = λ j. if nat_lt j (height m) then row m j else [] }

  -- matrices in input order, under an arity
  abbrev pub batch_of : ℕ → List M → Batch T
  batch_of arity ms = record { arity = arity; matrices = map matrix_of ms }

  -- the heights of some matrices
  abbrev pub heights_in : List M → List ℕ
  heights_in ms = heights_of (dimensions_of (map matrix_of ms))

  -- another matrix has the height, the width and the rows of a matrix
  pub record ShowsTheSame (matrix other : M) : Type 0 where
    pub same_height : height other ≡ height matrix
    pub same_width : width other ≡ width matrix
    pub same_rows : (j : ℕ) → j < height matrix → row other j ≡ row matrix j

  -- each clone of a matrix has its height, width and rows
  abbrev pub ClonesShowTheSame : (M → M → Type 0) → M → Type 0
  ClonesShowTheSame is_clone matrix = (clone : M) → is_clone matrix clone → ShowsTheSame matrix clone

-- ---- openings

-- an opening of an index, by its own rows and siblings
abbrev pub opening_owned : {T W A : Type 0} → ℕ → BatchOpening T (Vec (List W) A) → Opening T W
opening_owned index opening = opening_of index (row_lists opening.opened_values.items) opening.opening_proof.items

-- an opening of an index, by borrowed rows and siblings
abbrev pub opening_borrowed : {T W A : Type 0} → ℕ → BatchOpeningRef T (Vec (List W) A) → Opening T W
opening_borrowed index opening = opening_of index (row_lists opening.opened_values.now) opening.opening_proof.now.items

-- a pruned opening of some indices, by its own row sets and digests
abbrev pub pruned_owned : {T W : Type 0} → List ℕ → PrunedRows T (List W) → PrunedOpening T W
pruned_owned indices opening =
    pruned_of indices (row_sets opening.opened_values.items) opening.pruned_proof.sibling_hashes.items

-- a pruned opening of some indices, by a pair of its own row sets and a proof
abbrev pub pruned_of_pair : {T W A B C : Type 0} → List ℕ → Vec (Vec (Vec T A) B) C × PrunedProof (List W) →
    PrunedOpening T W
pruned_of_pair indices opening = pruned_of indices (row_sets opening.0.items) opening.1.sibling_hashes.items

-- a pruned opening of some indices, by borrowed row sets and a borrowed proof
abbrev pub pruned_borrowed : {T W A B : Type 0} → List ℕ → List (Vec (Vec T A) B) → PrunedProof (List W) →
    PrunedOpening T W
pruned_borrowed indices rows proof = pruned_of indices (row_sets rows) proof.sibling_hashes.items

-- the rows and the siblings of an opening
abbrev pub shown_opening : {T X A : Type 0} → BatchOpening T (Vec X A) → List (List T) × List X
shown_opening opening = (row_lists opening.opened_values.items, opening.opening_proof.items)

-- the row sets and the digests of a pruned opening
abbrev pub shown_pruned : {T X : Type 0} → PrunedRows T X → List (List (List T)) × List X
shown_pruned opening = (row_sets opening.opened_values.items, opening.pruned_proof.sibling_hashes.items)

-- the leaf and the siblings of a path
abbrev pub shown_path : {X : Type 0} → AuthPath X → ℕ × List X
shown_path path = (path.leaf_index, path.siblings.items)

-- the leaf and the siblings of each of some paths
abbrev pub shown_paths : {X : Type 0} → List (AuthPath X) → List (ℕ × List X)
shown_paths paths = map shown_path paths

-- ---- collisions

-- the two inputs of a collision
abbrev pub inputs_in : {T W : Type 0} → InputPair T (List W) → Input T W × Input T W
inputs_in (Words place first second) = (words_at place first.items, words_at place second.items)
inputs_in (Digests place first second) = (digests_at place first.items, digests_at place second.items)

-- what is found in two openings of one index each: the first query of both, and the inputs of the collision
abbrev pub found_alone : {T W : Type 0} → Result (Option (InputPair T (List W))) MerkleTreeError →
    Result (Option (ℕ × ℕ × (Input T W × Input T W))) MerkleTreeError
found_alone result = result_map_both (λ found. option_map (λ pair. (0, 0, inputs_in pair)) found) (λ e. e) result

-- what is found in two openings of several indices: a query of each, and the inputs of the collision
abbrev pub found_pair : {T W : Type 0} → Result (Option (ℕ × ℕ × InputPair T (List W))) MerkleTreeError →
    Result (Option (ℕ × ℕ × (Input T W × Input T W))) MerkleTreeError
found_pair result = result_map_both (λ found. option_map (λ (a, b, pair). (a, b, inputs_in pair)) found) (λ e. e) result

-- two collisions are of one kind, at one place, with the same inputs
abbrev pub IsSamePair : {T X : Type 0} → InputPair T X → InputPair T X → Type 0
IsSamePair (Words p x y) (Words q z w) = (p ≡ q) × (x.items ≡ z.items) × (y.items ≡ w.items)
IsSamePair (Words p x y) (Digests q z w) = ⊥
IsSamePair (Digests p x y) (Words q z w) = ⊥
IsSamePair (Digests p x y) (Digests q z w) = (p ≡ q) × (x.items ≡ z.items) × (y.items ≡ w.items)
