-- Why matrices are not committed to, or an opening of them is refused.
use Rattle.std.specs.Prelude.{ℕ, List, Option}
use Rattle.std.specs.Option.{option_or}
use Rattle.p3_support.specs.Batches.{greatest, heights_of}
use Rattle.p3_support.specs.declared.matrix.Dimensions.{Dimensions}
use Rattle.p3_merkle_tree.specs.Gate.{gate_refusal}
use Rattle.p3_merkle_tree.specs.MerkleTreeError.{MerkleTreeError}
use Rattle.p3_merkle_tree.specs.Refusals.{queries_refusal}
use Rattle.p3_merkle_tree.specs.SaltRefusals.{salted_commit_refusal}

-- why matrices of these heights are not committed to, else why indices of them are not opened
abbrev pub open_refusal : List ℕ → List ℕ → Option MerkleTreeError
open_refusal heights indices = option_or (gate_refusal heights) (queries_refusal (greatest heights) indices)

-- the same of matrices of these dimensions with e salts for each row: heights, else widths, else the highest index
abbrev pub salted_open_refusal : ℕ → List Dimensions → List ℕ → Option MerkleTreeError
salted_open_refusal e dimensions indices =
    option_or (salted_commit_refusal e dimensions) (queries_refusal (greatest (heights_of dimensions)) indices)
