-- Which heights are refused, and how.
use Rattle.std.specs.Prelude.{ℕ, ◌==◌, nat_lt, not, if◌then◌else◌, List, Option, Some, None, find, position}
use Rattle.std.specs.Prelude.{slice_index}
use Rattle.p3_merkle_core.specs.Geometry.{height_limit, expected_height, bits_reduced}
use Rattle.p3_support.specs.Batches.{greatest}
use Rattle.p3_merkle_core.specs.declared.error.MerkleTreeError.{MerkleTreeError}
use Rattle.p3_merkle_core.specs.declared.error.MerkleTreeError.TheVariants.{EmptyBatch, TooLarge, IncompatibleHeights}

-- the place of the first height above the limit
abbrev pub first_too_large : List ℕ → Option ℕ
first_too_large hs = position (λ h. nat_lt height_limit h) hs

-- the first height that is not the expected one, where m is the greatest
abbrev pub first_off_ladder : ℕ → List ℕ → Option ℕ
first_off_ladder m hs = find (λ h. not (h == expected_height m h)) hs

-- a height above the limit comes before a height off the ladder
abbrev pub height_refusal_of : ℕ → List ℕ → Option ℕ → Option ℕ → Option MerkleTreeError
height_refusal_of m hs (Some i) o = Some (TooLarge i (slice_index hs i))
height_refusal_of m hs None (Some h) = Some (IncompatibleHeights h m (expected_height m h) (bits_reduced m h))
height_refusal_of m hs None None = None

-- why the heights are refused, if they are: no height above 0, else the first height that is too large, else the
-- first off the ladder
abbrev pub gate_refusal : List ℕ → Option MerkleTreeError
gate_refusal hs =
    let m = greatest hs in
    if m == 0 then Some EmptyBatch else height_refusal_of m hs (first_too_large hs) (first_off_ladder m hs)
