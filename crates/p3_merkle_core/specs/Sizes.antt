-- How many digests proofs have: what is known before one is read.
use Rattle.std.specs.Prelude.{◌≡◌, ℕ, ◌*◌, ◌≤◌, List, length}
use Rattle.p3_merkle_core.specs.Geometry.{Shape, heights}
use Rattle.p3_merkle_core.specs.Checks.{siblings_below}
use Rattle.p3_merkle_core.specs.Refusals.{slots_below}
use Rattle.p3_support.specs.Batches.{greatest}

-- so few digests a pruned proof of some indices has, under the cap of layer t: at most as many as the openings of its
-- distinct indices have siblings, which are no more than the indices; and just these if they are one index
pub record IsFew (s : Shape) (indices : List ℕ) (t : ℕ) (count : ℕ) : Type 0 where
  pub distinct : count ≤ length (slots_below (greatest (heights s)) indices) * siblings_below s t
  pub all : count ≤ length indices * siblings_below s t
  pub one : length (slots_below (greatest (heights s)) indices) ≡ 1 → count ≡ siblings_below s t
