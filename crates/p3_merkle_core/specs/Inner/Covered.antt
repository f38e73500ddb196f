-- The covered nodes of a layer.
use Rattle.std.specs.Prelude.{◌≡◌, ◌≤◌, ℕ, List, filter}
use Rattle.std.specs.List.{range_with_len}
use Rattle.p3_support.specs.Batches.{greatest}
use Rattle.p3_merkle_core.specs.Geometry.{Shape, height_limit, heights, layer_exponent, layer_len}
use Rattle.p3_merkle_core.specs.Pruning.{CanQuery, is_covered, pruned_len}

-- the covered nodes of layer l, ascending
abbrev pub covered_at : Shape → List ℕ → ℕ → List ℕ
covered_at s queries l = filter (is_covered s queries l) (range_with_len 0 (layer_len s l))

-- the nodes that some queries cover on layer l, which has the exponent x, and how many boundary nodes are below it
pub record AreCovered (s : Shape) (queries : List ℕ) (l x : ℕ) (nodes : List ℕ) (below : ℕ) : Type 0 where
  pub queried : CanQuery s queries l
  pub low : greatest (heights s) ≤ height_limit
  pub nodes_are : nodes ≡ covered_at s queries l
  pub at_exponent : x ≡ layer_exponent s l
  pub boundary_is : below ≡ pruned_len s queries l
