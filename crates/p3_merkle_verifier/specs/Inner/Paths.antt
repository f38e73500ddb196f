-- What the check of an opening reads.
use Rattle.std.specs.Prelude.{◌≡◌, ◌≤◌, ℕ}
use Rattle.p3_merkle_core.specs.Geometry.{Shape, IsArity, levels}
use Rattle.p3_merkle_core.specs.Checks.{siblings_below}

-- openings are checked up to this layer of a shape
pub record CanCheck (s : Shape) (layer : ℕ) : Type 0 where
  pub arity : IsArity s.arity
  pub in_tree : layer ≤ levels s

-- the path of an opening has its siblings up to this layer, which the tree has
pub record CanReach (s : Shape) (layer count : ℕ) : Type 0 where
  pub arity : IsArity s.arity
  pub in_tree : layer ≤ levels s
  pub all_siblings : count ≡ siblings_below s layer
