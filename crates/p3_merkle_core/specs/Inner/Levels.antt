-- What is known of a layer before it is built.
use Rattle.std.specs.Prelude.{◌≡◌, ℕ, suc, ◌*◌, ◌<◌, ◌≤◌}
use Rattle.p3_merkle_core.specs.Geometry.{Shape, heights, layer_exponent, step, raw_len, layer_len, levels, IsArity}
use Rattle.p3_merkle_core.specs.Geometry.{IsLawful, has_rows, height_at}
use Rattle.p3_merkle_core.specs.declared.layer_shape.LayerShape.{LayerShape}
use Rattle.p3_support.specs.Batches.{greatest}

-- layer l is below the top, with the exponent x and r nodes
pub record IsBelowTop (s : Shape) (l x r : ℕ) : Type 0 where
  pub arity : IsArity s.arity
  pub lawful : IsLawful (heights s)
  pub at_x : x ≡ layer_exponent s l
  pub at_raw : r ≡ raw_len s l
  pub in_tree : l < levels s

-- what is known of the layer above the layer v.below
pub record IsLevel (s : Shape) (v : LayerShape) : Type 0 where
  pub step_is : v.step ≡ step s v.below
  pub wide : 2 ≤ v.step
  pub narrow : v.step ≤ s.arity
  pub exponent_is : v.exponent ≡ layer_exponent s (suc v.below)
  pub raw_is : v.raw_len ≡ raw_len s (suc v.below)
  pub layer_len_is : v.layer_len ≡ layer_len s (suc v.below)
  pub height_is : v.height ≡ height_at (greatest (heights s)) (layer_exponent s (suc v.below))
  pub rows_are : v.has_rows ≡ has_rows s (suc v.below)
  pub fits : v.step * v.raw_len ≤ layer_len s v.below
