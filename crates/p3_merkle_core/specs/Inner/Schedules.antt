-- The steps of a tree, as they are stored level by level.
use Rattle.std.specs.Prelude.{◌≡◌, ◌≤◌, ℕ, suc, List, length, map, take}
use Rattle.std.specs.List.{range_with_len}
use Rattle.p3_support.specs.Batches.{greatest}
use Rattle.p3_merkle_core.specs.Geometry.{Shape, has_rows, heights, is_bridge, layer_exponent, levels}
use Rattle.p3_merkle_core.specs.Inner.Shapes.{shortest}
use Rattle.p3_merkle_core.specs.declared.schedule.LevelKind.{LevelKind}

-- of level l: whether its step is a bridge step, and whether matrices belong to the layer above it
abbrev pub level_step : Shape → ℕ → LevelKind
level_step s l = record { is_bridge = is_bridge s (layer_exponent s l); has_rows = has_rows s (suc l) }

-- what a walk over the steps keeps: the greatest and the least height, the exponent of the leaves, how many steps there
-- are, and each of them
pub record IsWalk (s : Shape) (max_height min_height exponent num_levels : ℕ) (of_level : List LevelKind) : Type 0 where
  pub wide : 2 ≤ s.arity
  pub tallest : max_height ≡ greatest (heights s)
  pub shortest : min_height ≡ shortest (heights s)
  pub leaves : exponent ≡ layer_exponent s 0
  pub whole : num_levels ≡ levels s
  pub few : num_levels ≤ 64
  pub long : length of_level ≡ 64
  pub kept : take num_levels of_level ≡ map (level_step s) (range_with_len 0 num_levels)
