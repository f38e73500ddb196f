-- Caps: which layer of a tree is the cap, by the scheme's rule.
use Rattle.std.specs.Prelude.{ℕ, min}
use Rattle.p3_merkle_core.specs.Geometry.{Shape, has_rows, layer_below_root, least, levels}
use Rattle.p3_merkle_core.specs.declared.cap.CapRule.{CapRule}
use Rattle.p3_merkle_core.specs.declared.cap.CapRule.TheVariants.{Lowered, Fixed}

-- how many levels are above the last layer to which a matrix belongs
abbrev pub levels_above_rows : Shape → ℕ
levels_above_rows s = least (λ k. has_rows s (layer_below_root s k)) (levels s)

-- the greatest cap height that a rule allows: under Fixed the number of levels, under Lowered the number of those above
-- the last layer to which a matrix belongs
abbrev pub max_cap_height : Shape → CapRule → ℕ
max_cap_height s Lowered = levels_above_rows s
max_cap_height s Fixed = levels s

-- the cap layer of a shape, a rule and a cap height: that many levels below the root, at most the greatest
-- cap height
abbrev pub cap_layer : Shape → CapRule → ℕ → ℕ
cap_layer s rule cap_height = layer_below_root s (min cap_height (max_cap_height s rule))
