-- Siblings.
use Rattle.std.specs.Prelude.{ℕ, ◌+◌, ◌-◌, ◌*◌, ◌/◌, ◌%◌}

-- the other child of a node's parent
abbrev pub sibling : ℕ → ℕ
sibling j = 2 * (j / 2) + (1 - j % 2)
