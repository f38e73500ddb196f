-- The lanes of packed values of eight lanes.
use Rattle.std.specs.Prelude.{ℕ, List}
use Rattle.p3_hashes.specs.declared.lanes.U32x8.{U32x8}

-- the lanes in order
abbrev pub lanes_of : U32x8 → List ℕ
lanes_of p = p.lanes
