-- Trees over matrices of one height h: each step is the arity n, and the leaves alone have rows.
use Rattle.std.specs.Prelude.{◌≡◌, ℕ, ◌-◌, ◌^◌, ◌<◌, nat_le, length, All}
use Rattle.std.specs.Int.{div_ceil}
use Rattle.p3_merkle_core.specs.Geometry.{Shape, least}

-- there are matrices, and each has the height h
pub record HasHeight (s : Shape) (h : ℕ) : Type 0 where
  pub some_matrix : 0 < length s.dimensions
  pub each : All (λ d. d.height ≡ h) s.dimensions

-- how many steps lead from the leaves to the root: the least L with n ^ L ≥ h
abbrev pub levels_of_height : ℕ → ℕ → ℕ
levels_of_height n h = least (λ k. nat_le h (n ^ k)) h

-- how many nodes layer l has, up to the root: h divided by n ^ l, rounded up
abbrev pub nodes_of_height : ℕ → ℕ → ℕ → ℕ
nodes_of_height n h l = div_ceil h (n ^ l)

-- the cap's layer, by both rules: cap_height levels below the root, or the leaves if there are fewer levels
abbrev pub cap_layer_of_height : ℕ → ℕ → ℕ → ℕ
cap_layer_of_height n h cap_height = levels_of_height n h - cap_height
