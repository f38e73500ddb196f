-- Exponents of layers, each with the next lower one that a matrix has.
use Rattle.std.specs.Prelude.{◌≡◌, ◌<◌, ◌==◌, if◌then◌else◌, ℕ, zero, suc, Bool, List, Option, None, Some}
use Rattle.std.specs.Int.{bit_at}
use Rattle.std.specs.List.{list_any}
use Rattle.p3_merkle_core.specs.Geometry.{exponent}
use Rattle.p3_merkle_core.specs.declared.schedule.Exponents.{Exponents}

-- whether a height has the exponent e
abbrev pub has_exponent : List ℕ → ℕ → Bool
has_exponent hs e = list_any (λ h. exponent h == e) hs

-- the greatest exponent below x that a height has, if there is one
abbrev pub next_lower_exponent : ℕ → List ℕ → Option ℕ
next_lower_exponent zero hs = None
next_lower_exponent (suc e) hs = if has_exponent hs e then Some e else next_lower_exponent e hs

-- they are a layer's, and the greatest one below it that one of these heights has, if there is one
pub record AreExponents (hs : List ℕ) (exponents : Exponents) : Type 0 where
  pub next_is : exponents.next_lower_exponent ≡ next_lower_exponent exponents.layer hs

-- bit e of bits is set exactly if a height has the exponent e, for each e below 64
pub record AreMarked (hs : List ℕ) (bits : ℕ) : Type 0 where
  pub marked : (e : ℕ) → e < 64 → (bit_at bits e == 1) ≡ has_exponent hs e
