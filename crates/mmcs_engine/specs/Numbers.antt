-- Numbers in decimal.
use Rattle.std.specs.Prelude.{ℕ, ◌<◌, List}
use Rattle.std.specs.Str.Parse.{IsNumeral, digits_value}

-- one or more ASCII digits, of a value below the limit
pub record IsNumberBelow (limit : ℕ) (digits : List ℕ) : Type 0 where
  pub numeral : IsNumeral 10 digits
  pub below : digits_value 10 digits < limit
