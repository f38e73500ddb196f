-- The rows of a matrix so far.
use Rattle.std.specs.Prelude.{◌≡◌, ℕ, ◌<◌, false, List, [], length, flat_map, All}
use Rattle.mmcs_engine.specs.Numbers.{IsNumberBelow}
use Rattle.mmcs_engine.specs.Input.{is_blank, numerals_of, numbers_of}

-- the values of lines that are rows of numbers below the limit, of one width, which is 0 exactly of no lines
pub record IsBlock (limit : ℕ) (lines : List (List ℕ)) (values : List ℕ) (width : ℕ) : Type 0 where
  pub none_blank : All (λ line. is_blank line ≡ false) lines
  pub numbers : All (λ line. All (IsNumberBelow limit) (numerals_of line)) lines
  pub values_are : values ≡ flat_map numbers_of lines
  pub widths : All (λ line. length (numbers_of line) ≡ width) lines
  pub none_at_0 : width ≡ 0 → lines ≡ []
  pub some_above_0 : 0 < width → 0 < length lines
