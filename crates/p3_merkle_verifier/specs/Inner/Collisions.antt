-- The inputs of a level as an extraction compares them.
use Rattle.std.specs.Prelude.{◌≡◌, ℕ, List, [], ◌∷◌, Bool, Option, None, Some, if◌then◌else◌, option_map, zip}
use Rattle.p3_merkle_core.specs.Checks.{Input, digests_at, words_at, words_of_exponent}
use Rattle.p3_merkle_core.specs.Views.{inputs_in}
use Rattle.p3_merkle_core.specs.declared.collision.InputPair.{InputPair}
use Rattle.p3_merkle_core.specs.declared.collision.Place.TheVariants.{Group, Rows, Pair}
use Rattle.p3_support.specs.Batches.{heights_of}
use Rattle.p3_support.specs.Rows.{rows_in}
use Rattle.p3_merkle_verifier.specs.declared.extraction.RowPair.{RowPair}
use Rattle.p3_merkle_verifier.specs.declared.path.PathLevel.{PathLevel}

module _ {T W : Type 0} where
  -- what is found shows these two inputs, or there are none and nothing is found
  abbrev pub Shows : Option (InputPair T (List W)) → Option (Input T W × Input T W) → Type 0
  Shows found inputs = option_map inputs_in found ≡ inputs

  -- what is found is nothing where a test finds both inputs to be the same, else it shows them
  abbrev pub IsDifference : Option (InputPair T (List W)) → Bool → Input T W × Input T W → Type 0
  IsDifference found same inputs = Shows found (if same then None else Some inputs)

-- the words that the first of two openings has for the matrices of an exponent, row after row
abbrev pub first_words : {T : Type 0} → RowPair T → List T
first_words rows = words_of_exponent rows.exponent (zip (heights_of rows.dimensions.now) (rows_in rows.first))

-- the same of the second
abbrev pub second_words : {T : Type 0} → RowPair T → List T
second_words rows = words_of_exponent rows.exponent (zip (heights_of rows.dimensions.now) (rows_in rows.second))

-- the inputs of a level above its group: words and a pair, if there is one
abbrev pub inputs_above : {T W : Type 0} → ℕ → List T → Option (List (List W)) → List (Input T W)
inputs_above l words None = []
inputs_above l words (Some pair) = words_at (Rows l) words ∷ digests_at (Pair l) pair ∷ []

-- the inputs of level l, where these are the words of the matrices above it
abbrev pub level_inputs : {T W : Type 0} → ℕ → List T → PathLevel (List W) (List (List W)) → List (Input T W)
level_inputs l words level = digests_at (Group l) level.group ∷ inputs_above l words level.pair
