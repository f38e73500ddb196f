-- What an input stands for.
use Rattle.std.specs.Prelude.{◌≡◌, ◌≢◌, ℕ, ◌+◌, ◌<◌, ◌==◌, ◌||◌, not, false, Bool, List, [], ◌∷◌, ◌++◌, map, filter}
use Rattle.std.specs.Prelude.{length, slice_index_or, All}
use Rattle.std.specs.List.{slice_split, list_all, AllZip}
use Rattle.std.specs.Str.Lines.{strip_carriage_return}
use Rattle.std.specs.Str.Parse.{digits_value}
use Rattle.p3_merkle_core.specs.Checks.{last_of}
use Rattle.mmcs_engine.specs.declared.fault.Fault.{Fault}
use Rattle.mmcs_engine.specs.declared.fault.Fault.TheVariants.{Number, Count}
use Rattle.mmcs_engine.specs.Numbers.{IsNumberBelow}

-- the longest runs of elements that do not pass
abbrev pub runs_between : {X : Type 0} → (X → Bool) → List X → List (List X)
runs_between p xs = filter (λ run. not (length run == 0)) (slice_split p xs)

-- the lines of an input: it is cut at each LF, less one CR at each piece's end
abbrev pub pieces_of : List ℕ → List (List ℕ)
pieces_of input = map strip_carriage_return (slice_split (λ b. b == 10) input)

-- a space or a tab
abbrev pub is_gap : ℕ → Bool
is_gap b = b == 32 || b == 9

-- spaces and tabs alone, or empty
abbrev pub is_blank : List ℕ → Bool
is_blank piece = list_all is_gap piece

-- the texts of a piece's numbers: the runs of its bytes that are neither space nor tab
abbrev pub numerals_of : List ℕ → List (List ℕ)
numerals_of piece = runs_between is_gap piece

-- the numbers of a piece
abbrev pub numbers_of : List ℕ → List ℕ
numbers_of piece = map (digits_value 10) (numerals_of piece)

-- the pieces are the rows of a matrix: each has numbers below the limit, and as many of them as the others
pub record IsMatrix (limit : ℕ) (block : List (List ℕ)) (rows : List (List ℕ)) : Type 0 where
  pub numbers : All (λ piece. All (IsNumberBelow limit) (numerals_of piece)) block
  pub rows_are : rows ≡ map numbers_of block
  pub one_length : (width : ℕ) × All (λ row. length row ≡ width) rows

-- lines stand for these matrices, each by its rows: the longest runs of lines that are not blank
abbrev pub AreLinesOf : ℕ → List (List ℕ) → List (List (List ℕ)) → Type 0
AreLinesOf limit lines matrices = AllZip (IsMatrix limit) (runs_between is_blank lines) matrices

-- the input stands for these matrices, of numbers below the limit
abbrev pub StandsFor : ℕ → List ℕ → List (List (List ℕ)) → Type 0
StandsFor limit input matrices = AreLinesOf limit (pieces_of input) matrices

-- the rows that lines end with: those after the last blank line
abbrev pub rows_at_end : List (List ℕ) → List (List ℕ)
rows_at_end lines = last_of [] (slice_split is_blank lines)

-- why a line does not go on with the rows above it: a part of it is no number below the limit, or else it has another
-- count of numbers than the first of these rows
abbrev pub IsLineFault : ℕ → List (List ℕ) → ℕ → List ℕ → Fault → Type 0
IsLineFault limit rows at line (Number number max) =
    (number ≡ at) × (max + 1 ≡ limit) × (All (IsNumberBelow limit) (numerals_of line) → ⊥)
IsLineFault limit rows at line (Count number expected got) =
    (number ≡ at) × (0 < length rows) × (expected ≡ length (numbers_of (slice_index_or rows 0 []))) ×
    (got ≡ length (numbers_of line)) × (got ≢ expected) × All (IsNumberBelow limit) (numerals_of line)
IsLineFault limit rows at line fault = ⊥

-- the error of the first faulty line, numbered from 1: the lines above it stand for matrices, and it does not go on
-- with the rows that they end with
pub record IsFirstFault (limit : ℕ) (lines : List (List ℕ)) (fault : Fault) : Type 0 where
  pub above : List (List ℕ)
  pub line : List ℕ
  pub below : List (List ℕ)
  pub cut : lines ≡ above ++ line ∷ below
  pub matrices : List (List (List ℕ))
  pub good : AreLinesOf limit above matrices
  pub full : is_blank line ≡ false
  pub fault_is : IsLineFault limit (rows_at_end above) (length above + 1) line fault
