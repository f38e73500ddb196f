-- Printed lines.
use Rattle.std.specs.Prelude.{ℕ, zero, suc, ◌/◌, ◌%◌, List, [], ◌∷◌, ◌++◌, length, flat_map, codes, decimal}
use Rattle.std.specs.Char.{digit_char}

-- a number in `width` digits of lower case hexadecimal
abbrev pub hex_word : ℕ → ℕ → List ℕ
hex_word zero word = []
hex_word (suc width) word = hex_word width (word / 16) ++ digit_char (word % 16) ∷ []

-- a digest in hexadecimal, word after word, and a line feed
abbrev pub hex_line : ℕ → List ℕ → List ℕ
hex_line width digest = flat_map (hex_word width) digest ++ 10 ∷ []

-- a line for each digest
abbrev pub hex_lines : ℕ → List (List ℕ) → List ℕ
hex_lines width digests = flat_map (hex_line width) digests

-- numbers in decimal, with one space between
abbrev pub spaced : List ℕ → List ℕ
spaced [] = []
spaced (word ∷ words) = decimal word ++ flat_map (λ w. 32 ∷ decimal w) words

-- a row of a matrix, and a line feed
abbrev pub row_line : List ℕ → List ℕ
row_line row = spaced row ++ 10 ∷ []

-- a label, a space, a number in decimal, and a line feed
abbrev pub labelled : List ℕ → ℕ → List ℕ
labelled label number = label ++ (32 ∷ (decimal number ++ 10 ∷ []))

-- the opening of an index: it, and a line for the row of each matrix
abbrev pub query_lines : ℕ → List (List ℕ) → List ℕ
query_lines index rows = labelled (codes "index") index ++ flat_map row_line rows

-- the count of digests, and a line for each
abbrev pub digest_lines : ℕ → List (List ℕ) → List ℕ
digest_lines width digests = labelled (codes "digests") (length digests) ++ hex_lines width digests

-- `ok` and the count of proof digests
abbrev pub ok_line : ℕ → List ℕ
ok_line count = labelled (codes "ok") count
