-- Words that stand for numbers, what a scheme of words computes in numbers, and which arities are taken.
use Rattle.std.specs.Prelude.{◌≡◌, ℕ, ◌==◌, ◌||◌, Bool, List, [], ◌++◌, flat_map, map}
use Rattle.p3_merkle_core.specs.Nodes.{shape, Batch, Functions, Matrix}
use Rattle.p3_merkle_core.specs.Openings.{honest_rows, node_in}
use Rattle.p3_merkle_core.specs.Pruning.{boundary_by}
use Rattle.p3_merkle_core.specs.declared.cap.CapRule.{CapRule}
use Rattle.mmcs_engine.specs.declared.command.CapChoice.{CapChoice}
use Rattle.mmcs_engine.specs.declared.command.HashName.{HashName}
use Rattle.mmcs_engine.specs.Text.{digest_lines, query_lines}
use Rattle.mmcs_engine.specs.Args.{max_word}
use Rattle.mmcs_engine.specs.Program.{functions_of_hash, hex_digits}

-- whether a number is 2, 4 or 8
abbrev pub is_taken_arity : ℕ → Bool
is_taken_arity n = n == 2 || (n == 4 || n == 8)

-- a matrix, with the numbers of its words in their place
abbrev pub matrix_in_numbers : {T : Type 0} → (T → ℕ) → Matrix T → Matrix ℕ
matrix_in_numbers value m = record { height = m.height; width = m.width; row = λ j. map value (m.row j) }

-- a batch, with the numbers of its words in their place
abbrev pub batch_in_numbers : {T : Type 0} → (T → ℕ) → Batch T → Batch ℕ
batch_in_numbers value b = record { arity = b.arity; matrices = map (matrix_in_numbers value) b.matrices }

-- functions of words give words of the numbers that functions of numbers give
pub record ComputeAlike {T : Type 0} (value : T → ℕ) (f : Functions T T) (g : Functions ℕ ℕ) : Type 0 where
  pub hash : (words : List T) → map value (f.hash words) ≡ g.hash (map value words)
  pub compression : (digests : List (List T)) →
      map value (f.compression digests) ≡ g.compression (map (map value) digests)
  pub default_digest : map value f.default_digest ≡ g.default_digest

-- the opening of an index: it, and a line for the row of each matrix
abbrev pub opened_lines : {T : Type 0} → (T → ℕ) → Batch T → ℕ → List ℕ
opened_lines value b i = query_lines i (map (map value) (honest_rows b i))

-- what `open` prints for indices, with proof digests from the layers of a tree
abbrev pub opened_text : {T : Type 0} → (T → ℕ) → ℕ → Batch T → List (List (List T)) → List ℕ → ℕ → List ℕ
opened_text value digits b nodes indices t =
    flat_map (opened_lines value b) indices
    ++ digest_lines digits (map (map value) (boundary_by (node_in [] nodes) (shape b) indices t))

-- a scheme, by its functions, its cap height and its rule, is the one of a hash under a choice of a cap; and its words,
-- by their numbers, the greatest of them and their digits, are those of the hash
pub record IsSchemeOf {T : Type 0} (hash : HashName) (cap : CapChoice) (value : T → ℕ) (max digits : ℕ)
    (functions : Functions T T) (cap_height : ℕ) (rule : CapRule) : Type 0 where
  pub greatest_word : max ≡ max_word hash
  pub printed_digits : digits ≡ hex_digits hash
  pub alike : ComputeAlike value functions (functions_of_hash hash)
  pub same_height : cap_height ≡ cap.height
  pub same_rule : rule ≡ cap.rule
