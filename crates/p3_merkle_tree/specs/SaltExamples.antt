-- Salted matrices, worked out by the functions of the core's `Examples`.
use Rattle.std.specs.Prelude.{◌≡◌, ℕ, List, [], ◌∷◌, length, map, slice_index, refl}
use Rattle.rand_core.specs.Stream.{Stream, next_u64}
use Rattle.p3_support.specs.Salts.{after_words, salts}
use Rattle.p3_merkle_core.specs.Geometry.{exponent, layer_exponent, raw_len}
use Rattle.p3_merkle_core.specs.Nodes.{Batch, layer, node}
use Rattle.p3_merkle_core.specs.Examples.{batch, column, example}
use Rattle.p3_merkle_tree.specs.Salted.{IsAfterSome, after_salts, salted_batch}

-- a stream of these words
abbrev words : List ℕ → Stream
words xs = record {
  u32_after = λ calls. 0;
  u64_after = λ calls. slice_index xs (length calls);
  bytes_after = λ calls n. [];
}

-- four of them
abbrev four_words : Stream
four_words = words (10 ∷ 20 ∷ 30 ∷ 40 ∷ [])

-- a matrix of one column and two rows
abbrev two_rows : Batch ℕ
two_rows = batch 2 (column (1 ∷ 2 ∷ []) ∷ [])

-- the word itself
abbrev whole : ℕ → ℕ
whole w = w

salts_of_two_words : salts whole 2 four_words ≡ 10 ∷ 20 ∷ []
unfolding next_u64
salts_of_two_words = refl

salts_after_two_words : salts whole 2 (after_words 2 four_words) ≡ 30 ∷ 40 ∷ []
unfolding next_u64
salts_after_two_words = refl

-- rows ascending, then the second matrix
rows_of_two_matrices :
    map (λ m. m.row 0 ∷ m.row 1 ∷ [])
    (salted_batch whole 2 (batch 2 (column (1 ∷ 2 ∷ []) ∷ column (3 ∷ 4 ∷ []) ∷ []))
    (words (10 ∷ 20 ∷ 30 ∷ 40 ∷ 50 ∷ 60 ∷ 70 ∷ 80 ∷ []))).matrices
    ≡ ((1 ∷ 10 ∷ 20 ∷ []) ∷ (2 ∷ 30 ∷ 40 ∷ []) ∷ []) ∷ ((3 ∷ 50 ∷ 60 ∷ []) ∷ (4 ∷ 70 ∷ 80 ∷ []) ∷ []) ∷ []
unfolding next_u64
rows_of_two_matrices = refl

leaves_of_salted_rows :
    layer example (salted_batch whole 1 two_rows four_words) 0 ≡ (1002 ∷ []) ∷ (1043 ∷ []) ∷ []
unfolding next_u64 exponent layer_exponent raw_len node
leaves_of_salted_rows = refl

root_of_salted_rows :
    layer example (salted_batch whole 1 two_rows four_words) 1 ≡ (32106 ∷ []) ∷ []
unfolding next_u64 exponent layer_exponent raw_len node
root_of_salted_rows = refl

-- the same rows, salted once more, take the next words
root_of_rows_salted_again :
    layer example (salted_batch whole 1 two_rows (after_salts 1 two_rows.matrices four_words)) 1
    ≡ (32746 ∷ []) ∷ []
unfolding next_u64 exponent layer_exponent raw_len node
root_of_rows_salted_again = refl

-- its leaf is the root
root_of_a_row_with_two_salts :
    layer example (salted_batch whole 2 (batch 2 (column (9 ∷ []) ∷ [])) (words (100 ∷ 101 ∷ []))) 0
    ≡ (41641 ∷ []) ∷ []
unfolding next_u64 exponent layer_exponent raw_len node
root_of_a_row_with_two_salts = refl

-- two rows with three salts each take six words, and the next matrix has taken none
after_the_first_of_two : (s : Stream) → IsAfterSome 3 (column (1 ∷ 2 ∷ []) ∷ column (3 ∷ []) ∷ []) s (after_words 6 s)
after_the_first_of_two s = (1, refl)
