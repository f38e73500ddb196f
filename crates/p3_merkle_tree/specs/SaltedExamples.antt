-- Salted openings and their refusals, worked out.
use Rattle.std.specs.Prelude.{◌≡◌, ◌^◌, ◌-◌, ℕ, List, [], ◌∷◌, refl, Some, None}
use Rattle.p3_support.specs.Batches.{widened}
use Rattle.p3_support.specs.declared.matrix.Dimensions.{Dimensions}
use Rattle.p3_merkle_core.specs.Geometry.{exponent}
use Rattle.p3_merkle_core.specs.declared.error.MerkleTreeError.TheVariants.{EmptyBatch}
use Rattle.p3_merkle_core.specs.declared.error.MerkleTreeError.TheVariants.{TooLarge, WrongBatchSize, WrongWidth}
use Rattle.p3_merkle_tree.specs.SaltRefusals.{salted_commit_refusal, salted_rows_refusal, salted_sets_refusal}
use Rattle.p3_merkle_tree.specs.SaltedOpenings.{salted_rows}
use Rattle.p3_merkle_tree.specs.Inner.SaltedParts.{salt_parts, unsalted_parts}

-- one matrix of this width and height
abbrev one : ℕ → ℕ → List Dimensions
one width height = record { width = width; height = height } ∷ []

rows_with_salts : salted_rows {T = ℕ} ((1 ∷ []) ∷ (2 ∷ 3 ∷ []) ∷ []) ((10 ∷ []) ∷ (20 ∷ []) ∷ [])
    ≡ (1 ∷ 10 ∷ []) ∷ (2 ∷ 3 ∷ 20 ∷ []) ∷ []
rows_with_salts = refl

rows_without_salts : unsalted_parts {T = ℕ} (1 ∷ 2 ∷ []) ((1 ∷ 10 ∷ []) ∷ (2 ∷ 3 ∷ 20 ∷ []) ∷ [])
    ≡ (1 ∷ []) ∷ (2 ∷ 3 ∷ []) ∷ []
rows_without_salts = refl

salts_of_rows : salt_parts {T = ℕ} (1 ∷ 2 ∷ []) ((1 ∷ 10 ∷ []) ∷ (2 ∷ 3 ∷ 20 ∷ []) ∷ []) ≡ (10 ∷ []) ∷ (20 ∷ []) ∷ []
salts_of_rows = refl

two_more_columns : widened 2 (one 4 8) ≡ one 6 8
two_more_columns = refl

-- a long row does not hide behind a short salt
long_row_with_no_salt : salted_rows_refusal {T = ℕ} 1 (one 1 2) ((1 ∷ 10 ∷ []) ∷ []) ([] ∷ []) ≡ Some (WrongWidth 0 1 2)
long_row_with_no_salt = refl

no_salts : salted_rows_refusal {T = ℕ} 1 (one 1 2) ((1 ∷ []) ∷ []) [] ≡ Some (WrongBatchSize 1 0)
no_salts = refl

-- how many salts a row has is seen by the check of rows with their salts
two_salts_pass_here : salted_rows_refusal {T = ℕ} 1 (one 1 2) ((1 ∷ []) ∷ []) ((10 ∷ 11 ∷ []) ∷ []) ≡ None
two_salts_pass_here = refl

salts_without_rows : salted_rows_refusal {T = ℕ} 1 [] [] ([] ∷ []) ≡ Some (WrongBatchSize 0 1)
salts_without_rows = refl

no_queries_of_a_wide_matrix : salted_sets_refusal {T = ℕ} 1 (one (2 ^ 64 - 1) 8) [] []
    ≡ Some (TooLarge 0 18446744073709551615)
no_queries_of_a_wide_matrix = refl

one_salt_set_of_two : salted_sets_refusal {T = ℕ} 1 (one 1 8) (((1 ∷ []) ∷ []) ∷ ((2 ∷ []) ∷ []) ∷ [])
    (((10 ∷ []) ∷ []) ∷ []) ≡ Some (WrongBatchSize 2 1)
one_salt_set_of_two = refl

salt_set_without_queries : salted_sets_refusal {T = ℕ} 1 (one 1 8) [] ([] ∷ []) ≡ Some (WrongBatchSize 0 1)
salt_set_without_queries = refl

-- heights are looked at before widths
no_matrices : salted_commit_refusal 1 [] ≡ Some EmptyBatch
no_matrices = refl

a_wide_matrix : salted_commit_refusal 1 (one (2 ^ 64 - 1) 1) ≡ Some (TooLarge 0 18446744073709551615)
unfolding exponent
a_wide_matrix = refl
