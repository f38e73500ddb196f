-- Openings of one index, their refusals and collisions, worked out by the functions of `Examples`.
use Rattle.std.specs.Prelude.{◌≡◌, [], ◌∷◌, refl, Some, None, Ok, Err, nat_eq}
use Rattle.p3_merkle_core.specs.Geometry.{shape_of, exponent, layer_exponent, raw_len, leaves_under}
use Rattle.p3_merkle_core.specs.Nodes.{node, shape}
use Rattle.p3_merkle_core.specs.Openings.{honest_rows, opening_of, siblings_by}
use Rattle.p3_merkle_core.specs.Refusals.{refusal_under}
use Rattle.p3_merkle_core.specs.Checks.{digests_at, params, words_at, siblings_below, path_digest, inputs, check_digest}
use Rattle.p3_merkle_core.specs.Examples.{batch, column, narrow, example, extracts}
use Rattle.p3_merkle_core.specs.declared.collision.Place.TheVariants.{Leaf, Group, Rows, Pair}
use Rattle.p3_merkle_core.specs.declared.error.MerkleTreeError.TheVariants.{CapMismatch, IncompatibleHeights}
use Rattle.p3_merkle_core.specs.declared.error.MerkleTreeError.TheVariants.{IndexOutOfBounds, WrongBatchSize}
use Rattle.p3_merkle_core.specs.declared.error.MerkleTreeError.TheVariants.{WrongHeight, WrongWidth}

rows_of_index_2 : honest_rows (batch 2 (column (1 ∷ 2 ∷ 3 ∷ []) ∷ column (4 ∷ 5 ∷ []) ∷ [])) 2
    ≡ (3 ∷ []) ∷ (5 ∷ []) ∷ []
unfolding exponent
rows_of_index_2 = refl

siblings_of_index_2 : siblings_by (node example (batch 2 (column (1 ∷ 2 ∷ 3 ∷ 4 ∷ []) ∷ [])))
    (shape (batch 2 (column (1 ∷ 2 ∷ 3 ∷ 4 ∷ []) ∷ []))) 2 2 ≡ (35 ∷ []) ∷ (1026 ∷ []) ∷ []
unfolding exponent layer_exponent raw_len node leaves_under
siblings_of_index_2 = refl

siblings_beside_padding : siblings_by (node example (batch 2 (column (1 ∷ 2 ∷ 3 ∷ []) ∷ [])))
    (shape (batch 2 (column (1 ∷ 2 ∷ 3 ∷ []) ∷ []))) 2 2 ≡ (0 ∷ []) ∷ (1026 ∷ []) ∷ []
unfolding exponent layer_exponent raw_len node leaves_under
siblings_beside_padding = refl

siblings_with_injected_rows :
    siblings_by (node example (batch 2 (column (1 ∷ 2 ∷ 3 ∷ []) ∷ column (4 ∷ 5 ∷ []) ∷ [])))
    (shape (batch 2 (column (1 ∷ 2 ∷ 3 ∷ []) ∷ column (4 ∷ 5 ∷ []) ∷ []))) 2 2 ≡ (0 ∷ []) ∷ (31842 ∷ []) ∷ []
unfolding exponent layer_exponent raw_len node leaves_under
siblings_with_injected_rows = refl

siblings_at_4 : siblings_by (node example (batch 4 (column (1 ∷ 2 ∷ []) ∷ [])))
    (shape (batch 4 (column (1 ∷ 2 ∷ []) ∷ []))) 1 0 ≡ (33 ∷ []) ∷ (0 ∷ []) ∷ (0 ∷ []) ∷ []
unfolding exponent layer_exponent raw_len node leaves_under
siblings_at_4 = refl

digest_reached_from_index_2 :
    path_digest example (narrow 2 (4 ∷ [])) (opening_of 2 ((3 ∷ []) ∷ []) ((35 ∷ []) ∷ (1026 ∷ []) ∷ [])) 2
    ≡ 32897 ∷ []
unfolding exponent layer_exponent raw_len leaves_under siblings_below path_digest
digest_reached_from_index_2 = refl

digest_at_which_the_check_of_index_2_ends :
    check_digest (params example (narrow 2 (4 ∷ [])) 2)
    (opening_of 2 ((3 ∷ []) ∷ []) ((35 ∷ []) ∷ (1026 ∷ []) ∷ [])) ≡ 32897 ∷ []
unfolding exponent layer_exponent raw_len leaves_under siblings_below path_digest
digest_at_which_the_check_of_index_2_ends = refl

inputs_of_a_check : inputs (params example (narrow 2 (2 ∷ [])) 1)
    (opening_of 0 ((2 ∷ []) ∷ []) ((2 ∷ []) ∷ []))
    ≡ words_at Leaf (2 ∷ []) ∷ digests_at (Group 0) ((33 ∷ []) ∷ (2 ∷ []) ∷ []) ∷ []
unfolding exponent layer_exponent raw_len leaves_under siblings_below path_digest
inputs_of_a_check = refl

honest_opening : refusal_under nat_eq (params example (narrow 2 (4 ∷ [])) 2) ((32897 ∷ []) ∷ [])
    (opening_of 2 ((3 ∷ []) ∷ []) ((35 ∷ []) ∷ (1026 ∷ []) ∷ [])) ≡ None
unfolding exponent layer_exponent raw_len leaves_under siblings_below path_digest
honest_opening = refl

honest_opening_beside_padding : refusal_under nat_eq (params example (narrow 2 (3 ∷ [])) 2) ((32862 ∷ []) ∷ [])
    (opening_of 2 ((3 ∷ []) ∷ []) ((0 ∷ []) ∷ (1026 ∷ []) ∷ [])) ≡ None
unfolding exponent layer_exponent raw_len leaves_under siblings_below path_digest
honest_opening_beside_padding = refl

wrong_sibling : refusal_under nat_eq (params example (narrow 2 (3 ∷ [])) 2) ((32862 ∷ []) ∷ [])
    (opening_of 2 ((3 ∷ []) ∷ []) ((1 ∷ []) ∷ (1026 ∷ []) ∷ [])) ≡ Some CapMismatch
unfolding exponent layer_exponent raw_len leaves_under siblings_below path_digest
wrong_sibling = refl

wrong_injected_row : refusal_under nat_eq (params example (narrow 2 (3 ∷ 2 ∷ [])) 2) ((1019845 ∷ []) ∷ [])
    (opening_of 2 ((3 ∷ []) ∷ (4 ∷ []) ∷ []) ((0 ∷ []) ∷ (31842 ∷ []) ∷ [])) ≡ Some CapMismatch
unfolding exponent layer_exponent raw_len leaves_under siblings_below path_digest
wrong_injected_row = refl

wide_row_hides_no_other : refusal_under nat_eq (params example (narrow 2 (3 ∷ 2 ∷ [])) 2) ((1019845 ∷ []) ∷ [])
    (opening_of 2 ((3 ∷ 5 ∷ []) ∷ ([]) ∷ []) ((0 ∷ []) ∷ (31842 ∷ []) ∷ [])) ≡ Some (WrongWidth 0 1 2)
unfolding exponent layer_exponent raw_len leaves_under siblings_below path_digest
wide_row_hides_no_other = refl

too_few_siblings : refusal_under nat_eq (params example (narrow 2 (4 ∷ [])) 2) ((32897 ∷ []) ∷ [])
    (opening_of 9 ((1 ∷ []) ∷ []) ((1 ∷ []) ∷ [])) ≡ Some (WrongHeight 2 1)
unfolding exponent layer_exponent raw_len leaves_under siblings_below path_digest
too_few_siblings = refl

index_out_of_bounds : refusal_under nat_eq (params example (narrow 2 (4 ∷ [])) 2) ((32897 ∷ []) ∷ [])
    (opening_of 9 ((1 ∷ []) ∷ []) ((1 ∷ []) ∷ (1 ∷ []) ∷ [])) ≡ Some (IndexOutOfBounds 4 9)
unfolding exponent layer_exponent raw_len leaves_under siblings_below path_digest
index_out_of_bounds = refl

opening_under_a_cap_of_two :
    refusal_under nat_eq (params example (narrow 2 (4 ∷ [])) 1) ((1026 ∷ []) ∷ (1090 ∷ []) ∷ [])
    (opening_of 2 ((3 ∷ []) ∷ []) ((35 ∷ []) ∷ [])) ≡ None
unfolding exponent layer_exponent raw_len leaves_under siblings_below path_digest
opening_under_a_cap_of_two = refl

opening_past_a_cap_of_one : refusal_under nat_eq (params example (narrow 2 (4 ∷ [])) 1) ((1026 ∷ []) ∷ [])
    (opening_of 2 ((3 ∷ []) ∷ []) ((35 ∷ []) ∷ [])) ≡ Some CapMismatch
unfolding exponent layer_exponent raw_len leaves_under siblings_below path_digest
opening_past_a_cap_of_one = refl

opening_under_a_longer_cap :
    refusal_under nat_eq (params example (narrow 2 (4 ∷ [])) 2) ((32897 ∷ []) ∷ (0 ∷ []) ∷ (7 ∷ []) ∷ [])
    (opening_of 2 ((3 ∷ []) ∷ []) ((35 ∷ []) ∷ (1026 ∷ []) ∷ [])) ≡ None
unfolding exponent layer_exponent raw_len leaves_under siblings_below path_digest
opening_under_a_longer_cap = refl

opening_under_no_cap : refusal_under nat_eq (params example (narrow 2 (4 ∷ [])) 2) ([])
    (opening_of 2 ((3 ∷ []) ∷ []) ((35 ∷ []) ∷ (1026 ∷ []) ∷ [])) ≡ Some CapMismatch
unfolding exponent layer_exponent raw_len leaves_under siblings_below path_digest
opening_under_no_cap = refl

too_many_rows_before_the_gate : refusal_under nat_eq (params example (narrow 2 (0 ∷ [])) 0) ([])
    (opening_of 0 ((1 ∷ []) ∷ (1 ∷ []) ∷ []) ([])) ≡ Some (WrongBatchSize 1 2)
unfolding exponent layer_exponent raw_len leaves_under siblings_below path_digest
too_many_rows_before_the_gate = refl

gate_before_siblings : refusal_under nat_eq (params example (narrow 2 (7 ∷ 3 ∷ [])) 3) ([])
    (opening_of 6 ((7 ∷ []) ∷ (4 ∷ []) ∷ []) ((1 ∷ []) ∷ [])) ≡ Some (IncompatibleHeights 3 7 4 1)
unfolding exponent layer_exponent raw_len leaves_under siblings_below path_digest
gate_before_siblings = refl

row_above_the_cap_is_not_hashed : refusal_under nat_eq (params example (narrow 2 (2 ∷ 1 ∷ [])) 0)
    ((32 ∷ []) ∷ (33 ∷ []) ∷ []) (opening_of 0 ((1 ∷ []) ∷ (77 ∷ []) ∷ []) ([])) ≡ None
unfolding exponent layer_exponent raw_len leaves_under siblings_below path_digest
row_above_the_cap_is_not_hashed = refl

row_above_the_cap_has_its_width : refusal_under nat_eq (params example (narrow 2 (2 ∷ 1 ∷ [])) 0)
    ((32 ∷ []) ∷ (33 ∷ []) ∷ []) (opening_of 0 ((1 ∷ []) ∷ (77 ∷ 78 ∷ []) ∷ []) ([])) ≡ Some (WrongWidth 1 1 2)
unfolding exponent layer_exponent raw_len leaves_under siblings_below path_digest
row_above_the_cap_has_its_width = refl

collision_of_two_rows : extracts (params example (shape_of 2 (record { width = 2; height = 2 } ∷ [])) 1)
    ((32772 ∷ []) ∷ []) (opening_of 0 ((1 ∷ 31 ∷ []) ∷ []) ((1058 ∷ []) ∷ []))
    (opening_of 0 ((2 ∷ 0 ∷ []) ∷ []) ((1058 ∷ []) ∷ []))
    ≡ Ok (Some (0, 0, (words_at Leaf (1 ∷ 31 ∷ []), words_at Leaf (2 ∷ 0 ∷ []))))
unfolding exponent layer_exponent raw_len leaves_under siblings_below path_digest
collision_of_two_rows = refl

collision_of_two_groups : extracts (params example (narrow 2 (2 ∷ [])) 1) ((1026 ∷ []) ∷ [])
    (opening_of 0 ((1 ∷ []) ∷ []) ((33 ∷ []) ∷ [])) (opening_of 0 ((2 ∷ []) ∷ []) ((2 ∷ []) ∷ []))
    ≡ Ok (Some (
      0,
      0,
      (digests_at (Group 0) ((32 ∷ []) ∷ (33 ∷ []) ∷ []), digests_at (Group 0) ((33 ∷ []) ∷ (2 ∷ []) ∷ [])),
    ))
unfolding exponent layer_exponent raw_len leaves_under siblings_below path_digest
collision_of_two_groups = refl

no_collision_above_the_cap : extracts (params example (narrow 2 (2 ∷ 1 ∷ [])) 0) ((32 ∷ []) ∷ (33 ∷ []) ∷ [])
    (opening_of 0 ((1 ∷ []) ∷ (77 ∷ []) ∷ []) ([])) (opening_of 0 ((1 ∷ []) ∷ (78 ∷ []) ∷ []) ([])) ≡ Ok None
unfolding exponent layer_exponent raw_len leaves_under siblings_below path_digest
no_collision_above_the_cap = refl

collision_of_injected_rows :
    extracts (params example
    (shape_of 2 (record { width = 1; height = 2 } ∷ record { width = 2; height = 1 } ∷ [])) 1) ((32830 ∷ []) ∷ [])
    (opening_of 0 ((1 ∷ []) ∷ (1 ∷ 31 ∷ []) ∷ []) ((33 ∷ []) ∷ []))
    (opening_of 0 ((1 ∷ []) ∷ (2 ∷ 0 ∷ []) ∷ []) ((33 ∷ []) ∷ []))
    ≡ Ok (Some (0, 0, (words_at (Rows 0) (1 ∷ 31 ∷ []), words_at (Rows 0) (2 ∷ 0 ∷ []))))
unfolding exponent layer_exponent raw_len leaves_under siblings_below path_digest
collision_of_injected_rows = refl

collision_of_two_pairs : extracts (params example (narrow 2 (2 ∷ 1 ∷ [])) 1) ((31843 ∷ []) ∷ [])
    (opening_of 0 ((1 ∷ []) ∷ (5 ∷ []) ∷ []) ((33 ∷ []) ∷ []))
    (opening_of 0 ((1 ∷ []) ∷ (36 ∷ []) ∷ []) ((32 ∷ []) ∷ []))
    ≡ Ok (Some (
      0,
      0,
      (digests_at (Pair 0) ((1026 ∷ []) ∷ (36 ∷ []) ∷ []), digests_at (Pair 0) ((1025 ∷ []) ∷ (67 ∷ []) ∷ [])),
    ))
unfolding exponent layer_exponent raw_len leaves_under siblings_below path_digest
collision_of_two_pairs = refl

-- two indices share the places from where their paths meet
collision_of_two_indices : extracts (params example (narrow 2 (2 ∷ 1 ∷ [])) 1) ((31843 ∷ []) ∷ [])
    (opening_of 0 ((1 ∷ []) ∷ (5 ∷ []) ∷ []) ((33 ∷ []) ∷ []))
    (opening_of 1 ((1 ∷ []) ∷ (36 ∷ []) ∷ []) ((32 ∷ []) ∷ []))
    ≡ Ok (Some (
      0,
      0,
      (digests_at (Pair 0) ((1026 ∷ []) ∷ (36 ∷ []) ∷ []), digests_at (Pair 0) ((1025 ∷ []) ∷ (67 ∷ []) ∷ [])),
    ))
unfolding exponent layer_exponent raw_len leaves_under siblings_below path_digest
collision_of_two_indices = refl

one_opening_twice : extracts (params example (narrow 2 (2 ∷ 1 ∷ [])) 1) ((31843 ∷ []) ∷ [])
    (opening_of 0 ((1 ∷ []) ∷ (5 ∷ []) ∷ []) ((33 ∷ []) ∷ []))
    (opening_of 0 ((1 ∷ []) ∷ (5 ∷ []) ∷ []) ((33 ∷ []) ∷ [])) ≡ Ok None
unfolding exponent layer_exponent raw_len leaves_under siblings_below path_digest
one_opening_twice = refl

two_honest_indices : extracts (params example (narrow 2 (2 ∷ 1 ∷ [])) 1) ((31843 ∷ []) ∷ [])
    (opening_of 0 ((1 ∷ []) ∷ (5 ∷ []) ∷ []) ((33 ∷ []) ∷ []))
    (opening_of 1 ((2 ∷ []) ∷ (5 ∷ []) ∷ []) ((32 ∷ []) ∷ [])) ≡ Ok None
unfolding exponent layer_exponent raw_len leaves_under siblings_below path_digest
two_honest_indices = refl

first_opening_refused : extracts (params example (narrow 2 (2 ∷ 1 ∷ [])) 1) ((31843 ∷ []) ∷ [])
    (opening_of 0 ((1 ∷ []) ∷ (6 ∷ []) ∷ []) ((33 ∷ []) ∷ [])) (opening_of 0 ((1 ∷ []) ∷ ([]) ∷ []) ((33 ∷ []) ∷ []))
    ≡ Err CapMismatch
unfolding exponent layer_exponent raw_len leaves_under siblings_below path_digest
first_opening_refused = refl

second_opening_refused : extracts (params example (narrow 2 (2 ∷ 1 ∷ [])) 1) ((31843 ∷ []) ∷ [])
    (opening_of 0 ((1 ∷ []) ∷ (5 ∷ []) ∷ []) ((33 ∷ []) ∷ [])) (opening_of 0 ((1 ∷ []) ∷ ([]) ∷ []) ((33 ∷ []) ∷ []))
    ≡ Err (WrongWidth 1 1 0)
unfolding exponent layer_exponent raw_len leaves_under siblings_below path_digest
second_opening_refused = refl
