-- Pruned openings, worked out by the functions of `Examples`: the boundary, what is restored, the children of covered
-- nodes and their values, refusals and collisions.
use Rattle.std.specs.Prelude.{◌≡◌, ℕ, List, [], ◌∷◌, map, length, refl, Some, None, Ok, nat_eq}
use Rattle.p3_support.specs.Lists.{is_among}
use Rattle.p3_merkle_core.specs.Geometry.{Shape, exponent, layer_exponent, raw_len, leaves_under}
use Rattle.p3_merkle_core.specs.Nodes.{Batch, node}
use Rattle.p3_merkle_core.specs.Pruning.{boundary, honest_query, restored_node, restored_path}
use Rattle.p3_merkle_core.specs.Inner.Covered.{covered_at}
use Rattle.p3_merkle_core.specs.Inner.Children.{beside, children_under, siblings_on_path}
use Rattle.p3_merkle_core.specs.Refusals.{pruned_refusal}
use Rattle.p3_merkle_core.specs.Checks.{digests_at, params, siblings_below, path_digest}
use Rattle.p3_merkle_core.specs.Examples.{batch, column, narrow, pruned, example, extracts_pruned}
use Rattle.p3_merkle_core.specs.declared.error.PrunedProofError.TheVariants.{SiblingCountMismatch}
use Rattle.p3_merkle_core.specs.declared.error.PrunedProofError.TheVariants.{InconsistentDuplicateOpenings}
use Rattle.p3_merkle_core.specs.declared.error.PrunedProofError.TheVariants.{InconsistentGroupOpening}
use Rattle.p3_merkle_core.specs.declared.collision.Place.TheVariants.{Group}
use Rattle.p3_merkle_core.specs.declared.error.MerkleTreeError.TheVariants.{IncompatibleHeights, IndexOutOfBounds}
use Rattle.p3_merkle_core.specs.declared.error.MerkleTreeError.TheVariants.{MalformedPrunedProof, WrongBatchSize}
use Rattle.p3_merkle_core.specs.declared.error.MerkleTreeError.TheVariants.{WrongWidth}

-- one matrix of eight rows
abbrev eight_rows : Shape
eight_rows = narrow 2 (8 ∷ [])

-- and its rows
abbrev one_to_eight : Batch ℕ
one_to_eight = batch 2 (column (1 ∷ 2 ∷ 3 ∷ 4 ∷ 5 ∷ 6 ∷ 7 ∷ 8 ∷ []) ∷ [])

-- four queries of it, two of them of one index, with their row sets and the digests of their boundary
abbrev four_queries : List ℕ
four_queries = 5 ∷ 1 ∷ 2 ∷ 1 ∷ []

abbrev four_row_sets : List (List (List ℕ))
four_row_sets = ((6 ∷ []) ∷ []) ∷ ((2 ∷ []) ∷ []) ∷ ((3 ∷ []) ∷ []) ∷ ((2 ∷ []) ∷ []) ∷ []

abbrev four_digests : List (List ℕ)
four_digests = (32 ∷ []) ∷ (35 ∷ []) ∷ (36 ∷ []) ∷ (1218 ∷ []) ∷ []

-- ---- the boundary, and what is restored

leaves_of_four_queries : covered_at eight_rows four_queries 0 ≡ 1 ∷ 2 ∷ 5 ∷ []
unfolding exponent layer_exponent raw_len leaves_under
leaves_of_four_queries = refl

-- two queries under one node cover it once
parents_where_two_queries_share_one : covered_at eight_rows (5 ∷ 1 ∷ 2 ∷ 0 ∷ []) 1 ≡ 0 ∷ 1 ∷ 2 ∷ []
unfolding exponent layer_exponent raw_len leaves_under
parents_where_two_queries_share_one = refl

boundary_of_four_queries : boundary eight_rows four_queries 3 ≡ (0, 0) ∷ (0, 3) ∷ (0, 4) ∷ (1, 3) ∷ []
unfolding exponent layer_exponent raw_len leaves_under
boundary_of_four_queries = refl

-- digests of padding slots are sent like any other
boundary_of_padding_slots : boundary (narrow 4 (2 ∷ [])) (0 ∷ []) 1 ≡ (0, 1) ∷ (0, 2) ∷ (0, 3) ∷ []
unfolding exponent layer_exponent raw_len leaves_under
boundary_of_padding_slots = refl

boundary_length_for_three_of_8 : length (boundary eight_rows (1 ∷ 2 ∷ 5 ∷ []) 3) ≡ 4
unfolding exponent layer_exponent raw_len leaves_under
boundary_length_for_three_of_8 = refl

boundary_length_for_one_of_8 : length (boundary eight_rows (5 ∷ []) 3) ≡ 3
unfolding exponent layer_exponent raw_len leaves_under
boundary_length_for_one_of_8 = refl

boundary_length_for_all_of_8 : length (boundary eight_rows (0 ∷ 1 ∷ 2 ∷ 3 ∷ 4 ∷ 5 ∷ 6 ∷ 7 ∷ []) 3) ≡ 0
unfolding exponent layer_exponent raw_len leaves_under
boundary_length_for_all_of_8 = refl

boundary_length_for_none_of_8 : length (boundary eight_rows [] 3) ≡ 0
unfolding exponent layer_exponent raw_len leaves_under
boundary_length_for_none_of_8 = refl

boundary_length_for_one_of_16_at_arity_4 : length (boundary (narrow 4 (16 ∷ [])) (9 ∷ []) 2) ≡ 6
unfolding exponent layer_exponent raw_len leaves_under
boundary_length_for_one_of_16_at_arity_4 = refl

boundary_length_for_all_of_16_at_arity_4 :
    length (boundary (narrow 4 (16 ∷ [])) (0 ∷ 1 ∷ 2 ∷ 3 ∷ 4 ∷ 5 ∷ 6 ∷ 7 ∷ 8 ∷ 9 ∷ 10 ∷ 11 ∷ 12 ∷ 13 ∷ 14 ∷ 15 ∷ []) 2)
    ≡ 0
unfolding exponent layer_exponent raw_len leaves_under
boundary_length_for_all_of_16_at_arity_4 = refl

boundary_length_for_both_of_2_at_arity_4 : length (boundary (narrow 4 (2 ∷ [])) (0 ∷ 1 ∷ []) 1) ≡ 2
unfolding exponent layer_exponent raw_len leaves_under
boundary_length_for_both_of_2_at_arity_4 = refl

digests_of_four_queries : (honest_query example one_to_eight 3 four_queries).digests ≡ four_digests
unfolding exponent layer_exponent raw_len node leaves_under
digests_of_four_queries = refl

digests_under_a_cap_of_two : (honest_query example one_to_eight 2 (1 ∷ 2 ∷ 5 ∷ [])).digests ≡ four_digests
unfolding exponent layer_exponent raw_len node leaves_under
digests_under_a_cap_of_two = refl

digests_of_padding_slots : (honest_query example (batch 4 (column (1 ∷ 2 ∷ []) ∷ [])) 1 (0 ∷ [])).digests
    ≡ (33 ∷ []) ∷ (0 ∷ []) ∷ (0 ∷ []) ∷ []
unfolding exponent layer_exponent raw_len node leaves_under
digests_of_padding_slots = refl

root_restored_from_four_queries :
    restored_node (params example eight_rows 3)
    (pruned four_queries four_row_sets four_digests) 3 0 ≡ 1056801 ∷ []
unfolding exponent layer_exponent raw_len leaves_under restored_node
root_restored_from_four_queries = refl

paths_restored_from_four_queries :
    map (restored_path (params example eight_rows 3)
    (pruned four_queries four_row_sets four_digests)) (5 ∷ 1 ∷ 2 ∷ [])
    ≡ ((36 ∷ []) ∷ (1218 ∷ []) ∷ (32897 ∷ []) ∷ []) ∷ ((32 ∷ []) ∷ (1090 ∷ []) ∷ (36993 ∷ []) ∷ [])
    ∷ ((35 ∷ []) ∷ (1026 ∷ []) ∷ (36993 ∷ []) ∷ []) ∷ []
unfolding exponent layer_exponent raw_len leaves_under restored_node
paths_restored_from_four_queries = refl

paths_restored_from_a_wrong_digest :
    map (restored_path (params example eight_rows 3)
    (pruned four_queries four_row_sets
    ((31 ∷ []) ∷ (35 ∷ []) ∷ (36 ∷ []) ∷ (1218 ∷ []) ∷ []))) (5 ∷ 1 ∷ 2 ∷ [])
    ≡ ((36 ∷ []) ∷ (1218 ∷ []) ∷ (31936 ∷ []) ∷ []) ∷ ((31 ∷ []) ∷ (1090 ∷ []) ∷ (36993 ∷ []) ∷ [])
    ∷ ((35 ∷ []) ∷ (995 ∷ []) ∷ (36993 ∷ []) ∷ []) ∷ []
unfolding exponent layer_exponent raw_len leaves_under restored_node
paths_restored_from_a_wrong_digest = refl

-- ---- the children of covered nodes

children_of_two_parents : children_under 2 (0 ∷ 2 ∷ []) ≡ 0 ∷ 1 ∷ 4 ∷ 5 ∷ []
children_of_two_parents = refl

values_of_covered_children : beside {X = ℕ} (is_among (1 ∷ 5 ∷ [])) (0 ∷ 1 ∷ 4 ∷ 5 ∷ []) (30 ∷ 31 ∷ 34 ∷ 35 ∷ [])
    ≡ 31 ∷ 35 ∷ []
values_of_covered_children = refl

-- three levels, from the leaves up: the covered parents, how many children each has, and the values of these children
abbrev three_levels : List (List ℕ × ℕ × List ℕ)
three_levels =
    (0 ∷ 1 ∷ 2 ∷ [], 2, 0 ∷ 1 ∷ 2 ∷ 3 ∷ 4 ∷ 5 ∷ []) ∷ (0 ∷ 1 ∷ [], 2, 10 ∷ 11 ∷ 12 ∷ 13 ∷ [])
    ∷ (0 ∷ [], 2, 20 ∷ 21 ∷ []) ∷ []

siblings_of_a_covered_leaf : siblings_on_path three_levels 5 ≡ 4 ∷ 13 ∷ 20 ∷ []
siblings_of_a_covered_leaf = refl

siblings_of_an_uncovered_leaf : siblings_on_path three_levels 7 ≡ 12 ∷ 20 ∷ []
siblings_of_an_uncovered_leaf = refl

-- ---- refusals

honest_queries_are_not_refused :
    pruned_refusal nat_eq eight_rows 3 (pruned four_queries four_row_sets four_digests) ≡ None
unfolding exponent layer_exponent raw_len leaves_under
honest_queries_are_not_refused = refl

no_queries_are_not_refused : pruned_refusal nat_eq eight_rows 3 (pruned [] [] []) ≡ None
unfolding exponent layer_exponent raw_len leaves_under
no_queries_are_not_refused = refl

no_queries_with_a_digest : pruned_refusal nat_eq eight_rows 3 (pruned [] [] ((7 ∷ []) ∷ []))
    ≡ Some (MalformedPrunedProof (SiblingCountMismatch 0 1))
unfolding exponent layer_exponent raw_len leaves_under
no_queries_with_a_digest = refl

row_sets_before_digests :
    pruned_refusal nat_eq eight_rows 3 (pruned [] (((1 ∷ []) ∷ []) ∷ []) ((7 ∷ []) ∷ []))
    ≡ Some (WrongBatchSize 0 1)
unfolding exponent layer_exponent raw_len leaves_under
row_sets_before_digests = refl

one_row_set_too_few :
    pruned_refusal nat_eq eight_rows 3
    (pruned four_queries (((6 ∷ []) ∷ []) ∷ ((2 ∷ []) ∷ []) ∷ ((3 ∷ []) ∷ []) ∷ [])
    four_digests) ≡ Some (WrongBatchSize 4 3)
unfolding exponent layer_exponent raw_len leaves_under
one_row_set_too_few = refl

gate_before_row_sets :
    pruned_refusal nat_eq (narrow 2 (6 ∷ 4 ∷ [])) 3
    (pruned four_queries (((6 ∷ []) ∷ []) ∷ ((2 ∷ []) ∷ []) ∷ ((3 ∷ []) ∷ []) ∷ [])
    four_digests) ≡ Some (IncompatibleHeights 4 6 3 1)
unfolding exponent layer_exponent raw_len leaves_under
gate_before_row_sets = refl

highest_index_out_of_bounds :
    pruned_refusal nat_eq eight_rows 3 (pruned (9 ∷ 12 ∷ []) (((1 ∷ []) ∷ []) ∷ ((1 ∷ []) ∷ []) ∷ []) [])
    ≡ Some (IndexOutOfBounds 8 12)
unfolding exponent layer_exponent raw_len leaves_under
highest_index_out_of_bounds = refl

repeats_that_disagree :
    pruned_refusal nat_eq eight_rows 3
    (pruned (5 ∷ 1 ∷ 5 ∷ []) (((6 ∷ []) ∷ []) ∷ ((2 ∷ 2 ∷ []) ∷ []) ∷ ((7 ∷ []) ∷ []) ∷ []) [])
    ≡ Some (MalformedPrunedProof (InconsistentDuplicateOpenings 1))
unfolding exponent layer_exponent raw_len leaves_under
repeats_that_disagree = refl

repeats_that_disagree_in_number :
    pruned_refusal nat_eq eight_rows 3 (pruned (1 ∷ 1 ∷ []) ([] ∷ ((2 ∷ []) ∷ []) ∷ []) [])
    ≡ Some (MalformedPrunedProof (InconsistentDuplicateOpenings 0))
unfolding exponent layer_exponent raw_len leaves_under
repeats_that_disagree_in_number = refl

one_digest_too_many :
    pruned_refusal nat_eq eight_rows 3
    (pruned four_queries four_row_sets
    ((32 ∷ []) ∷ (35 ∷ []) ∷ (36 ∷ []) ∷ (1218 ∷ []) ∷ (0 ∷ []) ∷ []))
    ≡ Some (MalformedPrunedProof (SiblingCountMismatch 4 5))
unfolding exponent layer_exponent raw_len leaves_under
one_digest_too_many = refl

one_digest_too_few :
    pruned_refusal nat_eq eight_rows 3
    (pruned four_queries four_row_sets
    ((32 ∷ []) ∷ (35 ∷ []) ∷ (36 ∷ []) ∷ [])) ≡ Some (MalformedPrunedProof (SiblingCountMismatch 4 3))
unfolding exponent layer_exponent raw_len leaves_under
one_digest_too_few = refl

no_rows_for_a_query :
    pruned_refusal nat_eq eight_rows 3
    (pruned (1 ∷ 1 ∷ []) ([] ∷ [] ∷ []) ((0 ∷ []) ∷ (0 ∷ []) ∷ (0 ∷ []) ∷ [])) ≡ Some (WrongBatchSize 1 0)
unfolding exponent layer_exponent raw_len leaves_under
no_rows_for_a_query = refl

widths_by_ascending_slots :
    pruned_refusal nat_eq eight_rows 3
    (pruned (5 ∷ 1 ∷ []) (((6 ∷ []) ∷ []) ∷ ((2 ∷ 2 ∷ []) ∷ []) ∷ []) ((0 ∷ []) ∷ (0 ∷ []) ∷ (0 ∷ []) ∷ (0 ∷ []) ∷ []))
    ≡ Some (WrongWidth 0 1 2)
unfolding exponent layer_exponent raw_len leaves_under
widths_by_ascending_slots = refl

a_query_with_too_many_rows :
    pruned_refusal nat_eq eight_rows 3
    (pruned (5 ∷ 1 ∷ []) (((6 ∷ 6 ∷ []) ∷ []) ∷ ((2 ∷ []) ∷ (2 ∷ []) ∷ []) ∷ [])
    ((0 ∷ []) ∷ (0 ∷ []) ∷ (0 ∷ []) ∷ (0 ∷ []) ∷ [])) ≡ Some (WrongBatchSize 1 2)
unfolding exponent layer_exponent raw_len leaves_under
a_query_with_too_many_rows = refl

a_group_that_disagrees :
    pruned_refusal nat_eq (narrow 2 (2 ∷ 1 ∷ [])) 1
    (pruned (0 ∷ 1 ∷ []) (((1 ∷ []) ∷ (5 ∷ []) ∷ []) ∷ ((2 ∷ []) ∷ (6 ∷ []) ∷ []) ∷ []) [])
    ≡ Some (MalformedPrunedProof (InconsistentGroupOpening 1 1))
unfolding exponent layer_exponent raw_len leaves_under
a_group_that_disagrees = refl

lower_layers_before_higher :
    pruned_refusal nat_eq (narrow 2 (4 ∷ 2 ∷ 1 ∷ [])) 2
    (pruned (0 ∷ 2 ∷ 3 ∷ []) (((1 ∷ []) ∷ (5 ∷ []) ∷ (7 ∷ []) ∷ []) ∷ ((3 ∷ []) ∷ (6 ∷ []) ∷ (8 ∷ []) ∷ [])
    ∷ ((4 ∷ []) ∷ (9 ∷ []) ∷ (7 ∷ []) ∷ []) ∷ []) ((0 ∷ []) ∷ []))
    ≡ Some (MalformedPrunedProof (InconsistentGroupOpening 2 1))
unfolding exponent layer_exponent raw_len leaves_under
lower_layers_before_higher = refl

-- ---- collisions

first_pair_of_queries_collides : extracts_pruned (params example (narrow 2 (2 ∷ [])) 1) ((1057 ∷ []) ∷ [])
    (pruned (1 ∷ 0 ∷ []) (((33 ∷ []) ∷ []) ∷ ((1 ∷ []) ∷ []) ∷ []) [])
    (pruned (1 ∷ 0 ∷ []) (((2 ∷ []) ∷ []) ∷ ((2 ∷ []) ∷ []) ∷ []) [])
    ≡ Ok (Some (
      0,
      0,
      (digests_at (Group 0) ((32 ∷ []) ∷ (64 ∷ []) ∷ []), digests_at (Group 0) ((33 ∷ []) ∷ (33 ∷ []) ∷ [])),
    ))
unfolding exponent layer_exponent raw_len leaves_under restored_node siblings_below path_digest
first_pair_of_queries_collides = refl

second_pair_of_queries_collides :
    extracts_pruned (params example (narrow 2 (4 ∷ [])) 1) ((1026 ∷ []) ∷ (1090 ∷ []) ∷ [])
    (pruned (2 ∷ 0 ∷ []) (((3 ∷ []) ∷ []) ∷ ((1 ∷ []) ∷ []) ∷ []) ((33 ∷ []) ∷ (35 ∷ []) ∷ []))
    (pruned (2 ∷ 0 ∷ []) (((3 ∷ []) ∷ []) ∷ ((2 ∷ []) ∷ []) ∷ []) ((2 ∷ []) ∷ (35 ∷ []) ∷ []))
    ≡ Ok (Some (
      1,
      1,
      (digests_at (Group 0) ((32 ∷ []) ∷ (33 ∷ []) ∷ []), digests_at (Group 0) ((33 ∷ []) ∷ (2 ∷ []) ∷ [])),
    ))
unfolding exponent layer_exponent raw_len leaves_under restored_node siblings_below path_digest
second_pair_of_queries_collides = refl

no_pair_of_queries_differs :
    extracts_pruned (params example (narrow 2 (4 ∷ [])) 1) ((1026 ∷ []) ∷ (1090 ∷ []) ∷ [])
    (pruned (2 ∷ 0 ∷ []) (((3 ∷ []) ∷ []) ∷ ((1 ∷ []) ∷ []) ∷ []) ((33 ∷ []) ∷ (35 ∷ []) ∷ []))
    (pruned (2 ∷ 0 ∷ []) (((3 ∷ []) ∷ []) ∷ ((1 ∷ []) ∷ []) ∷ []) ((33 ∷ []) ∷ (35 ∷ []) ∷ [])) ≡ Ok None
unfolding exponent layer_exponent raw_len leaves_under restored_node siblings_below path_digest
no_pair_of_queries_differs = refl

no_queries_on_either_side :
    extracts_pruned (params example (narrow 2 (4 ∷ [])) 1) ((1026 ∷ []) ∷ (1090 ∷ []) ∷ [])
    (pruned [] [] []) (pruned [] [] []) ≡ Ok None
unfolding exponent layer_exponent raw_len leaves_under restored_node siblings_below path_digest
no_queries_on_either_side = refl
