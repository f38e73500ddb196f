-- Shapes and gates, worked out.
use Rattle.std.specs.Prelude.{◌≡◌, ◌+◌, ◌^◌, [], ◌∷◌, map, refl, Some, None}
use Rattle.p3_merkle_core.specs.Geometry.{exponent, layer_exponent, arity_schedule, padded_len, raw_len, layer_len}
use Rattle.p3_merkle_core.specs.Geometry.{halved_index, heights, leaves_under, position_in_group}
use Rattle.p3_merkle_core.specs.Caps.{cap_layer}
use Rattle.p3_merkle_core.specs.Gate.{gate_refusal}
use Rattle.p3_merkle_core.specs.Examples.{narrow}
use Rattle.p3_merkle_core.specs.declared.cap.CapRule.TheVariants.{Lowered, Fixed}
use Rattle.p3_merkle_core.specs.declared.error.MerkleTreeError.TheVariants.{EmptyBatch, IncompatibleHeights, TooLarge}
use Rattle.p3_support.specs.Batches.{greatest}

padded_lengths_at_2 : map (λ r. padded_len r 2) (0 ∷ 1 ∷ 2 ∷ 3 ∷ 4 ∷ 5 ∷ 7 ∷ 8 ∷ 9 ∷ 15 ∷ 16 ∷ [])
    ≡ 0 ∷ 1 ∷ 2 ∷ 4 ∷ 4 ∷ 6 ∷ 8 ∷ 8 ∷ 10 ∷ 16 ∷ 16 ∷ []
padded_lengths_at_2 = refl

padded_lengths_at_4 : map (λ r. padded_len r 4) (0 ∷ 1 ∷ 2 ∷ 3 ∷ 4 ∷ 5 ∷ 7 ∷ 8 ∷ 9 ∷ [])
    ≡ 0 ∷ 1 ∷ 4 ∷ 4 ∷ 4 ∷ 8 ∷ 8 ∷ 8 ∷ 12 ∷ []
padded_lengths_at_4 = refl

padded_lengths_at_8 : map (λ r. padded_len r 8) (0 ∷ 1 ∷ 2 ∷ 3 ∷ 5 ∷ 7 ∷ 8 ∷ 9 ∷ 15 ∷ 16 ∷ [])
    ≡ 0 ∷ 1 ∷ 8 ∷ 8 ∷ 8 ∷ 8 ∷ 8 ∷ 16 ∷ 16 ∷ 16 ∷ []
padded_lengths_at_8 = refl

exponent_above_the_limit : exponent (2 ^ 62 + 1) ≡ 63
unfolding exponent
exponent_above_the_limit = refl

schedule_of_5_at_2 : arity_schedule (narrow 2 (5 ∷ [])) ≡ 2 ∷ 2 ∷ 2 ∷ []
unfolding exponent layer_exponent
schedule_of_5_at_2 = refl

node_counts_of_5_at_2 : map (raw_len (narrow 2 (5 ∷ []))) (0 ∷ 1 ∷ 2 ∷ 3 ∷ []) ≡ 5 ∷ 3 ∷ 2 ∷ 1 ∷ []
unfolding exponent layer_exponent raw_len
node_counts_of_5_at_2 = refl

layer_lengths_of_5_at_2 : map (layer_len (narrow 2 (5 ∷ []))) (0 ∷ 1 ∷ 2 ∷ 3 ∷ []) ≡ 6 ∷ 4 ∷ 2 ∷ 1 ∷ []
unfolding exponent layer_exponent raw_len
layer_lengths_of_5_at_2 = refl

schedule_of_5_3_1_at_4 : arity_schedule (narrow 4 (5 ∷ 3 ∷ 1 ∷ [])) ≡ 2 ∷ 4 ∷ []
unfolding exponent layer_exponent
schedule_of_5_3_1_at_4 = refl

node_counts_of_5_3_1_at_4 : map (raw_len (narrow 4 (5 ∷ 3 ∷ 1 ∷ []))) (0 ∷ 1 ∷ 2 ∷ []) ≡ 5 ∷ 4 ∷ 1 ∷ []
unfolding exponent layer_exponent raw_len
node_counts_of_5_3_1_at_4 = refl

layer_lengths_of_5_3_1_at_4 : map (layer_len (narrow 4 (5 ∷ 3 ∷ 1 ∷ []))) (0 ∷ 1 ∷ 2 ∷ []) ≡ 8 ∷ 4 ∷ 1 ∷ []
unfolding exponent layer_exponent raw_len
layer_lengths_of_5_3_1_at_4 = refl

schedule_of_8_2_at_4 : arity_schedule (narrow 4 (8 ∷ 2 ∷ [])) ≡ 4 ∷ 4 ∷ []
unfolding exponent layer_exponent
schedule_of_8_2_at_4 = refl

node_counts_of_8_2_at_4 : map (raw_len (narrow 4 (8 ∷ 2 ∷ []))) (0 ∷ 1 ∷ 2 ∷ []) ≡ 8 ∷ 2 ∷ 1 ∷ []
unfolding exponent layer_exponent raw_len
node_counts_of_8_2_at_4 = refl

layer_lengths_of_8_2_at_4 : map (layer_len (narrow 4 (8 ∷ 2 ∷ []))) (0 ∷ 1 ∷ 2 ∷ []) ≡ 8 ∷ 4 ∷ 1 ∷ []
unfolding exponent layer_exponent raw_len
layer_lengths_of_8_2_at_4 = refl

schedule_of_17_9_5_3_at_4 : arity_schedule (narrow 4 (17 ∷ 9 ∷ 5 ∷ 3 ∷ [])) ≡ 2 ∷ 2 ∷ 2 ∷ 4 ∷ []
unfolding exponent layer_exponent
schedule_of_17_9_5_3_at_4 = refl

node_counts_of_17_9_5_3_at_4 : map (raw_len (narrow 4 (17 ∷ 9 ∷ 5 ∷ 3 ∷ []))) (0 ∷ 1 ∷ 2 ∷ 3 ∷ 4 ∷ [])
    ≡ 17 ∷ 10 ∷ 6 ∷ 4 ∷ 1 ∷ []
unfolding exponent layer_exponent raw_len
node_counts_of_17_9_5_3_at_4 = refl

layer_lengths_of_17_9_5_3_at_4 : map (layer_len (narrow 4 (17 ∷ 9 ∷ 5 ∷ 3 ∷ []))) (0 ∷ 1 ∷ 2 ∷ 3 ∷ 4 ∷ [])
    ≡ 20 ∷ 12 ∷ 8 ∷ 4 ∷ 1 ∷ []
unfolding exponent layer_exponent raw_len
layer_lengths_of_17_9_5_3_at_4 = refl

schedule_of_8_4_at_8 : arity_schedule (narrow 8 (8 ∷ 4 ∷ [])) ≡ 2 ∷ 8 ∷ []
unfolding exponent layer_exponent
schedule_of_8_4_at_8 = refl

node_counts_of_8_4_at_8 : map (raw_len (narrow 8 (8 ∷ 4 ∷ []))) (0 ∷ 1 ∷ 2 ∷ []) ≡ 8 ∷ 4 ∷ 1 ∷ []
unfolding exponent layer_exponent raw_len
node_counts_of_8_4_at_8 = refl

layer_lengths_of_8_4_at_8 : map (layer_len (narrow 8 (8 ∷ 4 ∷ []))) (0 ∷ 1 ∷ 2 ∷ []) ≡ 8 ∷ 8 ∷ 1 ∷ []
unfolding exponent layer_exponent raw_len
layer_lengths_of_8_4_at_8 = refl

schedule_of_4_2_at_8 : arity_schedule (narrow 8 (4 ∷ 2 ∷ [])) ≡ 2 ∷ 8 ∷ []
unfolding exponent layer_exponent
schedule_of_4_2_at_8 = refl

node_counts_of_4_2_at_8 : map (raw_len (narrow 8 (4 ∷ 2 ∷ []))) (0 ∷ 1 ∷ 2 ∷ []) ≡ 4 ∷ 2 ∷ 1 ∷ []
unfolding exponent layer_exponent raw_len
node_counts_of_4_2_at_8 = refl

layer_lengths_of_4_2_at_8 : map (layer_len (narrow 8 (4 ∷ 2 ∷ []))) (0 ∷ 1 ∷ 2 ∷ []) ≡ 8 ∷ 8 ∷ 1 ∷ []
unfolding exponent layer_exponent raw_len
layer_lengths_of_4_2_at_8 = refl

schedule_of_8_2_at_8 : arity_schedule (narrow 8 (8 ∷ 2 ∷ [])) ≡ 2 ∷ 2 ∷ 8 ∷ []
unfolding exponent layer_exponent
schedule_of_8_2_at_8 = refl

node_counts_of_8_2_at_8 : map (raw_len (narrow 8 (8 ∷ 2 ∷ []))) (0 ∷ 1 ∷ 2 ∷ 3 ∷ []) ≡ 8 ∷ 4 ∷ 2 ∷ 1 ∷ []
unfolding exponent layer_exponent raw_len
node_counts_of_8_2_at_8 = refl

layer_lengths_of_8_2_at_8 : map (layer_len (narrow 8 (8 ∷ 2 ∷ []))) (0 ∷ 1 ∷ 2 ∷ 3 ∷ []) ≡ 8 ∷ 8 ∷ 8 ∷ 1 ∷ []
unfolding exponent layer_exponent raw_len
layer_lengths_of_8_2_at_8 = refl

no_steps_over_one_leaf : arity_schedule (narrow 2 (1 ∷ [])) ≡ []
unfolding exponent layer_exponent
no_steps_over_one_leaf = refl

-- a cap height above the levels is the leaves
cap_lengths_of_5 : map (λ c. layer_len (narrow 2 (5 ∷ [])) (cap_layer (narrow 2 (5 ∷ [])) Fixed c))
    (0 ∷ 1 ∷ 2 ∷ 3 ∷ 9 ∷ []) ≡ 1 ∷ 2 ∷ 4 ∷ 6 ∷ 6 ∷ []
unfolding exponent layer_exponent raw_len
cap_lengths_of_5 = refl

-- under the lowered rule the cap stays at or above the layer of the height 3, two levels below the root
cap_layers_of_17_to_3 : map (cap_layer (narrow 2 (17 ∷ 9 ∷ 5 ∷ 3 ∷ [])) Lowered) (0 ∷ 1 ∷ 2 ∷ 3 ∷ 9 ∷ [])
    ≡ 5 ∷ 4 ∷ 3 ∷ 3 ∷ 3 ∷ []
unfolding exponent layer_exponent
cap_layers_of_17_to_3 = refl

fixed_cap_layers_of_17_to_3 : map (cap_layer (narrow 2 (17 ∷ 9 ∷ 5 ∷ 3 ∷ [])) Fixed) (0 ∷ 1 ∷ 2 ∷ 3 ∷ 9 ∷ [])
    ≡ 5 ∷ 4 ∷ 3 ∷ 2 ∷ 0 ∷ []
unfolding exponent layer_exponent
fixed_cap_layers_of_17_to_3 = refl

cap_layers_of_17_to_3_at_4 : map (cap_layer (narrow 4 (17 ∷ 9 ∷ 5 ∷ 3 ∷ [])) Lowered) (0 ∷ 1 ∷ 2 ∷ 9 ∷ [])
    ≡ 4 ∷ 3 ∷ 3 ∷ 3 ∷ []
unfolding exponent layer_exponent
cap_layers_of_17_to_3_at_4 = refl

rows_of_index_6 : map (λ h. halved_index (greatest (heights (narrow 2 (7 ∷ 4 ∷ 2 ∷ 1 ∷ [])))) h 6) (7 ∷ 4 ∷ 2 ∷ 1 ∷ [])
    ≡ 6 ∷ 3 ∷ 1 ∷ 0 ∷ []
unfolding exponent
rows_of_index_6 = refl

positions_of_index_4 : map (λ l. position_in_group (narrow 4 (5 ∷ 3 ∷ 1 ∷ [])) l 4) (0 ∷ 1 ∷ []) ≡ 0 ∷ 2 ∷ []
unfolding exponent layer_exponent leaves_under
positions_of_index_4 = refl

ladder_of_7 : gate_refusal (7 ∷ 4 ∷ 2 ∷ 1 ∷ []) ≡ None
unfolding exponent
ladder_of_7 = refl

ladder_of_7_twice : gate_refusal (7 ∷ 4 ∷ 4 ∷ []) ≡ None
unfolding exponent
ladder_of_7_twice = refl

no_matrices : gate_refusal ([]) ≡ Some EmptyBatch
unfolding exponent
no_matrices = refl

no_rows : gate_refusal (0 ∷ 0 ∷ []) ≡ Some EmptyBatch
unfolding exponent
no_rows = refl

no_rows_beside_8 : gate_refusal (8 ∷ 0 ∷ []) ≡ Some (IncompatibleHeights 0 8 1 3)
unfolding exponent
no_rows_beside_8 = refl

height_3_below_7 : gate_refusal (7 ∷ 3 ∷ []) ≡ Some (IncompatibleHeights 3 7 4 1)
unfolding exponent
height_3_below_7 = refl

height_4_below_6 : gate_refusal (6 ∷ 4 ∷ []) ≡ Some (IncompatibleHeights 4 6 3 1)
unfolding exponent
height_4_below_6 = refl

height_5_below_11 : gate_refusal (11 ∷ 5 ∷ []) ≡ Some (IncompatibleHeights 5 11 6 1)
unfolding exponent
height_5_below_11 = refl

height_7_beside_8 : gate_refusal (8 ∷ 7 ∷ []) ≡ Some (IncompatibleHeights 7 8 8 0)
unfolding exponent
height_7_beside_8 = refl

height_above_the_limit : gate_refusal ((2 ^ 62 + 1) ∷ []) ≡ Some (TooLarge 0 (2 ^ 62 + 1))
unfolding exponent
height_above_the_limit = refl

height_far_above_the_limit : gate_refusal (0 ∷ (2 ^ 63) ∷ []) ≡ Some (TooLarge 1 (2 ^ 63))
unfolding exponent
height_far_above_the_limit = refl
