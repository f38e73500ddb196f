-- What the calls on pruned openings take and answer, worked out by the functions of `Examples`.
use Rattle.std.specs.Prelude.{◌≡◌, ℕ, [], ◌∷◌, refl, Some, None, Ok, Err, nat_eq}
use Rattle.std.specs.declared.vec.Vec.{Vec}
use Rattle.p3_support.specs.Shown.{row_lists, row_sets}
use Rattle.p3_merkle_core.specs.Geometry.{exponent, layer_exponent, raw_len, leaves_under}
use Rattle.p3_merkle_core.specs.Nodes.{node, layers}
use Rattle.p3_merkle_core.specs.Pruning.{restored_node, pruned_len, restored_paths, boundary_by}
use Rattle.p3_merkle_core.specs.Refusals.{pruned_answer_under, pruned_len_refusal}
use Rattle.p3_merkle_core.specs.Examples.{batch, column, narrow, pruned, example}
use Rattle.p3_merkle_core.specs.declared.error.MerkleTreeError.TheVariants.{CapMismatch, EmptyBatch, IndexOutOfBounds}
use Rattle.p3_merkle_core.specs.Openings.{node_in}
use Rattle.p3_merkle_core.specs.Checks.{params}

second_node_over_four_rows : node_in [] (layers example (batch 2 (column (1 ∷ 2 ∷ 3 ∷ 4 ∷ []) ∷ []))) 1 1
    ≡ 1090 ∷ []
unfolding exponent layer_exponent raw_len node
second_node_over_four_rows = refl

own_digests_of_four_queries :
    boundary_by (node_in [] (layers example (batch 2 (column (1 ∷ 2 ∷ 3 ∷ 4 ∷ 5 ∷ 6 ∷ 7 ∷ 8 ∷ []) ∷ []))))
    (narrow 2 (8 ∷ [])) (5 ∷ 1 ∷ 2 ∷ 1 ∷ []) 3 ≡ (32 ∷ []) ∷ (35 ∷ []) ∷ (36 ∷ []) ∷ (1218 ∷ []) ∷ []
unfolding exponent layer_exponent raw_len leaves_under node
own_digests_of_four_queries = refl

-- of a layer of 4 slots one is queried, and padding slots count
three_digests_for_one_of_2_at_4 : pruned_len (narrow 4 (2 ∷ [])) (0 ∷ []) 1 ≡ 3
unfolding exponent layer_exponent raw_len leaves_under
three_digests_for_one_of_2_at_4 = refl

length_of_three_queries : pruned_len_refusal (narrow 2 (8 ∷ [])) (5 ∷ 1 ∷ 7 ∷ []) ≡ None
unfolding exponent
length_of_three_queries = refl

length_of_no_queries : pruned_len_refusal (narrow 2 (8 ∷ [])) [] ≡ None
unfolding exponent
length_of_no_queries = refl

highest_index_is_named : pruned_len_refusal (narrow 2 (8 ∷ [])) (9 ∷ 12 ∷ 1 ∷ []) ≡ Some (IndexOutOfBounds 8 12)
unfolding exponent
highest_index_is_named = refl

gate_before_indices : pruned_len_refusal (narrow 2 (0 ∷ [])) (9 ∷ []) ≡ Some EmptyBatch
unfolding exponent
gate_before_indices = refl

-- one path a query, in order, repeats included
paths_of_four_queries :
    restored_paths (params example (narrow 2 (8 ∷ [])) 3)
    (pruned (5 ∷ 1 ∷ 2 ∷ 1 ∷ []) (((6 ∷ []) ∷ []) ∷ ((2 ∷ []) ∷ []) ∷ ((3 ∷ []) ∷ []) ∷ ((2 ∷ []) ∷ []) ∷ [])
    ((32 ∷ []) ∷ (35 ∷ []) ∷ (36 ∷ []) ∷ (1218 ∷ []) ∷ []))
    ≡ (5, (36 ∷ []) ∷ (1218 ∷ []) ∷ (32897 ∷ []) ∷ []) ∷ (1, (32 ∷ []) ∷ (1090 ∷ []) ∷ (36993 ∷ []) ∷ [])
    ∷ (2, (35 ∷ []) ∷ (1026 ∷ []) ∷ (36993 ∷ []) ∷ []) ∷ (1, (32 ∷ []) ∷ (1090 ∷ []) ∷ (36993 ∷ []) ∷ []) ∷ []
unfolding exponent layer_exponent raw_len leaves_under restored_node
paths_of_four_queries = refl

-- an opening is answered Ok exactly if it is accepted
four_queries_are_accepted : pruned_answer_under nat_eq nat_eq (params example (narrow 2 (8 ∷ [])) 3)
    ((1056801 ∷ []) ∷ [])
    (pruned (5 ∷ 1 ∷ 2 ∷ 1 ∷ []) (((6 ∷ []) ∷ []) ∷ ((2 ∷ []) ∷ []) ∷ ((3 ∷ []) ∷ []) ∷ ((2 ∷ []) ∷ []) ∷ [])
    ((32 ∷ []) ∷ (35 ∷ []) ∷ (36 ∷ []) ∷ (1218 ∷ []) ∷ [])) ≡ Ok tt
unfolding exponent layer_exponent raw_len leaves_under restored_node
four_queries_are_accepted = refl

one_digest_is_wrong : pruned_answer_under nat_eq nat_eq (params example (narrow 2 (8 ∷ [])) 3)
    ((1056801 ∷ []) ∷ [])
    (pruned (5 ∷ 1 ∷ 2 ∷ 1 ∷ []) (((6 ∷ []) ∷ []) ∷ ((2 ∷ []) ∷ []) ∷ ((3 ∷ []) ∷ []) ∷ ((2 ∷ []) ∷ []) ∷ [])
    ((31 ∷ []) ∷ (35 ∷ []) ∷ (36 ∷ []) ∷ (1218 ∷ []) ∷ [])) ≡ Err CapMismatch
unfolding exponent layer_exponent raw_len leaves_under restored_node
one_digest_is_wrong = refl

row_sets_of_two_queries : {A B : Type 0} (first second : Vec (Vec ℕ A) B) → row_sets (first ∷ second ∷ [])
    ≡ row_lists first.items ∷ row_lists second.items ∷ []
row_sets_of_two_queries first second = refl
