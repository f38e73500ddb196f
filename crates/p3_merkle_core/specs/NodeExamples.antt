-- Layers and nodes, worked out by the functions of `Examples`.
use Rattle.std.specs.Prelude.{◌≡◌, [], ◌∷◌, refl}
use Rattle.p3_merkle_core.specs.Geometry.{exponent, layer_exponent, raw_len}
use Rattle.p3_merkle_core.specs.Nodes.{node, layer}
use Rattle.p3_merkle_core.specs.Examples.{batch, column, example}

leaves_of_four_rows : layer example (batch 2 (column (1 ∷ 2 ∷ 3 ∷ 4 ∷ []) ∷ [])) 0
    ≡ (32 ∷ []) ∷ (33 ∷ []) ∷ (34 ∷ []) ∷ (35 ∷ []) ∷ []
unfolding exponent layer_exponent raw_len node
leaves_of_four_rows = refl

nodes_over_four_rows : layer example (batch 2 (column (1 ∷ 2 ∷ 3 ∷ 4 ∷ []) ∷ [])) 1
    ≡ (1026 ∷ []) ∷ (1090 ∷ []) ∷ []
unfolding exponent layer_exponent raw_len node
nodes_over_four_rows = refl

root_of_four_rows : layer example (batch 2 (column (1 ∷ 2 ∷ 3 ∷ 4 ∷ []) ∷ [])) 2 ≡ (32897 ∷ []) ∷ []
unfolding exponent layer_exponent raw_len node
root_of_four_rows = refl

root_of_one_row : layer example (batch 2 (column (9 ∷ []) ∷ [])) 0 ≡ (40 ∷ []) ∷ []
unfolding exponent layer_exponent raw_len node
root_of_one_row = refl

-- a layer of odd length is padded by a default digest
leaves_of_three_rows : layer example (batch 2 (column (1 ∷ 2 ∷ 3 ∷ []) ∷ [])) 0
    ≡ (32 ∷ []) ∷ (33 ∷ []) ∷ (34 ∷ []) ∷ (0 ∷ []) ∷ []
unfolding exponent layer_exponent raw_len node
leaves_of_three_rows = refl

nodes_over_three_rows : layer example (batch 2 (column (1 ∷ 2 ∷ 3 ∷ []) ∷ [])) 1
    ≡ (1026 ∷ []) ∷ (1055 ∷ []) ∷ []
unfolding exponent layer_exponent raw_len node
nodes_over_three_rows = refl

root_of_three_rows : layer example (batch 2 (column (1 ∷ 2 ∷ 3 ∷ []) ∷ [])) 2 ≡ (32862 ∷ []) ∷ []
unfolding exponent layer_exponent raw_len node
root_of_three_rows = refl

root_with_an_injected_row : layer example (batch 2 (column (1 ∷ 2 ∷ []) ∷ column (5 ∷ []) ∷ [])) 1
    ≡ (31843 ∷ []) ∷ []
unfolding exponent layer_exponent raw_len node
root_with_an_injected_row = refl

leaves_of_two_rows_at_4 : layer example (batch 4 (column (1 ∷ 2 ∷ []) ∷ [])) 0
    ≡ (32 ∷ []) ∷ (33 ∷ []) ∷ (0 ∷ []) ∷ (0 ∷ []) ∷ []
unfolding exponent layer_exponent raw_len node
leaves_of_two_rows_at_4 = refl

root_of_two_rows_at_4 : layer example (batch 4 (column (1 ∷ 2 ∷ []) ∷ [])) 1 ≡ (986051 ∷ []) ∷ []
unfolding exponent layer_exponent raw_len node
root_of_two_rows_at_4 = refl

-- rows of matrices of one height are joined in input order
leaves_of_two_matrices : layer example (batch 2 (column (1 ∷ 2 ∷ []) ∷ column (3 ∷ 4 ∷ []) ∷ [])) 0
    ≡ (995 ∷ []) ∷ (1027 ∷ []) ∷ []
unfolding exponent layer_exponent raw_len node
leaves_of_two_matrices = refl

root_of_two_matrices : layer example (batch 2 (column (1 ∷ 2 ∷ []) ∷ column (3 ∷ 4 ∷ []) ∷ [])) 1
    ≡ (31873 ∷ []) ∷ []
unfolding exponent layer_exponent raw_len node
root_of_two_matrices = refl

nodes_with_injected_rows : layer example (batch 2 (column (1 ∷ 2 ∷ 3 ∷ []) ∷ column (4 ∷ 5 ∷ []) ∷ [])) 1
    ≡ (31842 ∷ []) ∷ (32742 ∷ []) ∷ []
unfolding exponent layer_exponent raw_len node
nodes_with_injected_rows = refl

root_with_injected_rows : layer example (batch 2 (column (1 ∷ 2 ∷ 3 ∷ []) ∷ column (4 ∷ 5 ∷ []) ∷ [])) 2
    ≡ (1019845 ∷ []) ∷ []
unfolding exponent layer_exponent raw_len node
root_with_injected_rows = refl

-- the last of four nodes: default digests compressed, and once more with a default digest
node_past_the_injected_height :
    node example
    (record {
      arity = 4;
      matrices = record { height = 5; width = 1; row = λ r. r ∷ [] }
          ∷ record { height = 3; width = 1; row = λ r. r ∷ [] } ∷ [];
    }) 1 3 ≡ 30566592 ∷ []
unfolding exponent layer_exponent raw_len node
node_past_the_injected_height = refl
