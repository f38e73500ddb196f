-- Openings of one index: the rows and the siblings that a tree's nodes give.
use Rattle.std.specs.Prelude.{ℕ, suc, ◌+◌, ◌*◌, List, [], map, flat_map, remove, slice_index_or}
use Rattle.std.specs.List.{range_with_len}
use Rattle.p3_merkle_core.specs.Geometry.{Shape, step, ancestor, position_in_group, halved_index, heights}
use Rattle.p3_support.specs.Batches.{greatest, rows_in}
use Rattle.p3_merkle_core.specs.Nodes.{Functions, Batch, shape, node}

-- an opening: the index of a leaf, a row of each matrix, and the siblings on the leaf's path
pub record Opening (T W : Type 0) : Type 0 where
  pub index : ℕ
  pub rows : List (List T)
  pub siblings : List (List W)

-- the opening of an index, rows and siblings
abbrev pub opening_of : {T W : Type 0} → ℕ → List (List T) → List (List W) → Opening T W
opening_of index rows siblings = record { index = index; rows = rows; siblings = siblings }

-- ---- siblings, by the value of each node

-- the values of the children of node j of layer l + 1
abbrev pub children_by : {X : Type 0} → (ℕ → ℕ → X) → Shape → ℕ → ℕ → List X
children_by value s l j = map (λ i. value l (step s l * j + i)) (range_with_len 0 (step s l))

-- the values of the siblings of leaf i's ancestor of layer l: of the other children of its parent, ascending
abbrev pub level_siblings : {X : Type 0} → (ℕ → ℕ → X) → Shape → ℕ → ℕ → List X
level_siblings value s i l = remove (children_by value s l (ancestor s (suc l) i)) (position_in_group s l i)

-- the values of the siblings on the path of leaf i up to layer t
abbrev pub siblings_by : {X : Type 0} → (ℕ → ℕ → X) → Shape → ℕ → ℕ → List X
siblings_by value s t i = flat_map (level_siblings value s i) (range_with_len 0 t)

-- the value of a node that the layers of a tree have, and x past their end
abbrev pub node_in : {X : Type 0} → X → List (List X) → ℕ → ℕ → X
node_in x layers l j = slice_index_or (slice_index_or layers l []) j x

-- ---- the honest opening

-- the row of each matrix that belongs to leaf i
abbrev pub honest_rows : {T : Type 0} → Batch T → ℕ → List (List T)
honest_rows b i = rows_in (λ m. m.height) (λ m. m.row) halved_index (greatest (heights (shape b))) b.matrices i

-- the opening of leaf i whose siblings are the nodes that the layers of a tree have, up to layer t
abbrev pub opening_in_layers : {T W : Type 0} → Batch T → List (List (List W)) → ℕ → ℕ → Opening T W
opening_in_layers b layers t i = opening_of i (honest_rows b i) (siblings_by (node_in [] layers) (shape b) t i)

-- the honest opening of leaf i, up to layer t
abbrev pub honest : {T W : Type 0} → Functions T W → Batch T → ℕ → ℕ → Opening T W
honest f b t i = opening_of i (honest_rows b i) (siblings_by (node f b) (shape b) t i)
