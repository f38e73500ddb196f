-- The layers of a pruned opening: their covered nodes, and what is restored of them.
use Rattle.std.specs.Prelude.{◌≡◌, ◌*◌, ◌/◌, ◌<◌, ◌≤◌, ℕ, zero, suc, List, All, drop, ◌+◌, flat_map, length, map}
use Rattle.std.specs.Prelude.{slice_index, slice_index_or}
use Rattle.std.specs.List.{range_with_len}
use Rattle.p3_merkle_core.specs.Checks.{params}
use Rattle.p3_merkle_core.specs.Geometry.{Shape, ancestor, has_rows, shape_of, step}
use Rattle.p3_merkle_core.specs.Inner.Children.{levels_in, AreChildren, AreLinked}
use Rattle.p3_merkle_core.specs.Inner.Covered.{covered_at}
use Rattle.p3_merkle_core.specs.Nodes.{Functions}
use Rattle.p3_merkle_core.specs.Pruning.{PrunedOpening, pruned_of, restored_node, value_of, words_under}
use Rattle.p3_merkle_core.specs.declared.pruning.CoveredLayer.{CoveredLayer}
use Rattle.p3_support.specs.RowSets.{sets_in}
use Rattle.p3_merkle_verifier.specs.declared.openings.PrunedOpeningRef.{PrunedOpeningRef}
use Rattle.p3_merkle_verifier.specs.declared.openings.RestorableOpening.{RestorableOpening}

-- the borrowed pruned opening
abbrev pub pruned_in : {T W : Type 0} → PrunedOpeningRef T (List W) → PrunedOpening T W
pruned_in opening = pruned_of opening.indices.now (sets_in opening.sets) opening.sent.now

-- the shape of the tree that an opening is of
abbrev pub tree_of : {T X : Type 0} → RestorableOpening T X → Shape
tree_of restorable = shape_of restorable.schedule.now.arity restorable.schedule.now.dimensions.now

-- the opening itself
abbrev pub opened_by : {T W : Type 0} → RestorableOpening T (List W) → PrunedOpening T W
opened_by restorable = pruned_in restorable.opening

-- the node of layer l above the index of query k
abbrev pub node_of_query : Shape → List ℕ → ℕ → ℕ → ℕ
node_of_query s indices l k = ancestor s l (slice_index indices k)

-- queries under the covered nodes of layer l, one for each
pub record AreQueriesAt (s : Shape) (indices : List ℕ) (l : ℕ) (queries : List ℕ) : Type 0 where
  pub queries_are : covered_at s indices l ≡ map (node_of_query s indices l) queries
  pub among : All (λ k. k < length indices) queries

-- the digests of the rows that were opened under the covered nodes of layer l
abbrev pub row_values : {T W : Type 0} → Functions T W → Shape → PrunedOpening T W → ℕ → List (List W)
row_values f s p l = map (λ j. f.hash (words_under s p l j)) (covered_at s p.indices l)

-- layer l of a tree of this shape, whose covered nodes are those of some indices
pub record IsCoveredAt {X : Type 0} (s : Shape) (indices : List ℕ) (l : ℕ) (layer : CoveredLayer X) : Type 0 where
  pub shape_is : shape_of layer.covered.schedule.now.arity layer.covered.schedule.now.dimensions.now ≡ s
  pub indices_are : layer.covered.indices.now ≡ indices
  pub layer_is : layer.covered.layer ≡ l

-- the covered leaves
pub record AreLeaves {X : Type 0} (s : Shape) (indices : List ℕ) (leaves : CoveredLayer X) : Type 0 where
  pub coverage : IsCoveredAt s indices 0 leaves
  pub childless : leaves.step ≡ 0

-- the layer above layer l, with its nodes' children, some of which are digests of the proof
pub record IsLayerAbove {X : Type 0} (s : Shape) (indices : List ℕ) (l : ℕ) (below : CoveredLayer X)
    (digests sent : List X) (above : CoveredLayer X) : Type 0 where
  pub step_is : above.step ≡ step s l
  pub rows_are : above.has_rows ≡ has_rows s (suc l)
  pub coverage : IsCoveredAt s indices (suc l) above
  pub values : AreChildren above.step above.covered.nodes.items below.covered.nodes.items digests
      (drop below.covered.boundary_below sent) above.children.items

-- the values of the children of the covered nodes above layer l, parent by parent
abbrev pub child_values : {T W : Type 0} → Functions T W → Shape → ℕ → PrunedOpening T W → ℕ → List (List W)
child_values f s cap_layer p l =
    flat_map (λ j. map (value_of (params f s cap_layer) p l) (range_with_len (step s l * j) (step s l)))
    (covered_at s p.indices (suc l))

-- the covered nodes above layer l have their step, and their children have their values
pub record HaveChildren {T W : Type 0} (f : Functions T W) (s : Shape) (cap_layer : ℕ) (p : PrunedOpening T W) (l : ℕ)
    (above : CoveredLayer (List W)) : Type 0 where
  pub step_is : above.step ≡ step s l
  pub rows_are : above.has_rows ≡ has_rows s (suc l)
  pub full : length above.children.items ≡ above.step * length above.covered.nodes.items
  pub values_are : above.children.items ≡ child_values f s cap_layer p l

-- the children of the covered nodes of layer l; leaves have none
abbrev pub IsFamilyAt : {T W : Type 0} → Functions T W → Shape → ℕ → PrunedOpening T W → ℕ → CoveredLayer (List W) →
    Type 0
IsFamilyAt f s cap_layer p zero covered = Unit {0}
IsFamilyAt f s cap_layer p (suc l) covered = HaveChildren f s cap_layer p l covered

-- the covered nodes of layer l, and the values of their children, which leaves do not have
pub record IsLayer {T W : Type 0} (f : Functions T W) (s : Shape) (cap_layer : ℕ) (p : PrunedOpening T W) (l : ℕ)
    (layer : CoveredLayer (List W)) : Type 0 where
  pub coverage : IsCoveredAt s p.indices l layer
  pub wide : 0 < l → 0 < layer.step
  pub narrow : layer.step ≤ s.arity
  pub in_groups : 0 < l → length layer.covered.nodes.items ≡ length layer.children.items / layer.step
  pub family : IsFamilyAt f s cap_layer p l layer

-- the digests that are restored of the covered nodes of layer l
abbrev pub AreRestored : {T W : Type 0} → Functions T W → Shape → ℕ → PrunedOpening T W → ℕ → List (List W) → Type 0
AreRestored f s cap_layer p l digests =
    digests ≡ map (restored_node (params f s cap_layer) p l) (covered_at s p.indices l)

-- the layers from the leaves up to layer l, each linked with the one below it
pub record IsClimb {X : Type 0} (s : Shape) (indices : List ℕ) (l : ℕ) (layers : List (CoveredLayer X)) : Type 0 where
  pub count : length layers ≡ l + 1
  pub leaves : (x : CoveredLayer X) → AreLeaves s indices (slice_index_or layers 0 x)
  pub linked : AreLinked layers

-- the same, with what is restored of the nodes' children
pub record AreLayers {T W : Type 0} (f : Functions T W) (s : Shape) (cap_layer : ℕ) (p : PrunedOpening T W) (l : ℕ)
    (layers : List (CoveredLayer (List W))) : Type 0 where
  pub climb : IsClimb s p.indices l layers
  pub top : (x : CoveredLayer (List W)) → IsLayer f s cap_layer p l (slice_index_or layers l x)
  pub levels_are : levels_in layers ≡ map {B = List ℕ × ℕ × List (List W)}
      (λ l. (covered_at s p.indices (suc l), step s l, child_values f s cap_layer p l)) (range_with_len 0 l)
