-- What is read out of the layers of a batch's tree is the honest opening, and the restored paths of an honest pruned
-- opening, in query order.
use Rattle.std.proofs.Common.{◌≡◌, ℕ, zero, suc, ◌+◌, ◌*◌, ◌<◌, ◌≤◌, Bool, List, [], ◌∷◌, map, refl, ap, ◌∙◌, arith}
use Rattle.std.proofs.Common.{inl, inr, length, get_or, filter, remove}
use Rattle.std.proofs.lemmas.Grind.{common_steps}
use Rattle.std.proofs.lemmas.Bool.{cases_Bool}
use Rattle.std.proofs.lemmas.List.{map-append}
use Rattle.std.proofs.lemmas.List.FromFn.{get_or-map-range_with_len}
use Rattle.std.proofs.Math.Nat.{mul-le-mul_left, mul-suc}
use Rattle.std.specs.List.{range_with_len}
use Rattle.p3_merkle_core.specs.Pruning.{boundary, boundary_at, is_boundary, honest_query, restored_path, IsHonestQuery}
use Rattle.p3_merkle_core.specs.Pruning.{restored_paths, pruned_in_layers}
use Rattle.p3_merkle_core.specs.Checks.{params}
use Rattle.p3_merkle_core.specs.Openings.{siblings_by}
use Rattle.p3_merkle_core.specs.Openings.{node_in, level_siblings, opening_in_layers, opening_of, honest, honest_rows}
use Rattle.p3_merkle_core.specs.Nodes.{Functions, Batch, shape, node, layer, layers}
use Rattle.p3_merkle_core.specs.Geometry.{Shape, levels, layer_len, ancestor, position_in_group, step, raw_len}
use Rattle.p3_merkle_core.proofs.Checks.Completeness.{IsHonest}
use Rattle.p3_merkle_core.proofs.Checks.PathFacts.{joined_same, map_same}
use Rattle.p3_merkle_core.proofs.Shapes.RawFacts.{anc_below, children_fit}
use Rattle.p3_merkle_core.proofs.Lists.ListFacts.{joined_more}
use Rattle.p3_merkle_core.proofs.Covered.Restoration.{honest_paths}

-- a tree's layers have its nodes
pub own_node_is : {T W : Type 0} (f : Functions T W) (b : Batch T) (l j : ℕ) → l ≤ levels (shape b) →
    j < layer_len (shape b) l → node_in [] (layers f b) l j ≡ node f b l j
own_node_is f b l j h g =
    let s = shape b in
    ap (λ nodes. get_or nodes j [])
    (get_or-map-range_with_len (layer f b) 0 (suc (levels s)) l l [] (omega arith) (omega arith))
    ∙ get_or-map-range_with_len (node f b l) 0 (layer_len s l) j j [] g (omega arith)

-- ---- two functions of nodes that agree on the boundary

layer_alike : {X : Type 0} (g h : ℕ × ℕ → X) (p : ℕ → Bool) (l a n : ℕ) → ((j : ℕ) → j < a + n → g (l, j) ≡ h (l, j)) →
    map g (map (λ j. (l, j)) (filter p (range_with_len a n)))
    ≡ map h (map (λ j. (l, j)) (filter p (range_with_len a n)))
layer_alike g h p l a zero e = refl
layer_alike g h p l a (suc n) e =
    let rest = layer_alike g h p l (a + 1) n (λ j k. e j (omega arith)) in
    elim (cases_Bool (p a)) [ inl t ↦ rw (t, e a (omega arith), rest) refl | inr f ↦ rw f rest ]

boundary_alike : {X : Type 0} (g h : ℕ × ℕ → X) (s : Shape) (queries : List ℕ) (t : ℕ) →
    ((l j : ℕ) → l < t → j < layer_len s l → g (l, j) ≡ h (l, j)) → map g (boundary s queries t)
    ≡ map h (boundary s queries t)
boundary_alike g h s queries zero e = refl
boundary_alike g h s queries (suc t) e =
    let below = boundary_alike g h s queries t (λ l j k i. e l j (omega arith) i) in
    let here = layer_alike g h (is_boundary s queries t) t 0 (layer_len s t)
    (λ j k. e t j (omega arith) (omega arith)) in
    rw (
      joined_more (boundary_at s queries) t,
      map-append g (boundary s queries t) (boundary_at s queries t),
      map-append h (boundary s queries t) (boundary_at s queries t),
      below,
      here,
    ) refl

-- what is read of the boundary out of a tree's layers is the honest pruned opening
pub own_pruned_opening_is : {T W : Type 0} (f : Functions T W) (b : Batch T) (t : ℕ) (indices : List ℕ) →
    IsHonestQuery b t indices → pruned_in_layers b (layers f b) t indices ≡ honest_query f b t indices
own_pruned_opening_is f b t indices w = grind (arith, common_steps, own_node_is, boundary_alike)

-- ---- the siblings of one index

-- those of one level are the honest ones
own_level_is : {T W : Type 0} (f : Functions T W) (b : Batch T) (t i l : ℕ) → IsHonest b t i → l < t →
    level_siblings (node_in [] (layers f b)) (shape b) i l ≡ level_siblings (node f b) (shape b) i l
own_level_is f b t i l w h =
    let s = shape b in
    let top = w.in_tree in
    let j = ancestor s (suc l) i in
    let inside : j < raw_len s (suc l) = anc_below s w.well_shaped i w.below (suc l) (omega (arith, top)) in
    let more : step s l * suc j ≤ step s l * raw_len s (suc l) = mul-le-mul_left (step s l) inside in
    let room : step s l * j + step s l ≤ layer_len s l =
    omega (
      arith,
      more,
      children_fit s w.well_shaped (omega (arith, w.below)) l (omega (arith, top)),
      mul-suc (step s l) j,
    ) in
    ap (λ (z : List (List _)). remove z (position_in_group s l i))
    (map_same (λ k. node_in [] (layers f b) l (step s l * j + k)) (λ k. node f b l (step s l * j + k)) 0 (step s l)
    (λ k low high. own_node_is f b l (step s l * j + k) (omega (arith, top)) (omega arith)))

-- what is read of an index out of a tree's layers is the honest opening
pub own_opening_is : {T W : Type 0} (f : Functions T W) (b : Batch T) (t i : ℕ) → IsHonest b t i →
    opening_in_layers b (layers f b) t i ≡ honest f b t i
own_opening_is f b t i w =
    let siblings = joined_same (level_siblings (node_in [] (layers f b)) (shape b) i)
    (level_siblings (node f b) (shape b) i) t (λ l h. own_level_is f b t i l w h) in
    λ k. opening_of i (honest_rows b i) (siblings k)

-- ---- paths in query order

map_each : {X : Type 0} (g h : ℕ → X) (xs : List ℕ) →
    ((k : ℕ) → k < length xs → g (get_or xs k 0) ≡ h (get_or xs k 0)) → map g xs ≡ map h xs
map_each g h [] e = refl
map_each g h (x ∷ xs) e = rw (e 0 (omega arith), map_each g h xs (λ k l. e (suc k) (omega arith))) refl

-- an honest pruned opening restores one honest path a query, in order
pub honest_restored_paths : {T W : Type 0} (f : Functions T W) (b : Batch T) (t : ℕ) (indices : List ℕ) →
    IsHonestQuery b t indices →
    restored_paths (params f (shape b) t) (honest_query f b t indices)
    ≡ map (λ i. (i, siblings_by (node f b) (shape b) t i)) indices
honest_restored_paths f b t indices w =
    map_each (λ i. (i, restored_path (params f (shape b) t) (honest_query f b t indices) i))
    (λ i. (i, siblings_by (node f b) (shape b) t i)) indices
    (λ k h. ap (λ path. (get_or indices k 0, path)) (honest_paths f b t indices w k h))
