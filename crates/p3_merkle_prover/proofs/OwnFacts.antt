-- What a tree opens of one index: the bounds of each group, and the siblings level by level.
use Rattle.std.proofs.Common.{◌≡◌, ℕ, suc, ◌+◌, ◌-◌, ◌*◌, ◌/◌, ◌%◌, ◌<◌, ◌≤◌, List, ◌++◌, [], map, refl, ap, sym, ◌∙◌}
use Rattle.std.proofs.Common.{arith, length, get_or, take, drop, add-one, length-drop}
use Rattle.std.proofs.lemmas.List.{ext_get_or, get_or-drop, get_or-map, get_or-take, length-take-le}
use Rattle.std.proofs.lemmas.List.FromFn.{get_or-map-range_with_len, length-map-range_with_len}
use Rattle.std.proofs.Math.Nat.{mul-le-mul_left}
use Rattle.std.specs.List.{range_with_len, remove}
use Rattle.std.specs.Prelude.{slice_index_or}
use Rattle.p3_merkle_core.specs.Geometry.{Shape, step, ancestor, levels, heights, raw_len, layer_len, IsArity, IsLawful}
use Rattle.p3_merkle_core.specs.Nodes.{shape}
use Rattle.p3_merkle_core.specs.Openings.{node_in, level_siblings}
use Rattle.p3_support.specs.Batches.{greatest}
use Rattle.p3_support.specs.declared.matrix.Matrix.{Ghosts}
use Rattle.p3_merkle_core.proofs.Shapes.RawFacts.{anc_below, children_fit}
use Rattle.p3_merkle_core.proofs.Shapes.StepFacts.{anc_next, step_above_1}
use Rattle.p3_merkle_core.proofs.Lists.ListFacts.{joined, joined_more}
use Rattle.p3_merkle_prover.specs.Parts.{tree_batch}
use Rattle.p3_merkle_prover.specs.declared.tree.Tree.{Tree}
use Rattle.p3_merkle_prover.proofs.TreeFacts.{layer_long}

-- the group, in layer l, of the node above leaf i: from `node - node % n` on, n of the layer's digests
pub record IsGroup (s : Shape) (i l n node len : ℕ) : Type 0 where
  pub is_step : n ≡ step s l
  pub at_node : node ≡ ancestor s l i
  pub wide : 2 ≤ n
  pub starts : node - node % n ≡ step s l * ancestor s (suc l) i
  pub fits : node - node % n + n ≤ len

-- the group lies within its layer
pub group_is : (s : Shape) (i l n node len : ℕ) → IsArity s.arity → IsLawful (heights s) → i < greatest (heights s) →
    l < levels s →
    node ≡ ancestor s l i → n ≡ step s l → len ≡ layer_len s l → IsGroup s i l n node len
group_is s i l n node len w lawful below h at is long =
    let two : 2 ≤ n = rw is (step_above_1 s l w.above_1) in
    let up : ancestor s (suc l) i ≡ node / n = anc_next s l i ∙ rw (is, at) refl in
    let start : node - node % n ≡ n * (node / n) = omega arith in
    let inside : node / n < raw_len s (suc l) = rw (← up) (anc_below s w i below (suc l) (omega arith)) in
    let room : n * raw_len s (suc l) ≤ layer_len s l = rw is (children_fit s w lawful.some_above_0 l h) in
    let whole : n * (node / n + 1) ≤ n * raw_len s (suc l) = mul-le-mul_left n (omega arith) in
    let next : n * (node / n + 1) ≡ n * (node / n) + n = omega arith in
    record { is_step = is; at_node = at; wide = two; starts = start ∙ rw (up, ← is) refl; fits = omega arith }

-- the same from the facts of a tree: its layers have their lengths
pub group_of : {F X G M : Type 0} {N : ℕ} {matrix : Ghosts M F} (tree : Tree F X G M N matrix) (i l t : ℕ) {s : Shape}
    {n node : ℕ} {layer : _} → s ≡ shape (tree_batch tree) → i < greatest (heights (shape (tree_batch tree))) →
    t ≤ levels (shape (tree_batch tree)) → l < t → node ≡ ancestor (shape (tree_batch tree)) l i → n ≡ step s l →
    layer ≡ get_or tree.layers.items l layer → IsGroup (shape (tree_batch tree)) i l n node (length layer.items)
group_of tree i l t {layer = layer} own below in_tree h at is read =
    let s = shape (tree_batch tree) in
    group_is s i l _ _ (length layer.items) tree.arity tree.lawful below (omega arith) at
    (is ∙ ap (λ (z : Shape). step z l) own)
    (layer_long (λ nodes. length nodes.items) tree.layers.items s tree.layer_lengths l layer (omega arith) read)

-- a part of a list, place by place
part_read : {X : Type 0} (d : X) (xs : List X) (a n : ℕ) → a + n ≤ length xs → take n (drop a xs)
    ≡ map (λ k. get_or xs (a + k) d) (range_with_len 0 n)
part_read d xs a n fits =
    let left = length-drop a xs in
    let long : length (take n (drop a xs)) ≡ n = length-take-le n (drop a xs) (omega arith) in
    let made = length-map-range_with_len (λ k. get_or xs (a + k) d) 0 n in
    ext_get_or d (take n (drop a xs)) (map (λ k. get_or xs (a + k) d) (range_with_len 0 n)) (long ∙ sym made)
    (λ k inside. get_or-take n (drop a xs) k d (omega (arith, long)) ∙ get_or-drop a xs k d
    ∙ sym (get_or-map-range_with_len (λ k. get_or xs (a + k) d) 0 n k k d (omega (arith, long)) (omega arith)))

-- one level more of the siblings: the group's digests without the node's
pub group_next : {V X : Type 0} (d : X) (items : V → List X) (layers : List V) (s : Shape) (i l n node : ℕ) (layer : V)
    (row old new : List X) →
    IsGroup s i l n node (length (items layer)) → l < length layers → layer ≡ get_or layers l layer →
    row ≡ items layer → old ≡ joined (level_siblings (node_in d (map items layers)) s i) l →
    new ≡ old ++ remove (take (node - node % n + n - (node - node % n)) (drop (node - node % n) row)) (node % n) →
    new ≡ joined (level_siblings (node_in d (map items layers)) s i) (l + 1)
group_next d items layers s i l n node layer row old new w h is shown is_old is_new =
    let size : node - node % n + n - (node - node % n) ≡ n = omega arith in
    let read : slice_index_or (map items layers) l [] ≡ items layer = get_or-map items layers l layer [] h
    ∙ ap items (sym is) in
    let part = part_read d (items layer) (node - node % n) n w.fits in
    is_new ∙ rw (
      is_old,
      shown,
      size,
      add-one,
      joined_more (level_siblings (node_in d (map items layers)) s i) l,
      part,
      read,
      w.starts,
      w.is_step,
      w.at_node,
    ) refl

-- the node of the next level
pub node_next : (s : Shape) (i l n node len : ℕ) → IsGroup s i l n node len → node / n ≡ ancestor s (l + 1) i
node_next s i l n node len w = rw (add-one, w.is_step, w.at_node) (sym (anc_next s l i))
