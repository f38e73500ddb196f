-- What is opened of a tree: of an own tree it is honest, and accepted, and a pruned opening restores.
use Rattle.std.proofs.Common.{◌≡◌, ◌∙◌, ℕ, ◌<◌, ◌≤◌, List, [], ◌∷◌, ap, arith, length, refl, subst, sym}
use Rattle.std.specs.Prelude.{All, slice_index}
use Rattle.std.proofs.lemmas.List.{length-map}
use Rattle.p3_support.specs.Batches.{greatest}
use Rattle.p3_support.specs.declared.matrix.Matrix as matrix
use Rattle.p3_merkle_core.specs.Checks.{IsAccepted, params}
use Rattle.p3_merkle_core.specs.Commitments.{IsOwn, cap_over}
use Rattle.p3_merkle_core.specs.Geometry.{heights, levels}
use Rattle.p3_merkle_core.specs.Nodes.{Functions, shape}
use Rattle.p3_merkle_core.specs.Opened.{IsOpened, IsPrunedOpened}
use Rattle.p3_merkle_core.specs.Openings.{Opening, honest, honest_rows, node_in, opening_in_layers, opening_of}
use Rattle.p3_merkle_core.specs.Pruning.{CanQuery, as_single}
use Rattle.p3_merkle_core.specs.Pruning.{IsHonestQuery, IsPrunedAccepted, PrunedOpening, boundary, honest_query}
use Rattle.p3_merkle_core.specs.Pruning.{pruned_in_layers, restored_paths}
use Rattle.p3_merkle_core.proofs.Checks.CheckFacts.{honest_accepted}
use Rattle.p3_merkle_core.proofs.Checks.Completeness.{IsHonest}
use Rattle.p3_merkle_core.proofs.Checks.OwnNodes.{honest_restored_paths, own_opening_is, own_pruned_opening_is}
use Rattle.p3_merkle_core.proofs.Covered.Alone.{boundary_alone, one_there}
use Rattle.p3_merkle_core.proofs.Covered.Equivalence.{equivalent}
use Rattle.p3_merkle_core.proofs.Covered.Restoration.{honest_capped}
use Rattle.p3_merkle_core.proofs.Covered.Sufficient.{count_least}
use Rattle.p3_merkle_core.proofs.Pruned.HonestAnswered.{honest_restorable}
use Rattle.p3_merkle_prover.proofs.RowFacts.{full_rows}
use Rattle.p3_merkle_prover.specs.Parts.{layers_of, tree_batch}
use Rattle.p3_merkle_prover.specs.declared.tree.Tree.{Tree}

-- a list of one number
one_of : (xs : List ℕ) → length xs ≡ 1 → xs ≡ slice_index xs 0 ∷ []
one_of [] one = absurd (omega arith)
one_of (x ∷ []) one = refl
one_of (x ∷ y ∷ xs) one = absurd (omega arith)

module _ {T W M B : Type 0} {n : ℕ} {m : matrix.Ghosts M T} (f : Functions T W) (tree : Tree T (List W) B M n m)
    (t : ℕ) (in_tree : t ≤ levels (shape (tree_batch tree)))
    (law : (x : M) (j : ℕ) → j < m.height_of x → length (m.row_of x j) ≡ m.width_of x) where
  -- an opening that is read out of the layers
  pub is_opened : (o : Opening T W) → o.index < greatest (heights (shape (tree_batch tree))) → o
      ≡ opening_in_layers (tree_batch tree) (layers_of tree) t o.index →
      IsOpened (params f (shape (tree_batch tree)) t) (tree_batch tree) (layers_of tree) o
  is_opened o below opened =
      let b = tree_batch tree in
      let c = params f (shape b) t in
      let full = full_rows m.height_of m.width_of m.row_of n law tree.matrices.items in
      let w : IsHonest b t o.index =
      record { well_shaped = tree.arity; lawful = tree.lawful; below = below; in_tree = in_tree } in
      let is : IsOwn c b (layers_of tree) → o ≡ honest f b t o.index =
      λ own. opened ∙ ap (λ z. opening_in_layers b z t o.index) own ∙ own_opening_is f b t o.index w in
      record {
        in_layers = opened;
        is_honest = is;
        is_accepted = λ cap own. subst (λ (z : List (List W)). IsAccepted c z o) (sym own.own_cap)
            (subst (IsAccepted c (cap_over c b)) (sym (is own.own_layers)) (honest_accepted f b t o.index w full));
      }

  -- a pruned one
  pub is_pruned_opened : (p : PrunedOpening T W) → All (λ i. i < greatest (heights (shape (tree_batch tree)))) p.indices
      → p ≡ pruned_in_layers (tree_batch tree) (layers_of tree) t p.indices →
      IsPrunedOpened (params f (shape (tree_batch tree)) t) (tree_batch tree) (layers_of tree) p
  is_pruned_opened p below opened =
      let b = tree_batch tree in
      let c = params f (shape b) t in
      let full = full_rows m.height_of m.width_of m.row_of n law tree.matrices.items in
      let w : IsHonestQuery b t p.indices =
      record {
        queried = record { well_shaped = tree.arity; below = below; in_tree = in_tree };
        lawful = tree.lawful;
      } in
      let query = honest_query f b t p.indices in
      let is : IsOwn c b (layers_of tree) → p ≡ query =
      λ own. opened ∙ ap (λ z. pruned_in_layers b z t p.indices) own ∙ own_pruned_opening_is f b t p.indices w in
      let can = honest_restorable f b t p.indices w full in
      let each =
      equivalent f (shape b) t (cap_over c b) query tree.arity can.lawful can.below can.rows_fit can.agreed in
      let accepted : IsPrunedAccepted c (cap_over c b) query =
      record { restorable = can; each_accepted = each.0 (honest_capped f b t p.indices w) } in
      record {
        in_layers = opened;
        is_least = count_least (shape b) p.indices t (length p.digests) w.queried
            (ap (λ z. length z.digests) opened ∙ length-map (boundary (shape b) p.indices t) _);
        is_honest = is;
        is_accepted = λ cap own. subst (λ (z : List (List W)). IsPrunedAccepted c z p) (sym own.own_cap)
            (subst (IsPrunedAccepted c (cap_over c b)) (sym (is own.own_layers)) accepted);
        is_restored = λ own. ap (restored_paths c) (is own) ∙ honest_restored_paths f b t p.indices w;
      }

  -- a pruned one of one index is, by its digests, that of the index
  pub is_single_opened : (p : PrunedOpening T W) → All (λ i. i < greatest (heights (shape (tree_batch tree)))) p.indices
      → p ≡ pruned_in_layers (tree_batch tree) (layers_of tree) t p.indices → length p.indices ≡ 1 →
      IsOpened (params f (shape (tree_batch tree)) t) (tree_batch tree) (layers_of tree) (as_single p)
  is_single_opened p below opened one =
      let b = tree_batch tree in
      let i = slice_index p.indices 0 in
      let inside = below 0 0 (omega arith) in
      let w : CanQuery (shape b) (i ∷ []) t = record {
        well_shaped = tree.arity;
        below = one_there (λ q. q < greatest (heights (shape b))) i inside;
        in_tree = in_tree;
      } in
      is_opened (as_single p) inside
      (ap as_single opened ∙ ap (λ z. as_single (pruned_in_layers b (layers_of tree) t z)) (one_of p.indices one)
      ∙ ap (λ z. opening_of i (honest_rows b i) z) (boundary_alone (node_in [] (layers_of tree)) (shape b) i t w))
