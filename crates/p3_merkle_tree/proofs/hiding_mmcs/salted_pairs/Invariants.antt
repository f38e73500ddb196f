-- Each turn draws the salts of one matrix.
use Rattle.std.proofs.Common.{◌≡◌, ◌++◌, map}
use Rattle.std.specs.Vec.Iter.{into_iter_items}
use Rattle.p3_support.specs.Batches.{CanWiden}
use Rattle.p3_merkle_core.specs.Views.{matrix_of}
use Rattle.p3_merkle_core.specs.Nodes.{dimensions_of}
use Rattle.p3_support.specs.Pairs.{left_of}
use Rattle.p3_merkle_tree.specs.Salted.{after_salts, salted_matrices}
use Rattle.p3_merkle_tree.specs.SaltedTrees.{HaveSaltColumns}
use Rattle.p3_merkle_tree.specs.Inner.SaltedParts.{pair_matrix}
use Rattle.p3_merkle_tree.proofs.hiding_mmcs.salted_pairs.Given as goal

-- the pairs so far, and what the matrices that are left will get
abbrev pub invariant-loop-matrix : goal.invariant-loop-matrix
invariant-loop-matrix g l =
    let shown = map (matrix_of g.M.Matrix.height_of g.M.Matrix.width_of g.M.Matrix.row_of) in
    let of_word = g.T.SaltWord.of_salt_word in
    let left = into_iter_items l.matrix-iterator in
    record {
      fits : CanWiden l.salt_elems (dimensions_of (shown left));
      same : map left_of l.pairs.items ++ left ≡ l.fn.matrices.items;
      columns : HaveSaltColumns l.salt_elems l.pairs.items;
      salted : map pair_matrix l.pairs.items ++ salted_matrices of_word l.salt_elems (shown left) (g.R.Rng.stream l.rng)
          ≡ salted_matrices of_word l.salt_elems (shown l.fn.matrices.items) (g.R.Rng.stream l.fn.rng);
      drawn : g.R.Rng.stream l.rng
          ≡ after_salts l.salt_elems (shown (map left_of l.pairs.items)) (g.R.Rng.stream l.fn.rng);
    }
