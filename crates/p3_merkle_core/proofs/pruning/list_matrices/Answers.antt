-- The matrices so far, and those of the exponent among the rest, are all of the exponent.
use Rattle.std.proofs.Common.{◌-◌, ◌+◌, ◌++◌, ◌∙◌, ap, arith, eqb, filter, get_or, length, ℕ, List}
use Rattle.std.specs.List.{range_with_len}
use Rattle.p3_support.specs.Batches.{heights_of}
use Rattle.p3_merkle_core.specs.Geometry.{exponent}
use Rattle.p3_merkle_core.specs.Inner.Agreement.{matrices_with}
use Rattle.p3_merkle_core.proofs.Pruned.LeadFacts.{height_missed, height_read, matrix_turn}
use Rattle.p3_merkle_core.proofs.pruning.list_matrices.Goals.{then-exponent_of-exponent+in_ok-push}
use Rattle.p3_merkle_core.proofs.pruning.list_matrices.Goals.{else-exponent_of-exponent}
use Rattle.p3_merkle_core.proofs.pruning.list_matrices.Goals as goal

pub loop-matrix-preserved : goal.loop-matrix-preserved
loop-matrix-preserved c =
    let hs = heights_of c.args.dimensions.now in
    let m = c.loop-matrix.matrix in
    let n = length c.args.dimensions.now in
    let x = c.args.exponent in
    let rest = filter (λ m. eqb (exponent (get_or hs m 0)) x) (range_with_len (m + 1) (n - (m + 1))) in
    let turn = matrix_turn hs x n m c.loop-matrix.matrices.items (matrices_with hs x) (omega arith)
    c.loop-matrix.invariant in
    elim c.if-exponent_of-exponent.branch [
      | then-exponent_of-exponent+in_ok-push w ↦
          ap (λ v. v.items ++ rest) w.matrices-is
          ∙ ap (λ (xs : List ℕ). xs ++ rest) w.in_ok-push.ensures.items
          ∙ turn.taken (height_read c.args.dimensions.now m c.exponent_of.result x (omega arith) c.exponent_of.ensures
          w.if-exponent_of-exponent.true)
      | else-exponent_of-exponent w ↦
          ap (λ v. v.items ++ rest) w.matrices-is
          ∙ turn.skipped (height_missed c.args.dimensions.now m c.exponent_of.result x (omega arith)
          c.exponent_of.ensures w.if-exponent_of-exponent.false)
    ]
