-- The rows so far are the honest ones of the first matrices (`read`).
use Rattle.std.proofs.Common.{◌∙◌, arith, refl}
use Rattle.std.proofs.lemmas.{List.take_all}
use Rattle.p3_merkle_core.specs.Openings.{honest_rows}
use Rattle.p3_merkle_core.specs.Geometry.{heights}
use Rattle.p3_merkle_core.specs.Nodes.{shape}
use Rattle.p3_merkle_prover.specs.Parts.{tree_batch}
use Rattle.p3_merkle_prover.proofs.RowFacts.{few_halvings, row_inside, row_next, rows_count}
use Rattle.p3_merkle_prover.proofs.opener.rows_of_index.Goals as goal

pub overflow_shr-row : goal.overflow_shr-row
overflow_shr-row g c =
    let few = few_halvings (heights (shape (tree_batch c.args.tree.now))) c.height.result c.args.tree.now.lawful in
    rw (c.bits_reduced_of.ensures, c.max_height-max_height.ensures) few

pub append_row-requires : goal.append_row-requires
append_row-requires g c =
    rw (c.bits_reduced_of.ensures, c.max_height-max_height.ensures, c.height.ensures)
    (row_inside g.M.Matrix.height_of g.M.Matrix.width_of g.M.Matrix.row_of g.row.N c.args.tree.now.matrices.items
    c.loop-matrix.matrix-index c.args.index c.matrix-item.result
    c.args.tree.now.lawful c.requires (rw c.deref-matrix-items.ensures.value at c.loop-matrix-test.true)
    (rw c.deref-matrix-items.ensures.value at c.matrix-item.is))

pub push_reserved-requires : goal.push_reserved-requires
push_reserved-requires g c =
    omega (
      arith,
      c.loop-matrix.invariant.count,
      c.loop-matrix.invariant.capacity,
      c.loop-matrix-test.true,
      c.deref-matrix-items.ensures.len,
    )

pub loop-matrix-preserved : goal.loop-matrix-preserved
loop-matrix-preserved g c =
    let inside = rw c.deref-matrix-items.ensures.value at c.loop-matrix-test.true in
    let read = rw c.deref-matrix-items.ensures.value at c.matrix-item.is in
    record {
      read = row_next g.M.Matrix.height_of g.M.Matrix.width_of g.M.Matrix.row_of g.row.N (λ row. row.items)
          c.args.tree.now.matrices.items c.loop-matrix.matrix-index c.args.index c.matrix-item.result
          c.loop-matrix.rows.items c.push_reserved.new.self.items c.append_row.new.words inside read
          (row_inside g.M.Matrix.height_of g.M.Matrix.width_of g.M.Matrix.row_of g.row.N c.args.tree.now.matrices.items
          c.loop-matrix.matrix-index c.args.index c.matrix-item.result
          c.args.tree.now.lawful c.requires inside read)
          c.loop-matrix.invariant.read c.push_reserved.ensures.items
          (rw (
            c.in_ok-words.ensures.items,
            c.bits_reduced_of.ensures,
            c.max_height-max_height.ensures,
            c.height.ensures,
          )
          at c.in_ok-append_row.ensures);
      count = omega (arith, c.push_reserved.ensures.len, c.loop-matrix.invariant.count);
      capacity = omega (arith, c.push_reserved.ensures.capacity, c.loop-matrix.invariant.capacity);
    }

pub loop-matrix-init : goal.loop-matrix-init
loop-matrix-init g c = record {
  read = rw c.in_ok-rows.ensures.items refl;
  count = c.in_ok-rows.ensures.len;
  capacity = c.in_ok-rows.ensures.exact ∙ c.len.ensures;
}

pub returns-clause-rows : goal.returns-clause-rows
returns-clause-rows g c =
    let passed = rw c.deref-matrix-items.ensures.value at c.loop-matrix-test.false in
    let count = rows_count g.M.Matrix.height_of g.M.Matrix.width_of g.M.Matrix.row_of g.row.N
    c.args.tree.now.matrices.items c.args.index in
    c.loop-matrix.invariant.read
    ∙ take_all c.loop-matrix.matrix-index (honest_rows (tree_batch c.args.tree.now) c.args.index) (rw count passed)
