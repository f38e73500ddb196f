-- Each lane is an element of its row.
use Rattle.std.proofs.Common.{◌+◌, sym, slice_index_or}
use Rattle.std.proofs.lemmas.List.FromFn.{fill_by_all}
use Rattle.std.proofs.lemmas.Option.{get_or_from_slice_get}
use Rattle.p3_support.proofs.matrix.packed_column.Goals as goal

pub returns : goal.returns
returns g c =
    let row = g.M.Matrix.row_of c.args.matrix.now in
    let default = g.P.PackedValue.default_value in
    let lanes = g.P.PackedValue.lanes c.from_fn.result in
    fill_by_all (λ k. slice_index_or (row (c.args.row + k)) c.args.column default) lanes g.P.PackedValue.WIDTH default
    (g.met.P.PackedValue.length_lanes c.from_fn.result)
    (λ k h. sym (get_or_from_slice_get (row (c.args.row + k)) c.args.column (slice_index_or lanes k default) default
    (c.from_fn.ensures k h)))
