-- The row set of the query has a row in this place.
use Rattle.std.proofs.Common.{◌<◌, [], get_or, length}
use Rattle.p3_support.specs.RowSets.{sets_in}
use Rattle.p3_merkle_verifier.proofs.openings.OpenedMatrix.parts.Goals as goal

pub row-requires : goal.row-requires
row-requires g c =
    let m = c.args.self.now in
    let k = get_or m.queries.now c.args.row 0 in
    let inside : k < length (sets_in m.sets) = m.among c.args.row 0 c.requires in
    record { query = inside; matrix = (m.fit k [] inside).0 }
