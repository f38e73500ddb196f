use Rattle.std.proofs.Common.{rules}
use Rattle.p3_support.proofs.RowReads.{message_at}
use Rattle.p3_support.proofs.matrix.RowMajorMatrixMatrix.get.Goals as goal

pub returns : goal.returns
returns g c =
    let m = c.args.self.now in
    message_at m.values.items m.width m.height c.args.row c.args.column c.index.result.now m.full (search rules)
    (search rules) (search rules)
