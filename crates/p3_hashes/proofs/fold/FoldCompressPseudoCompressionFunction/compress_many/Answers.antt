use Rattle.std.proofs.Common.{[]}
use Rattle.p3_hashes.specs.Fold.{fold_compress}
use Rattle.p3_hashes.proofs.Written.{map_written}
use Rattle.p3_hashes.proofs.fold.FoldCompressPseudoCompressionFunction.compress_many.Goals as goal

pub returns : goal.returns
returns g c = map_written (fold_compress g.row.D) c.args.groups.now [] c.requires c.compress_all.ensures
