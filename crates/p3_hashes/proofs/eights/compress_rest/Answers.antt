use Rattle.std.proofs.Common.{[], ◌<◌, ◌∙◌, ap, arith, length, refl}
use Rattle.std.proofs.lemmas.List.{get_or_read}
use Rattle.p3_hashes.specs.Fold.{fold_compress}
use Rattle.sha256_eights.proofs.Written.{one_written}
use Rattle.p3_hashes.proofs.eights.compress_rest.Goals as goal

pub loop-i-preserved : goal.loop-i-preserved
loop-i-preserved g c =
    let groups = c.args.groups.now in
    let inside : c.loop-i.i < length groups = omega arith in
    one_written c.compress_group.result c.loop-i.invariant (omega arith) refl (omega arith)
    (c.compress_group.ensures
    ∙ ap (fold_compress g.row.D) (get_or_read groups c.loop-i.i c.index-groups-i.result inside c.index-groups-i.is []))
