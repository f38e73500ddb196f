use Rattle.std.proofs.Common.{◌∙◌, ap, arith, length}
use Rattle.std.proofs.lemmas.List.{length-map}
use Rattle.sha2.specs.Sha256.{sha256}
use Rattle.tlog.specs.Rfc9162.{leaf_hash}
use Rattle.fohlazu_c.specs.Growing.{cut_entries}
use Rattle.fohlazu_c.proofs.EntryFacts.{length-cut}
use Rattle.fohlazu_c.proofs.growing.fohlazu_leaf_hashes.Goals as goal

pub copy_from_slice-requires : goal.copy_from_slice-requires
copy_from_slice-requires c =
    let ns = c.args.lengths.now in
    let long = ap length (c.deref.ensures.value ∙ c.in-Ok.ensures)
    ∙ length-map (cut_entries ns c.args.bytes.now) (leaf_hash sha256) ∙ length-cut ns c.args.bytes.now in
    omega (arith, long, c.if-leaves-lengths.false)
