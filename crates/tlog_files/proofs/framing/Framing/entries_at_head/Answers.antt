-- The entries so far and the bytes that are left are all bytes (`at_head`).
use Rattle.std.proofs.Common.{◌∷◌, [], map, ap, arith, sym, subst, length, length-append, ◌∙◌, refl}
use Rattle.std.proofs.lemmas.List.{map-append}
use Rattle.tlog_files.specs.Inner.Splitting.{AreAtHead}
use Rattle.tlog_files.proofs.{FramingFacts.more_at_head, FramingFacts.bytes_of, FramingFacts.none_open}
use Rattle.tlog_files.proofs.framing.Framing.entries_at_head.Goals as goal

pub entries-preserved : goal.entries-preserved
entries-preserved c =
    let framing = c.args.self in
    let entries = c.entries.entries.items in
    let entry = c.in-Some.entry in
    let more = c.in_ok-push.ensures.items in
    let parts = c.in-Some.ensures [] refl (none_open framing c.requires) in
    record {
      few = omega (arith, ap length more, length-append entries (entry ∷ []), c.entries.entries.ok.0);
      at_head = subst (AreAtHead framing c.args.bytes.now c.in-Some.rest.now)
          (sym (ap (map bytes_of) more ∙ map-append bytes_of entries (entry ∷ [])))
          (more_at_head framing c.args.bytes.now c.entries.left.now c.in-Some.rest.now entry.now (map bytes_of entries)
          c.entries.invariant.at_head parts.0 parts.1);
    }
