use Rattle.std.proofs.Common.{◌≡◌, map, take}
use Rattle.sha2.specs.Sha256.{sha256}
use Rattle.tlog.specs.Rfc9162.{leaf_hash}
use Rattle.tlog_text.specs.Texts.{entry_fields, EntryFields}
use Rattle.fohlazu_commands.proofs.collisions.leaves_of.Given as goal

abbrev pub invariant-loop-entry : goal.invariant-loop-entry
invariant-loop-entry l =
    l.leaves.items
    ≡ map (λ (e : EntryFields). leaf_hash sha256 e.bytes) (map entry_fields (take l.entry-index l.entries))
