use Rattle.std.proofs.Common.{map, take, All}
use Rattle.tlog.specs.Collisions.{entries_of}
use Rattle.tlog_text.specs.Texts.{entry_fields}
use Rattle.fohlazu_commands.specs.Collisions.{IsEntryOf}
use Rattle.fohlazu_commands.proofs.collisions.bytes_collision.Given as goal

-- the entries so far are those of their numbers
abbrev pub invariant-loop-entry : goal.invariant-loop-entry
invariant-loop-entry l =
    All (IsEntryOf (entries_of l.entries)) (map entry_fields (take l.entry-index l.proved))
