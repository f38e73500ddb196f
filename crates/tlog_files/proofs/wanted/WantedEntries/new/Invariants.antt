use Rattle.std.proofs.Common.{◌≡◌, length}
use Rattle.tlog_files.proofs.wanted.WantedEntries.new.Given as goal

abbrev pub invariant-loop : goal.invariant-loop
invariant-loop l = length l.entries.items ≡ l.counter
