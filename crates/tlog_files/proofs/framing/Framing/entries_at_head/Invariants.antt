use Rattle.std.proofs.Common.{◌≤◌, ◌-◌, length, map}
use Rattle.tlog_files.specs.Inner.Splitting.{AreAtHead}
use Rattle.tlog_files.proofs.framing.Framing.entries_at_head.Given as goal

abbrev pub invariant-entries : goal.invariant-entries
invariant-entries l = record {
  few : length l.entries.items ≤ l.most;
  at_head : AreAtHead l.self l.bytes l.left (map (λ entry. entry.now) l.entries.items);
}

abbrev pub decreases-entries : goal.decreases-entries
decreases-entries l = l.most - length l.entries.items
