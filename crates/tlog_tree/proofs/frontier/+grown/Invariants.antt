use Rattle.std.proofs.Common.{length, ◌+◌}
use Rattle.tlog_tree.proofs.frontier.+grown.Given as goal

abbrev pub decreases-grown : goal.decreases-grown
decreases-grown l = l.size + length l.more.now
