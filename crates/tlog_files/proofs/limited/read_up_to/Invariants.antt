use Rattle.std.proofs.Common.{◌≡◌, ◌≤◌, ◌+◌, length}
use Rattle.std.specs.Io.KnownBytes.{Consumes}
use Rattle.tlog_files.proofs.limited.read_up_to.Given as goal

-- the bytes are those that the reader gave so far
abbrev pub invariant-loop-turn : goal.invariant-loop-turn
invariant-loop-turn g l = record {
  wide : length l.window ≡ 8192;
  few : length l.bytes.items ≤ l.fn.limit + 1;
  consumed : Consumes (g.R.Read.remaining l.fn.input) (g.R.Read.remaining l.input) l.bytes.items;
}
