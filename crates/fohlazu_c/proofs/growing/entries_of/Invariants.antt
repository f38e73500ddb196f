use Rattle.std.proofs.Common.{◌≡◌, ◌++◌, drop, length, map}
use Rattle.std.specs.Prelude.{sum}
use Rattle.fohlazu_c.specs.Growing.{cut_entries}
use Rattle.fohlazu_c.proofs.growing.entries_of.Given as goal

-- the lengths that are left add up to the bytes that are left, and these are cut into the entries that are missing
abbrev pub invariant-loop-length : goal.invariant-loop-length
invariant-loop-length l = record {
  left : sum (drop l.length-index l.lengths) ≡ length l.rest;
  cut : map (λ entry. entry.now) l.entries.items ++ cut_entries (drop l.length-index l.lengths) l.rest
      ≡ cut_entries l.lengths l.bytes;
}
