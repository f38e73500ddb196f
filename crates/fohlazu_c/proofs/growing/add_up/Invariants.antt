use Rattle.std.proofs.Common.{◌≡◌, ◌+◌, take}
use Rattle.std.specs.Prelude.{sum}
use Rattle.fohlazu_c.proofs.growing.add_up.Given as goal

-- left is what the lengths so far leave of the total
abbrev pub invariant-loop-length : goal.invariant-loop-length
invariant-loop-length l = l.left + sum (take l.length-index l.lengths) ≡ l.total
