use Rattle.std.proofs.Common.{◌≡◌, List, ℕ, map, take}
use Rattle.fohlazu_commands.proofs.join.roots_of.Given as goal

abbrev pub invariant-loop-part : goal.invariant-loop-part
invariant-loop-part l = l.roots.items ≡ map (λ (part : ℕ × List ℕ). part.1) (take l.part-index l.parts)
