use Rattle.std.proofs.Common.{◌≡◌, ◌-◌, length, take}
use Rattle.std.specs.Prelude.{sum_by}
use Rattle.fohlazu_c.proofs.opening.has_extra_bytes.Given as goal

-- left is how many bytes stand behind the rows so far
abbrev pub invariant-loop-size : goal.invariant-loop-size
invariant-loop-size l = l.left ≡ length l.rows - sum_by (λ size. size.width) (take l.size-index l.sizes)
