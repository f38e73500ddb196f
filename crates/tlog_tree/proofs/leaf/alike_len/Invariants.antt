use Rattle.std.proofs.Common.{◌≡◌, ℕ, ◌<◌, get_or}
use Rattle.tlog_tree.proofs.leaf.alike_len.Given as goal

abbrev pub invariant-loop-k : goal.invariant-loop-k
invariant-loop-k l = (k : ℕ) (d : ℕ × ℕ) → k < l.k → (get_or l.places k d).0 ≡ l.length
