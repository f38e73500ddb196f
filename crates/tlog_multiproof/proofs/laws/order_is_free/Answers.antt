use Rattle.std.proofs.Common.{ℕ, List}
use Rattle.tlog_multiproof.proofs.Permuted.{permuted}
use Rattle.tlog_multiproof.proofs.laws.order_is_free.Goals as goal

pub returns : goal.returns
returns c = λ hash size entries others proof root moved.
    permuted hash size (λ (x : ℕ × List ℕ). x.0) (λ (x : ℕ × List ℕ). x.1) entries others proof root moved
