use Rattle.std.proofs.Common.{◌≡◌, ℕ, zero, suc, List, get_or, refl, replicate}
use Rattle.tlog_multiproof.proofs.ascending.start.Goals as goal

zero_at : (n m : ℕ) → let all : List ℕ = replicate n 0 in get_or all m 0 ≡ 0
zero_at zero m = refl
zero_at (suc n) zero = refl
zero_at (suc n) (suc m) = zero_at n m

pub returns-clause-used : goal.returns-clause-used
returns-clause-used c = zero_at 64
