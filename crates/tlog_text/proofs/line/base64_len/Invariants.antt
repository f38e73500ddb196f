use Rattle.std.proofs.Common.{◌≡◌, ◌≤◌, ◌+◌, ℕ, List, length, option_map}
use Rattle.tlog_text.proofs.Base64Facts.{len_of}
use Rattle.tlog_text.proofs.line.base64_len.Given as goal

-- the groups so far
pub record IsSoFar (text : List ℕ) (len : ℕ) (rest : List ℕ) : Type 0 where
  pub within : len + length rest ≤ length text
  pub same : len_of text ≡ option_map (λ n. len + n) (len_of rest)

abbrev pub invariant-loop-rest : goal.invariant-loop-rest
invariant-loop-rest l = IsSoFar l.text l.len l.rest

abbrev pub decreases-loop-rest : goal.decreases-loop-rest
decreases-loop-rest l = length l.rest
