-- Lists that are written into their places: one more, and some more.
use Rattle.std.proofs.Common.{◌≡◌, ℕ, ◌+◌, ◌<◌, ◌≤◌, ◌≢◌, List, [], length, set, ◌∙◌, arith}
use Rattle.std.proofs.Common.{inl, inr}
use Rattle.std.proofs.lemmas.Bool.{cases_eq, cases_lt}
use Rattle.std.proofs.lemmas.List.{length-set, get_or-set_same, get_or-set_other}
use Rattle.sha256_eights.specs.Inner.Written.{AreWritten}

pub one_written : {P : ℕ → List ℕ → Type 0} {from i end : ℕ} {old xs : List (List ℕ)} (y : List ℕ)
    → AreWritten P from i old xs → from ≤ i → i + 1 ≡ end → i < length xs → P i y
    → AreWritten P from end old (set xs i y)
one_written {i = i} {xs = xs} y so_far above next inside made = record {
  long = length-set xs i y ∙ so_far.long;
  before = λ j low. let other : j ≢ i = omega arith in get_or-set_other xs i j y [] other ∙ so_far.before j low;
  written = λ j low high.
      elim (cases_eq j i) [
        | inl same ↦ rw (same, get_or-set_same xs i y [] inside) made
        | inr other ↦ rw (get_or-set_other xs i j y [] other) (so_far.written j low (omega (arith, high, other)))
      ];
}

pub more_written : {P : ℕ → List ℕ → Type 0} {from mid next last end : ℕ} {old xs ys : List (List ℕ)}
    → AreWritten P from mid old xs → AreWritten P next last xs ys → from ≤ mid → next ≡ mid → last ≡ end
    → AreWritten P from end old ys
more_written {mid = mid} so_far more above on whole = record {
  long = more.long ∙ so_far.long;
  before = λ j low. more.before j (omega arith) ∙ so_far.before j low;
  written = λ j low high.
      elim (cases_lt j mid) [
        | inl under ↦ rw (more.before j (omega (arith, under))) (so_far.written j low under)
        | inr over ↦ more.written j (omega (arith, over)) (omega arith)
      ];
}
