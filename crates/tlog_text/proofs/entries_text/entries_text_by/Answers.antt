-- The proof is read as one whose entries are copied, and its entries stand where the text says.
use Rattle.std.proofs.Common.{◌≡◌, ℕ, List, [], ◌∷◌, Err, sym, inr, rules}
use Rattle.std.proofs.lemmas.Result.{err_from_is_err_and}
use Rattle.tlog_text.specs.Reading.{ended, entries_by}
use Rattle.tlog_text.specs.declared.error.Stop.{Stop}
use Rattle.tlog_text.proofs.InPlaceFacts.{many_from}
use Rattle.tlog_text.proofs.ReadFacts.{rest_ok}
use Rattle.tlog_text.proofs.entries_text.entries_text_by.Goals as goal

not_ended : {V : Type 0} (v : V) (left : List ℕ) (stop : Stop) → Err stop ≡ ended {V = Unit {0}} tt left →
    ended v left ≡ Err stop
not_ended v [] stop is = cc
not_ended v (b ∷ left) stop is = cc

pub returns-in_err-check_end-clause-stop : goal.returns-in_err-check_end-clause-stop
unfolding entries_by
returns-in_err-check_end-clause-stop c =
    let left = err_from_is_err_and c.from_residual-in_err-check_end.result c.from_residual-in_err-check_end.ensures.1 in
    let first = rest_ok _ _ (sym c.in_ok-left.ensures) in
    let entries = rest_ok _ _ (sym c.in_ok-left-2.ensures) in
    rw (left.1, left.2) (inr (rw (
      first.1,
      ← c.in_ok-count.ensures,
      entries.1,
      ← c.in_ok-digest_count.ensures,
      c.in_ok-digests.ensures.read,
    ) (not_ended _ _ _ c.in_err-check_end.ensures)))

pub returns-clause-read : goal.returns-clause-read
unfolding entries_by
returns-clause-read c =
    let first = rest_ok _ _ (sym c.in_ok-left.ensures) in
    let entries = rest_ok _ _ (sym c.in_ok-left-2.ensures) in
    let are = many_from _ _ entries.0 _ entries.1 in
    rw (
      first.1,
      ← c.in_ok-count.ensures,
      entries.1,
      ← c.in_ok-digest_count.ensures,
      c.in_ok-digests.ensures.read,
      ← are,
    ) (search rules)
