-- The open entry is copied where it is wanted.
use Rattle.std.proofs.Common.{◌∙◌, ◌∷◌, ◌++◌, [], length, ap, if◌then◌else◌, subst, sym}
use Rattle.tlog_files.proofs.WantedFacts.{none_begun}
use Rattle.tlog_files.specs.Inner.Wanted.{is_next, HoldsWanted}
use Rattle.tlog_files.proofs.wanted.WantedEntries.end.Goals as goal

pub returns-in_ok-copy-clause-holds : goal.returns-in_ok-copy-clause-holds
returns-in_ok-copy-clause-holds c =
    let w = c.args.self.now in
    λ wanted ended bytes is holds.
    let next = sym (ap (λ n. is_next n w.left.now) is) ∙ sym c.is_next.ensures ∙ c.if-is_next.true in
    let begun = holds.begun ∙ ap (λ b. if b then bytes else []) next in
    let none = ap (λ v. v.items) c.replace-bytes.ensures.after ∙ c.new.ensures.items in
    let copied = c.deref.ensures.value ∙ ap (λ v. v.items) c.replace-bytes.ensures.value ∙ begun in
    subst (λ entry. HoldsWanted c.copy.new.self wanted (ended ++ entry ∷ []) []) copied
    (c.in_ok-copy.ensures.holds wanted ended is (record {
      kept = holds.kept;
      ascending = holds.ascending;
      begun = none ∙ sym (none_begun (is_next (length ended) w.left.now));
    }))
