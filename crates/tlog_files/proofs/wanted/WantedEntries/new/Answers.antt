-- There is an entry, still empty, for each place.
use Rattle.std.proofs.Common.{ℕ, ◌<◌, ◌∙◌, length, arith, sym}
use Rattle.std.proofs.lemmas.List.{length-map}
use Rattle.std.proofs.lemmas.List.Elements.{All-weaker}
use Rattle.tlog_files.specs.Inner.Wanted.{is_next, IsOwn}
use Rattle.tlog_files.proofs.WantedFacts.{kept_at_start, none_begun}
use Rattle.tlog_files.proofs.wanted.WantedEntries.new.Goals as goal

pub returns-clause-holds : goal.returns-clause-holds
returns-clause-holds c =
    let left = c.args.places.now in
    λ wanted moved. record {
      kept = kept_at_start wanted _ left moved (length-map c.loop.entries.items (λ entry. entry.items)
          ∙ omega (arith, c.loop.invariant, c.loop-test.false, c.loop.auto.counter-end));
      ascending = c.requires;
      begun = c.new-2.ensures.items ∙ sym (none_begun (is_next 0 left));
    }

pub returns-clause-places : goal.returns-clause-places
returns-clause-places c =
    λ wanted moved.
    let kept = (returns-clause-holds c wanted moved).kept in
    let count = length-map c.loop.entries.items (λ entry. entry.items) in
    All-weaker (IsOwn wanted) (λ (p : ℕ × ℕ). p.1 < length c.loop.entries.items)
    (λ p own. omega (arith, own.0, count, kept.long)) c.args.places.now kept.own
