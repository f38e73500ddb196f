-- If no place is left, each has its entry.
use Rattle.std.proofs.Common.{◌∙◌, ap, eqb-true, length, map, sym}
use Rattle.std.proofs.lemmas.Bool.{eqb-false}
use Rattle.tlog_files.proofs.WantedFacts.{all_wanted, one_missing}
use Rattle.tlog_files.proofs.wanted.WantedEntries.into_entries.Goals as goal

pub returns-then-is_empty : goal.returns-then-is_empty
returns-then-is_empty c =
    let w = c.args.self in
    λ wanted ended bytes holds.
    all_wanted w wanted ended bytes (eqb-true (length w.left.now) 0 (sym c.is_empty.ensures ∙ c.if-is_empty.true)) holds

pub returns-else-is_empty : goal.returns-else-is_empty
returns-else-is_empty c =
    let w = c.args.self in
    λ wanted ended bytes holds.
    ap (map (λ entry. entry.items)) c.new.ensures.items
    ∙ sym (one_missing ended wanted _ w.left.now
    (eqb-false (length w.left.now) 0 (sym c.is_empty.ensures ∙ c.if-is_empty.false)) holds.kept holds.ascending)
