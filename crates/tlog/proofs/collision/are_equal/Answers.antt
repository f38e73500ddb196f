use Rattle.std.proofs.Common.{sym, ◌∙◌}
use Rattle.tlog.proofs.Entries.{entries_decided}
use Rattle.tlog.proofs.collision.are_equal.Goals as goal

pub returns : goal.returns
returns c =
    let both = entries_decided c.args.entries.now c.args.other_entries.now in
    (λ t. both.0 (sym c.eq.ensures ∙ t), λ e. c.eq.ensures ∙ both.1 e)
