-- The digests are those of the growth of the entries, so the verdict on them is the definition's.
use Rattle.std.proofs.Common.{◌≡◌, rules, inr}
use Rattle.fohlazu_commands.specs.Outcomes.{growth_digests}
use Rattle.fohlazu_commands.proofs.prove_consistency.text_of.Goals as goal

pub returns-in-Ok : goal.returns-in-Ok
returns-in-Ok c = λ nodes entries has are.
    let digests : c.in_ok-digests.digests.items ≡ growth_digests c.args.old.now.size entries =
    c.in_ok-digests.ensures _ nodes _ has.tree are in
    rw (← digests) (search rules)

pub returns : goal.returns
returns c = λ nodes entries has are.
    let digests : c.in_ok-digests.digests.items ≡ growth_digests c.args.old.now.size entries =
    c.in_ok-digests.ensures _ nodes _ has.tree are in
    inr (rw (← digests) (search rules))
