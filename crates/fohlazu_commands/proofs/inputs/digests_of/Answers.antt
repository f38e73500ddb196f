-- If all values are there, the digests so far are the first of them.
use Rattle.std.proofs.Common.{◌∙◌, ap}
use Rattle.fohlazu_commands.proofs.OutcomeFacts.{there_at, there_more}
use Rattle.fohlazu_commands.proofs.inputs.digests_of.Goals as goal
use Rattle.fohlazu_commands.proofs.inputs.digests_of.Goals.{in-Some+in_ok-push, in_default}

pub loop-value-preserved : goal.loop-value-preserved
loop-value-preserved c all is =
    let values = c.deref-value-items.result.now in
    let k = c.loop-value.value-index in
    elim c.match-value.branch [
      | in-Some+in_ok-push w ↦
          there_more values all k c.loop-value.digests.items c.match-value.digests.items w.in-Some.digest is
          c.loop-value-test.true (c.loop-value.invariant all is)
          (ap (λ v. v.items) w.digests-is ∙ w.in_ok-push.ensures.items) w.in-Some.is
      | in_default w ↦ absurd (w.in_default.not-Some _ (there_at values all k is c.loop-value-test.true))
    ]
