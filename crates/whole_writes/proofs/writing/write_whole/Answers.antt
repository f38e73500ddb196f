-- The output has what it had and the bytes before the rest, so at the end the whole text.
use Rattle.std.proofs.Common.{List, ap, subst, sym, ℕ}
use Rattle.whole_writes.proofs.WriteFacts.{Wrote, step_err, step_ok, wrote_same}
use Rattle.whole_writes.proofs.writing.write_whole.Goals.{in-Ok, in-Err}
use Rattle.whole_writes.proofs.writing.write_whole.Goals as goal

pub loop-turn-preserved : goal.loop-turn-preserved
loop-turn-preserved g c =
    let old = g.W.Write.contents c.args.output.now in
    let now = g.W.Write.contents c.loop-turn.output in
    let new = g.W.Write.contents c.write.new.self in
    let rest = c.loop-turn.rest.now in
    elim c.match-write.branch [
      | in-Ok w ↦
          step_ok old now new c.args.text.now rest c.write.result c.loop-turn.invariant c.write.ensures.bytes _
          w.in-Ok.count w.in-Ok.is (ap (λ r. r.now) w.rest-is)
      | in-Err w ↦
          subst (λ (r : List ℕ). Wrote old new c.args.text.now r) (sym (ap (λ r. r.now) w.rest-is))
          (wrote_same old now new c.args.text.now rest c.loop-turn.invariant
          (step_err old now new c.args.text.now rest c.write.result c.loop-turn.invariant c.write.ensures.bytes
          w.in-Err.error w.in-Err.is))
    ]
