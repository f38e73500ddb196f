-- A path in one half, and then the root of the other.
use Rattle.std.proofs.Common.{sym, ◌∙◌, arith}
use Rattle.tlog.proofs.Entries.{path_at_left, path_at_one, path_at_right}
use Rattle.tlog.proofs.honest_proofs.+inclusion_proof.Goals as goal

pub returns-then-entries-eq1 : goal.returns-then-entries-eq1
returns-then-entries-eq1 g t c =
    c.new.ensures.items ∙ sym (path_at_one g.H.LogHash.hash c.args.index c.args.entries.now c.if-entries-eq1.true)

pub returns-in_ok-push : goal.returns-in_ok-push
returns-in_ok-push g t c =
    c.in_ok-push.ensures.items ∙ rw (c.in_ok-proof.ensures, c.root.ensures)
    (sym (path_at_left g.H.LogHash.hash c.args.index c.args.entries.now c.split_at.result.0.now c.split_at.result.1.now
    c.split-middle.result (omega arith) c.split-middle.ensures.value c.split_at.ensures.front c.split_at.ensures.back
    c.if-index-middle.true))

pub returns-in_ok-push-2 : goal.returns-in_ok-push-2
returns-in_ok-push-2 g t c =
    c.in_ok-push-2.ensures.items ∙ rw (c.in_ok-proof-2.ensures, c.root-else-index-middle.ensures)
    (sym (path_at_right g.H.LogHash.hash c.args.index c.args.entries.now c.split_at.result.0.now
    c.split_at.result.1.now c.split-middle.result (omega arith) c.split-middle.ensures.value c.split_at.ensures.front
    c.split_at.ensures.back c.if-index-middle.false (omega arith)))
