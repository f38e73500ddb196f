-- The proof of one half, and then the root of the other.
use Rattle.std.proofs.Common.{sym, ◌∙◌, arith, true, false}
use Rattle.tlog.proofs.Entries.{sub_at_all, sub_at_left, sub_at_right}
use Rattle.tlog.proofs.honest_proofs.+subproof.Goals as goal
use Rattle.tlog.proofs.honest_proofs.+subproof.Goals.{then-not-is_known+in_ok-push, else-not-is_known}

pub returns-then-old_size-entries : goal.returns-then-old_size-entries
returns-then-old_size-entries g t c =
    elim c.if-not-is_known.branch [
      | then-not-is_known+in_ok-push w ↦
          rw w.proof-is (w.in_ok-push.ensures.items ∙ rw (c.new-proof.ensures.items, w.root.ensures)
          (sym (sub_at_all g.H.LogHash.hash c.args.old_size c.args.entries.now c.args.is_known false
          c.if-old_size-entries.true c.requires.some w.if-not-is_known.true)))
      | else-not-is_known w ↦
          rw w.proof-is (c.new-proof.ensures.items ∙ sym (sub_at_all g.H.LogHash.hash c.args.old_size
          c.args.entries.now c.args.is_known true c.if-old_size-entries.true c.requires.some w.if-not-is_known.false))
    ]

pub returns-in_ok-push-2 : goal.returns-in_ok-push-2
returns-in_ok-push-2 g t c =
    c.in_ok-push-2.ensures.items ∙ rw (c.in_ok-proof.ensures, c.root-then-old_size-middle.ensures)
    (sym (sub_at_left g.H.LogHash.hash c.args.old_size c.args.entries.now c.split_at.result.0.now
    c.split_at.result.1.now c.split-middle.result c.args.is_known c.requires.some (omega arith)
    c.split-middle.ensures.value c.split_at.ensures.front c.split_at.ensures.back c.if-old_size-middle.true))

pub returns-in_ok-push-3 : goal.returns-in_ok-push-3
returns-in_ok-push-3 g t c =
    c.in_ok-push-3.ensures.items ∙ rw (c.in_ok-proof-2.ensures, c.root-else-old_size-middle.ensures)
    (sym (sub_at_right g.H.LogHash.hash c.args.old_size c.args.entries.now c.split_at.result.0.now
    c.split_at.result.1.now c.split-middle.result c.args.is_known (omega arith) c.split-middle.ensures.value
    c.split_at.ensures.front c.split_at.ensures.back (omega arith)))
