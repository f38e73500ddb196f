-- The old root is that of the first new entries, or the honest proof from these is a second accepted one, with another
-- old root.
use Rattle.std.proofs.Common.{sym, ◌∙◌, arith}
use Rattle.std.specs.Cmp.Lexicographic.{bytes_decides}
use Rattle.tlog.proofs.Consistencies.{differ, same_root}
use Rattle.tlog.proofs.TwoWalks.{same_none}
use Rattle.tlog.proofs.binding.prefix_collision.Goals as goal

pub returns-then-eq-clause-none : goal.returns-then-eq-clause-none
returns-then-eq-clause-none g c =
    let roots = (bytes_decides c.root-old_root.result c.root-prefix_root.result).0 (sym c.eq.ensures ∙ c.if-eq.true) in
    let both = same_root g.H.LogHash.hash c.args.old.now c.args.new.now c.split_at.result.0.now c.args.proof.now
    c.root-old_root.result c.root-new_root.result c.verify.result c.verify.ensures.accepted
    (sym c.is_err.ensures.value ∙ c.if-is_err.false) c.root-old_root.ensures c.root-new_root.ensures
    c.split_at.ensures.front (sym c.root-old_root.ensures ∙ roots ∙ c.root-prefix_root.ensures) in
    same_none c.root_collision.result both c.root_collision.ensures.none

pub consistency_proof-requires : goal.consistency_proof-requires
consistency_proof-requires g c =
    let x = differ g.H.LogHash.hash c.args.old.now c.args.new.now c.split_at.result.0.now c.args.proof.now
    c.root-old_root.result c.root-new_root.result c.root-prefix_root.result c.verify.result c.eq.result
    c.verify.ensures.accepted (sym c.is_err.ensures.value ∙ c.if-is_err.false) c.root-old_root.ensures
    c.root-new_root.ensures c.split_at.ensures.front c.root-prefix_root.ensures c.eq.ensures c.if-eq.false in
    (omega (arith, g.met.H.LogHash.short), (x.some, x.is.ordered))

pub returns-clause-none : goal.returns-clause-none
returns-clause-none g c =
    let x = differ g.H.LogHash.hash c.args.old.now c.args.new.now c.split_at.result.0.now c.args.proof.now
    c.root-old_root.result c.root-new_root.result c.root-prefix_root.result c.verify.result c.eq.result
    c.verify.ensures.accepted (sym c.is_err.ensures.value ∙ c.if-is_err.false) c.root-old_root.ensures
    c.root-new_root.ensures c.split_at.ensures.front c.root-prefix_root.ensures c.eq.ensures c.if-eq.false in
    same_none c.consistency_collision.result (
      λ fixed. absurd (x.other (fixed x.small x.is (rw (c.deref.ensures.value, c.in_ok-honest.ensures) x.honest)).0),
      λ s. absurd (x.prefix s),
    ) c.consistency_collision.ensures.none
