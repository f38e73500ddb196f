-- By the sizes: proofs that need no digests, and those that a climb reads.
use Rattle.std.proofs.{Common.◌≡◌, Common.length, Common.refl, Common.rules, Common.arith, Common.false}
use Rattle.std.proofs.lemmas.Bool.Decides.{nat_tests}
use Rattle.std.specs.Prelude.{◌==◌}
use Rattle.tlog.specs.Verdicts.{consistency_end_refusal}
use Rattle.tlog.proofs.Accepted.{grown_end, nothing_grows, nothing_stays}
use Rattle.tlog.proofs.Consistencies.{begun}
use Rattle.tlog.proofs.consistency.roots_of_proof.Goals as goal

pub returns-in_default-clause-refused : goal.returns-in_default-clause-refused
returns-in_default-clause-refused g c =
    let z : (c.args.new_size == 0) ≡ false = grind (arith, nat_tests) in
    rw (
      grown_end g.H.LogHash.hash c.args.old_size c.args.new_size c.args.proof.now c.args.old_root.now
          c.args.new_root.now (omega arith) (omega arith),
      c.in_default.ensures,
      z,
      consistency_end_refusal,
    ) (λ _ _. refl)

pub returns-then-old_size-new_size-clause-roots : goal.returns-then-old_size-new_size-clause-roots
returns-then-old_size-new_size-clause-roots g c =
    rw (grown_end g.H.LogHash.hash c.args.old_size c.args.new_size c.args.proof.now c.args.old_root.now
    c.args.new_root.now (omega arith) (omega arith))
    (rw (begun c.in-Some.ensures g.H.LogHash.hash c.args.new_size) at c.roots.ensures.roots)

pub returns-then-old_size-new_size-clause-refused : goal.returns-then-old_size-new_size-clause-refused
returns-then-old_size-new_size-clause-refused g c =
    rw (grown_end g.H.LogHash.hash c.args.old_size c.args.new_size c.args.proof.now c.args.old_root.now
    c.args.new_root.now (omega arith) (omega arith))
    (rw (begun c.in-Some.ensures g.H.LogHash.hash c.args.new_size) at c.roots.ensures.refused)

pub returns-then-new_size-gt0-clause-roots : goal.returns-then-new_size-gt0-clause-roots
returns-then-new_size-gt0-clause-roots g c =
    let none : length c.args.proof.now ≡ 0 = search rules in
    rw c.empty_root-empty.ensures (nothing_grows g.H.LogHash.hash _ _ _ _ _ (omega arith) c.if-new_size-gt0.true none)

pub returns-clause-roots : goal.returns-clause-roots
returns-clause-roots g c =
    let none : length c.args.proof.now ≡ 0 = search rules in
    rw c.empty_root-empty.ensures (nothing_stays g.H.LogHash.hash _ _ _ _ _ (omega arith) (omega arith) none)
