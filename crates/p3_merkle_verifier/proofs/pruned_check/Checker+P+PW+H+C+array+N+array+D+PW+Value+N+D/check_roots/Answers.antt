-- The digests of the cap's layer are compared with the roots.
use Rattle.std.proofs.Common.{inr}
use Rattle.p3_merkle_verifier.specs.Inner.Checks.{functions_of}
use Rattle.p3_merkle_verifier.specs.Inner.RestoredLevels.{opened_by}
use Rattle.p3_merkle_verifier.proofs.LayerFacts.{covers}
use Rattle.p3_merkle_verifier.proofs.RootFacts.{cap_settled}
use Rattle.p3_merkle_verifier.proofs.pruned_check.Checker+P+PW+H+C+array+N+array+D+PW+Value+N+D.check_roots.Goals as goal

pub returns-then-not-are_entries : goal.returns-then-not-are_entries
returns-then-not-are_entries g c =
    inr (cap_settled g.PW.Value.PartialEq.eq (functions_of c.args.self.now) c.args.roots.now
    (opened_by c.args.restorable.now) c.args.restorable.now.queried (covers c.requires.covered.coverage).nodes_are
    c.in_ok-digests.ensures.restored
    (rw (c.deref.ensures.value, c.deref-2.ensures.value) at c.are_entries.ensures) c.if-not-are_entries.true)

pub returns : goal.returns
returns g c =
    cap_settled g.PW.Value.PartialEq.eq (functions_of c.args.self.now) c.args.roots.now
    (opened_by c.args.restorable.now) c.args.restorable.now.queried (covers c.requires.covered.coverage).nodes_are
    c.in_ok-digests.ensures.restored
    (rw (c.deref.ensures.value, c.deref-2.ensures.value) at c.are_entries.ensures) c.if-not-are_entries.false
