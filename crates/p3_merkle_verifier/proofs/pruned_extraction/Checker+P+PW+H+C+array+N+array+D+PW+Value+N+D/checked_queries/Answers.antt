-- The refusal is that of the form, else of the cap; what is restored of an opening that is accepted can be compared.
use Rattle.std.proofs.Common.{◌∙◌, Err, Ok, refl, subst}
use Rattle.p3_merkle_core.specs.Checks.{params}
use Rattle.p3_merkle_core.specs.Geometry.{shape_of}
use Rattle.p3_merkle_core.specs.Inner.Agreement.{AreDistinctOf}
use Rattle.p3_merkle_core.specs.Pruning.{restored_paths}
use Rattle.p3_merkle_core.specs.declared.schedule.Schedule.{Schedule}
use Rattle.p3_merkle_verifier.specs.Inner.{Checks.functions_of, Checks.params_in, Checks.shape_in}
use Rattle.p3_merkle_verifier.specs.Inner.RestoredLevels.{pruned_in}
use Rattle.p3_merkle_verifier.specs.declared.openings.PrunedOpeningRef.{PrunedOpeningRef}
use Rattle.p3_merkle_verifier.proofs.QueryFacts.{restored, searchable}
use Rattle.p3_merkle_verifier.proofs.RefusalFacts.{cap_decides, handed_on}
use Rattle.p3_merkle_verifier.proofs.pruned_extraction.Checker+P+PW+H+C+array+N+array+D+PW+Value+N+D.checked_queries.Goals as goal

pub returns-in_err-check_roots-clause-answer : goal.returns-in_err-check_roots-clause-answer
returns-in_err-check_roots-clause-answer g c =
    let made = c.in_ok-restorable in
    handed_on c.from_residual-in_err-check_roots.result c.in_err-check_roots.field-0.0 _
    c.from_residual-in_err-check_roots.ensures.1
    (cap_decides {V = Unit {0}} g.P.Value.PartialEq.eq g.PW.Value.PartialEq.eq (functions_of c.args.self.now)
    c.args.roots.now made.restorable (Err c.in_err-check_roots.field-0.0) made.ensures.schedule made.ensures.layer
    made.ensures.opening made.ensures.answer c.in_err-check_roots.ensures)

pub returns-clause-answer : goal.returns-clause-answer
returns-clause-answer g c =
    let made = c.in_ok-restorable in
    cap_decides {V = Unit {0}} g.P.Value.PartialEq.eq g.PW.Value.PartialEq.eq (functions_of c.args.self.now)
    c.args.roots.now made.restorable (Ok tt) made.ensures.schedule made.ensures.layer made.ensures.opening
    made.ensures.answer c.in_ok-check_roots.ensures

pub returns-clause-restored : goal.returns-clause-restored
returns-clause-restored g c =
    let f = functions_of c.args.self.now in
    let made = c.in_ok-restorable.ensures in
    let shape = λ (schedule : Schedule). shape_of schedule.arity schedule.dimensions.now in
    restored (params_in c.args.self.now) (pruned_in c.args.opening) _ refl
    (c.in_ok-paths_of.ensures f (rw c.deref.ensures.value c.in_ok-layers.ensures)
    ∙ (λ i. restored_paths (params f (shape (made.schedule i)) (made.layer i)) (pruned_in (made.opening i))))

pub returns-clause-queries : goal.returns-clause-queries
returns-clause-queries g c =
    let made = c.in_ok-restorable in
    searchable g.P.Value.PartialEq.eq g.PW.Value.PartialEq.eq (functions_of c.args.self.now) (shape_in c.args.self.now)
    c.args.self.now.cap_layer c.args.roots.now (pruned_in c.args.opening) _ g.met.P.PackedValue.eq_is_equality
    g.met.PW.PackedValue.eq_is_equality c.args.self.now.check (returns-clause-answer g c) refl
    (returns-clause-restored g c)
    (subst (λ (o : PrunedOpeningRef _ _). AreDistinctOf made.restorable.leaves o.indices.now) made.ensures.opening
    made.restorable.distinct)
