-- Each refusal in its order; else the last difference of both checks.
use Rattle.std.proofs.Common.{◌≡◌, ◌∙◌, Some, inl, inr, ap, refl}
use Rattle.std.proofs.lemmas.Result.{err_from_is_err_and}
use Rattle.std.specs.Prelude.{Ok}
use Rattle.std.specs.Option.{option_or}
use Rattle.p3_support.specs.Shown.{roots_of}
use Rattle.p3_merkle_core.specs.Extraction.{difference_of}
use Rattle.p3_answers.proofs.AnswerFacts.{none_of_both}
use Rattle.p3_merkle_verifier.specs.Inner.Checks.{functions_of as checked_functions, params_in}
use Rattle.p3_merkle_tree.specs.HidingSchemes.{plain_of, salted_borrowed, salted_params_of}
use Rattle.p3_merkle_tree.specs.SaltedOpenings.{joined}
use Rattle.p3_merkle_tree.specs.Schemes.{cap_height_of, cap_rule_of, functions_of}
use Rattle.p3_merkle_tree.proofs.CheckFacts.{difference_alike}
use Rattle.p3_merkle_tree.specs.SaltRefusals.{salted_refusal_under}
use Rattle.p3_merkle_core.proofs.Pruned.Refused.{handed, refused_not, refuses_so, unrefused_so}
use Rattle.p3_merkle_tree.proofs.ExtractedFacts.{false_not_true, one_answer, one_exact}
use Rattle.p3_merkle_tree.proofs.hiding_open.MerkleTreeHidingMmcs+P+PW+H+C+R+N+D+SALT_ELEMS.extract_collision.Goals as goal

pub returns-in_err-first-clause-extraction : goal.returns-in_err-first-clause-extraction
returns-in_err-first-clause-extraction g c =
    let ds = c.args.dimensions.now in
    let roots = roots_of c.args.commit.now in
    let o = salted_borrowed c.args.index1 c.args.first in
    let u = salted_borrowed c.args.index2 c.args.second in
    let refusal = salted_refusal_under g.PW.Value.PartialEq.eq g.row.SALT_ELEMS ds
    (salted_params_of c.args.self.now ds) roots in
    let left = err_from_is_err_and c.from_residual.result c.from_residual.ensures.1 in
    one_answer c.args.self.now ds roots g.met.P.PackedValue.eq_is_equality g.met.PW.PackedValue.eq_is_equality o u
    c.from_residual.result
    (rw (left.1, left.2) (inr (ap (λ first. option_or first (refusal u))
    (rw c.roots-roots.ensures at c.in_err-first.ensures.answer)))) (rw left.1 tt)

pub returns-in_err-second-clause-extraction : goal.returns-in_err-second-clause-extraction
returns-in_err-second-clause-extraction g c =
    let ds = c.args.dimensions.now in
    let roots = roots_of c.args.commit.now in
    let o = salted_borrowed c.args.index1 c.args.first in
    let u = salted_borrowed c.args.index2 c.args.second in
    let refusal = salted_refusal_under g.PW.Value.PartialEq.eq g.row.SALT_ELEMS ds
    (salted_params_of c.args.self.now ds) roots in
    let left = err_from_is_err_and c.from_residual-in_err-second.result c.from_residual-in_err-second.ensures.1 in
    let first = rw c.roots-roots.ensures at c.in_ok-first.ensures.answer in
    let second = rw c.roots-roots.ensures at c.in_err-second.ensures.answer in
    one_answer c.args.self.now ds roots g.met.P.PackedValue.eq_is_equality g.met.PW.PackedValue.eq_is_equality o u
    c.from_residual-in_err-second.result
    (rw (left.1, left.2) (inr (λ i. option_or (first i) (second i)))) (rw left.1 tt)

pub returns-in_err-last_difference-clause-extraction : goal.returns-in_err-last_difference-clause-extraction
returns-in_err-last_difference-clause-extraction g c =
    let ds = c.args.dimensions.now in
    let roots = roots_of c.args.commit.now in
    let o = salted_borrowed c.args.index1 c.args.first in
    let u = salted_borrowed c.args.index2 c.args.second in
    let left = err_from_is_err_and c.from_residual-in_err-last_difference.result
    c.from_residual-in_err-last_difference.ensures.1 in
    one_answer c.args.self.now ds roots g.met.P.PackedValue.eq_is_equality g.met.PW.PackedValue.eq_is_equality o u
    c.from_residual-in_err-last_difference.result (rw left.1 (inl left.2)) (rw left.1 tt)

pub returns-clause-extraction : goal.returns-clause-extraction
returns-clause-extraction g c =
    let ds = c.args.dimensions.now in
    let roots = roots_of c.args.commit.now in
    let o = salted_borrowed c.args.index1 c.args.first in
    let u = salted_borrowed c.args.index2 c.args.second in
    let eq = g.P.Value.PartialEq.eq in
    let same = g.PW.Value.PartialEq.eq in
    let scheme = plain_of c.args.self.now in
    let checker = c.checker-checker.result in
    let refusal = salted_refusal_under same g.row.SALT_ELEMS ds (salted_params_of c.args.self.now ds) roots in
    let first = rw c.roots-roots.ensures at c.in_ok-first.ensures.answer in
    let second = rw c.roots-roots.ensures at c.in_ok-second.ensures.answer in
    one_answer c.args.self.now ds roots g.met.P.PackedValue.eq_is_equality g.met.PW.PackedValue.eq_is_equality o u
    (Ok c.in_ok-last_difference.field-0) (none_of_both (refusal o) (refusal u) first second)
    (c.in_ok-last_difference.ensures.found
    ∙ (λ i. difference_of eq same (params_in checker) (c.in_ok-first.ensures.opening i)
    (c.in_ok-second.ensures.opening i))
    ∙ difference_alike eq same (checked_functions checker) (functions_of scheme) checker.schedule.arity g.row.N
    checker.schedule.dimensions.now ds checker.cap_layer (cap_rule_of scheme) (cap_height_of scheme)
    c.checker-checker.ensures g.row.SALT_ELEMS (joined o) (joined u))

pub returns-in_err-first-clause-exact : goal.returns-in_err-first-clause-exact
returns-in_err-first-clause-exact g c =
    let ds = c.args.dimensions.now in
    let roots = roots_of c.args.commit.now in
    let o = salted_borrowed c.args.index1 c.args.first in
    let u = salted_borrowed c.args.index2 c.args.second in
    let refusal = salted_refusal_under g.PW.Value.PartialEq.eq g.row.SALT_ELEMS ds
    (salted_params_of c.args.self.now ds) roots in
    let both = option_or (refusal o) (refusal u) in
    let e = c.in_err-first.field-0.0 in
    let some : both ≡ Some e = ap (λ first. option_or first (refusal u))
    (rw c.roots-roots.ensures at c.in_err-first.ensures.answer) in
    one_exact c.args.self.now ds roots g.met.P.PackedValue.eq_is_equality g.met.PW.PackedValue.eq_is_equality o u
    c.from_residual.result (handed c.from_residual.result e both c.from_residual.ensures.1 (refuses_so both e some))
    (λ none d. refused_not both e some none)

pub returns-in_err-second-clause-exact : goal.returns-in_err-second-clause-exact
returns-in_err-second-clause-exact g c =
    let ds = c.args.dimensions.now in
    let roots = roots_of c.args.commit.now in
    let o = salted_borrowed c.args.index1 c.args.first in
    let u = salted_borrowed c.args.index2 c.args.second in
    let refusal = salted_refusal_under g.PW.Value.PartialEq.eq g.row.SALT_ELEMS ds
    (salted_params_of c.args.self.now ds) roots in
    let both = option_or (refusal o) (refusal u) in
    let e = c.in_err-second.field-0.0 in
    let first = rw c.roots-roots.ensures at c.in_ok-first.ensures.answer in
    let second = rw c.roots-roots.ensures at c.in_err-second.ensures.answer in
    let some : both ≡ Some e = λ i. option_or (first i) (second i) in
    let r = c.from_residual-in_err-second.result in
    one_exact c.args.self.now ds roots g.met.P.PackedValue.eq_is_equality g.met.PW.PackedValue.eq_is_equality o u r
    (handed r e both c.from_residual-in_err-second.ensures.1 (refuses_so both e some))
    (λ none d. refused_not both e some none)

pub returns-in_err-last_difference-clause-exact : goal.returns-in_err-last_difference-clause-exact
returns-in_err-last_difference-clause-exact g c =
    let ds = c.args.dimensions.now in
    let roots = roots_of c.args.commit.now in
    let o = salted_borrowed c.args.index1 c.args.first in
    let u = salted_borrowed c.args.index2 c.args.second in
    let eq = g.P.Value.PartialEq.eq in
    let same = g.PW.Value.PartialEq.eq in
    let scheme = plain_of c.args.self.now in
    let checker = c.checker-checker.result in
    let refusal = salted_refusal_under same g.row.SALT_ELEMS ds (salted_params_of c.args.self.now ds) roots in
    let first = rw c.roots-roots.ensures at c.in_ok-first.ensures.answer in
    let second = rw c.roots-roots.ensures at c.in_ok-second.ensures.answer in
    let r = c.from_residual-in_err-last_difference.result in
    one_exact c.args.self.now ds roots g.met.P.PackedValue.eq_is_equality g.met.PW.PackedValue.eq_is_equality o u r
    (unrefused_so r (option_or (refusal o) (refusal u)) (none_of_both (refusal o) (refusal u) first second))
    (λ none d. false_not_true (c.in_err-last_difference.ensures.agreed
    ((λ i. difference_of eq same (params_in checker) (c.in_ok-first.ensures.opening i)
    (c.in_ok-second.ensures.opening i))
    ∙ difference_alike eq same (checked_functions checker) (functions_of scheme) checker.schedule.arity g.row.N
    checker.schedule.dimensions.now ds checker.cap_layer (cap_rule_of scheme) (cap_height_of scheme)
    c.checker-checker.ensures g.row.SALT_ELEMS (joined o) (joined u) ∙ d)))

pub returns-clause-exact : goal.returns-clause-exact
returns-clause-exact g c =
    let ds = c.args.dimensions.now in
    let roots = roots_of c.args.commit.now in
    let o = salted_borrowed c.args.index1 c.args.first in
    let u = salted_borrowed c.args.index2 c.args.second in
    let refusal = salted_refusal_under g.PW.Value.PartialEq.eq g.row.SALT_ELEMS ds
    (salted_params_of c.args.self.now ds) roots in
    let first = rw c.roots-roots.ensures at c.in_ok-first.ensures.answer in
    let second = rw c.roots-roots.ensures at c.in_ok-second.ensures.answer in
    one_exact c.args.self.now ds roots g.met.P.PackedValue.eq_is_equality g.met.PW.PackedValue.eq_is_equality o u
    (Ok c.in_ok-last_difference.field-0)
    (unrefused_so (Ok c.in_ok-last_difference.field-0) (option_or (refusal o) (refusal u))
    (none_of_both (refusal o) (refusal u) first second)) (λ none d. refl)
