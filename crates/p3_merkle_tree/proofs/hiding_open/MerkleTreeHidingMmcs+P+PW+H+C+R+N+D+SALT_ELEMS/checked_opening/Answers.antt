-- Rows and salts by themselves, then the checker's answer to rows followed by their salts.
use Rattle.std.proofs.Common.{◌∙◌, ap, sym}
use Rattle.std.proofs.lemmas.Result.{err_from_is_err_and}
use Rattle.p3_support.specs.Shown.{row_lists}
use Rattle.p3_merkle_core.specs.Openings.{opening_of}
use Rattle.p3_merkle_tree.specs.HidingSchemes.{plain_of, salted_borrowed, salted_params_of}
use Rattle.p3_merkle_tree.specs.SaltRefusals.{salted_rows_refusal}
use Rattle.p3_merkle_tree.specs.SaltedOpenings.{salted_rows}
use Rattle.p3_merkle_tree.specs.Schemes.{cap_height_of, cap_rule_of, functions_of}
use Rattle.p3_merkle_tree.proofs.CheckFacts.{widened_alike}
use Rattle.p3_merkle_tree.proofs.SaltedAnswers.{passed_after, refused_after}
use Rattle.p3_merkle_verifier.specs.Inner.Checks.{functions_of as checked_functions, salted_params_in}
use Rattle.p3_merkle_tree.proofs.hiding_open.MerkleTreeHidingMmcs+P+PW+H+C+R+N+D+SALT_ELEMS.checked_opening.Goals as goal

pub returns-in_err-check_opening-clause-answer : goal.returns-in_err-check_opening-clause-answer
returns-in_err-check_opening-clause-answer g c =
    let ds = c.args.dimensions.now in
    let e = g.row.SALT_ELEMS in
    let scheme = plain_of c.args.self.now in
    let checker = c.checker.result in
    let rows = ap row_lists c.unpack.ensures.values in
    let salts = ap row_lists (c.deref.ensures.value ∙ ap (λ z. z.0.items) c.unpack.ensures.proof) in
    let salts_lent = ap row_lists (c.deref-2.ensures.value ∙ ap (λ z. z.0.items) c.unpack.ensures.proof) in
    let siblings = c.deref-3.ensures.value ∙ ap (λ z. z.1.items) c.unpack.ensures.proof in
    let none = sym (λ i. salted_rows_refusal e ds (rows i) (salts i)) ∙ c.in_ok-check_salted_rows.ensures.answer in
    let left = err_from_is_err_and c.from_residual-in_err-check_opening.result
    c.from_residual-in_err-check_opening.ensures.1 in
    rw (left.1, left.2) (refused_after g.PW.Value.PartialEq.eq e ds (salted_params_of c.args.self.now ds)
    (salted_params_in e checker) c.args.roots.now (salted_borrowed c.args.index c.args.opening) _ none
    (widened_alike (checked_functions checker) (functions_of scheme) checker.schedule.arity g.row.N
    checker.schedule.dimensions.now ds checker.cap_layer (cap_rule_of scheme)
    (cap_height_of scheme) c.checker.ensures e)
    (λ i. opening_of c.args.index (salted_rows (rows i) (salts_lent i)) (siblings i)) c.in_err-check_opening.field-0.0
    c.in_err-check_opening.ensures.answer)

pub returns-clause-answer : goal.returns-clause-answer
returns-clause-answer g c =
    let ds = c.args.dimensions.now in
    let e = g.row.SALT_ELEMS in
    let scheme = plain_of c.args.self.now in
    let checker = c.checker.result in
    let rows = ap row_lists c.unpack.ensures.values in
    let salts = ap row_lists (c.deref.ensures.value ∙ ap (λ z. z.0.items) c.unpack.ensures.proof) in
    let salts_lent = ap row_lists (c.deref-2.ensures.value ∙ ap (λ z. z.0.items) c.unpack.ensures.proof) in
    let siblings = c.deref-3.ensures.value ∙ ap (λ z. z.1.items) c.unpack.ensures.proof in
    let none = sym (λ i. salted_rows_refusal e ds (rows i) (salts i)) ∙ c.in_ok-check_salted_rows.ensures.answer in
    passed_after g.PW.Value.PartialEq.eq e ds (salted_params_of c.args.self.now ds) (salted_params_in e checker)
    c.args.roots.now (salted_borrowed c.args.index c.args.opening) _ none
    (widened_alike (checked_functions checker) (functions_of scheme) checker.schedule.arity g.row.N
    checker.schedule.dimensions.now ds checker.cap_layer (cap_rule_of scheme)
    (cap_height_of scheme) c.checker.ensures e)
    (λ i. opening_of c.args.index (salted_rows (rows i) (salts_lent i))
    (siblings i)) c.in_ok-check_opening.ensures.answer
