-- The answer to rows and salts, and what it says of the opening.
use Rattle.std.proofs.Common.{◌∙◌, ap, sym}
use Rattle.std.proofs.lemmas.Result.{err_from_is_err_and}
use Rattle.std.specs.Prelude.{Err}
use Rattle.p3_answers.specs.Answers.{ok_unless}
use Rattle.p3_support.specs.Shown.{roots_of}
use Rattle.p3_merkle_tree.specs.HidingSchemes.{presented_one, salted_borrowed, salted_params_of}
use Rattle.p3_merkle_tree.proofs.SaltedAnswers.{salted_accepted}
use Rattle.p3_merkle_tree.proofs.VerdictFacts.{exact_by}
use Rattle.p3_merkle_tree.proofs.hiding_open.MerkleTreeHidingMmcs+P+PW+H+C+R+N+D+SALT_ELEMS.verify_batch.Goals as goal

pub returns-in_err-checked_opening : goal.returns-in_err-checked_opening
returns-in_err-checked_opening g c =
    let ds = c.args.dimensions.now in
    let left = err_from_is_err_and c.from_residual.result c.from_residual.ensures.1 in
    let none = rw c.roots.ensures at c.in_err-checked_opening.ensures.answer in
    exact_by (presented_one c.args.self.now ds c.args.commit.now c.args.index c.args.opening)
    (salted_accepted g.PW.Value.PartialEq.eq g.row.SALT_ELEMS ds (salted_params_of c.args.self.now ds)
    (roots_of c.args.commit.now) g.met.PW.PackedValue.eq_is_equality (salted_borrowed c.args.index c.args.opening))
    c.from_residual.result (left.1 ∙ ap (λ e. Err e) left.2 ∙ sym (ap (λ refusal. ok_unless refusal (tt {0})) none))

pub returns : goal.returns
returns g c =
    let ds = c.args.dimensions.now in
    let none = rw c.roots.ensures at c.in_ok-checked_opening.ensures.answer in
    exact_by (presented_one c.args.self.now ds c.args.commit.now c.args.index c.args.opening)
    (salted_accepted g.PW.Value.PartialEq.eq g.row.SALT_ELEMS ds (salted_params_of c.args.self.now ds)
    (roots_of c.args.commit.now) g.met.PW.PackedValue.eq_is_equality (salted_borrowed c.args.index c.args.opening))
    _ (sym (ap (λ refusal. ok_unless refusal (tt {0})) none))
