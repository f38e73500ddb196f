-- Each turn's pair passes or is refused, and where either slice is at its end, no set is refused.
use Rattle.std.proofs.Common.{None, Option, Some, sym, ap, ◌≡◌, subst}
use Rattle.std.proofs.lemmas.List.{length-map}
use Rattle.std.proofs.lemmas.Result.{err_from_is_err_and}
use Rattle.std.proofs.lemmas.Slice.Zip.{Zip-more, either_empty_from_Zip}
use Rattle.std.specs.Prelude.{MatchResult}
use Rattle.std.specs.Option.{option_or}
use Rattle.p3_merkle_core.specs.declared.error.MerkleTreeError.{MerkleTreeError}
use Rattle.std.specs.Iterator.Adapters.{zip_first, zip_second}
use Rattle.std.specs.Slice.Iter.{iter_rest}
use Rattle.p3_support.specs.Shown.{row_lists, row_sets}
use Rattle.p3_merkle_tree.proofs.SaltFacts.{no_set_refused, set_passes, set_refused, sets_decide}
use Rattle.p3_merkle_tree.specs.SaltRefusals.{row_and_salt_form_refusal, widening_refusal}
use Rattle.p3_merkle_tree.proofs.salts.check_salted_sets.Goals as goal

pub loop-rows-preserved : goal.loop-rows-preserved
loop-rows-preserved g c =
    let it = c.loop-rows.rows-iterator in
    let new = c.next.new.self in
    let rows = c.in-Some.rows in
    let salt = c.in-Some.salt_set in
    let ds = c.args.dimensions.now in
    let turn = Zip-more it new c.next.result (rows, salt) c.in-Some.is c.next.ensures.steps in
    let pass : row_and_salt_form_refusal ds (row_lists rows.now.items) (row_lists salt.now.items) ≡ None =
    rw (c.deref.ensures.value, c.deref-in-loop-rows.ensures.value) at c.in_ok-check_rows_and_salts.ensures in
    set_passes ds rows.now salt.now (iter_rest (zip_first new)) (iter_rest (zip_first it)) (iter_rest (zip_second new))
    (iter_rest (zip_second it)) _ turn.0 turn.1 c.loop-rows.invariant pass

pub returns-in_err-check_rows_and_salts : goal.returns-in_err-check_rows_and_salts
returns-in_err-check_rows_and_salts g c =
    let it = c.loop-rows.rows-iterator in
    let new = c.next.new.self in
    let rows = c.in-Some.rows in
    let salt = c.in-Some.salt_set in
    let ds = c.args.dimensions.now in
    let e = c.in_err-check_rows_and_salts.field-0.0 in
    let turn = Zip-more it new c.next.result (rows, salt) c.in-Some.is c.next.ensures.steps in
    let refused : row_and_salt_form_refusal ds (row_lists rows.now.items) (row_lists salt.now.items) ≡ Some e =
    rw (c.deref.ensures.value, c.deref-in-loop-rows.ensures.value) at c.in_err-check_rows_and_salts.ensures in
    let first = sets_decide ds (row_sets c.args.sets.now) (row_sets c.args.salts.now) (Some e)
    (simp length-map c.if-salts-sets.false) (set_refused ds rows.now salt.now (iter_rest (zip_first new))
    (iter_rest (zip_first it)) (iter_rest (zip_second new)) (iter_rest (zip_second it)) _ turn.0 turn.1
    c.loop-rows.invariant e refused) in
    let left = err_from_is_err_and c.from_residual.result c.from_residual.ensures.1 in
    rw (left.1, left.2) (record {
      answer = ap (λ z. option_or z (widening_refusal c.args.salt_elems ds)) first;
      fits = tt;
    })

pub returns-clause-answer : goal.returns-clause-answer
returns-clause-answer g c =
    let it = c.loop-rows.rows-iterator in
    let ds = c.args.dimensions.now in
    let none = no_set_refused ds (iter_rest (zip_first it)) c.args.sets.now (iter_rest (zip_second it)) c.args.salts.now
    (simp length-map c.if-salts-sets.false)
    (either_empty_from_Zip it c.next.new.self c.next.result c.in-None.is c.next.ensures.steps)
    c.loop-rows.invariant in
    subst (λ (o : Option MerkleTreeError). MatchResult c.check_widening.result
    (λ ok. option_or o (widening_refusal c.args.salt_elems ds) ≡ None)
    (λ e. option_or o (widening_refusal c.args.salt_elems ds) ≡ Some e)) (sym none) c.check_widening.ensures.answer
