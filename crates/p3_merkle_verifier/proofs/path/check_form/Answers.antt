-- The first check that fails refuses the form, and lawful heights are within the limit.
use Rattle.std.proofs.Common.{◌≡◌, ◌∙◌, ◌++◌, ℕ, None, length, refl, sym}
use Rattle.std.proofs.lemmas.Bool.{eq-eqb}
use Rattle.std.proofs.lemmas.List.{length-map}
use Rattle.std.proofs.lemmas.Result.{err_from_is_err_and}
use Rattle.p3_support.specs.Batches.{heights_of}
use Rattle.p3_support.specs.Rows.{parts_of, rows_in}
use Rattle.p3_support.specs.declared.row_parts.RowParts.{RowParts}
use Rattle.p3_merkle_core.proofs.Shapes.GateFacts.{none_large_from_lawful, tallest_fits}
use Rattle.p3_merkle_core.specs.Refusals.{size_refusal}
use Rattle.p3_merkle_verifier.proofs.path.check_form.Goals as goal

-- as many rows as matrices are not refused
sized : {T : Type 0} (n : ℕ) (rows : RowParts T) → length (parts_of rows) ≡ n →
    size_refusal n (length (rows_in rows)) ≡ None
sized n rows same =
    rw (eq-eqb n (length (rows_in rows)) (sym same ∙ sym (length-map (parts_of rows) (λ part. part.0 ++ part.1)))) refl

pub returns-in_err-check_heights-clause-answer : goal.returns-in_err-check_heights-clause-answer
returns-in_err-check_heights-clause-answer g c =
    let p = err_from_is_err_and c.from_residual.result c.from_residual.ensures.1 in
    rw (
      p.1,
      p.2,
      sized (length c.args.schedule.now.dimensions.now) c.args.rows (sym c.num_rows-got.ensures
          ∙ c.if-got-expected.false),
      c.in_err-check_heights.ensures.answer,
    )
    refl

pub siblings_below-expected_proof_len-requires-clause-low : goal.siblings_below-expected_proof_len-requires-clause-low
siblings_below-expected_proof_len-requires-clause-low g c =
    tallest_fits (heights_of c.args.schedule.now.dimensions.now)
    (none_large_from_lawful (heights_of c.args.schedule.now.dimensions.now)
    (c.in_ok-check_heights.ensures.lawful.0 refl))
