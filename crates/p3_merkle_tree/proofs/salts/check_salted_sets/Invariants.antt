use Rattle.std.proofs.Common.{◌≡◌, zip}
use Rattle.std.specs.Iterator.Adapters.{zip_first, zip_second}
use Rattle.std.specs.Slice.Iter.{iter_rest}
use Rattle.p3_answers.specs.Answers.{first_of}
use Rattle.p3_support.specs.Shown.{row_sets}
use Rattle.p3_merkle_tree.specs.SaltRefusals.{row_and_salt_form_refusal}
use Rattle.p3_merkle_tree.proofs.salts.check_salted_sets.Given as goal

-- the sets so far are not refused, so those that are left decide
abbrev pub invariant-loop-rows : goal.invariant-loop-rows
invariant-loop-rows g l =
    first_of (λ (rows, salt). row_and_salt_form_refusal l.dimensions rows salt)
    (zip (row_sets (iter_rest (zip_first l.rows-iterator))) (row_sets (iter_rest (zip_second l.rows-iterator))))
    ≡ first_of (λ (rows, salt). row_and_salt_form_refusal l.dimensions rows salt)
    (zip (row_sets l.sets) (row_sets l.salts))
