use Rattle.std.proofs.Common.{◌≡◌, ◌+◌, length, drop, zip}
use Rattle.std.specs.List.{enumerate_from}
use Rattle.p3_support.specs.Batches.{widened, widths_of}
use Rattle.p3_support.specs.Rows.{parts_of, rows_in}
use Rattle.p3_merkle_core.specs.Refusals.{row_width_refusal, width_fault}
use Rattle.p3_answers.specs.Answers.{first_of}
use Rattle.p3_merkle_core.proofs.geometry.check_row_widths.Given as goal

-- the rows so far have their widths, so those that are left decide, and there is a matrix for each
abbrev pub invariant-loop-first : goal.invariant-loop-first
invariant-loop-first g l = record {
  left_decide :
      first_of width_fault (enumerate_from l.matrix
      (zip (widths_of (widened l.salt_elems (drop l.matrix l.dimensions))) (rows_in l.rows)))
      ≡ row_width_refusal (widths_of (widened l.salt_elems l.dimensions))
      (rows_in l.initial.rows);
  in_pairs : l.matrix + length (parts_of l.rows) ≡ length l.dimensions;
}

abbrev pub decreases-loop-first : goal.decreases-loop-first
decreases-loop-first g l = length (parts_of l.rows)
