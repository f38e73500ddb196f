use Rattle.std.proofs.Common.{◌≡◌, map, drop, zip}
use Rattle.std.specs.List.{enumerate_from}
use Rattle.p3_support.specs.Batches.{widths_of}
use Rattle.p3_merkle_core.specs.Refusals.{row_width_refusal, width_fault}
use Rattle.p3_answers.specs.Answers.{first_of}
use Rattle.p3_merkle_core.proofs.geometry.check_widths.Given as goal

-- the rows so far have their widths, so the rest decides
abbrev pub invariant-loop-matrix : goal.invariant-loop-matrix
invariant-loop-matrix g l =
    first_of width_fault
    (enumerate_from l.matrix
    (zip (widths_of (drop l.matrix l.dimensions)) (map (λ r. r.items) (drop l.matrix l.rows))))
    ≡ row_width_refusal (widths_of l.dimensions) (map (λ r. r.items) l.rows)
