use Rattle.std.proofs.Common.{◌≡◌, ℕ, ◌<◌, [], All, length, take, zip}
use Rattle.std.specs.Prelude.{slice_index, slice_index_or}
use Rattle.p3_support.specs.Batches.{heights_of}
use Rattle.p3_support.specs.RowSets.{sets_in}
use Rattle.p3_merkle_core.specs.Checks.{words_of_exponent}
use Rattle.p3_merkle_hashing.specs.Inner.Slots.{rows_over}
use Rattle.p3_merkle_verifier.specs.Inner.OpenedMatrices.{row_in}
use Rattle.p3_merkle_verifier.proofs.pruned_check.opened_matrices.Given as goal

-- the matrices so far
abbrev pub invariant-loop-place : goal.invariant-loop-place
invariant-loop-place g l =
    let sets = sets_in l.restorable.opening.sets in
    let hs = heights_of l.restorable.schedule.now.dimensions.now in
    let queries = l.queries in
    record {
      long : All (λ m. length m.queries.now ≡ length queries) l.matrices.items;
      rows :
          (j : ℕ) → j < length queries → rows_over row_in l.matrices.items j
          ≡ words_of_exponent l.exponent
          (take l.place (zip hs (slice_index_or sets (slice_index queries j) [])));
    }
