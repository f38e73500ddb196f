-- The leaves are over the tallest matrices alone.
use Rattle.std.proofs.Common.{◌≡◌, ◌∙◌, ◌+◌, ℕ, ap, arith, drop, length, map, refl}
use Rattle.std.proofs.lemmas.List.{take_at}
use Rattle.std.proofs.lemmas.List.FromFn.{length-map-range_with_len}
use Rattle.std.specs.List.{range_with_len}
use Rattle.p3_support.specs.Lists.{rows_of_height}
use Rattle.p3_merkle_core.specs.Geometry.{padded_len}
use Rattle.p3_merkle_core.proofs.Covered.CoveredFacts.{padded_le}
use Rattle.p3_merkle_hashing.specs.Inner.Slots.{leaf_over, rows_over}
use Rattle.p3_merkle_prover.specs.Inner.Slots.{functions_for}
use Rattle.p3_merkle_prover.proofs.BuildFacts.{leaves_are, tallest_low}
use Rattle.p3_merkle_prover.proofs.LayerFacts.{picked_high, rows_picked, same_made}
use Rattle.p3_merkle_prover.proofs.layers.MerkleTreeBuilder+P+PW+H+C+M+N+D.leaf_layer.Goals as goal

pub padded_len-requires-clause-fits : goal.padded_len-requires-clause-fits
padded_len-requires-clause-fits g c =
    let build = c.args.self.now.build in
    let least = build.arity.fits in
    let two = build.arity.above_1 in
    let top = c.args.self.now.schedule.now.max_height in
    omega (arith, padded_le top g.row.N (omega arith), tallest_low build, c.args.self.now.schedule.now.walked.tallest)

pub invariant_of-rows : goal.invariant_of-rows
invariant_of-rows g c = record {
  of_height = picked_high g.M.Matrix.height_of g.M.Matrix.row_of (λ m. m.now) c.args.self.now.schedule.now.max_height
      c.as_slice.result.now c.args.self.now.matrices.now
      (ap (map (λ m. m.now)) c.as_slice.ensures.value ∙ c.in_ok-pick_matrices.ensures);
}

pub returns : goal.returns
returns g c =
    let all = c.args.self.now.matrices.now in
    let h = c.args.self.now.schedule.now.max_height in
    let f = functions_for c.args.self.now in
    let picked = c.as_slice.result.now in
    let made = λ (j : ℕ).
    leaf_over f.hash f.default_digest (rows_over (λ m. g.M.Matrix.row_of m.now) picked) h (0 + j) in
    let wanted = leaf_over f.hash f.default_digest
    (λ j. rows_of_height g.M.Matrix.height_of g.M.Matrix.row_of h j all) h in
    let rows = λ (j : ℕ). rows_picked g.M.Matrix.height_of g.M.Matrix.row_of (λ m. m.now) h j picked all
    (ap (map (λ m. m.now)) c.as_slice.ensures.value ∙ c.in_ok-pick_matrices.ensures) in
    let slots = c.fill.new.slots in
    let long : length c.deref_mut.result.now ≡ padded_len h g.row.N = omega (
      arith,
      c.deref_mut.ensures.len,
      c.in_ok-leaves.ensures.len,
      c.padded_len.ensures,
    ) in
    let size : length slots ≡ c.in_ok-leaves.leaves.len = ap length c.in_ok-fill.ensures
    ∙ length-map-range_with_len made 0 (length c.deref_mut.result.now) ∙ c.deref_mut.ensures.len in
    take_at slots (drop (length slots) c.in_ok-leaves.leaves.items) c.in_ok-leaves.leaves.len size
    ∙ c.in_ok-fill.ensures
    ∙ ap (λ n. map made (range_with_len 0 n)) long
    ∙ same_made made wanted (padded_len h g.row.N)
    (λ j below. let same : 0 + j ≡ j = omega arith in rw (same, rows j) refl)
    ∙ leaves_are f g.row.N g.M.Matrix.height_of g.M.Matrix.width_of g.M.Matrix.row_of all c.args.self.now.build h
    c.args.self.now.schedule.now.walked.tallest
