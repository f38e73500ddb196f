-- The nodes are over the matrices of the height alone.
use Rattle.std.proofs.Common.{◌≡◌, ◌∙◌, ℕ, ap, arith, drop, length, map, refl}
use Rattle.std.proofs.lemmas.List.{take_at}
use Rattle.std.proofs.lemmas.List.FromFn.{length-map-range_with_len}
use Rattle.std.specs.List.{range_with_len}
use Rattle.p3_support.specs.Lists.{rows_of_height}
use Rattle.p3_merkle_hashing.specs.Inner.Slots.{leaf_over, rows_over}
use Rattle.p3_merkle_prover.specs.Inner.Levels.{slot_above}
use Rattle.p3_merkle_prover.specs.Inner.Slots.{functions_for}
use Rattle.p3_merkle_prover.proofs.LayerFacts.{picked_high, rows_picked, same_made}
use Rattle.p3_merkle_prover.proofs.layers.MerkleTreeBuilder+P+PW+H+C+M+N+D.next_layer.Goals as goal

pub invariant_of-rows : goal.invariant_of-rows
invariant_of-rows g c = record {
  of_height = picked_high g.M.Matrix.height_of g.M.Matrix.row_of (λ m. m.now) c.args.level.height
      c.as_slice.result.now c.args.self.now.matrices.now
      (ap (map (λ m. m.now)) c.as_slice.ensures.value ∙ c.in_ok-pick_matrices.ensures);
}

pub invariant_of-builder-clause-children : goal.invariant_of-builder-clause-children
invariant_of-builder-clause-children g c = rw c.args.self.now.arity at c.requires

pub returns : goal.returns
returns g c =
    let level = c.args.level in
    let all = c.args.self.now.matrices.now in
    let below = c.args.below.now in
    let f = functions_for c.args.self.now in
    let picked = c.as_slice.result.now in
    let made = slot_above f g.row.N
    (leaf_over f.hash f.default_digest (rows_over (λ m. g.M.Matrix.row_of m.now) picked) level.height) level below in
    let wanted = slot_above f g.row.N
    (leaf_over f.hash f.default_digest
    (λ j. rows_of_height g.M.Matrix.height_of g.M.Matrix.row_of level.height j all) level.height) level below in
    let rows = λ (j : ℕ). rows_picked g.M.Matrix.height_of g.M.Matrix.row_of (λ m. m.now) level.height j picked all
    (ap (map (λ m. m.now)) c.as_slice.ensures.value ∙ c.in_ok-pick_matrices.ensures) in
    let slots = c.fill.new.slots in
    let long : length c.deref_mut.result.now
    ≡ level.layer_len = omega (arith, c.deref_mut.ensures.len, c.in_ok-slots.ensures.len) in
    let size : length slots ≡ c.in_ok-slots.slots.len = ap length c.in_ok-fill.ensures
    ∙ length-map-range_with_len made 0 (length c.deref_mut.result.now) ∙ c.deref_mut.ensures.len in
    take_at slots (drop (length slots) c.in_ok-slots.slots.items) c.in_ok-slots.slots.len size
    ∙ c.in_ok-fill.ensures
    ∙ ap (λ n. map made (range_with_len 0 n)) long
    ∙ same_made made wanted level.layer_len (λ j low. rw (rows j) refl)
