-- The slots of the blocks so far have their nodes; those of the rest follow, and the padding keeps its default digests.
use Rattle.std.proofs.Common.{arith, ◌≡◌, ℕ, ◌+◌, ◌-◌, ◌*◌, ◌<◌, ◌≤◌, ◌∙◌, List, [], ap, drop, length, length-drop, map}
use Rattle.std.proofs.Common.{refl, replicate, slice_index_or, take, ◌++◌}
use Rattle.std.proofs.lemmas.Bool.{le-ltb}
use Rattle.std.proofs.lemmas.List.{length-take-le, take_at}
use Rattle.std.proofs.lemmas.List.FromFn.{fill_by_all, get_or-map-range_with_len, length-map-range_with_len}
use Rattle.std.specs.List.{range_with_len}
use Rattle.p3_support.specs.Lists.{lane_of}
use Rattle.p3_merkle_hashing.specs.Inner.Slots.{IsFilled}
use Rattle.p3_merkle_hashing.proofs.LaneFacts.{group_more}
use Rattle.p3_merkle_hashing.proofs.StageFacts.{all_filled}
use Rattle.p3_merkle_prover.specs.Inner.Slots.{functions_in, leaf_in, slot_of}
use Rattle.p3_merkle_prover.proofs.NodeFacts.{children_from, node_alone, node_with}
use Rattle.p3_merkle_prover.proofs.layer.LayerBuilder+P+PW+H+C+M+N+D.fill.Goals as goal
use Rattle.p3_merkle_prover.proofs.layer.LayerBuilder+P+PW+H+C+M+N+D.fill.Given.{Over}
use Rattle.p3_merkle_prover.proofs.layer.LayerBuilder+P+PW+H+C+M+N+D.fill.Goals.{After-lemma_children_from}
use Rattle.p3_merkle_prover.proofs.layer.LayerBuilder+P+PW+H+C+M+N+D.fill.Goals.{then-in_batches, else-in_batches}
use Rattle.p3_merkle_prover.proofs.layer.LayerBuilder+P+PW+H+C+M+N+D.fill.Goals.{then-has_rows, else-has_rows}
use borrow.Rule.Slice.PartMut.{put_mid}

pub loop-block-preserved : goal.loop-block-preserved
loop-block-preserved g c =
    let w = g.PW.PackedValue.WIDTH in
    let block = c.loop-block.block in
    let slot = slot_of c.args.self.now in
    let xs = c.loop-block.nodes in
    let ys = c.unpack_at.new.rows in
    let seen = λ (k : ℕ). lane_of g.PW.PackedValue.lanes g.PW.PackedValue.default_value k
    c.packed_digest-packed.result in
    let written : (k : ℕ) → k < w → slice_index_or ys (block * w + k) [] ≡ seen k =
    rw c.WIDTH.ensures at c.unpack_at.ensures.lanes in
    let kept : (j : ℕ) → j < block * w → slice_index_or ys j [] ≡ slice_index_or xs j [] =
    rw c.WIDTH.ensures at c.unpack_at.ensures.before in
    let built : (k : ℕ) → k < w → seen k ≡ slot (block * w + k) = rw c.WIDTH.ensures at
    c.packed_digest-packed.ensures in
    record {
      long = c.unpack_at.ensures.long ∙ c.loop-block.invariant.long;
      filled = group_more slot seen xs ys block w [] written built kept c.loop-block.invariant.filled;
    }

-- the blocks end where the nodes do, or before
few : (g : Over) (c : After-lemma_children_from g) →
    c.packed_block_count-blocks.result * c.WIDTH-2.result ≤ c.min-end.result
few g c =
    let lanes : c.if-in_batches.in_lanes ≤ c.min-end.result =
    elim c.if-in_batches.branch [ then-in_batches w ↦ omega arith | else-in_batches w ↦ omega arith ] in
    let most : c.if-has_rows.in_lanes ≤ c.min-end.result =
    elim c.if-has_rows.branch [ then-has_rows w ↦ omega (arith, lanes) | else-has_rows w ↦ omega (arith, lanes) ] in
    rw c.WIDTH-2.ensures (omega (arith, most, c.packed_block_count-blocks.ensures.count))

-- a node after them is one of the layer's
inside : (g : Over) (c : After-lemma_children_from g) (j : ℕ) →
    let front = c.loop-block.nodes in
    let done : ℕ = c.packed_block_count-blocks.result * c.WIDTH-2.result in
    j < length (take (length front - done) (drop done front)) → done + j < c.args.self.now.level.raw_len
inside g c j h =
    let front = c.loop-block.nodes in
    let done : ℕ = c.packed_block_count-blocks.result * c.WIDTH-2.result in
    let whole : length front ≡ c.min-end.result =
    c.loop-block.invariant.long ∙ length-take-le c.min-end.result c.args.slots.now (omega arith) in
    let size = length-take-le (length front - done) (drop done front) (omega (arith, length-drop done front)) in
    omega (arith, h, size, whole, few g c)

-- once the nodes after those of the blocks are written, too, all slots are
written : (g : Over) (c : After-lemma_children_from g) (ys : List (List g.row.PW-Value.Denot)) →
    let front = c.loop-block.nodes in
    let done : ℕ = c.packed_block_count-blocks.result * c.WIDTH-2.result in
    let slot = slot_of c.args.self.now in
    ys ≡ map (λ j. slot (done + j)) (range_with_len 0 (length (take (length front - done) (drop done front)))) →
    put_mid done (length front - done) front ys ++ drop c.min-end.result c.args.slots.now
    ≡ map slot (range_with_len 0 (length c.args.slots.now))
written g c ys is =
    let old = c.args.slots.now in
    let v = c.args.self.now.level in
    let end = c.min-end.result in
    let d = replicate g.row.D g.PW.PackedValue.default_value in
    let slot = slot_of c.args.self.now in
    let front = c.loop-block.nodes in
    let blocks = c.packed_block_count-blocks.result in
    let done : ℕ = blocks * c.WIDTH-2.result in
    let whole : length front ≡ end = c.loop-block.invariant.long ∙ length-take-le end old (omega arith) in
    let last : c.loop-block.block ≡ blocks = omega arith in
    let at : c.loop-block.block * g.PW.PackedValue.WIDTH ≡ done = rw (c.WIDTH-2.ensures, last) refl in
    let so_far : IsFilled slot done end front = record {
      long = whole;
      filled = λ j low. c.loop-block.invariant.filled j (rw at low);
    } in
    all_filled slot (λ j. slot (done + j)) d old front ys done (length front - done) end
    c.requires (omega arith) (omega (arith, whole)) (few g c) is (λ j low. refl)
    (λ j past low. let out : v.raw_len ≤ j = omega (arith, past, low) in rw (le-ltb j v.raw_len out) refl) so_far

pub returns-else-has_rows-2 : goal.returns-else-has_rows-2
returns-else-has_rows-2 g c =
    let here = (goal.at.returns-else-has_rows-2 g c).After-lemma_children_from in
    let builder = c.args.self.now in
    let v = builder.level in
    let f = functions_in builder in
    let front = c.loop-block.nodes in
    let done : ℕ = c.packed_block_count-blocks.result * c.WIDTH-2.result in
    let rest = take (length front - done) (drop done front) in
    let slots = c.compress_children.new.slots in
    let folded = c.in_ok-compress_children.ensures in
    written g here slots (fill_by_all (λ (j : ℕ). slot_of builder (done + j)) slots (length rest) [] folded.long
    (λ j h. node_alone f g.row.N (leaf_in builder) v builder.below.now builder.children (done + j)
    (inside g here j h) (slice_index_or slots j []) c.if-has_rows-2.false
    (folded.filled j h ∙ children_from f g.row.N v builder.below.now done j)))

pub returns-in_ok-inject_row_digests : goal.returns-in_ok-inject_row_digests
returns-in_ok-inject_row_digests g c =
    let here = (goal.at.returns-in_ok-inject_row_digests g c).After-lemma_children_from in
    let builder = c.args.self.now in
    let v = builder.level in
    let f = functions_in builder in
    let leaf = leaf_in builder in
    let front = c.loop-block.nodes in
    let done : ℕ = c.packed_block_count-blocks.result * c.WIDTH-2.result in
    let rest = take (length front - done) (drop done front) in
    let made = λ (j : ℕ). leaf (done + j) in
    let nodes = c.compress_children.new.slots in
    let folded = c.in_ok-compress_children.ensures in
    let n = length nodes in
    let digests = c.fill.new.slots in
    let long : length c.deref_mut.result.now ≡ n = c.deref_mut.ensures.len ∙ c.in_ok-resize.ensures.len in
    let full : length digests ≡ c.resize.new.self.len = ap length c.in_ok-fill.ensures
    ∙ length-map-range_with_len made 0 (length c.deref_mut.result.now) ∙ c.deref_mut.ensures.len in
    let are : c.deref.result.now ≡ map made (range_with_len 0 n) = c.deref.ensures.value
    ∙ take_at digests (drop (length digests) c.resize.new.self.items) c.resize.new.self.len full
    ∙ c.in_ok-fill.ensures ∙ ap (λ k. map made (range_with_len 0 k)) long in
    let rows : length c.deref.result.now ≡ n = ap length are ∙ length-map-range_with_len made 0 n in
    let slots = c.inject_row_digests.new.slots in
    let filled = c.in_ok-inject_row_digests.ensures in
    written g here slots (fill_by_all (λ (j : ℕ). slot_of builder (done + j)) slots (length rest) []
    (filled.long ∙ folded.long)
    (λ j h.
    let row = ap (λ l. slice_index_or l j []) are
    ∙ get_or-map-range_with_len made 0 n j j [] (omega (arith, h, folded.long)) (omega arith) in
    node_with f g.row.N leaf v builder.below.now builder.children (done + j) (inside g here j h)
    (slice_index_or nodes j []) (slice_index_or c.deref.result.now j []) (slice_index_or slots j [])
    c.if-has_rows-2.true
    (folded.filled j h ∙ children_from f g.row.N v builder.below.now done j) row
    (filled.filled j (omega (arith, h, rows, folded.long)))))
