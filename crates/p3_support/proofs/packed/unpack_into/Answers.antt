-- Each row has its lane of the packed values.
use Rattle.std.proofs.Common.{rules, arith, ℕ, ◌≡◌, ◌<◌, ◌∙◌, ap, sym, length, slice_index_or, []}
use Rattle.std.proofs.lemmas.List.{length-map, length-set, ext_get_or, get_or-map}
use Rattle.std.proofs.lemmas.List.FromFn.{fill_by_all}
use Rattle.p3_support.specs.Lists.{lane_of}
use Rattle.p3_support.proofs.Fills.{filled_more}
use Rattle.p3_support.proofs.packed.unpack_into.Goals as goal

pub returns : goal.returns
returns g c =
    let zero = g.PW.PackedValue.default_value in
    let packed = c.args.packed.now in
    let whole : length packed ≡ g.row.D = search rules in
    fill_by_all (λ k. lane_of g.PW.PackedValue.lanes zero k packed) c.loop-e.rows g.PW.PackedValue.WIDTH []
    (search rules) (λ k h.
    let pick = λ (q : g.row.PW.Denot). slice_index_or (g.PW.PackedValue.lanes q) k zero in
    let full : length (slice_index_or c.loop-e.rows k []) ≡ g.row.D = c.loop-e.invariant.1 k h in
    ext_get_or zero (slice_index_or c.loop-e.rows k []) (lane_of g.PW.PackedValue.lanes zero k packed)
    (full ∙ sym (length-map packed pick ∙ whole)) (λ i inside.
    let below : i < length packed = omega (arith, inside, full, whole) in
    c.loop-e.invariant.2 k h i (search rules)))

-- element e of each row is written
pub loop-e-preserved : goal.loop-e-preserved
loop-e-preserved g c =
    let (long, wide, so_far) = c.loop-e.invariant in
    let zero = g.PW.PackedValue.default_value in
    let lanes = g.PW.PackedValue.lanes in
    let packed = c.args.packed.now in
    let e = c.loop-e.e in
    let row = λ (k : ℕ). slice_index_or c.loop-e.rows k [] in
    let pick = λ (k : ℕ) (q : g.row.PW.Denot). slice_index_or (lanes q) k zero in
    let value = slice_index_or packed e c.index-packed-e.result in
    let below : e < length packed = omega arith in (
      c.unpack_value.ensures.long ∙ long,
      λ k h. ap length (c.unpack_value.ensures.written k h) ∙ length-set (row k) e (pick k value) ∙ wide k h,
      λ k h j low. let inside : e < length (row k) = omega (arith, wide k h) in
          ap (λ xs. slice_index_or xs j zero) (c.unpack_value.ensures.written k h)
          ∙ filled_more (λ i. slice_index_or (lane_of lanes zero k packed) i zero) (row k) e (pick k value) zero inside
          (sym (get_or-map (pick k) packed e c.index-packed-e.result zero below)) (so_far k h) j low,
    )
