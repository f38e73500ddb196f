-- Each turn sets lane `k` of one element, and no other lane.
use Rattle.std.proofs.Common.{rules, arith, ◌≡◌, ℕ, ◌<◌, ◌∙◌, sym, ap, length, slice_index_or, slice_set}
use Rattle.std.proofs.lemmas.List.{map-set, get_or-map, get_or_read, length-map, get_or-set_same, get_or-set_other}
use Rattle.std.proofs.lemmas.List.{set-get_or, ext_get_or}
use Rattle.p3_support.specs.Lists.{lane_of}
use Rattle.p3_support.proofs.Fills.{filled_more}
use Rattle.p3_support.proofs.packed.set_lane.Goals as goal

pub loop-e-preserved : goal.loop-e-preserved
loop-e-preserved g c =
    let zero = g.PW.PackedValue.default_value in
    let lanes = g.PW.PackedValue.lanes in
    let k = c.args.k in
    let e = c.loop-e.e in
    let ps = c.loop-e.packed in
    let p = c.index-packed-e.result in
    let y = c.with_lane.result in
    let row = c.args.column.now in
    let pick = λ (j : ℕ) (q : g.row.PW.Denot). slice_index_or (lanes q) j zero in
    let inside : e < length ps = search rules in
    let words : e < length row = search rules in
    let within : k < length (lanes p) = omega (arith, c.requires.lane, g.met.PW.PackedValue.length_lanes p) in
    let read : slice_index_or ps e p ≡ p = search rules in
    let word : slice_index_or row e zero
    ≡ c.index-column-e.result = sym (get_or_read row e c.index-column-e.result words c.index-column-e.is zero) in
    let set_to : lanes y ≡ slice_set (lanes p) k c.index-column-e.result = search rules in
    let seen : pick k y ≡ slice_index_or row e zero = ap (λ l. slice_index_or l k zero) set_to
    ∙ get_or-set_same (lanes p) k c.index-column-e.result zero within ∙ sym word in (
      search rules,
      λ i h. ap (λ l. slice_index_or l i zero) (map-set (pick k) ps e y)
          ∙ filled_more (λ n. slice_index_or row n zero) (lane_of lanes zero k ps) e (pick k y) zero
          (rw (length-map ps (pick k)) inside) seen c.loop-e.invariant.1 i h,
      λ j other.
          let kept : pick j y ≡ slice_index_or (lane_of lanes zero j ps) e zero =
          ap (λ l. slice_index_or l j zero) set_to ∙ get_or-set_other (lanes p) k j c.index-column-e.result zero other
          ∙ ap (pick j) (sym read) ∙ sym (get_or-map (pick j) ps e p zero inside) in
          map-set (pick j) ps e y ∙ ap (λ v. slice_set (lane_of lanes zero j ps) e v) kept
          ∙ set-get_or (lane_of lanes zero j ps) e zero ∙ c.loop-e.invariant.2 j other,
    )

pub returns-clause-lane_set : goal.returns-clause-lane_set
returns-clause-lane_set g c =
    let zero = g.PW.PackedValue.default_value in
    let pick = λ (q : g.row.PW.Denot). slice_index_or (g.PW.PackedValue.lanes q) c.args.k zero in
    let long : length c.loop-e.packed ≡ g.row.D = search rules in
    let words : length c.args.column.now ≡ g.row.D = search rules in
    ext_get_or zero (lane_of g.PW.PackedValue.lanes zero c.args.k c.loop-e.packed) c.args.column.now
    (length-map c.loop-e.packed pick ∙ long ∙ sym words) (λ i h.
    let below : i < length c.loop-e.packed = rw (← length-map c.loop-e.packed pick) h in
    c.loop-e.invariant.1 i (search rules))
