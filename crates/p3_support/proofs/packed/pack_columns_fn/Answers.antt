-- Each lane has its column.
use Rattle.std.proofs.Common.{rules, arith, ◌<◌, ◌∙◌, ap, inl, inr, length}
use Rattle.std.proofs.lemmas.Bool.{cases_eq}
use Rattle.p3_support.proofs.packed.pack_columns_fn.Goals as goal

pub loop-k-preserved : goal.loop-k-preserved
loop-k-preserved g c = λ j below.
    elim (cases_eq j c.loop-k.k) [
      | inl same ↦ rw same (c.f-column.result, c.f-column.ensures, c.set_lane.ensures.lane_set ∙ c.as_slice.ensures)
      | inr other ↦
          let low : j < c.loop-k.k = omega (arith, below, other) in
          let before = c.loop-k.invariant j low in
          (before.0, before.1, c.set_lane.ensures.other j other ∙ before.2)
    ]

pub returns : goal.returns
returns g c = λ k h. c.loop-k.invariant k (search rules)

pub set_lane-requires : goal.set_lane-requires
set_lane-requires g c =
    let below : c.loop-k.k < g.PW.PackedValue.WIDTH = rw (← c.WIDTH-k-end.ensures) c.loop-k-test.true in
    let long = ap length c.as_slice.ensures ∙ c.requires.long c.loop-k.k c.f-column.result below c.f-column.ensures in
    (search rules, (below, long))
