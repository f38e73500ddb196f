-- Each turn takes the word into one element.
use Rattle.std.proofs.Common.{rules, ℕ, slice_index_or}
use Rattle.p3_hashes.specs.Fold.{take_in}
use Rattle.p3_support.proofs.LaneReads.{map_seen_more}
use Rattle.p3_hashes.proofs.fold.absorb.Goals as goal

pub loop-element-preserved : goal.loop-element-preserved
loop-element-preserved g c = (
  search rules,
  λ k below.
      let of = λ (p : g.row.P.Denot). slice_index_or (g.P.PackedValue.lanes p) k g.P.PackedValue.default_value in
      map_seen_more of (λ (s : ℕ). take_in s (of c.args.word)) c.args.state.now c.loop-element.state
      c.loop-element.element-index c.mul_31_add.result c.element-item.result (search rules)
      c.loop-element.invariant.0
      (search (rules, c.mul_31_add.ensures k below)) (c.loop-element.invariant.1 k below),
)
