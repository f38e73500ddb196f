-- Each turn mixes one child into each lane of the digest.
use Rattle.std.proofs.Common.{rules, ◌≡◌, ◌<◌, ◌∙◌, sym, ap, List, [], length, map, slice_index_or, take, get_or}
use Rattle.std.specs.List.{fold}
use Rattle.std.proofs.lemmas.List.{length-map, get_or-map, get_or-replicate, length-replicate, take_all}
use Rattle.std.proofs.lemmas.List.FromFn.{fill_by_all}
use Rattle.p3_hashes.specs.Fold.{fold_compress, mix_in, placed_elements}
use Rattle.p3_support.specs.Lists.{lane_of}
use Rattle.p3_hashes.proofs.FoldSteps.{placed_more}
use Rattle.p3_support.proofs.LaneReads.{lane_of_same}
use Rattle.p3_hashes.proofs.fold.compress_lanes.Goals as goal

pub loop-i-init : goal.loop-i-init
loop-i-init g c = (
  length-replicate g.row.D c.broadcast-digest.result,
  λ k e below inside.
      let pick = λ (p : g.row.P.Denot). slice_index_or (g.P.PackedValue.lanes p) k g.P.PackedValue.default_value in
      lane_of_same pick g.row.D e c.broadcast-digest.result 0 inside
      ∙ ap (λ l. slice_index_or l k g.P.PackedValue.default_value) c.broadcast-digest.ensures
      ∙ get_or-replicate g.P.PackedValue.WIDTH k 0 g.P.PackedValue.default_value below,
)

pub loop-i-preserved : goal.loop-i-preserved
loop-i-preserved g c = (
  c.mix.ensures.long ∙ c.loop-i.invariant.0,
  λ k e below inside.
      let of = λ (ps : List g.row.P.Denot). lane_of g.P.PackedValue.lanes g.P.PackedValue.default_value k ps in
      let all = c.args.children.now in
      let i = c.loop-i.i in
      let within : i < length all = search rules in
      let child = get_or all i [] in
      let at : get_or (map of all) i [] ≡ of child = get_or-map of all i [] [] within in
      c.mix.ensures.each k e below inside
      ∙ ap (λ s. mix_in s (i, slice_index_or (of child) e 0)) (c.loop-i.invariant.1 k e below inside)
      ∙ ap (λ l. mix_in (fold mix_in 0 (placed_elements e (take i (map of all)))) (i, slice_index_or l e 0)) (sym at)
      ∙ sym (placed_more e i (map of all) [] (rw (length-map all of) within)),
)

pub returns : goal.returns
unfolding fold_compress
returns g c = λ k below.
    let of = λ (ps : List g.row.P.Denot). lane_of g.P.PackedValue.lanes g.P.PackedValue.default_value k ps in
    let pick = λ (p : g.row.P.Denot). slice_index_or (g.P.PackedValue.lanes p) k g.P.PackedValue.default_value in
    let all = map of c.args.children.now in
    let whole : take c.loop-i.i all
    ≡ all = take_all c.loop-i.i all (rw (length-map c.args.children.now of) (search rules)) in
    fill_by_all (λ e. fold mix_in 0 (placed_elements e all)) (of c.loop-i.digest) g.row.D 0
    (length-map c.loop-i.digest pick ∙ c.loop-i.invariant.0)
    (λ e h. c.loop-i.invariant.1 k e below h ∙ ap (λ l. fold mix_in 0 (placed_elements e l)) whole)
