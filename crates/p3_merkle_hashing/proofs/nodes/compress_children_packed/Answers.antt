-- In each lane the group has the children so far of one node, and default digests after them.
use Rattle.std.proofs.Common.{arith, ◌≡◌, ◌+◌, ◌-◌, ◌*◌, ◌<◌, ◌++◌, ◌∙◌, [], ap, length, take, drop, map, set, sym}
use Rattle.std.proofs.Common.{List, length-set, replicate}
use Rattle.std.proofs.lemmas.List.{map-set, length-map, length-replicate, take_all, drop-replicate}
use Rattle.p3_support.specs.Lists.{lane_of}
use Rattle.p3_merkle_hashing.proofs.LaneFacts.{put_next, child_at, children_long, default_lanes}
use Rattle.p3_merkle_hashing.proofs.nodes.compress_children_packed.Goals as goal

pub loop-n-preserved : goal.loop-n-preserved
loop-n-preserved g c = (
  length-set c.loop-n.group c.loop-n.n c.packed_child.result ∙ c.loop-n.invariant.0,
  λ k small.
      let lane = λ (ps : List g.row.PW.Denot). lane_of g.PW.PackedValue.lanes g.PW.PackedValue.default_value k ps in
      let below = c.args.below.now in
      let step = c.args.step in
      let n = c.loop-n.n in
      let child = c.packed_child.result in
      let group = replicate g.row.N (replicate g.row.D c.broadcast.result) in
      let first = map lane group in
      let room : n < length first = rw (
        length-map group lane,
        length-replicate g.row.N (replicate g.row.D
            c.broadcast.result),
      ) (omega (arith, c.requires.narrow)) in
      let whole = take step (drop (step * (c.args.first + k)) below) in
      let long : n < length whole =
      omega (arith, children_long below step c.args.first k g.PW.PackedValue.WIDTH small c.requires.inside) in
      map-set lane c.loop-n.group n child ∙ ap (λ z. set z n (lane child)) (c.loop-n.invariant.1 k small)
      ∙ put_next first whole n (lane child) [] long room (child_at below step c.args.first k n [] c.loop-n-test.true
      ∙ sym (c.packed_child.ensures k small)),
)

pub returns : goal.returns
returns g c = λ k small.
    let lane = λ (ps : List g.row.PW.Denot). lane_of g.PW.PackedValue.lanes g.PW.PackedValue.default_value k ps in
    let default = g.PW.PackedValue.default_value in
    let step = c.args.step in
    let group = replicate g.row.N (replicate g.row.D c.broadcast.result) in
    let first = map lane group in
    let whole = take step (drop (step * (c.args.first + k)) c.args.below.now) in
    let end : c.loop-n.n ≡ step = omega arith in
    let long = children_long c.args.below.now step c.args.first k g.PW.PackedValue.WIDTH small c.requires.inside in
    let same = ap (replicate g.PW.PackedValue.WIDTH)
    (g.met.PW.PackedValue.default_is_unique c.default.result c.default.ensures) in
    let lanes = default_lanes g.PW.PackedValue.lanes default c.broadcast.result g.PW.PackedValue.WIDTH k g.row.D g.row.N
    (c.broadcast.ensures ∙ same) small in
    let made : map lane c.loop-n.group ≡ whole ++ replicate (g.row.N - step) (replicate g.row.D default) =
    c.loop-n.invariant.1 k small ∙ ap (λ n. take n whole ++ drop n first) end
    ∙ ap (λ l. l ++ drop step first) (take_all step whole (omega (arith, long)))
    ∙ ap (λ l. whole ++ l) (ap (drop step) lanes ∙ drop-replicate step g.row.N (replicate g.row.D default)) in
    c.compress_packed.ensures k small ∙ ap (g.C.PseudoCompressionFunction.compression c.args.compress.now) made
