-- Two digests, and default digests after them.
use Rattle.std.proofs.Common.{◌-◌, ◌∷◌, ◌∙◌, ap, map, replicate, List}
use Rattle.p3_support.specs.Lists.{lane_of}
use Rattle.p3_merkle_hashing.proofs.LaneFacts.{default_lanes}
use Rattle.p3_merkle_hashing.proofs.nodes.compress_pairs_packed.Goals as goal

pub returns : goal.returns
returns g c = λ k small.
    let lane = λ (ps : List g.row.PW.Denot). lane_of g.PW.PackedValue.lanes g.PW.PackedValue.default_value k ps in
    let same = ap (replicate g.PW.PackedValue.WIDTH)
    (g.met.PW.PackedValue.default_is_unique c.default.result c.default.ensures) in
    let group = ap (map lane) c.pair_group-group.ensures
    ∙ ap (λ l. lane c.args.left ∷ lane c.args.right ∷ l)
    (default_lanes g.PW.PackedValue.lanes g.PW.PackedValue.default_value c.broadcast.result g.PW.PackedValue.WIDTH k
    g.row.D (g.row.N - 2) (c.broadcast.ensures ∙ same) small) in
    c.compress_packed.ensures k small
    ∙ ap (g.C.PseudoCompressionFunction.compression c.args.compress.now) group
