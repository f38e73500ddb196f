-- Row `first + k` is read out of what was written, which is lane `k`.
use Rattle.std.proofs.Common.{arith, ℕ, ◌≡◌, ◌≤◌, ◌∙◌, ap, length, slice_index_or, []}
use Rattle.std.proofs.lemmas.List.FromFn.{get_or-map-range_with_len, length-map-range_with_len}
use Rattle.p3_support.specs.Lists.{lane_of}
use Rattle.p3_support.proofs.Fills.{get_or-put_mid}
use Rattle.p3_support.proofs.packed.unpack_at.Goals as goal

pub returns-clause-lanes : goal.returns-clause-lanes
returns-clause-lanes g c = λ k below.
    let written = c.unpack_into.new.rows in
    let lane = λ (j : ℕ). lane_of g.PW.PackedValue.lanes g.PW.PackedValue.default_value j c.args.packed.now in
    let inside : c.args.first ≤ length c.args.rows.now = omega (arith, c.requires) in
    let long : length written ≡ g.PW.PackedValue.WIDTH = ap length c.unpack_into.ensures
    ∙ length-map-range_with_len lane 0 g.PW.PackedValue.WIDTH in
    get_or-put_mid c.args.first _ k c.args.rows.now written [] inside (omega (arith, long, below))
    ∙ ap (λ l. slice_index_or l k []) c.unpack_into.ensures
    ∙ get_or-map-range_with_len lane 0 g.PW.PackedValue.WIDTH k k [] below (omega arith)
