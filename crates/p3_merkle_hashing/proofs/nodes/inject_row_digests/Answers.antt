-- The slots so far have their digests compressed with those of their rows, and the others are as they were.
use Rattle.std.proofs.Common.{arith, ◌≡◌, ℕ, ◌+◌, ◌-◌, ◌≤◌, List, ◌∷◌, ◌∙◌, [], ap, length, map, take, drop, replicate}
use Rattle.std.proofs.Common.{slice_index_or}
use Rattle.std.specs.List.{range_with_len}
use Rattle.p3_merkle_hashing.proofs.StageFacts.{join_more}
use Rattle.p3_merkle_hashing.proofs.nodes.inject_row_digests.Goals as goal

pub loop-first-preserved : goal.loop-first-preserved
loop-first-preserved g c =
    let first = c.loop-first.first in
    let n = c.min.result in
    let k : ℕ = first + n - first in
    let xs = c.loop-first.slots in
    let rows = c.args.rows.now in
    let digest = c.default-default_digest.result in
    let pad = replicate (g.row.N - 2) (replicate g.row.D g.PW.PackedValue.default_value) in
    let compression = g.C.PseudoCompressionFunction.compression c.args.compress.now in
    let few : first + n ≤ length rows = omega arith in
    let inside : first + n ≤ length xs = omega (arith, few, c.loop-first.invariant.1.long, c.requires.rows) in
    let same : k ≡ n = omega arith in
    let groups = λ (ds : List (List g.row.PW-Value.Denot)).
    map (λ (j : ℕ). slice_index_or (take k (drop first xs)) j [] ∷ slice_index_or (take k (drop first rows)) j []
    ∷ ds) (range_with_len 0 (length (take k (drop first xs)))) in
    let default = ap (λ d. groups (replicate (g.row.N - 2) (replicate g.row.D d)))
    (g.met.PW.PackedValue.default_is_unique digest c.default-default_digest.ensures) in
    let made = c.compress_many.ensures
    ∙ ap (map compression) (c.deref.ensures.value ∙ c.in_ok-stage_pairs.ensures.pairs ∙ default) in
    let more = join_more compression pad rows c.args.slots.now xs c.compress_many.new.out first k n same few inside made
    c.loop-first.invariant.1 c.loop-first.invariant.2 in
    (few, more.0, more.1)

pub returns : goal.returns
returns g c = let end : c.loop-first.first ≡ length c.args.rows.now = omega (arith, c.loop-first.invariant.0) in
    rw end at c.loop-first.invariant.1
