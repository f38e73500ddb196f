-- The slots so far have the compressions of their children, which are in the layer below.
use Rattle.std.proofs.Common.{arith, ◌≡◌, ℕ, ◌+◌, ◌-◌, ◌*◌, ◌≤◌, List, ◌++◌, ◌∙◌, ap, sym, refl, length, map, drop}
use Rattle.std.proofs.Common.{length-drop, replicate, take}
use Rattle.std.proofs.lemmas.List.{length-take-le}
use Rattle.std.proofs.lemmas.Simd.{map-map}
use Rattle.std.proofs.Math.Nat.{mul-le-mul_left}
use Rattle.std.specs.List.{range_with_len}
use Rattle.p3_merkle_hashing.proofs.StageFacts.{fill_part, whole_groups}
use Rattle.p3_merkle_hashing.proofs.nodes.compress_children.Goals as goal

pub returns-then-step : goal.returns-then-step
returns-then-step g c =
    whole_groups (g.C.PseudoCompressionFunction.compression c.args.compress.now) g.row.N c.args.step
    (length c.args.slots.now) c.args.below.now c.as_chunks.result.0.now
    (replicate g.row.D g.PW.PackedValue.default_value) c.compress_many.new.out c.if-step.true
    c.requires.step c.requires.inside c.as_chunks.ensures.front
    c.as_chunks.ensures.front_len c.compress_many.ensures

pub loop-first-init : goal.loop-first-init
loop-first-init g c = (
  omega arith,
  record { long = refl; filled = λ j none. absurd (omega (arith, none)) },
  λ n few.
      let more : c.args.step * n ≤ c.args.step * length c.args.slots.now = mul-le-mul_left c.args.step few in
      omega (arith, more, c.requires.inside),
)

pub loop-first-preserved : goal.loop-first-preserved
loop-first-preserved g c =
    let first = c.loop-first.first in
    let n = c.min.result in
    let k : ℕ = first + n - first in
    let xs = c.loop-first.slots in
    let below = c.args.below.now in
    let step = c.args.step in
    let pad = replicate (g.row.N - step) (replicate g.row.D g.PW.PackedValue.default_value) in
    let compression = g.C.PseudoCompressionFunction.compression c.args.compress.now in
    let folded = λ (j : ℕ). compression (take step (drop (step * j) below) ++ pad) in
    let group = λ (j : ℕ). take step (drop (step * (first + j)) below) ++ pad in
    let made = λ (j : ℕ). compression (group j) in
    let few : first + n ≤ length xs = omega arith in
    let same : k ≡ n = omega arith in
    let part : length (take k (drop first xs)) ≡ k = length-take-le k (drop first xs)
    (omega (arith, length-drop first xs)) in
    let groups = λ (ds : List (List g.row.PW-Value.Denot)).
    map (λ (j : ℕ). take step (drop (step * (first + j)) below) ++ ds) (range_with_len 0 k) in
    let default = ap (λ d. groups (replicate (g.row.N - step) (replicate g.row.D d)))
    (g.met.PW.PackedValue.default_is_unique c.default-default_digest.result c.default-default_digest.ensures) in
    let is = c.compress_many-in-loop-first.ensures
    ∙ ap (map compression) (c.deref.ensures.value ∙ c.in_ok-stage_children.ensures.groups ∙ default)
    ∙ map-map compression group (range_with_len 0 k) ∙ ap (λ m. map made (range_with_len 0 m)) (sym part) in (
      omega (arith, few, c.loop-first.invariant.1.long),
      fill_part folded made xs c.compress_many-in-loop-first.new.out first k n (length c.args.slots.now) same few is
          (λ j h. refl) c.loop-first.invariant.1,
      c.loop-first.invariant.2,
    )

pub returns : goal.returns
returns g c = let end : c.loop-first.first ≡ length c.args.slots.now =
    omega (arith, c.loop-first.invariant.0, c.loop-first.invariant.1.long) in
    rw end at c.loop-first.invariant.1
