use Rattle.std.proofs.Common.{◌≡◌, ℕ, ◌<◌, map, take}
use Rattle.std.specs.List.{fold}
use Rattle.p3_hashes.specs.Fold.{take_in}
use Rattle.p3_support.specs.Lists.{lane_of}
use Rattle.p3_hashes.proofs.fold.absorb_words.Given as goal

abbrev pub invariant-loop-word : goal.invariant-loop-word
invariant-loop-word g l = (k : ℕ) → k < g.P.PackedValue.WIDTH →
    let of = lane_of g.P.PackedValue.lanes g.P.PackedValue.default_value k in
    of l.state ≡ map (λ s. fold take_in s (take l.word-index (of l.words))) (of l.initial.state)
