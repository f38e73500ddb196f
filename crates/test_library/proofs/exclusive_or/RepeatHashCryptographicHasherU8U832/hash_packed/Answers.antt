-- A byte is alone in its lane.
use Rattle.std.proofs.Common.{◌∙◌, ℕ, List, ap, sym, replicate, slice_index_or}
use Rattle.p3_support.proofs.LaneReads.{only_lane}
use Rattle.test_library.proofs.exclusive_or.RepeatHashCryptographicHasherU8U832.hash_packed.Goals as goal

pub returns : goal.returns
returns g c =
    let run = c.first_byte.ensures in
    let digest = λ (bytes : List ℕ). replicate 32 (slice_index_or bytes 0 0) in (
      run.0,
      run.1,
      run.2,
      λ k below same. only_lane 0 k (replicate 32 c.first_byte.result) below
          ∙ ap (replicate 32) run.3 ∙ ap digest (sym (only_lane 0 k run.0.items below)),
    )
