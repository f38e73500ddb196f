-- Words and digests have the same lanes.
use Rattle.p3_hashes.proofs.fold.FoldHashCryptographicHasher.hash_packed.Goals as goal

pub returns : goal.returns
returns g c =
    let run = c.hash_lanes.ensures in
    (run.0, run.1, run.2, λ k below same. run.3 k below)
