-- Each slice is handed on whole.
use Rattle.std.proofs.Common.{◌≡◌, append-nil}
use Rattle.std.specs.List.{flat_map}
use Rattle.std.proofs.lemmas.Grind.{flat_map-append}
use Rattle.p3_hashes.specs.Sha.{sha256_rows}
use Rattle.p3_support.proofs.Runs.{run_of_loop}
use Rattle.p3_hashes.proofs.sha.Sha256RowsCryptographicHasherU8U832.hash_iter_slices.Goals as goal

pub loop-bytes-init : goal.loop-bytes-init
loop-bytes-init g c = c.new-hasher.ensures

pub loop-bytes-preserved : goal.loop-bytes-preserved
loop-bytes-preserved g c = rw (flat_map-append, append-nil) (c.update.ensures _ c.loop-bytes.invariant)

pub returns : goal.returns
returns g c =
    run_of_loop g.I.Iterator.next_gives (λ xs. c.finalize.result ≡ sha256_rows (flat_map g.S.AsSlice.items xs))
    c.loop-bytes.yielded _ c.into_iter-bytes-iterator.ensures.into_iter_gives c.loop-bytes.yielded_by c.in-None.is
    c.next.ensures.steps
    (c.finalize.ensures _ c.loop-bytes.invariant)
