use Rattle.std.proofs.Common.{slice_index_or}
use Rattle.p3_support.proofs.Made.{map_made}
use Rattle.p3_hashes.specs.Fold.{fold_hash, start as start_of}
use Rattle.p3_hashes.proofs.fold.initial_state.Goals as goal

pub returns : goal.returns
unfolding fold_hash
returns g c = λ k below.
    let of = λ (p : g.row.P.Denot). slice_index_or (g.P.PackedValue.lanes p) k g.P.PackedValue.default_value in
    map_made of start_of 0 c.from_fn.result g.row.D c.from_fn.ensures.items.long
    (λ i d h. let called = c.from_fn.ensures.items.at i d h in called.2.met k below)
