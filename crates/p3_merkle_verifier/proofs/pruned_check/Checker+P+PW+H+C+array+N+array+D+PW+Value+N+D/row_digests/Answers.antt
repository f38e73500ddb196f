-- The rows that are hashed are those of the queries.
use Rattle.std.proofs.Common.{◌≡◌, ◌∙◌, ℕ, ◌+◌, ◌<◌, [], ap, arith, drop, get_or, length, map}
use Rattle.std.proofs.lemmas.List.{take_at}
use Rattle.std.proofs.lemmas.List.FromFn.{length-map-range_with_len}
use Rattle.std.specs.List.{range_with_len}
use Rattle.p3_support.specs.Batches.{heights_of}
use Rattle.p3_support.specs.RowSets.{sets_in}
use Rattle.p3_merkle_core.specs.Geometry.{heights}
use Rattle.p3_merkle_hashing.specs.Inner.Slots.{rows_over}
use Rattle.p3_merkle_verifier.specs.Inner.Checks.{functions_of}
use Rattle.p3_merkle_verifier.specs.Inner.NodeDigests.{query_digest}
use Rattle.p3_merkle_verifier.specs.Inner.OpenedMatrices.{row_in}
use Rattle.p3_merkle_verifier.specs.Inner.RestoredLevels.{opened_by, tree_of}
use Rattle.p3_merkle_verifier.proofs.LayerFacts.{agreed_with, rows_of_queries}
use Rattle.p3_merkle_verifier.proofs.OpenedFacts.{by_places}
use Rattle.p3_merkle_verifier.proofs.pruned_check.Checker+P+PW+H+C+array+N+array+D+PW+Value+N+D.row_digests.Goals as goal

pub returns : goal.returns
returns g c = λ l le at.
    let restorable = c.args.restorable.now in
    let opening = restorable.opening in
    let f = functions_of c.args.self.now in
    let s = tree_of restorable in
    let p = opened_by restorable in
    let queries = c.in_ok-queries.queries.items in
    let row = λ (j : ℕ). f.hash (rows_over row_in c.deref-2.result.now (0 + j)) in
    let digest = query_digest f.hash c.args.exponent (heights_of restorable.schedule.now.dimensions.now)
    (sets_in opening.sets) in
    let opened = rw (← c.deref-2.ensures.value, c.deref.ensures.value) at c.in_ok-matrices.ensures.rows in
    let n = length queries in
    let made = c.in_ok-digests in
    let slots = c.fill_batched.new.slots in
    let long : length c.deref_mut.result.now ≡ n = omega (arith, c.deref_mut.ensures.len, made.ensures.len) in
    let size : length slots ≡ made.digests.len = ap length c.in_ok-fill_batched.ensures
    ∙ length-map-range_with_len row 0 (length c.deref_mut.result.now) ∙ c.deref_mut.ensures.len in
    let each : (j : ℕ) → j < n → row j ≡ digest (get_or queries j 0) =
    λ j h. let at : 0 + j ≡ j = omega arith in rw at (ap f.hash (opened j h)) in
    take_at slots (drop (length slots) made.digests.items) made.digests.len size
    ∙ c.in_ok-fill_batched.ensures ∙ ap (λ k. map row (range_with_len 0 k)) long ∙ by_places row digest queries each
    ∙ ap (λ x. map (query_digest f.hash x (heights s) p.rows) queries) at
    ∙ rows_of_queries f s restorable.cap_layer p
    (agreed_with s restorable.cap_layer p.indices p.rows [] p.digests restorable.agreed) l le queries
    (c.in_ok-queries.ensures.queries l le at)
