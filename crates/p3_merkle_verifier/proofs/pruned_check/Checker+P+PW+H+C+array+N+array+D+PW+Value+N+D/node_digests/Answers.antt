-- The leaves have the digests of their rows, and other nodes those of their groups, with their rows.
use Rattle.std.proofs.Common.{◌≡◌, ◌∙◌, ◌<◌, [], ap, arith, drop, length, map, sym, take, zip, ◌++◌}
use Rattle.std.proofs.lemmas.Bool.{true≢false}
use Rattle.std.proofs.lemmas.List.{length-map, take_at}
use Rattle.std.proofs.lemmas.Result.{IfOk-weaker}
use Rattle.p3_merkle_core.specs.Inner.Covered.{covered_at}
use Rattle.p3_merkle_core.specs.Pruning.{words_under}
use Rattle.p3_merkle_verifier.specs.Inner.Checks.{functions_of}
use Rattle.p3_merkle_verifier.specs.Inner.NodeDigests.{pair_digest}
use Rattle.p3_merkle_verifier.specs.Inner.RestoredLevels.{opened_by, tree_of}
use Rattle.p3_merkle_verifier.proofs.GroupFacts.{pairs_injected}
use Rattle.p3_merkle_verifier.proofs.LayerFacts.{covers, digests_long, leaves_restored, restored_at}
use Rattle.p3_merkle_verifier.proofs.pruned_check.Checker+P+PW+H+C+array+N+array+D+PW+Value+N+D.node_digests.Goals as goal

pub returns-then-layer-eq0-clause-restored : goal.returns-then-layer-eq0-clause-restored
returns-then-layer-eq0-clause-restored g c =
    let restorable = c.args.restorable.now in
    let f = functions_of c.args.self.now in
    let s = tree_of restorable in
    let p = opened_by restorable in
    let rows = c.row_digests.ensures c.args.layer c.requires.in_tree (covers c.requires.covered.coverage).at_exponent in
    rw c.if-layer-eq0.true
    (IfOk-weaker c.row_digests.result _ _ (λ digests is. leaves_restored f s restorable.cap_layer p digests.items is)
    (rw c.if-layer-eq0.true at rows))

pub returns-then-layer-eq0-clause-count : goal.returns-then-layer-eq0-clause-count
returns-then-layer-eq0-clause-count g c =
    IfOk-weaker c.row_digests.result _ _ (λ digests restored. digests_long digests.items c.requires.covered restored)
    (returns-then-layer-eq0-clause-restored g c)

pub returns-then-not-here : goal.returns-then-not-here
returns-then-not-here g c =
    let some : 0 < c.args.layer = omega arith in
    let restored = restored_at some c.requires.arity [] c.in_ok-digests.digests.items c.requires.covered
    (λ present. absurd (true≢false (sym present ∙ c.if-not-here.true)))
    (rw c.if-not-here.true (rw c.deref.ensures.value at c.in_ok-digests.ensures.digests)) in
    record { count = digests_long c.in_ok-digests.digests.items c.requires.covered restored; restored = restored }

pub returns : goal.returns
returns g c =
    let restorable = c.args.restorable.now in
    let f = functions_of c.args.self.now in
    let s = tree_of restorable in
    let p = opened_by restorable in
    let layer = c.requires.covered in
    let some : 0 < c.args.layer = omega arith in
    let known = c.in_ok-rows.ensures c.args.layer c.requires.in_tree (covers layer.coverage).at_exponent in
    let made = c.in_ok-digests in
    let slots = c.inject_row_digests.new.slots in
    let filled = c.in_ok-inject_row_digests.ensures in
    let nodes = c.deref_mut.result.now in
    let rows = c.deref-2.result.now in
    let nodes_are = c.deref_mut.ensures.value ∙ (rw c.deref.ensures.value at made.ensures.digests) in
    let same : length rows ≡ length nodes = omega (
      arith,
      ap length (c.deref-2.ensures.value ∙ known),
      length-map (covered_at s p.indices c.args.layer) (λ j. f.hash (words_under s p c.args.layer j)),
      ap length (covers layer.coverage).nodes_are,
      ap length c.deref_mut.ensures.value,
      rw c.deref.ensures.value at made.ensures.count,
      layer.in_groups some,
    ) in
    let size : length slots ≡ made.digests.len = filled.long ∙ c.deref_mut.ensures.len in
    let digests = take made.digests.len (slots ++ drop (length slots) made.digests.items) in
    let are = take_at slots (drop (length slots) made.digests.items) made.digests.len size
    ∙ pairs_injected f.compression g.row.N f.default_digest nodes rows slots same filled
    ∙ (λ i. map (pair_digest f.compression g.row.N f.default_digest)
    (zip (nodes_are i) (c.deref-2.ensures.value i))) in
    let restored = restored_at some c.requires.arity c.in_ok-rows.rows.items digests layer (λ present. known)
    (rw c.if-not-here.false are) in
    record { count = digests_long digests layer restored; restored = restored }
