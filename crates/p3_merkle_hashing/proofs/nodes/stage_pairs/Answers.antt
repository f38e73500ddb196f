-- The groups so far are the pairs of the nodes so far, then default digests.
use Rattle.std.proofs.Common.{arith, ◌≡◌, ℕ, ◌-◌, ◌<◌, ◌∷◌, ◌++◌, ◌∙◌, [], ap, sym, length, map, replicate}
use Rattle.std.proofs.Common.{slice_index_or}
use Rattle.std.proofs.lemmas.List.{get_or_read}
use Rattle.std.proofs.lemmas.List.FromFn.{map-range_with_len_more}
use Rattle.std.specs.List.{range_with_len}
use Rattle.p3_merkle_hashing.proofs.StageFacts.{made_long}
use Rattle.p3_merkle_hashing.proofs.nodes.stage_pairs.Goals as goal

pub loop-j-preserved : goal.loop-j-preserved
loop-j-preserved g c =
    let j = c.loop-j.j in
    let folded = c.args.folded.now in
    let rows = c.args.rows.now in
    let pad = replicate (g.row.N - 2) c.args.default_digest in
    let group = λ (i : ℕ). slice_index_or folded i [] ∷ slice_index_or rows i [] ∷ pad in
    let inside : j < length folded = c.loop-j-test.true in
    let there : j < length rows = omega (arith, inside, c.requires.same) in
    let left = get_or_read folded j c.index-folded-j.result inside c.index-folded-j.is [] in
    let right = get_or_read rows j c.index-rows-j.result there c.index-rows-j.is [] in
    let is : c.pair_group.result ≡ group j = c.pair_group.ensures ∙ ap (λ x. x ∷ c.index-rows-j.result ∷ pad) left
    ∙ ap (λ x. slice_index_or folded j [] ∷ x ∷ pad) right in
    c.in_ok-push.ensures.items ∙ ap (λ l. l ++ c.pair_group.result ∷ []) c.loop-j.invariant
    ∙ ap (λ x. map group (range_with_len 0 j) ++ x ∷ []) is
    ∙ sym (map-range_with_len_more group 0 j j (omega arith))

pub returns-clause-count : goal.returns-clause-count
returns-clause-count g c =
    let folded = c.args.folded.now in
    made_long (λ (i : ℕ). slice_index_or folded i [] ∷ slice_index_or c.args.rows.now i []
    ∷ replicate (g.row.N - 2) c.args.default_digest) c.loop-j.j c.loop-j.pairs.items c.loop-j.invariant
    ∙ omega arith
