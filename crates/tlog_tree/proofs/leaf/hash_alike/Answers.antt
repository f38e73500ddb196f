-- The inputs of the entries so far stand one after another, all of one length.
use Rattle.std.proofs.Common.{◌≡◌, suc, ◌∙◌, List, ℕ, [], Bor, ap, arith, get_or, length, map}
use Rattle.std.specs.List.{flat_map}
use Rattle.std.proofs.lemmas.List.{take_all, take_at}
use Rattle.tlog_tree.proofs.Leaves.{hashed_batch, leaf_input, length-batch}
use Rattle.tlog_tree.proofs.leaf.hash_alike.Goals as goal

pub returns-clause-hashes : goal.returns-clause-hashes
returns-clause-hashes c = λ k d h.
    let E = map (λ (entry : Bor (List ℕ)). entry.now) c.args.entries.now in
    let batch = c.args.places.now in
    let (len, alike) = c.requires in
    let n = length c.deref_mut.result.now in
    let many : n ≡ length batch =
    ap length c.deref_mut.ensures.value ∙ omega (arith, c.in_ok-values.ensures.len, c.in_ok-values.values.ok) in
    let all = c.deref.ensures.value ∙ c.loop-index.invariant
    ∙ ap (λ (places : List (ℕ × ℕ)). flat_map (λ x. x) (map (leaf_input E) places))
    (take_all c.loop-index.index-index batch (omega (arith, c.loop-index-test.false))) in
    let out = c.hash_many.new.out in
    let kept : length out ≡ c.in_ok-values.values.len =
    omega (arith, c.hash_many.auto.out, ap length c.deref_mut.ensures.value, c.in_ok-values.values.ok) in
    ap (λ (vs : List (List ℕ)). get_or vs k []) (take_at out _ _ kept)
    ∙ hashed_batch E len n batch c.deref.result.now out alike all many
    (c.hash_many.ensures (suc len) (length-batch E len n batch c.deref.result.now alike all many)) k d h
