-- The inputs so far are those of the first pairs of siblings.
use Rattle.std.proofs.Common.{arith, length, sym, ap, ◌∙◌, List, ℕ, ◌≡◌, ◌*◌, ◌/◌}
use Rattle.std.specs.List.{flat_map}
use Rattle.std.proofs.lemmas.List.{take_at}
use Rattle.sha2.specs.Sha256.{sha256}
use Rattle.tlog_tree.proofs.Inputs.{IsSoFar, flat_inputs, hashes_are_parents, inputs_end, inputs_more, length-flat}
use Rattle.tlog_tree.proofs.frontier.parents.Goals as goal

pub loop-i-preserved : goal.loop-i-preserved
loop-i-preserved c =
    rw (c.in_ok-push.ensures.items, c.node_input.ensures)
    (inputs_more c.args.layer.now c.loop-i.i c.loop-i.inputs.items (omega arith) c.loop-i.invariant)

-- all inputs, once the loop is over
all : (L inputs lent : List (List ℕ)) (i : ℕ) (flat : List ℕ) → i ≡ length L / 2 →
    IsSoFar L i inputs → lent ≡ inputs → flat ≡ flat_map (λ x. x) lent → flat ≡ flat_inputs L
all L inputs lent i flat end so_far lent_is is =
    is ∙ ap (λ (ys : List (List ℕ)). flat_map (λ x. x) ys) (lent_is ∙ inputs_end L i inputs end so_far)

pub returns : goal.returns
returns c =
    let L = c.args.layer.now in
    let half : length c.deref_mut.result.now ≡ length L / 2 =
    ap length c.deref_mut.ensures.value ∙ omega (arith, c.in_ok-parents.ensures.len, c.in_ok-parents.parents.ok) in
    let end = all L c.loop-i.inputs.items c.deref.result.now c.loop-i.i c.as_flattened.result.now
    (omega (arith, c.loop-i.auto.i-end, c.loop-i-test.false)) c.loop-i.invariant c.deref.ensures.value
    c.as_flattened.ensures.value in
    let filled : length c.as_flattened.result.now ≡ 65 * length c.deref_mut.result.now =
    ap length end ∙ length-flat 32 L c.told-layer ∙ ap (λ (n : ℕ). 65 * n) (sym half) in
    let kept : length c.hash_many.new.out ≡ c.in_ok-parents.parents.len =
    omega (arith, c.hash_many.auto.out, ap length c.deref_mut.ensures.value, c.in_ok-parents.parents.ok) in
    take_at c.hash_many.new.out _ _ kept
    ∙ hashes_are_parents 32 (length c.deref_mut.result.now) sha256 L c.hash_many.new.out c.as_flattened.result.now end
    half c.told-layer (c.hash_many.ensures 65 filled)
