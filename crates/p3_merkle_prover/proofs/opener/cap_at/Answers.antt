-- Each layer of the tree is there.
use Rattle.std.proofs.Common.{arith, ap, length, sym, ◌∙◌}
use Rattle.std.specs.Prelude.{Some}
use Rattle.p3_merkle_core.specs.Nodes.{shape}
use Rattle.p3_merkle_prover.specs.Parts.{tree_batch}
use Rattle.p3_merkle_prover.proofs.TreeFacts.{layers_count, layer_read}
use Rattle.p3_merkle_prover.proofs.opener.cap_at.Goals as goal

pub index-requires : goal.index-requires
index-requires g c =
    let tree = c.args.tree.now in
    let many = layers_count (λ nodes. length nodes.items) tree.layers.items (shape (tree_batch tree))
    tree.layer_lengths in
    omega (arith, many, c.requires)

pub returns : goal.returns
returns g c =
    let tree = c.args.tree.now in
    let many = layers_count (λ nodes. length nodes.items) tree.layers.items (shape (tree_batch tree))
    tree.layer_lengths in
    layer_read (λ nodes. nodes.items) tree.layers.items c.args.layer c.index.result.now
    (omega (arith, many, c.requires))
    c.index.ensures
    ∙ ap (λ xs. Some xs) (sym (c.new.ensures ∙ c.in_ok-from_slice.ensures.items ∙ c.deref.ensures.value))
