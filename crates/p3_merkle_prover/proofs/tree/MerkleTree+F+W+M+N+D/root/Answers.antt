-- The last layer has one node.
use Rattle.std.proofs.Common.{arith, ◌≡◌, ◌-◌, ◌∙◌, ap, length, sym, ◌∷◌, []}
use Rattle.std.specs.Prelude.{Some}
use Rattle.p3_merkle_core.specs.Geometry.{levels}
use Rattle.p3_merkle_core.specs.Nodes.{shape}
use Rattle.p3_merkle_prover.specs.Parts.{tree_batch}
use Rattle.p3_merkle_prover.proofs.TreeFacts.{layers_count, layer_long, layer_read, top_len}
use Rattle.p3_merkle_hashing.proofs.LaneFacts.{one_element}
use Rattle.p3_merkle_prover.proofs.tree.MerkleTree+F+W+M+N+D.root.Goals as goal

pub index-requires : goal.index-requires
index-requires g c =
    let tree = c.args.self.now in
    let s = shape (tree_batch tree) in
    let place : c.num_layers.result - 1 ≡ levels s = omega (arith, c.num_layers.ensures.levels) in
    let one = layer_long (λ nodes. length nodes.items) tree.layers.items s tree.layer_lengths (levels s)
    c.index-top.result.now (omega arith) (rw place at c.index-top.ensures) ∙ top_len s tree.arity tree.lawful in
    omega (arith, one, c.index-top.result.now.ok.0)

pub returns : goal.returns
returns g c =
    let tree = c.args.self.now in
    let s = shape (tree_batch tree) in
    let many = layers_count (λ nodes. length nodes.items) tree.layers.items s tree.layer_lengths in
    let place : c.num_layers.result - 1 ≡ levels s = omega (arith, c.num_layers.ensures.levels) in
    let top = rw place at c.index-top.ensures in
    let one = layer_long (λ nodes. length nodes.items) tree.layers.items s tree.layer_lengths (levels s)
    c.index-top.result.now (omega arith) top ∙ top_len s tree.arity tree.lawful in
    layer_read (λ nodes. nodes.items) tree.layers.items (levels s) c.index-top.result.now (omega (arith, many)) top
    ∙ ap (λ xs. Some xs) (one_element c.index-top.result.now.items c.index.result.now one c.index.ensures
    ∙ ap (λ x. x ∷ []) (sym c.from.ensures))
