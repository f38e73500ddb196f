-- Each lane is a node.
use Rattle.std.proofs.Common.{rules, arith, ◌≡◌, ◌+◌, ◌<◌, true, false}
use Rattle.std.proofs.lemmas.Bool.{lt-ltb}
use Rattle.p3_support.specs.Lists.{lane_of}
use Rattle.p3_merkle_prover.specs.Inner.Slots.{functions_in, leaf_in}
use Rattle.p3_merkle_prover.proofs.NodeFacts.{node_alone, node_with}
use Rattle.p3_merkle_prover.proofs.layer.LayerBuilder+P+PW+H+C+M+N+D.packed_digest.Goals as goal

pub returns-then-not-self : goal.returns-then-not-self
returns-then-not-self g c = λ k small.
    let builder = c.args.self.now in
    let f = functions_in builder in
    let none : builder.level.has_rows ≡ false = search rules in
    node_alone f g.row.N (leaf_in builder) builder.level builder.below.now builder.children
    (c.args.first + k) (omega (arith, c.requires.nodes, small))
    (lane_of g.PW.PackedValue.lanes g.PW.PackedValue.default_value k c.compress_children_packed-folded.result) none
    (c.compress_children_packed-folded.ensures k small)

pub returns : goal.returns
returns g c = λ k small.
    let builder = c.args.self.now in
    let lane = lane_of g.PW.PackedValue.lanes g.PW.PackedValue.default_value k in
    let f = functions_in builder in
    let leaf = leaf_in builder in
    let has : builder.level.has_rows ≡ true = search rules in
    let tall : c.args.first + k < builder.rows.height = omega (arith, c.requires.rows has, small) in
    let row : lane c.packed_digest-rows.result ≡ leaf (c.args.first + k) =
    rw (lt-ltb (c.args.first + k) builder.rows.height tall)
    (c.packed_digest-rows.ensures k (rw builder.lanes small) small) in
    node_with f g.row.N leaf builder.level builder.below.now builder.children
    (c.args.first + k) (omega (arith, c.requires.nodes, small))
    (lane c.compress_children_packed-folded.result) (lane c.packed_digest-rows.result)
    (lane c.compress_pairs_packed.result) has
    (c.compress_children_packed-folded.ensures k small) row (c.compress_pairs_packed.ensures k small)
