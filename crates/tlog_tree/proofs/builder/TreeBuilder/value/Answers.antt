-- A node's value is that of its leaves: all of them, those that have come, or none.
use Rattle.std.proofs.Common.{arith, length, ap, ◌∙◌, List, ℕ, ◌≡◌, ◌/◌, ◌^◌}
use Rattle.sha2.specs.Sha256.{sha256}
use Rattle.tlog_tree.specs.Frontiers.{IsFrontierOf}
use Rattle.tlog_tree.specs.declared.frontier.Frontier.{Frontier}
use Rattle.tlog_tree.proofs.Kept.{value_of_none, value_of_rest, value_of_whole}
use Rattle.tlog_tree.proofs.builder.TreeBuilder.value.Goals as goal

-- how many nodes of the layer have all their leaves, by the number of leaves
whole_count_of_leaves : (frontier : Frontier) (leaves : List (List ℕ)) (size whole layer : ℕ) →
    IsFrontierOf leaves frontier → size ≡ frontier.size → whole ≡ size / 2 ^ layer → whole ≡ length leaves / 2 ^ layer
whole_count_of_leaves frontier leaves size whole layer is of whole_is =
    whole_is ∙ ap (λ (n : ℕ). n / 2 ^ layer) (of ∙ is.size)

pub returns-then-node-whole : goal.returns-then-node-whole
returns-then-node-whole c = λ leaves is has.
    let node = c.args.node.now in
    let whole_is = whole_count_of_leaves c.args.self.now.frontier leaves c.size.result c.whole_count-whole.result
    node.id.layer is c.size.ensures c.whole_count-whole.ensures in
    value_of_whole sha256 leaves node has (omega (arith, whole_is, c.if-node-whole.true))

pub returns-then-node-whole-2 : goal.returns-then-node-whole-2
returns-then-node-whole-2 c = λ leaves is has.
    let node = c.args.node.now in
    let whole_is = whole_count_of_leaves c.args.self.now.frontier leaves c.size.result c.whole_count-whole.result
    node.id.layer is c.size.ensures c.whole_count-whole.ensures in
    c.root_behind.ensures leaves node.id.layer is whole_is
    ∙ value_of_rest sha256 leaves node.id c.whole_count-whole.result whole_is c.if-node-whole-2.true

pub returns : goal.returns
returns c = λ leaves is has.
    let node = c.args.node.now in
    let whole_is = whole_count_of_leaves c.args.self.now.frontier leaves c.size.result c.whole_count-whole.result
    node.id.layer is c.size.ensures c.whole_count-whole.ensures in
    value_of_none sha256 leaves node.id c.whole_count-whole.result whole_is
    (omega (arith, c.if-node-whole.false, c.if-node-whole-2.false))
