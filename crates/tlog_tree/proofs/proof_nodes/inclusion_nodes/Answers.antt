-- The path of a leaf is that of a node of layer 0.
use Rattle.std.proofs.Common.{arith, length, ap, ◌∙◌, ◌≡◌, ◌+◌, ◌-◌, ◌++◌, List, ℕ}
use Rattle.tlog.specs.Rfc9162.{path}
use Rattle.tlog_tree.specs.Trees.{all_there, values_at}
use Rattle.tlog_tree.specs.Inner.Layers.{layer_of}
use Rattle.tlog_tree.specs.declared.node_id.NodeId.{NodeId}
use Rattle.tlog_tree.proofs.Paths.{layer_none}
use Rattle.tlog_tree.proofs.proof_nodes.inclusion_nodes.Goals as goal

pub returns : goal.returns
returns c = λ hash leaves long.
    let none = layer_none hash leaves in
    let len : length (layer_of hash 0 leaves) ≡ c.args.size - 1 + 1 = ap length none ∙ omega arith in
    c.in_ok-add_path.ensures hash leaves len
    ∙ ap (λ (ps : List NodeId). values_at hash leaves ps
    ++ all_there (path hash (λ (leaf : List ℕ). leaf) c.args.index (layer_of hash 0 leaves))) c.new-nodes.ensures.items
    ∙ ap (λ (nodes : List (List ℕ)). all_there (path hash (λ (leaf : List ℕ). leaf) c.args.index nodes)) none
