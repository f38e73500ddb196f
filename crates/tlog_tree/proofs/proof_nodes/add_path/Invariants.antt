use Rattle.std.proofs.Common.{◌≡◌, ℕ, ◌+◌, ◌^◌, ◌≤◌, ◌<◌, ◌++◌, List, length}
use Rattle.tlog.specs.Rfc9162.{Hash, path}
use Rattle.tlog_tree.specs.Inner.Layers.{layer_of}
use Rattle.tlog_tree.specs.Trees.{all_there, values_at}
use Rattle.tlog_tree.proofs.proof_nodes.add_path.Given as goal

abbrev pub invariant-loop-last : goal.invariant-loop-last
invariant-loop-last l = record {
  within : l.slot ≤ l.last;
  fits : l.layer + l.last < 2 ^ 64;
  path : (hash : Hash) (leaves : List (List ℕ)) → length (layer_of hash l.initial.layer leaves) ≡ l.initial.last + 1 →
      (length (layer_of hash l.layer leaves) ≡ l.last + 1)
      × (values_at hash leaves l.nodes.items
      ++ all_there (path hash (λ leaf. leaf) l.slot (layer_of hash l.layer leaves))
      ≡ values_at hash leaves l.initial.nodes.items
      ++ all_there (path hash (λ leaf. leaf) l.initial.slot (layer_of hash l.initial.layer leaves)));
}

abbrev pub decreases-loop-last : goal.decreases-loop-last
decreases-loop-last l = l.last
