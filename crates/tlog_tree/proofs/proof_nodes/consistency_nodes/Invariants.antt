use Rattle.std.proofs.Common.{◌≡◌, ℕ, ◌+◌, ◌^◌, ◌≤◌, ◌<◌, List, length}
use Rattle.std.specs.Prelude.{true}
use Rattle.tlog.specs.Rfc9162.{Hash, subproof}
use Rattle.tlog_tree.specs.Inner.Layers.{layer_of}
use Rattle.tlog_tree.proofs.proof_nodes.consistency_nodes.Given as goal

abbrev pub invariant-loop-old : goal.invariant-loop-old
invariant-loop-old l = record {
  some : 0 < l.old;
  below : l.old ≤ l.last;
  fits : l.layer + l.last < 2 ^ 64;
  proof : (hash : Hash) (leaves : List (List ℕ)) → length leaves ≡ l.new_size →
      (length (layer_of hash l.layer leaves) ≡ l.last + 1)
      × (subproof hash (λ leaf. leaf) l.old (layer_of hash l.layer leaves) true
      ≡ subproof hash (λ leaf. leaf) l.old_size leaves true);
}

abbrev pub decreases-loop-old : goal.decreases-loop-old
decreases-loop-old l = l.old
