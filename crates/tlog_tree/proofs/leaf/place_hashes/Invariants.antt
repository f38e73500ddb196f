use Rattle.std.proofs.Common.{ℕ, List, ◌<◌, get_or}
use Rattle.tlog_tree.specs.Inner.Leaves.{AreHashes, IsHashed}
use Rattle.tlog_tree.proofs.leaf.place_hashes.Given as goal

abbrev pub invariant-loop-k : goal.invariant-loop-k
invariant-loop-k l = record {
  hashed : (entries : List (List ℕ)) → AreHashes entries l.places l.values → (k : ℕ) (d : ℕ × ℕ) → k < l.k →
      IsHashed entries l.hashes (get_or l.places k d).1;
  kept : (entries : List (List ℕ)) → AreHashes entries l.places l.values → (index : ℕ) →
      IsHashed entries l.fn.hashes index → IsHashed entries l.hashes index;
}
