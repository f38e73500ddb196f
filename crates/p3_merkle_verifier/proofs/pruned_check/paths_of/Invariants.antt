use Rattle.std.proofs.Common.{◌≡◌, ◌<◌, ◌≤◌, ℕ, get_or, length, map, take}
use Rattle.p3_merkle_core.specs.Inner.Agreement.{distinct}
use Rattle.p3_merkle_core.specs.Inner.Children.{levels_in, siblings_on_path, paths_out_of}
use Rattle.p3_merkle_core.specs.Views.{shown_paths}
use Rattle.p3_merkle_verifier.proofs.pruned_check.paths_of.Given as goal

-- the paths of the leaves so far, and the capacity for all
abbrev pub invariant-loop-leaf : goal.invariant-loop-leaf
invariant-loop-leaf g l = record {
  places : l.places.len ≡ length l.layers;
  paths : map (λ path. path.items) l.of_leaves.items
      ≡ map (siblings_on_path (levels_in l.layers)) (take l.leaf-index l.leaf-items);
  count : l.of_leaves.len ≡ l.leaf-index;
  capacity : l.of_leaves.cap ≡ length l.leaf-items;
}

-- the paths so far, and the capacity for all; the leaves whose first query is still to come have theirs
abbrev pub invariant-loop-query : goal.invariant-loop-query
invariant-loop-query g l = record {
  shown : shown_paths l.paths.items ≡ paths_out_of (levels_in l.layers) (take l.query l.indices);
  count : l.paths.len ≡ l.query;
  capacity : l.paths.cap ≡ length l.indices;
  leaves : length l.of_leaves.items ≡ length (distinct l.indices);
  left : (s : ℕ) (x : _) → s < length l.of_leaves.items → l.query ≤ get_or l.leaves.first_queries.items s 0 →
      x ≡ get_or l.of_leaves.items s x →
      x.items ≡ siblings_on_path (levels_in l.layers) (get_or (distinct l.indices) s 0);
}
