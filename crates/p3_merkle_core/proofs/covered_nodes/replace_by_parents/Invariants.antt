use Rattle.std.proofs.Common.{◌≡◌, ◌/◌, ◌<◌, ◌++◌, get_or, take, drop, eqb, map}
use Rattle.std.specs.List.{dedup, dedup_from}
use Rattle.p3_merkle_core.proofs.covered_nodes.replace_by_parents.Given as goal

-- the parents kept before the last one, and what is left of it and of those to come: what is left of all
abbrev pub invariant-loop-place : goal.invariant-loop-place
invariant-loop-place l = record {
  behind : l.kept < l.place;
  last : get_or l.nodes l.kept 0 ≡ l.last;
  left : take l.kept l.nodes ++ dedup_from eqb l.last (map (λ j. j / l.step) (drop l.place l.nodes))
      ≡ dedup eqb (map (λ j. j / l.step) l.fn.covered.items);
}
