-- Each turn adds the siblings of one level.
use Rattle.std.proofs.Common.{◌≡◌, ◌-◌, ◌<◌, true, get_or, length}
use Rattle.p3_support.specs.Lists.{is_among}
use Rattle.p3_merkle_core.specs.Inner.Children.{levels_in}
use Rattle.p3_merkle_core.specs.declared.pruning.CoveredLayer.{CoveredLayer}
use Rattle.p3_merkle_core.proofs.Covered.KeptFacts.{IsOnPath}
use Rattle.p3_merkle_core.proofs.pruning.siblings_on_path.Given as goal

-- the siblings of the levels so far, and the covered node at which the path stands
abbrev pub invariant-loop-level : goal.invariant-loop-level
invariant-loop-level g l = record {
  some : 0 < l.level;
  places : length l.places ≡ length l.layers;
  walked : IsOnPath (levels_in l.layers) l.index (l.level - 1) l.path.items l.node;
  covered : (x : CoveredLayer _) → is_among (get_or l.layers (l.level - 1) x).covered.nodes.items l.node ≡ true;
}
