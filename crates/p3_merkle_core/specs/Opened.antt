-- What is opened of a tree: it is read out of the tree's layers, and of an own tree it is honest, and accepted.
use Rattle.std.specs.Prelude.{◌≡◌, List, length, map}
use Rattle.p3_merkle_core.specs.Checks.{IsAccepted, Params}
use Rattle.p3_merkle_core.specs.Commitments.{IsCommitment, IsOwn}
use Rattle.p3_merkle_core.specs.Nodes.{Batch, shape}
use Rattle.p3_merkle_core.specs.Openings.{Opening, honest, opening_in_layers}
use Rattle.p3_merkle_core.specs.Pruning.{IsLeast, IsPrunedAccepted}
use Rattle.p3_merkle_core.specs.Pruning.{PrunedOpening, honest_query, pruned_in_layers, restored_paths}

-- an opening of a tree over a batch, with these layers: it has the nodes of the layers; if the layers are the batch's
-- own, it is the honest opening of its index, and it is accepted under the batch's cap
pub record IsOpened {T W : Type 0} (c : Params T W) (b : Batch T) (stored : List (List (List W)))
    (o : Opening T W) : Type 0 where
  pub in_layers : o ≡ opening_in_layers b stored c.layer o.index
  pub is_honest : IsOwn c b stored → o ≡ honest c.functions b c.layer o.index
  pub is_accepted : (cap : List (List W)) → IsCommitment c cap b stored → IsAccepted c cap o

-- the same of a pruned opening: its digests are as few as can be, and of an own tree it restores to the siblings of
-- the honest openings
pub record IsPrunedOpened {T W : Type 0} (c : Params T W) (b : Batch T) (stored : List (List (List W)))
    (p : PrunedOpening T W) : Type 0 where
  pub in_layers : p ≡ pruned_in_layers b stored c.layer p.indices
  pub is_least : IsLeast (shape b) p.indices c.layer (length p.digests)
  pub is_honest : IsOwn c b stored → p ≡ honest_query c.functions b c.layer p.indices
  pub is_accepted : (cap : List (List W)) → IsCommitment c cap b stored → IsPrunedAccepted c cap p
  pub is_restored : IsOwn c b stored →
      restored_paths c p ≡ map (λ i. (i, (honest c.functions b c.layer i).siblings)) p.indices
