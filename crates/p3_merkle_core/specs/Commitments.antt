-- What is committed to, and what is proved under a commitment.
use Rattle.std.specs.Prelude.{◌≡◌, ℕ, List}
use Rattle.p3_merkle_core.specs.Checks.{IsAccepted, Params}
use Rattle.p3_merkle_core.specs.Nodes.{Batch, layer, layers}
use Rattle.p3_merkle_core.specs.Openings.{opening_of}

-- the layers that a tree has are those of a batch under these functions: it is built by them
abbrev pub IsOwn : {T W : Type 0} → Params T W → Batch T → List (List (List W)) → Type 0
IsOwn c b stored = stored ≡ layers c.functions b

-- the cap of a batch
abbrev pub cap_over : {T W : Type 0} → Params T W → Batch T → List (List W)
cap_over c b = layer c.functions b c.layer

-- a tree is built over a batch, and this is its cap
pub record IsCommitment {T W : Type 0} (c : Params T W) (cap : List (List W)) (b : Batch T)
    (stored : List (List (List W))) : Type 0 where
  pub own_layers : IsOwn c b stored
  pub own_cap : cap ≡ cap_over c b

-- some siblings prove the rows at an index under a cap
pub record HaveProof {T W : Type 0} (c : Params T W) (cap : List (List W)) (index : ℕ)
    (rows : List (List T)) : Type 0 where
  pub siblings : List (List W)
  pub is_accepted : IsAccepted c cap (opening_of index rows siblings)
