-- What is refused whatever memory there is.
use Rattle.std.proofs.Common.{◌≡◌, Option, None, Some, Result, Ok, Err, IsErrAnd, refl, sym, ◌∙◌}
use Rattle.std.specs.Prelude.{IfSome}
use Rattle.p3_merkle_core.specs.Refusals.{Refuses}
use Rattle.p3_merkle_core.specs.declared.error.MerkleTreeError.{MerkleTreeError}

-- an error that is the refusal
pub refuses_so : (refusal : Option MerkleTreeError) (e : MerkleTreeError) → refusal ≡ Some e →
    IfSome refusal (λ x. Some e ≡ Some x)
refuses_so refusal e is = rw is refl

-- where nothing is refused, so it is of any result
pub unrefused_so : {V : Type 0} (r : Result V MerkleTreeError) (refusal : Option MerkleTreeError) → refusal ≡ None →
    Refuses r refusal
unrefused_so r refusal none = rw none tt

-- and of any after a step that is Ok
pub passed : {V : Type 0} (r : Result V MerkleTreeError) (refusal : Option MerkleTreeError) →
    IfSome refusal (λ x. None ≡ Some x) → Refuses r refusal
passed r None h = tt
passed r (Some e) h = absurd cc

-- the error that a `?` hands on refuses what it refused before
pub handed : {V : Type 0} (r : Result V MerkleTreeError) (e : MerkleTreeError) (refusal : Option MerkleTreeError) →
    IsErrAnd r (λ x. x ≡ e) → IfSome refusal (λ x. Some e ≡ Some x) → Refuses r refusal
handed (Ok v) e refusal err h = absurd err
handed (Err x) e refusal is h = rw is h

-- something is not refused and unrefused
pub refused_not : {A : Type 0} (refusal : Option MerkleTreeError) (e : MerkleTreeError) → refusal ≡ Some e →
    refusal ≡ None → A
refused_not refusal e is none = let no = sym is ∙ none in absurd cc
