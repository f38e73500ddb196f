-- What two proofs of consistency, one after the other, come to.
use Rattle.std.specs.Prelude.{◌≡◌, Option, Some, None}
use Rattle.tlog.specs.Collisions.{IsCollision}
use Rattle.tlog.specs.Rfc9162.{Hash}
use Rattle.tlog.specs.declared.error.ProofError.{ProofError}
use Rattle.tlog.specs.declared.error.ComposeError.{ComposeError}
use Rattle.tlog.specs.declared.error.ComposeError.TheVariants.{First, Second, Collision, OutOfMemory}

-- why there is no composed proof, where first and second say why each proof is refused, None if it is accepted: the
-- first proof is refused, or else the second one; or both are accepted, and there is a collision, or memory runs out
abbrev pub IsReason : Hash → Option ProofError → Option ProofError → ComposeError → Type 0
IsReason hash first second (First e) = first ≡ Some e
IsReason hash first second (Second e) = (first ≡ None) × (second ≡ Some e)
IsReason hash first second (Collision c) = (first ≡ None) × (second ≡ None) × IsCollision hash c
IsReason hash first second OutOfMemory = (first ≡ None) × (second ≡ None)
