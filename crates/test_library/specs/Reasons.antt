-- What a caller makes of refusals: some of them it handles by name.
use Rattle.p3_merkle_tree.specs.MerkleTreeError.{MerkleTreeError}
use Rattle.p3_merkle_tree.specs.MerkleTreeError.TheVariants.{CapMismatch, IndexOutOfBounds}
use Rattle.test_library.specs.declared.reasons.Rejection.{Rejection}
use Rattle.test_library.specs.declared.reasons.Rejection.TheVariants.{OtherCommitment, NoSuchIndex}
use Rattle.test_library.specs.declared.reasons.Rejection.TheVariants as rejection

-- what a verifier makes of the refusal of an opening
abbrev pub rejection_of : MerkleTreeError → Rejection
rejection_of CapMismatch = OtherCommitment
rejection_of (IndexOutOfBounds max_height index) = NoSuchIndex
rejection_of e = rejection.Other e
