-- The greatest height is that of the pairs.
use Rattle.std.proofs.Common.{◌∙◌, sym}
use Rattle.p3_merkle_prover.specs.Parts.{matrices_of}
use Rattle.p3_merkle_tree.specs.Inner.SaltedCommitmentLaws.{left_greatest}
use Rattle.p3_merkle_tree.proofs.hiding_trait.MerkleTreeHidingMmcsMmcsValue.get_max_height.Goals as goal

pub returns : goal.returns
returns g c = c.get_max_height.ensures ∙ sym (left_greatest (matrices_of c.args.prover_data.now))
