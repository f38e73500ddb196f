-- What the calls promise of this scheme gives what the trait promises of all.
use Rattle.std.proofs.Common.{◌≡◌}
use Rattle.p3_merkle_core.specs.declared.error.MerkleTreeError.TheVariants.{OutOfMemory}
use Rattle.p3_merkle_tree.proofs.CommitmentFacts.{answers_by_definition, memory_alone, no_error_when_ok}
use Rattle.p3_merkle_tree.specs.HidingSchemes.{presented_one}
use Rattle.p3_support.specs.Shown.{roots_of}
use Rattle.p3_merkle_tree.proofs.hiding_trait.MerkleTreeHidingMmcsMmcsValue.TheImpl.Goals as goal

pub open_batch-tells : goal.open_batch-tells
open_batch-tells g _ _ _ _ _ c = record {
  rows = c.ensures.rows;
  accepted = λ commitment. c.ensures.accepted (roots_of commitment);
  memory = c.ensures.memory;
}

pub verify_batch-tells : goal.verify_batch-tells
verify_batch-tells g _ _ _ _ _ c = record {
  accepted = c.ensures.accepted.0;
  answer = answers_by_definition c.result (presented_one c.args.self.now c.args.dimensions.now
      c.args.commitment.now c.args.index c.args.opening).refusal c.ensures.answer;
  memory = λ accepted. no_error_when_ok c.result (λ e. e ≡ OutOfMemory) (c.ensures.accepted.1 accepted);
}

pub open_multi_batch-tells : goal.open_multi_batch-tells
open_multi_batch-tells g _ _ _ _ _ c = record {
  rows = c.ensures.rows;
  accepted = λ commitment. c.ensures.accepted (roots_of commitment);
  memory = c.ensures.memory;
}

pub verify_multi_batch-tells : goal.verify_multi_batch-tells
verify_multi_batch-tells g _ _ _ _ _ c = record {
  accepted = c.ensures.ok_is_accepted;
  answer = c.ensures.answer;
  memory = λ accepted. memory_alone c.result (c.ensures.accepted_is_ok accepted);
}
