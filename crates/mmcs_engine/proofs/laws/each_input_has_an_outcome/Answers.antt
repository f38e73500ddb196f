-- There is an outcome by definition.
use Rattle.std.proofs.Common.{◌≡◌, ⊎_elim, ℕ, ◌+◌, List, Option, Some, None, Result, Ok, Err, refl}
use Rattle.p3_merkle_core.specs.declared.error.MerkleTreeError.{MerkleTreeError}
use Rattle.p3_merkle_core.specs.Nodes.{shape}
use Rattle.mmcs_engine.specs.declared.command.Command.{Command}
use Rattle.mmcs_engine.specs.declared.fault.Fault.{Fault}
use Rattle.mmcs_engine.specs.declared.fault.Fault.TheVariants.{Usage, Read, Number, Count, Tree, Write}
use Rattle.mmcs_engine.specs.Input.{pieces_of, IsFirstFault, StandsFor}
use Rattle.mmcs_engine.specs.Args.{arity_number, max_word, AreArgs}
use Rattle.mmcs_engine.specs.Program.{batch_of_command, output_of, refusal_of, IsOutcome}
use Rattle.mmcs_engine.proofs.LineCases.{matrices_or_fault}
use Rattle.mmcs_engine.proofs.ReplyFacts.{reply_text}
use Rattle.mmcs_engine.proofs.ArgFacts.{settled_command}
use Rattle.mmcs_engine.proofs.laws.each_input_has_an_outcome.Goals as goal

module _ (args : List (List ℕ)) (input : List ℕ) where
  -- some outcome is that of the arguments and the input
  abbrev HaveOutcome : Type 0
  HaveOutcome = (outcome : Result (List ℕ) Fault) × IsOutcome args input outcome

  module _ (command : Command) (indices : List ℕ) (are : AreArgs args command indices) where
    -- a text or a refusal, where the input stands for matrices
    of_matrices : (matrices : List (List (List ℕ))) → StandsFor (max_word command.hash + 1) input matrices →
        (refusal : Option MerkleTreeError) → refusal_of command indices matrices ≡ refusal → HaveOutcome
    of_matrices matrices stands None taken = (
      Ok (output_of command indices matrices),
      (
        command,
        indices,
        are,
        reply_text command indices input (max_word command.hash) (arity_number command.arity) refl refl matrices stands
            (batch_of_command command matrices) refl (shape (batch_of_command command matrices)) refl
            (output_of command indices matrices) taken refl,
      ),
    )
    of_matrices matrices stands (Some e) refused = (Err (Tree e), (command, indices, are, (matrices, stands, refused)))

    -- or the fault of a line
    of_fault : (fault : Fault) → IsFirstFault (max_word command.hash + 1) (pieces_of input) fault → HaveOutcome
    of_fault (Number line max) found = (Err (Number line max), (command, indices, are, found))
    of_fault (Count line expected got) found = (Err (Count line expected got), (command, indices, are, found))
    of_fault Usage found = absurd found.fault_is
    of_fault Read found = absurd found.fault_is
    of_fault (Tree e) found = absurd found.fault_is
    of_fault Write found = absurd found.fault_is

    of_command : HaveOutcome
    of_command =
        ⊎_elim
        (λ good. of_matrices good.0 good.1 (refusal_of command indices good.0) refl)
        (λ bad. of_fault bad.0 bad.1)
        (matrices_or_fault (max_word command.hash) (pieces_of input))

  some_outcome : HaveOutcome
  some_outcome =
      ⊎_elim
      (λ some. of_command some.0 some.1 some.2)
      (λ none. (Err Usage, λ command indices are. none (command, indices, are)))
      (settled_command args)

pub returns : goal.returns
returns c = some_outcome
