-- A refusal shows that the checkpoint is not of the file, or is the verifier's; else the entries that are compared are
-- those that the checkpoint seals.
use Rattle.std.proofs.Common.{inl, inr, ⊎_elim}
use Rattle.std.proofs.lemmas.Result.{err_from_is_err_and}
use Rattle.tlog.specs.Collisions.{entries_of}
use Rattle.tlog_text.specs.Texts.{entries_fields}
use Rattle.fohlazu_commands.specs.declared.error.Source.TheVariants.{Checkpoint}
use Rattle.fohlazu_commands.proofs.CollisionFacts.{not_of_file, proved, shown}
use Rattle.fohlazu_commands.proofs.collisions.file_entries_collision.Goals as goal

pub returns-in_err-entries-clause-refused : goal.returns-in_err-entries-clause-refused
returns-in_err-entries-clause-refused c =
    let left = err_from_is_err_and c.from_residual-in_err-entries.result c.from_residual-in_err-entries.ensures.1 in
    rw (left.1, left.2)
    (⊎_elim inl (λ is. inr (inr (not_of_file Checkpoint c.args.framing c.args.checkpoint.now c.args.file.now _ is)))
    c.in_err-entries.ensures)

pub proved_collision-requires : goal.proved_collision-requires
proved_collision-requires c =
    rw c.deref.ensures.value
    (proved c.args.framing c.args.checkpoint.now c.args.proof.now c.args.file.now c.in_ok-verify.field-0.items
    (entries_of c.in_ok-entries.entries.items) (entries_fields c.in_ok-proof.proof) c.in_ok-verify.ensures
    c.in_ok-entries.ensures c.in_ok-proof.ensures)

pub returns-clause-none : goal.returns-clause-none
returns-clause-none c =
    shown c.args.framing c.args.checkpoint.now c.args.proof.now c.args.file.now c.in_ok-verify.field-0.items
    (entries_of c.in_ok-entries.entries.items) (entries_fields c.in_ok-proof.proof) c.in_ok-verify.ensures
    c.in_ok-entries.ensures c.in_ok-proof.ensures c.in_ok-proved_collision.field-0
    (rw c.deref.ensures.value at c.in_ok-proved_collision.ensures.none)
