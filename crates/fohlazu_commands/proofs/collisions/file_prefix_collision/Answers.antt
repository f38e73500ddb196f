-- A refusal shows that a checkpoint is not of its file; else the entries that are compared are those that the old and
-- the new checkpoint seal.
use Rattle.std.proofs.Common.{◌∙◌, inl, inr, subst, sym, ⊎_elim}
use Rattle.std.proofs.lemmas.Result.{err_from_is_err_and}
use Rattle.tlog.specs.Collisions.{entries_of}
use Rattle.tlog_text.specs.Texts.{consistency_fields}
use Rattle.fohlazu_commands.specs.Collisions.{IsCheckpointOfFile}
use Rattle.fohlazu_commands.specs.Outcomes.{verify_consistency_outcome}
use Rattle.fohlazu_commands.specs.declared.error.Source.TheVariants.{Old, Proof}
use Rattle.fohlazu_commands.proofs.CollisionFacts.{begins, not_of_file, same_ok}
use Rattle.fohlazu_commands.proofs.collisions.file_prefix_collision.Goals as goal

pub returns-in_err-old_entries-clause-refused : goal.returns-in_err-old_entries-clause-refused
returns-in_err-old_entries-clause-refused c =
    let left = err_from_is_err_and c.from_residual-in_err-old_entries.result
    c.from_residual-in_err-old_entries.ensures.1 in
    rw (left.1, left.2)
    (⊎_elim inl (λ is. inr (inr (λ new out of_old of_new.
    not_of_file Old c.args.framing c.args.old.now c.args.old_file.now _ is of_old))) c.in_err-old_entries.ensures)

pub returns-in_err-new_entries-clause-refused : goal.returns-in_err-new_entries-clause-refused
returns-in_err-new_entries-clause-refused c =
    let left = err_from_is_err_and c.from_residual-in_err-new_entries.result
    c.from_residual-in_err-new_entries.ensures.1 in
    rw (left.1, left.2)
    (⊎_elim inl (λ is. inr (inr (λ new out of_old of_new.
    not_of_file Proof c.args.framing c.deref.result.now c.args.new_file.now _ is
    (subst (IsCheckpointOfFile c.args.framing c.args.new_file.now)
    (sym (c.deref.ensures.value
    ∙ same_ok (verify_consistency_outcome c.args.old.now c.args.proof.now) c.in_ok-new.new.items new c.in_ok-new.ensures
    out)) of_new)))) c.in_err-new_entries.ensures)

pub returns-clause-none : goal.returns-clause-none
returns-clause-none c =
    begins c.args.framing c.args.old.now c.args.proof.now c.args.old_file.now c.args.new_file.now c.in_ok-new.new.items
    (entries_of c.in_ok-old_entries.old_entries.items) (entries_of c.in_ok-new_entries.new_entries.items)
    (consistency_fields c.in_ok-proof.proof) c.in_ok-new.ensures c.in_ok-old_entries.ensures
    (rw c.deref.ensures.value at c.in_ok-new_entries.ensures) c.in_ok-proof.ensures c.in_ok-prefix_collision.field-0
    (rw (c.deref-2.ensures.value, c.deref-3.ensures.value, c.deref-4.ensures.value)
    at c.in_ok-prefix_collision.ensures.none)
