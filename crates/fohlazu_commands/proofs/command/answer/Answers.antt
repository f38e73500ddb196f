-- The outcome of each command is that of its own call, on what was read of its inputs.
use Rattle.std.proofs.Common.{ap, inl, inr, ⊎_elim, None, Some, refl, string_bytes, subst, sym, List, ℕ, Result}
use Rattle.std.proofs.Common.{Err, Global, Option, Vec}
use Rattle.std.proofs.lemmas.Result.{err_from_is_err_and}
use Rattle.std.specs.Option.{option_map}
use Rattle.tlog_text.specs.Texts.{CheckpointFields}
use Rattle.fohlazu_commands.specs.Outcomes.{and_then, bytes_from, bytes_in, compared, Gives, join_outcome}
use Rattle.fohlazu_commands.specs.Outcomes.{numbers_under}
use Rattle.fohlazu_commands.specs.Outcomes.{prove_growth, verify_consistency_outcome, verify_requested}
use Rattle.fohlazu_commands.specs.declared.error.Source.TheVariants.{Checkpoint, File, New, Old, Proof}
use Rattle.fohlazu_commands.proofs.RunFacts.{fails_first, first_note_fails, goes_first, short_read, unread_gives}
use Rattle.fohlazu_commands.specs.Commands.{growth_from, max_growth_bytes, max_note_bytes, note_from, prove_file}
use Rattle.fohlazu_commands.specs.declared.error.Error.{Error}
use Rattle.fohlazu_commands.proofs.command.answer.Goals as goal

-- ---- prove

pub returns-in_ok-numbers-in-Prove : goal.returns-in_ok-numbers-in-Prove
returns-in_ok-numbers-in-Prove g c =
    let text = c.in_ok-checkpoint-in-Prove in
    let bytes = text.checkpoint.items in
    let fits = short_read Checkpoint max_note_bytes bytes text.ensures.bytes.1 in
    let are = rw c.deref-in-Prove.ensures.value at c.in_ok-numbers-in-Prove.ensures.answer in
    let h = rw (c.deref-in-Prove-2.ensures.value, c.deref-in-Prove-3.ensures.value) at c.prove.ensures.answer in
    let own = goes_first bytes_in c.prove.result _ bytes _ fits h.2 in
    let out = subst (λ (r : Result (List ℕ) Error). Gives bytes_in c.prove.result
    (and_then r (prove_file c.in-Prove.framing (Some bytes) h.0))) (sym are) own in
    rw c.in-Prove.is
    (_, (Some bytes, text.ensures.bytes.0, (h.0, h.1, refl)), goes_first bytes_in c.prove.result _ bytes _ fits out)

pub returns-in_err-checkpoint-in-Prove : goal.returns-in_err-checkpoint-in-Prove
returns-in_err-checkpoint-in-Prove g c =
    let left = err_from_is_err_and c.from_residual.result c.from_residual.ensures.1 in
    rw (c.in-Prove.is, left.1, left.2)
    (first_note_fails _ Checkpoint _ _ c.in_err-checkpoint-in-Prove.ensures.failed
    (λ note read. (note, read, (None, tt, refl))))

pub returns-in_err-numbers-in-Prove : goal.returns-in_err-numbers-in-Prove
returns-in_err-numbers-in-Prove g c =
    let text = c.in_ok-checkpoint-in-Prove in
    let bytes = text.checkpoint.items in
    let fits = short_read Checkpoint max_note_bytes bytes text.ensures.bytes.1 in
    let stop = c.from_residual-in_err-numbers-in-Prove in
    let left = err_from_is_err_and stop.result stop.ensures.1 in
    let why = rw c.deref-in-Prove.ensures.value at c.in_err-numbers-in-Prove.ensures.answer in
    let next : List ℕ → Result (List ℕ) Error =
    λ text. and_then (numbers_under (option_map (λ (ns : Vec ℕ Global). ns.items) c.in-Prove.numbers) text)
    (prove_file c.in-Prove.framing (Some text) None) in
    rw (c.in-Prove.is, left.1, left.2) (
      _,
      (Some bytes, text.ensures.bytes.0, (None, tt, refl)),
      goes_first bytes_in (Err c.in_err-numbers-in-Prove.field-0.0) _ bytes next fits
          (⊎_elim inl (λ is. inr (ap (λ r. and_then r (prove_file c.in-Prove.framing (Some bytes) None)) is)) why),
    )

-- ---- verify

pub returns-in_ok-proof-in-Verify : goal.returns-in_ok-proof-in-Verify
returns-in_ok-proof-in-Verify g c =
    let a = c.in_ok-checkpoint-in-Verify in
    let b = c.in_ok-proof-in-Verify in
    let fits = short_read Checkpoint max_note_bytes a.checkpoint.items a.ensures.bytes.1 in
    let h = rw (c.deref-in-Verify.ensures.value, c.deref-in-Verify-2.ensures.value) at c.verify.ensures in
    rw c.in-Verify.is (
      _,
      (Some a.checkpoint.items, a.ensures.bytes.0, (Some b.proof.items, b.ensures.bytes, refl)),
      goes_first bytes_in _ _ a.checkpoint.items _ fits h,
    )

pub returns-in_err-checkpoint-in-Verify : goal.returns-in_err-checkpoint-in-Verify
returns-in_err-checkpoint-in-Verify g c =
    let stop = c.from_residual-in_err-checkpoint-in-Verify in
    let left = err_from_is_err_and stop.result stop.ensures.1 in
    rw (c.in-Verify.is, left.1, left.2)
    (first_note_fails _ Checkpoint _ _ c.in_err-checkpoint-in-Verify.ensures.failed
    (λ note read. (note, read, (None, tt, refl))))

pub returns-in_err-proof-in-Verify : goal.returns-in_err-proof-in-Verify
returns-in_err-proof-in-Verify g c =
    let text = c.in_ok-checkpoint-in-Verify in
    let fits = short_read Checkpoint max_note_bytes text.checkpoint.items text.ensures.bytes.1 in
    let stop = c.from_residual-in_err-proof-in-Verify in
    let left = err_from_is_err_and stop.result stop.ensures.1 in
    let why = unread_gives bytes_in Proof _ c.in_err-proof-in-Verify.ensures.failed in
    let next : List ℕ → Result (List ℕ) Error =
    λ text. and_then (bytes_from Proof None) (λ (shown : List ℕ).
    verify_requested c.in-Verify.print text shown c.in-Verify.entries) in
    rw (c.in-Verify.is, left.1, left.2) (
      _,
      (Some text.checkpoint.items, text.ensures.bytes.0, (None, tt, refl)),
      goes_first bytes_in (Err c.in_err-proof-in-Verify.field-0.0) _ text.checkpoint.items next fits why,
    )

-- ---- prove-consistency

pub returns-in_ok-new-in-ProveConsistency : goal.returns-in_ok-new-in-ProveConsistency
returns-in_ok-new-in-ProveConsistency g c =
    let old = c.in_ok-old-in-ProveConsistency in
    let new = c.in_ok-new-in-ProveConsistency in
    let old_fits = short_read Old max_note_bytes old.old.items old.ensures.bytes.1 in
    let new_fits = short_read New max_note_bytes new.new.items new.ensures.bytes.1 in
    let h = rw (c.deref-in-ProveConsistency.ensures.value, c.deref-in-ProveConsistency-2.ensures.value)
    at c.prove_consistency.ensures.answer in
    rw c.in-ProveConsistency.is (
      _,
      (Some old.old.items, old.ensures.bytes.0, (Some new.new.items, new.ensures.bytes.0, (h.0, h.1, refl))),
      goes_first bytes_in _ _ old.old.items _ old_fits (goes_first bytes_in _ _ new.new.items _ new_fits h.2),
    )

pub returns-in_err-old-in-ProveConsistency : goal.returns-in_err-old-in-ProveConsistency
returns-in_err-old-in-ProveConsistency g c =
    let stop = c.from_residual-in_err-old-in-ProveConsistency in
    let left = err_from_is_err_and stop.result stop.ensures.1 in
    rw (c.in-ProveConsistency.is, left.1, left.2)
    (first_note_fails _ Old _ _ c.in_err-old-in-ProveConsistency.ensures.failed
    (λ note read. (note, read, (None, tt, (None, tt, refl)))))

pub returns-in_err-new-in-ProveConsistency : goal.returns-in_err-new-in-ProveConsistency
returns-in_err-new-in-ProveConsistency g c =
    let old = c.in_ok-old-in-ProveConsistency in
    let fits = short_read Old max_note_bytes old.old.items old.ensures.bytes.1 in
    let stop = c.from_residual-in_err-new-in-ProveConsistency in
    let left = err_from_is_err_and stop.result stop.ensures.1 in
    let e = c.in_err-new-in-ProveConsistency.field-0.0 in
    let with_new : List ℕ → List ℕ → Result (List ℕ) Error =
    λ one other. and_then (compared one other) (λ (pair : CheckpointFields × CheckpointFields).
    and_then (bytes_from File None) (prove_growth c.in-ProveConsistency.framing pair.0 pair.1 other)) in
    let with_old : Option (List ℕ) → List ℕ → Result (List ℕ) Error =
    λ new one. and_then (note_from New new) (with_new one) in
    rw (c.in-ProveConsistency.is, left.1, left.2)
    (⊎_elim
    (λ memory. (_, (Some old.old.items, old.ensures.bytes.0, (None, tt, (None, tt, refl))), inl memory))
    (λ refused. (
      _,
      (Some old.old.items, old.ensures.bytes.0, (refused.0, refused.1, (None, tt, refl))),
      goes_first bytes_in (Err e) _ old.old.items (with_old refused.0) fits
          (fails_first bytes_in e _ (with_new old.old.items) refused.2),
    ))
    c.in_err-new-in-ProveConsistency.ensures.failed)

-- ---- verify-consistency

pub returns-in_ok-proof-in-VerifyConsistency : goal.returns-in_ok-proof-in-VerifyConsistency
returns-in_ok-proof-in-VerifyConsistency g c =
    let old = c.in_ok-old-in-VerifyConsistency in
    let shown = c.in_ok-proof-in-VerifyConsistency in
    let old_fits = short_read Old max_note_bytes old.old.items old.ensures.bytes.1 in
    let shown_fits = short_read Proof max_growth_bytes shown.proof.items shown.ensures.bytes.1 in
    let h = rw (c.deref-in-VerifyConsistency.ensures.value, c.deref-in-VerifyConsistency-2.ensures.value)
    at c.verify_consistency.ensures in
    rw c.in-VerifyConsistency.is (
      _,
      (Some old.old.items, old.ensures.bytes.0, (Some shown.proof.items, shown.ensures.bytes.0, refl)),
      goes_first bytes_in _ _ old.old.items _ old_fits
          (goes_first bytes_in _ _ shown.proof.items _ shown_fits h),
    )

pub returns-in_err-old-in-VerifyConsistency : goal.returns-in_err-old-in-VerifyConsistency
returns-in_err-old-in-VerifyConsistency g c =
    let stop = c.from_residual-in_err-old-in-VerifyConsistency in
    let left = err_from_is_err_and stop.result stop.ensures.1 in
    rw (c.in-VerifyConsistency.is, left.1, left.2)
    (first_note_fails _ Old _ _ c.in_err-old-in-VerifyConsistency.ensures.failed
    (λ note read. (note, read, (None, tt, refl))))

pub returns-in_err-proof-in-VerifyConsistency : goal.returns-in_err-proof-in-VerifyConsistency
returns-in_err-proof-in-VerifyConsistency g c =
    let old = c.in_ok-old-in-VerifyConsistency in
    let fits = short_read Old max_note_bytes old.old.items old.ensures.bytes.1 in
    let stop = c.from_residual-in_err-proof-in-VerifyConsistency in
    let left = err_from_is_err_and stop.result stop.ensures.1 in
    let e = c.in_err-proof-in-VerifyConsistency.field-0.0 in
    let with_old : Option (List ℕ) → List ℕ → Result (List ℕ) Error =
    λ shown one. and_then (growth_from shown) (verify_consistency_outcome one) in
    rw (c.in-VerifyConsistency.is, left.1, left.2)
    (⊎_elim (λ memory. (_, (Some old.old.items, old.ensures.bytes.0, (None, tt, refl)), inl memory))
    (λ refused. (
      _,
      (Some old.old.items, old.ensures.bytes.0, (refused.0, refused.1, refl)),
      goes_first bytes_in (Err e) _ old.old.items (with_old refused.0) fits
          (fails_first bytes_in e _ (verify_consistency_outcome old.old.items) refused.2),
    ))
    c.in_err-proof-in-VerifyConsistency.ensures.failed)

-- ---- join

pub returns-in_err-read_parts-in-Join : goal.returns-in_err-read_parts-in-Join
returns-in_err-read_parts-in-Join g c =
    let read = c.in_err-read_parts-in-Join.ensures in
    let stop = c.from_residual-in_err-read_parts-in-Join in
    let left = err_from_is_err_and stop.result stop.ensures.1 in
    rw (c.in-Join.is, left.1, left.2) (
      _,
      (read.0, read.1, refl),
      ⊎_elim inl (λ is. inr (ap (λ r. and_then r (join_outcome (string_bytes c.in-Join.origin))) is)) read.2,
    )
