-- Both proofs are accepted, so the digests that are lifted lead on to the new root.
use Rattle.std.proofs.Common.{◌<◌, ◌∙◌, refl, sym, arith}
use Rattle.tlog.proofs.Composed.{composed_all, composed_part, first_alone, from_nothing, if_err, reason, second_alone}
use Rattle.tlog.proofs.Consistencies.{begins_layer, begins_whole, begun_end, digests_grow}
use Rattle.tlog.proofs.composition.compose.Goals as goal

pub returns-in-Err-clause-refused : goal.returns-in-Err-clause-refused
returns-in-Err-clause-refused g c = sym c.in-Err.ensures.refused

pub returns-in-Err-verify-clause-refused : goal.returns-in-Err-verify-clause-refused
returns-in-Err-verify-clause-refused g c = (sym c.in_default.ensures.refused, sym c.in-Err-verify.ensures.refused)

pub returns-then-old_size-eq0-clause-composed : goal.returns-then-old_size-eq0-clause-composed
returns-then-old_size-eq0-clause-composed g c =
    let one = c.in_default.ensures.accepted.0 refl in
    let two = c.in_default-verify.ensures.accepted.0 refl in
    rw c.new.ensures.items (from_nothing one.1 two.1 c.if-old_size-eq0.true)

pub returns-in_default-of_proof-clause-composed : goal.returns-in_default-of_proof-clause-composed
returns-in_default-of_proof-clause-composed g c =
    let one = c.in_default.ensures.accepted.0 refl in
    let two = c.in_default-verify.ensures.accepted.0 refl in
    rw c.in_ok-from_slice.ensures.items (second_alone one.1 two.1 (omega arith) c.in_default-of_proof.ensures)

pub returns-in_default-of_proof-2-clause-composed : goal.returns-in_default-of_proof-2-clause-composed
returns-in_default-of_proof-2-clause-composed g c =
    let one = c.in_default.ensures.accepted.0 refl in
    let two = c.in_default-verify.ensures.accepted.0 refl in
    rw c.in_ok-from_slice-2.ensures.items (first_alone one.1 two.1 (let o = one.1.ordered in omega arith)
    c.in_default-of_proof-2.ensures)

pub of_proof-requires-2 : goal.of_proof-requires-2
of_proof-requires-2 g c =
    let one = c.in_default.ensures.accepted.0 refl in
    (omega (arith, g.met.H.LogHash.short), (omega arith, let o = one.1.ordered in omega arith))

pub lift-requires : goal.lift-requires
lift-requires g c =
    let one = c.in_default.ensures.accepted.0 refl in
    let two = c.in_default-verify.ensures.accepted.0 refl in
    let o = one.1.ordered in
    let w = two.1.ordered in
    let old = begins_whole c.in-Some.ensures (omega arith) (omega (arith, one.0, o)) in
    let middle = begins_whole c.in-Some-of_proof.ensures (omega arith) (omega (arith, one.0)) in (
      omega arith,
      (
        omega arith,
        (
          omega (arith, g.met.H.LogHash.short),
          (
            (
              begins_layer c.in-Some.ensures (omega (arith, one.0, o)),
              begins_layer c.in-Some-of_proof.ensures (omega (arith, one.0)),
            ),
            (omega (arith, old, o), (middle, (w, two.0))),
          ),
        ),
      ),
    )

pub returns-in_err-digests-clause-refused : goal.returns-in_err-digests-clause-refused
returns-in_err-digests-clause-refused g c =
    if_err c.from_residual-in_err-digests.result _ _
    (λ e same. reason g.H.LogHash.hash _ _ e c.in_default.ensures.refused c.in_default-verify.ensures.refused
    (rw same c.in_err-digests.ensures.refused)) c.from_residual-in_err-digests.ensures.1

pub returns-then-is_power_of_two-clause-composed : goal.returns-then-is_power_of_two-clause-composed
returns-then-is_power_of_two-clause-composed g c =
    let one = c.in_default.ensures.accepted.0 refl in
    let two = c.in_default-verify.ensures.accepted.0 refl in
    let some : 0 < c.args.middle_size = let o = one.1.ordered in omega arith in
    let more = digests_grow some c.in-Some-of_proof.ensures.some two.1 in
    let ends = c.in_ok-digests.ensures.lifted.lift c.args.old_root.now c.args.middle_root.now c.args.new_root.now
    (begun_end c.in-Some.ensures (omega arith) one.1) (begun_end c.in-Some-of_proof.ensures some two.1) in
    composed_all (omega arith) (let o = one.1.ordered in omega arith) c.in-Some.ensures _
    (let o = one.1.ordered in let s = one.0 in omega arith) (sym c.is_power_of_two.ensures ∙ c.if-is_power_of_two.true)
    ends

pub returns-clause-composed : goal.returns-clause-composed
returns-clause-composed g c =
    let one = c.in_default.ensures.accepted.0 refl in
    let two = c.in_default-verify.ensures.accepted.0 refl in
    let some : 0 < c.args.middle_size = let o = one.1.ordered in omega arith in
    let more = digests_grow some c.in-Some-of_proof.ensures.some two.1 in
    let ends = c.in_ok-digests.ensures.lifted.lift c.args.old_root.now c.args.middle_root.now c.args.new_root.now
    (begun_end c.in-Some.ensures (omega arith) one.1) (begun_end c.in-Some-of_proof.ensures some two.1) in
    let is = composed_part (omega arith) (let o = one.1.ordered in omega arith) c.in-Some.ensures _
    (sym c.is_power_of_two.ensures ∙ c.if-is_power_of_two.false) ends in
    rw (c.in_ok-extend_from_slice.ensures.items, c.in_ok-proof.ensures.items, c.deref.ensures.value) is

pub returns-then-old_size-eq0-clause-inputs_accepted : goal.returns-then-old_size-eq0-clause-inputs_accepted
returns-then-old_size-eq0-clause-inputs_accepted g c =
    let two = c.in_default-verify.ensures.accepted.0 refl in (two.0, (c.in_default.ensures.accepted.0 refl).1, two.1)

pub returns-in_default-of_proof-clause-inputs_accepted : goal.returns-in_default-of_proof-clause-inputs_accepted
returns-in_default-of_proof-clause-inputs_accepted g c =
    let two = c.in_default-verify.ensures.accepted.0 refl in (two.0, (c.in_default.ensures.accepted.0 refl).1, two.1)

pub returns-in_default-of_proof-2-clause-inputs_accepted : goal.returns-in_default-of_proof-2-clause-inputs_accepted
returns-in_default-of_proof-2-clause-inputs_accepted g c =
    let two = c.in_default-verify.ensures.accepted.0 refl in (two.0, (c.in_default.ensures.accepted.0 refl).1, two.1)

pub returns-then-is_power_of_two-clause-inputs_accepted : goal.returns-then-is_power_of_two-clause-inputs_accepted
returns-then-is_power_of_two-clause-inputs_accepted g c =
    let two = c.in_default-verify.ensures.accepted.0 refl in (two.0, (c.in_default.ensures.accepted.0 refl).1, two.1)

pub returns-clause-inputs_accepted : goal.returns-clause-inputs_accepted
returns-clause-inputs_accepted g c =
    let two = c.in_default-verify.ensures.accepted.0 refl in (two.0, (c.in_default.ensures.accepted.0 refl).1, two.1)
