-- What is verified is what the rows are cut into.
use Rattle.std.proofs.Common.{◌∙◌, ◌≤◌, ap, inr, length, refl, sym}
use Rattle.std.specs.Prelude.{map, sum_by}
use Rattle.std.proofs.lemmas.Bool.{ltb-false, ltb-true}
use Rattle.p3_answers.specs.Answers.{ok_unless}
use Rattle.fohlazu_c.specs.Openings.{params_at, presented_opening, size_shown}
use Rattle.fohlazu_c.proofs.CutFacts.{longer_refused, rows_cut}
use Rattle.fohlazu_c.proofs.opening.verdict.Goals as goal

both : {A B : Type 0} → A → B → A × B
both a b = (a, b)

pub returns-then-has_extra_bytes-clause-answer : goal.returns-then-has_extra_bytes-clause-answer
returns-then-has_extra_bytes-clause-answer g c =
    let claim = c.args.claim in
    let sizes = claim.sizes.now in
    let bytes = claim.rows.now in
    let dimensions = map size_shown sizes in
    let more = ltb-true (sum_by (λ size. size.width) sizes) (length bytes)
    (sym c.has_extra_bytes.ensures ∙ c.if-has_extra_bytes.true) in
    inr (ap (λ refusal. ok_unless refusal tt) (sym (longer_refused
    (params_at g.row.N c.args.cap_height c.args.rule dimensions) claim.roots.now
    (presented_opening dimensions claim.index bytes claim.siblings.now) sizes bytes more refl refl)))

pub returns : goal.returns
returns g c =
    let sizes = c.args.claim.sizes.now in
    let bytes = c.args.claim.rows.now in
    let fit : length bytes ≤ sum_by (λ size. size.width) sizes = ltb-false (sum_by (λ size. size.width) sizes)
    (length bytes) (sym c.has_extra_bytes.ensures ∙ c.if-has_extra_bytes.false) in
    let found = rw (
      c.deref.ensures.value,
      c.deref-2.ensures.value,
      c.in_ok-dimensions.ensures,
      rows_cut sizes bytes fit,
      c.new_with_rule-scheme.ensures.cap_height,
      c.new_with_rule-scheme.ensures.rule,
    ) at (both c.verify_rows.ensures.answer c.verify_rows.ensures.accepted.0) in
    record { answer = inr found.0; accepted = found.1 }
