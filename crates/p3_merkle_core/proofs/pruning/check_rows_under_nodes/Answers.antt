-- The slots so far have the rows of the first ones under their nodes, so the refusal is that of the others (`so_far`).
use Rattle.std.proofs.Common.{◌≡◌, ◌<◌, ◌-◌, ◌+◌, ◌/◌, ◌^◌, ◌∙◌, All, length, refl, subst, arith, None, Some, ap, sym}
use Rattle.std.proofs.Common.{map}
use Rattle.std.proofs.lemmas.List.{get_or-map, length-map}
use Rattle.std.proofs.lemmas.Nat.{pow_pos}
use Rattle.std.proofs.lemmas.Result.{err_from_is_err_and}
use Rattle.std.specs.List.{range_with_len}
use Rattle.p3_support.specs.RowSets.{sets_in}
use Rattle.p3_merkle_core.specs.Inner.Agreement.{nodes_refusal}
use Rattle.p3_answers.specs.Answers.{first_of}
use Rattle.p3_merkle_core.proofs.Pruned.LeadFacts.{first_slot_agrees, first_slot_kept, first_slot_new, first_start}
use Rattle.p3_answers.proofs.AnswerFacts.{found_or, kept_or}
use Rattle.p3_merkle_core.proofs.Pruned.LeadFacts.{slot_fault, slot_read}
use Rattle.p3_merkle_core.proofs.Pruned.LeadFacts.{slots_next, slots_start}
use Rattle.p3_merkle_core.proofs.Pruned.SlotFacts.{divided}
use Rattle.p3_merkle_core.proofs.pruning.check_rows_under_nodes.Goals.{then-indices-slot+in_ok-check_same_rows}
use Rattle.p3_merkle_core.proofs.pruning.check_rows_under_nodes.Goals.{else-indices-slot}
use Rattle.p3_merkle_core.proofs.pruning.check_rows_under_nodes.Goals as goal

pub loop-slot-init : goal.loop-slot-init
loop-slot-init g c =
    let nodes = map (λ i. i / 2 ^ c.args.bits) c.args.indices.now in
    record {
      below = omega arith;
      is_first = first_start nodes;
      so_far = slots_start g.T.PartialEq.eq g.met.T.Eq.laws c.args.matrices.now nodes c.args.first_queries.now
          (sets_in c.args.rows);
    }

pub loop-slot-preserved : goal.loop-slot-preserved
loop-slot-preserved g c =
    let eq = g.T.PartialEq.eq in
    let matrices = c.args.matrices.now in
    let nodes = map (λ i. i / 2 ^ c.args.bits) c.args.indices.now in
    let long = length-map c.args.indices.now (λ i. i / 2 ^ c.args.bits) in
    let firsts = c.args.first_queries.now in
    let sets = sets_in c.args.rows in
    let k = c.loop-slot.slot in
    let first = c.loop-slot.first_slot in
    let l : k < length nodes = omega (arith, long, c.loop-slot-test.true) in
    let mine = get_or-map (λ i. i / 2 ^ c.args.bits) c.args.indices.now k 0 0 c.loop-slot-test.true in
    let its_first = get_or-map (λ i. i / 2 ^ c.args.bits) c.args.indices.now first 0 0 (omega arith) in
    let up = divided c.args.indices.now (2 ^ c.args.bits) (pow_pos c.args.bits) c.requires.ascending in
    let is = c.loop-slot.invariant.is_first in
    let h = slot_fault eq matrices nodes firsts sets in
    let total = nodes_refusal eq matrices nodes firsts sets in
    let same : k + 1 - 1 ≡ k = omega arith in
    let none : h k ≡ None = elim c.if-indices-slot.branch [
      | then-indices-slot+in_ok-check_same_rows w ↦
          slot_read eq matrices nodes firsts sets k first _ _ None refl refl
          (first_slot_kept nodes k first l is (mine ∙ w.if-indices-slot.true ∙ sym its_first))
          w.in_ok-check_same_rows.ensures
      | else-indices-slot w ↦
          first_slot_agrees eq g.met.T.Eq.laws matrices nodes firsts sets k
          (first_slot_new nodes k first up l is
          (λ e. w.if-indices-slot.false (sym mine ∙ e ∙ its_first)))
    ] in
    record {
      below = elim c.if-indices-slot.branch [
        | then-indices-slot+in_ok-check_same_rows w ↦ omega (arith, w.first_slot-is)
        | else-indices-slot w ↦ omega (arith, w.first_slot-is)
      ];
      is_first = rw same (elim c.if-indices-slot.branch [
        | then-indices-slot+in_ok-check_same_rows w ↦
            w.first_slot-is ∙ first_slot_kept nodes k first l is (mine ∙ w.if-indices-slot.true ∙ sym its_first)
        | else-indices-slot w ↦
            w.first_slot-is ∙ first_slot_new nodes k first up l is
            (λ e. w.if-indices-slot.false (sym mine ∙ e ∙ its_first))
      ]);
      so_far = kept_or (h k) (first_of h (range_with_len (k + 1) (length nodes - (k + 1)))) total
          (slots_next h (length nodes) k total l c.loop-slot.invariant.so_far) none;
    }

pub returns-in_err-check_same_rows : goal.returns-in_err-check_same_rows
returns-in_err-check_same_rows g c =
    let eq = g.T.PartialEq.eq in
    let matrices = c.args.matrices.now in
    let nodes = map (λ i. i / 2 ^ c.args.bits) c.args.indices.now in
    let long = length-map c.args.indices.now (λ i. i / 2 ^ c.args.bits) in
    let firsts = c.args.first_queries.now in
    let sets = sets_in c.args.rows in
    let k = c.loop-slot.slot in
    let first = c.loop-slot.first_slot in
    let is = c.loop-slot.invariant.is_first in
    let h = slot_fault eq matrices nodes firsts sets in
    let total = nodes_refusal eq matrices nodes firsts sets in
    let mine = get_or-map (λ i. i / 2 ^ c.args.bits) c.args.indices.now k 0 0 c.loop-slot-test.true in
    let its_first = get_or-map (λ i. i / 2 ^ c.args.bits) c.args.indices.now first 0 0 (omega arith) in
    let some = slot_read eq matrices nodes firsts sets k first _ _ (Some c.in_err-check_same_rows.field-0.0) refl refl
    (first_slot_kept nodes k first (omega (arith, long, c.loop-slot-test.true)) is (mine ∙ c.if-indices-slot.true ∙ sym
    its_first)) c.in_err-check_same_rows.ensures in
    let found = found_or (h k) (first_of h (range_with_len (k + 1) (length nodes - (k + 1)))) total
    c.in_err-check_same_rows.field-0.0
    (slots_next h (length nodes) k total (omega (arith, long)) c.loop-slot.invariant.so_far) some in
    let left = err_from_is_err_and c.from_residual.result c.from_residual.ensures.1 in
    rw left.1 (found ∙ ap (λ e. Some e) (sym left.2))
