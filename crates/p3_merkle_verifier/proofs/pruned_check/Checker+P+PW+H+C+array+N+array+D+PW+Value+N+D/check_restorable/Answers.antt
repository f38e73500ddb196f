-- What is not refused restores, and its distinct indices are the covered leaves.
use Rattle.std.proofs.Common.{◌∙◌, [], ap, length, replicate, sym}
use Rattle.std.proofs.lemmas.List.{length-map, length-replicate}
use Rattle.p3_support.specs.RowSets.{sets_in}
use Rattle.p3_merkle_core.specs.Geometry.{heights}
use Rattle.p3_merkle_core.specs.Inner.Agreement.{opened_with}
use Rattle.p3_answers.specs.Answers.{ok_unless}
use Rattle.p3_merkle_core.proofs.Pruned.Answered.{restorable}
use Rattle.p3_merkle_core.proofs.Pruned.PrunedFacts.{asked_of}
use Rattle.p3_merkle_core.proofs.Shapes.GateFacts.{none_large_from_lawful, tallest_fits}
use Rattle.p3_merkle_verifier.specs.Inner.Checks.{shape_in}
use Rattle.p3_merkle_verifier.proofs.LayerFacts.{agreed_with}
use Rattle.p3_merkle_verifier.proofs.pruned_check.Checker+P+PW+H+C+array+N+array+D+PW+Value+N+D.check_restorable.Goals as goal

pub invariant_of-restorable : goal.invariant_of-restorable
invariant_of-restorable g c =
    let eq = g.P.Value.PartialEq.eq in
    let s = shape_in c.args.self.now in
    let t = c.args.self.now.cap_layer in
    let check = c.args.self.now.check in
    let opening = c.args.opening in
    let rows = sets_in opening.sets in
    let p = opened_with opening.indices.now rows (length opening.sent.now) in
    let none = c.in_ok-leaves.ensures.answer.0 in
    let r = restorable eq s t p g.met.P.PackedValue.eq_is_equality (ap (λ refusal. ok_unless refusal (tt {0})) none) in
    record {
      queried = record { well_shaped = check.arity; below = r.below; in_tree = check.in_tree };
      low = tallest_fits (heights s) (none_large_from_lawful (heights s) r.lawful);
      pairs = sym (asked_of eq s t p none).pairs;
      all_sent = sym (length-replicate (length opening.sent.now) []) ∙ r.count;
      agreed = agreed_with s t opening.indices.now rows (replicate (length opening.sent.now) []) [] r.agreed;
      fit = r.rows_fit;
      distinct = c.in_ok-leaves.ensures.answer.1;
    }

pub new-requires : goal.new-requires
new-requires g c =
    let s = shape_in c.args.self.now in
    let opening = c.args.opening in
    let p = opened_with opening.indices.now (sets_in opening.sets) (length opening.sent.now) in
    let r = restorable g.P.Value.PartialEq.eq s c.args.self.now.cap_layer p g.met.P.PackedValue.eq_is_equality
    (ap (λ refusal. ok_unless refusal (tt {0})) c.in_ok-leaves.ensures.answer.0) in
    record {
      arity = c.args.self.now.check.arity;
      low = tallest_fits (heights s) (none_large_from_lawful (heights s) r.lawful);
      below = r.below;
      nodes = c.in_ok-nodes.ensures.items ∙ c.deref.ensures.value ∙ c.in_ok-leaves.ensures.answer.1.indices;
    }
