-- Up to the level reached, no layer has a fault, so the refusal is that of the layers above (`so_far`). It begins above
-- the leaves, since no two slots are under one leaf.
use Rattle.std.proofs.Common.{◌≡◌, ◌-◌, ◌+◌, ◌/◌, ◌^◌, ◌∙◌, ◌<◌, ℕ, suc, map, arith, refl, None, Some, add-one, ap, sym}
use Rattle.std.proofs.Common.{inr, All, List}
use Rattle.std.specs.List.{range_with_len}
use Rattle.std.proofs.lemmas.Result.{err_from_is_err_and}
use Rattle.p3_merkle_core.specs.Geometry.{ancestor, heights, layer_exponent, shape_of, IsArity, Shape}
use Rattle.p3_merkle_core.specs.Inner.Agreement.{layers_refusal}
use Rattle.p3_answers.specs.Answers.{first_of}
use Rattle.p3_support.specs.Batches.{greatest}
use Rattle.p3_support.specs.RowSets.{sets_in}
use Rattle.p3_merkle_core.proofs.Lists.RisingFacts.{rising_from}
use Rattle.p3_answers.proofs.AnswerFacts.{found_or, kept_or}
use Rattle.p3_merkle_core.proofs.Pruned.LeadFacts.{no_matrix, nodes_by_bits}
use Rattle.p3_merkle_core.proofs.Pruned.LeadFacts.{layer_fault, layer_read, leaves_agree, levels_next, matrices_full}
use Rattle.p3_merkle_core.proofs.Pruned.SlotFacts.{ascending_from}
use Rattle.p3_merkle_core.proofs.Shapes.LeastFacts.{exponent_le}
use Rattle.p3_merkle_core.proofs.Shapes.LevelFacts.{exponent_low}
use Rattle.p3_merkle_core.proofs.Shapes.StepFacts.{layer_start}
use Rattle.p3_merkle_core.proofs.pruning.check_shared_rows.Goals.{then-up+in_ok-list_matrices+in_ok-check_rows_under_nodes}
use Rattle.p3_merkle_core.proofs.pruning.check_shared_rows.Goals.{else-up}
use Rattle.p3_merkle_core.proofs.pruning.check_shared_rows.Goals as goal

-- the nodes of layer l: the leaves without the bits by which its exponent x is below the exponent t of the leaves
nodes_above : (s : Shape) → IsArity s.arity → (l t x : ℕ) → t ≡ layer_exponent s 0 → x ≡ layer_exponent s l →
    (leaves : List ℕ) → All (λ i. i < greatest (heights s)) leaves →
    map (λ i. i / 2 ^ (t - x)) leaves ≡ map (ancestor s l) leaves
nodes_above s w l t x start at leaves below =
    nodes_by_bits s w l (t - x) (rw (at, start, layer_start s) refl) leaves below

pub loop-level-init : goal.loop-level-init
loop-level-init g c =
    let s = shape_of c.args.schedule.now.arity c.args.schedule.now.dimensions.now in
    let leaves = c.args.queried.now.indices.items in
    let firsts = c.args.queried.now.first_queries.items in
    let sets = sets_in c.args.rows in
    let h = layer_fault g.T.PartialEq.eq s leaves firsts sets in
    let t = c.args.cap_layer in
    let e : t - 0 ≡ t = omega arith in
    record {
      at = c.args.schedule.now.walked.leaves;
      so_far = kept_or (h 0) (first_of h (range_with_len 1 (t - 0)))
          (layers_refusal g.T.PartialEq.eq s t leaves firsts sets) (rw e refl)
          (leaves_agree g.T.PartialEq.eq g.met.T.Eq.laws s leaves firsts sets c.requires.ascending);
    }

pub overflow_sub-bits : goal.overflow_sub-bits
overflow_sub-bits g c =
    let s = shape_of c.args.schedule.now.arity c.args.schedule.now.dimensions.now in
    omega (
      arith,
      c.step_up-up.ensures.exponent,
      c.args.schedule.now.walked.leaves,
      layer_start s,
      exponent_low s (suc c.loop-level.level),
    )

pub check_rows_under_nodes-requires : goal.check_rows_under_nodes-requires
check_rows_under_nodes-requires g c =
    let s = shape_of c.args.schedule.now.arity c.args.schedule.now.dimensions.now in
    let leaves = c.args.queried.now.indices.items in
    let firsts = c.args.queried.now.first_queries.items in
    let sets = sets_in c.args.rows in
    let nodes = c.deref-then-up.result.now in
    let read = c.deref-then-up-2.result.now in
    let nodes_is : nodes ≡ leaves = c.deref-then-up.ensures.value in
    let read_is : read ≡ firsts = c.deref-then-up-2.ensures.value in
    record {
      pairs = rw (nodes_is, read_is) c.requires.pairs;
      ascending = rw nodes_is (ascending_from leaves (rising_from leaves c.requires.ascending));
      bits = omega (
        arith,
        c.args.schedule.now.walked.leaves,
        layer_start s,
        exponent_le (greatest (heights s)) 62 c.requires.low,
      );
      queries = rw read_is c.requires.queries;
      full = matrices_full c.args.schedule.now.dimensions.now firsts read c.deref.result.now sets
          c.step_up-up.result.exponent c.requires.full (c.deref.ensures.value ∙ c.in_ok-list_matrices.ensures)
          read_is;
    }

pub returns-in_err-check_rows_under_nodes : goal.returns-in_err-check_rows_under_nodes
returns-in_err-check_rows_under_nodes g c =
    let eq = g.T.PartialEq.eq in
    let s = shape_of c.args.schedule.now.arity c.args.schedule.now.dimensions.now in
    let leaves = c.args.queried.now.indices.items in
    let firsts = c.args.queried.now.first_queries.items in
    let sets = sets_in c.args.rows in
    let l = c.loop-level.level in
    let t = c.args.cap_layer in
    let h = layer_fault eq s leaves firsts sets in
    let total = layers_refusal eq s t leaves firsts sets in
    let e = c.in_err-check_rows_under_nodes.field-0.0 in
    let at : c.step_up-up.result.exponent ≡ layer_exponent s (l + 1) = rw add-one c.step_up-up.ensures.exponent in
    let x = c.args.schedule.now.exponent in
    let nodes = map (λ i. i / 2 ^ (x - c.step_up-up.result.exponent)) c.deref-then-up.result.now in
    let above : nodes ≡ map (ancestor s (l + 1)) leaves = rw c.deref-then-up.ensures.value
    (nodes_above s c.requires.arity (l + 1) x c.step_up-up.result.exponent c.args.schedule.now.walked.leaves at leaves
    c.requires.below) in
    let some = layer_read eq s leaves firsts c.deref-then-up-2.result.now c.deref.result.now
    nodes sets (l + 1) c.step_up-up.result.exponent (Some e) at
    (c.deref.ensures.value ∙ c.in_ok-list_matrices.ensures) above
    c.deref-then-up-2.ensures.value c.in_err-check_rows_under_nodes.ensures in
    let found = found_or (h (l + 1)) (first_of h (range_with_len (l + 1 + 1) (t - (l + 1)))) total e
    (levels_next h t l total (omega arith) c.loop-level.invariant.so_far) some in
    let left = err_from_is_err_and c.from_residual-in_err-check_rows_under_nodes.result
    c.from_residual-in_err-check_rows_under_nodes.ensures.1 in
    rw left.1 (inr (found ∙ ap (λ e. Some e) (sym left.2)))

pub loop-level-preserved : goal.loop-level-preserved
loop-level-preserved g c =
    let eq = g.T.PartialEq.eq in
    let s = shape_of c.args.schedule.now.arity c.args.schedule.now.dimensions.now in
    let leaves = c.args.queried.now.indices.items in
    let firsts = c.args.queried.now.first_queries.items in
    let sets = sets_in c.args.rows in
    let l = c.loop-level.level in
    let t = c.args.cap_layer in
    let h = layer_fault eq s leaves firsts sets in
    let total = layers_refusal eq s t leaves firsts sets in
    let at : c.step_up-up.result.exponent ≡ layer_exponent s (l + 1) = rw add-one c.step_up-up.ensures.exponent in
    let x = c.args.schedule.now.exponent in
    let above = nodes_above s c.requires.arity (l + 1) x c.step_up-up.result.exponent c.args.schedule.now.walked.leaves
    at leaves c.requires.below in
    let none : h (l + 1) ≡ None = elim c.if-up.branch [
      | then-up+in_ok-list_matrices+in_ok-check_rows_under_nodes w ↦
          layer_read eq s leaves firsts w.deref-then-up-2.result.now w.deref.result.now
          (map (λ i. i / 2 ^ (x - c.step_up-up.result.exponent)) w.deref-then-up.result.now) sets (l + 1)
          c.step_up-up.result.exponent None at
          (w.deref.ensures.value ∙ w.in_ok-list_matrices.ensures)
          (rw w.deref-then-up.ensures.value above)
          w.deref-then-up-2.ensures.value w.in_ok-check_rows_under_nodes.ensures
      | else-up w ↦
          rw add-one
          (no_matrix eq (heights s) (layer_exponent s (suc l)) (map (ancestor s (suc l)) leaves) firsts sets
          (sym c.step_up-up.ensures.rows ∙ w.if-up.false))
    ] in
    record {
      at = at;
      so_far = kept_or (h (l + 1)) (first_of h (range_with_len (l + 1 + 1) (t - (l + 1)))) total
          (levels_next h t l total (omega arith) c.loop-level.invariant.so_far) none;
    }
