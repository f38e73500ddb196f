-- Each clause is a lemma on the shape of a tree: its layers, steps, rows and root.
use Rattle.std.proofs.lemmas.List.FromFn.{length-map-range_with_len, take-map-range_with_len}
use Rattle.std.proofs.Common.{get_or, sym, arith}
use Rattle.p3_merkle_core.specs.Caps.{cap_layer}
use Rattle.p3_merkle_core.specs.Geometry.{heights, levels, step}
use Rattle.p3_merkle_core.proofs.Shapes.LadderFacts.{exponent_at_levels, levels_le, layer_of_is, row_below, row_is_anc}
use Rattle.p3_merkle_core.proofs.Shapes.FallFacts.{root_alone, last_step}
use Rattle.p3_merkle_core.proofs.Shapes.GateFacts.{gate_lawful}
use Rattle.p3_merkle_core.proofs.Shapes.ArityFacts.{arity_from, is_arity_from}
use Rattle.p3_merkle_core.proofs.laws.shape.Goals as goal

pub returns-clause-ends : goal.returns-clause-ends
returns-clause-ends c = λ s w. (exponent_at_levels s w, length-map-range_with_len (step s) 0 (levels s), levels_le s)

pub returns-clause-layers : goal.returns-clause-layers
returns-clause-layers c = λ s k w. layer_of_is s w k

pub returns-clause-rows : goal.returns-clause-rows
returns-clause-rows c = λ s k i w lawful inside below.
    (row_below s (get_or (heights s) k 0) i (lawful.on_ladder k 0 inside) below, row_is_anc s w k i inside below)

pub returns-clause-root : goal.returns-clause-root
returns-clause-root c = λ s w some. (root_alone s w some, last_step s w)

pub returns-clause-schedule : goal.returns-clause-schedule
returns-clause-schedule c = λ s rule cap_height.
    let t = cap_layer s rule cap_height in
    let short = length-map-range_with_len (step s) 0 t in
    (sym (take-map-range_with_len (step s) 0 (levels s) t (omega arith)), omega (arith, short, levels_le s))

pub returns-clause-gate : goal.returns-clause-gate
returns-clause-gate c = gate_lawful

pub returns-clause-arities : goal.returns-clause-arities
returns-clause-arities c = λ n. (arity_from n, is_arity_from n)
