-- The facts of the tree that is made.
use Rattle.std.proofs.Common.{List, arith, replicate, ap, subst, sym, ◌∙◌}
use Rattle.p3_support.specs.Batches.{heights_of}
use Rattle.p3_support.specs.declared.matrix.Dimensions.{Dimensions}
use Rattle.p3_merkle_core.specs.Geometry.{shape_of, IsLawful}
use Rattle.p3_merkle_core.specs.Views.{batch_of}
use Rattle.p3_merkle_core.specs.Nodes.{functions_of, layers}
use Rattle.p3_merkle_core.proofs.Lists.ViewFacts.{dimensions_are}
use Rattle.p3_merkle_core.proofs.Shapes.ArityFacts.{arity_from}
use Rattle.p3_merkle_prover.proofs.TreeFacts.{lengths_from}
use Rattle.p3_merkle_prover.proofs.checked.tree_over.Goals as goal

pub new-kept-requires : goal.new-kept-requires
new-kept-requires g c = omega (arith, (arity_from g.row.N c.requires.arity).above_1)

pub invariant_of-builder-clause-build : goal.invariant_of-builder-clause-build
invariant_of-builder-clause-build g c =
    let own = c.args.checked.own
    ∙ sym (dimensions_are g.M.Matrix.height_of g.M.Matrix.width_of g.M.Matrix.row_of c.args.checked.matrices.items) in
    rw c.deref.ensures.value (record {
      arity = arity_from g.row.N c.requires.arity;
      lawful = subst (λ (ds : List Dimensions). IsLawful (heights_of ds)) own c.args.checked.lawful;
      same = c.schedule-schedule.ensures.dimensions ∙ c.new-kept.ensures.dimensions ∙ own;
    })

pub returns-clause-layers : goal.returns-clause-layers
returns-clause-layers g c =
    let f = functions_of (g.H.CryptographicHasher.hash c.args.hash.now)
    (g.C.PseudoCompressionFunction.compression c.args.compress.now)
    (replicate g.row.D g.PW.PackedValue.default_value) in
    c.in_ok-layers.ensures
    ∙ ap (λ ms. layers f (batch_of g.M.Matrix.height_of g.M.Matrix.width_of g.M.Matrix.row_of g.row.N ms))
    c.deref.ensures.value

pub invariant_of-result-clause-arity : goal.invariant_of-result-clause-arity
invariant_of-result-clause-arity g c = arity_from g.row.N c.requires.arity

pub invariant_of-result-clause-lawful : goal.invariant_of-result-clause-lawful
invariant_of-result-clause-lawful g c =
    let own = c.args.checked.own
    ∙ sym (dimensions_are g.M.Matrix.height_of g.M.Matrix.width_of g.M.Matrix.row_of c.args.checked.matrices.items) in
    subst (λ (ds : List Dimensions). IsLawful (heights_of ds)) own c.args.checked.lawful

pub invariant_of-result-clause-layer_lengths : goal.invariant_of-result-clause-layer_lengths
invariant_of-result-clause-layer_lengths g c =
    let f = functions_of (g.H.CryptographicHasher.hash c.args.hash.now)
    (g.C.PseudoCompressionFunction.compression c.args.compress.now)
    (replicate g.row.D g.PW.PackedValue.default_value) in
    lengths_from (λ nodes. nodes.items) c.in_ok-layers.layers.items f
    (batch_of g.M.Matrix.height_of g.M.Matrix.width_of g.M.Matrix.row_of g.row.N c.args.checked.matrices.items)
    (c.in_ok-layers.ensures
    ∙ ap (λ ms. layers f (batch_of g.M.Matrix.height_of g.M.Matrix.width_of g.M.Matrix.row_of g.row.N ms))
    c.deref.ensures.value)

pub invariant_of-result-clause-own_shape : goal.invariant_of-result-clause-own_shape
invariant_of-result-clause-own_shape g c =
    let own = c.args.checked.own
    ∙ sym (dimensions_are g.M.Matrix.height_of g.M.Matrix.width_of g.M.Matrix.row_of c.args.checked.matrices.items) in
    rw c.new-kept.ensures.arity (ap (shape_of g.row.N) (c.new-kept.ensures.dimensions ∙ own))
