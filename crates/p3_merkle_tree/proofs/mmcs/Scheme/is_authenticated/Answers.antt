-- The exponent of the matrix is compared with that of the cap's layer.
use Rattle.std.proofs.Common.{◌≡◌, ◌<◌, ap, sym, ◌∙◌, arith, get_or, length}
use Rattle.std.proofs.lemmas.List.{get_or-map, length-map}
use Rattle.p3_support.specs.declared.matrix.Dimensions.{Dimensions}
use Rattle.p3_merkle_core.specs.Geometry.{exponent, heights, layer_exponent, shape_of}
use Rattle.p3_merkle_tree.specs.Schemes.{cap_layer_of}
use Rattle.p3_merkle_tree.proofs.AuthenticFacts.{authenticated_is}
use Rattle.p3_merkle_core.proofs.Collisions.ExtractionFacts.{all_authenticated}
use Rattle.p3_merkle_tree.proofs.mmcs.Scheme.is_authenticated.Goals as goal

pub returns-clause-authenticated : goal.returns-clause-authenticated
returns-clause-authenticated g c =
    let dimensions = c.args.dimensions.now in
    let s = shape_of g.row.N dimensions in
    let t = cap_layer_of c.args.self.now s in
    let k = c.args.matrix in
    let made = c.schedule_of-schedule.ensures in
    let cap = rw (made.arity, made.dimensions) at c.cap_layer-cap_layer.ensures in
    let at_cap : c.layer_exponent.result ≡ layer_exponent s t = rw (made.arity, made.dimensions, cap) at
    c.layer_exponent.ensures in
    let own : c.exponent_of.result ≡ exponent (get_or (heights s) k 0) =
    c.exponent_of.ensures
    ∙ ap exponent
    (sym (get_or-map (λ (d : Dimensions). d.height) dimensions k (record { width = 0; height = 0 }) 0 c.requires))
    in
    rw (at_cap, own)
    (authenticated_is s t k c.args.self.now.arity (omega arith)
    (omega (arith, c.requires, length-map dimensions (λ (d : Dimensions). d.height))))

pub returns-clause-lowered : goal.returns-clause-lowered
returns-clause-lowered g c = λ rule.
    let s = shape_of g.row.N c.args.dimensions.now in
    let scheme = c.args.self.now in
    let inside : c.args.matrix < length (heights s) =
    omega (arith, c.requires, length-map c.args.dimensions.now (λ (d : Dimensions). d.height)) in
    rw (returns-clause-authenticated g c)
    (all_authenticated s scheme.cap_rule scheme.cap_height scheme.arity rule c.args.matrix inside)
