-- The derived test: leaves, then siblings.
use Rattle.std.proofs.Common.{eq-eqb}
use Rattle.std.proofs.lemmas.Bool.{eqb-true}
use Rattle.std.specs.Cmp.Lexicographic.{pointwise_decides}
use Rattle.p3_merkle_core.specs.Views.{shown_path}
use Rattle.p3_merkle_core.proofs.Lists.ViewFacts.{both_parts}
use Rattle.p3_merkle_core.proofs.laws.merkle_auth_path_eq.Goals as goal

pub returns : goal.returns
returns g c =
    let is = pointwise_decides g.met.PW.PackedValue.eq_is_equality in
    let a = c.args.a.now in
    let b = c.args.b.now in
    rw c.eq.ensures (both_parts _ _ (shown_path a) (shown_path b)
    (eqb-true a.leaf_index b.leaf_index, eq-eqb a.leaf_index b.leaf_index)
    (pointwise_decides is a.siblings.items b.siblings.items))
