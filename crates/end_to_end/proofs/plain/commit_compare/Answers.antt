-- The opening is honest and accepted, and the claimed one is compared with it.
use Rattle.std.proofs.Common.{◌∙◌, List, refl, subst}
use Rattle.p3_support.specs.Shown.{roots_of, row_lists}
use Rattle.p3_support.specs.declared.matrix.Dimensions.{Dimensions}
use Rattle.p3_merkle_tree.specs.Extraction.{IsExtraction}
use Rattle.p3_merkle_tree.specs.Geometry.{shape_of}
use Rattle.p3_merkle_tree.specs.Nodes.{shape}
use Rattle.p3_merkle_tree.specs.Openings.{Opening, opening_of}
use Rattle.p3_merkle_tree.specs.Parts.{tree_batch}
use Rattle.p3_merkle_tree.specs.Presented.{presented, IsExactVerdict}
use Rattle.p3_merkle_tree.specs.Schemes.{cap_rule_of, params_of}
use Rattle.p3_merkle_tree.specs.Views.{found_alone, opening_borrowed, opening_owned}
use Rattle.end_to_end.proofs.ComparisonFacts.{compared}
use Rattle.end_to_end.proofs.RefusalFacts.{accepted_unrefused}
use Rattle.end_to_end.proofs.plain.commit_compare.Goals as goal

pub returns-clause-opened : goal.returns-clause-opened
returns-clause-opened g c =
    let committed = c.in_ok-cap.ensures.committed in
    let opened = c.in_ok-opening.ensures.opened in
    record {
      opened = opened.is_honest committed.own_layers;
      accepted = opened.is_accepted (roots_of c.in_ok-cap.cap) committed;
    }

pub returns-clause-verdict : goal.returns-clause-verdict
returns-clause-verdict g c =
    let at = λ (ds : List Dimensions). params_of c.args.scheme.now (shape_of g.row.N ds) in
    let same = c.deref.ensures.value ∙ c.in_ok-cap.ensures.dimensions in
    let shown = c.from-honest.ensures in
    let is = subst (λ (z : List Dimensions × Opening _ _). IsExactVerdict
    (presented g.PW.Value.PartialEq.eq (at z.0) (roots_of c.in_ok-cap.cap) z.1) c.verify_batch-verdict.result)
    (λ i. (same i, opening_of c.args.index (row_lists (shown.0 i)) (shown.1 i).items))
    c.verify_batch-verdict.ensures in
    is.accepted.1 (returns-clause-opened g c).accepted

pub returns-clause-compared : goal.returns-clause-compared
returns-clause-compared g c =
    let row_eq = g.P.Value.PartialEq.eq in
    let digest_eq = g.PW.Value.PartialEq.eq in
    let scheme = c.args.scheme.now in
    let rule = cap_rule_of scheme in
    let at = λ (ds : List Dimensions). params_of scheme (shape_of g.row.N ds) in
    let p = params_of scheme (shape (tree_batch c.in_ok-cap.tree)) in
    let cap = roots_of c.in_ok-cap.cap in
    let o = opening_borrowed c.args.index c.args.claimed in
    let u = opening_owned c.args.index c.in_ok-opening.opening in
    let r = c.extract_collision-found.result in
    let accepted = c.in_ok-opening.ensures.opened.is_accepted cap c.in_ok-cap.ensures.committed in
    let same = c.deref-2.ensures.value ∙ c.in_ok-cap.ensures.dimensions in
    let lent = c.from-honest.ensures in
    let is = subst (λ (z : List Dimensions × Opening _ _). IsExtraction row_eq digest_eq rule (at z.0)
    (presented digest_eq (at z.0) cap o) (presented digest_eq (at z.0) cap z.1) (found_alone r))
    (λ i. (same i, opening_of c.args.index (row_lists (lent.0 i)) (lent.1 i).items))
    c.extract_collision-found.ensures.extraction in
    let unrefused = accepted_unrefused row_eq digest_eq p cap g.met.P.PackedValue.eq_is_equality
    g.met.PW.PackedValue.eq_is_equality c.answers.ensures.single u accepted in
    compared row_eq digest_eq rule p cap o u refl unrefused accepted r is
