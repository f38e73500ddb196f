-- The opening is honest and accepted, and the claimed one is compared with it.
use Rattle.std.proofs.Common.{◌∙◌, List, refl, subst}
use Rattle.p3_support.specs.Shown.{roots_of, row_lists}
use Rattle.p3_support.specs.declared.matrix.Dimensions.{Dimensions}
use Rattle.p3_merkle_tree.specs.HidingSchemes.{plain_of, salted_borrowed, salted_owned, salted_params_of}
use Rattle.p3_merkle_tree.specs.Parts.{matrices_of}
use Rattle.p3_merkle_tree.specs.SaltedExtraction.{IsSaltedExtraction}
use Rattle.p3_merkle_tree.specs.SaltedOpenings.{SaltedOpening, salted_of}
use Rattle.p3_merkle_tree.specs.SaltedTrees.{unsalted_dimensions}
use Rattle.p3_merkle_tree.specs.Schemes.{cap_rule_of}
use Rattle.p3_merkle_tree.specs.Presented.{IsExactVerdict}
use Rattle.p3_merkle_tree.specs.SaltedPresented.{presented_salted}
use Rattle.end_to_end.proofs.ComparisonFacts.{compared_salted}
use Rattle.end_to_end.proofs.RefusalFacts.{salted_unrefused}
use Rattle.end_to_end.proofs.salted.salted_commit_compare.Goals as goal

pub returns-clause-opened : goal.returns-clause-opened
returns-clause-opened g c =
    let committed = c.in_ok-cap.ensures.committed in
    let opened = c.in_ok-opening.ensures.opened in
    record {
      rows = opened.rows;
      salts = opened.salts;
      siblings = opened.is_honest committed.committed.own_layers;
      accepted = opened.is_accepted (roots_of c.in_ok-cap.cap) committed;
    }

pub returns-clause-verdict : goal.returns-clause-verdict
returns-clause-verdict g c =
    let e = g.row.SALT_ELEMS in
    let cap = roots_of c.in_ok-cap.cap in
    let presented = λ (ds : List Dimensions) (o : SaltedOpening _ _).
    presented_salted g.PW.Value.PartialEq.eq e ds (salted_params_of c.salted_committed.new.scheme ds) cap o in
    let same = c.deref.ensures.value ∙ c.in_ok-cap.ensures.dimensions in
    let lent = c.from-honest.ensures in
    let is = subst (λ (z : List Dimensions × SaltedOpening _ _).
    IsExactVerdict (presented z.0 z.1) c.verify_batch-verdict.result)
    (λ i. (
      same i,
      salted_of c.args.index (row_lists (lent.0 i)) (row_lists (lent.1 i).0.items) (lent.1 i).1.items,
    ))
    c.verify_batch-verdict.ensures in
    is.accepted.1 (returns-clause-opened g c).accepted

pub returns-clause-compared : goal.returns-clause-compared
returns-clause-compared g c =
    let row_eq = g.P.Value.PartialEq.eq in
    let digest_eq = g.PW.Value.PartialEq.eq in
    let e = g.row.SALT_ELEMS in
    let scheme = c.salted_committed.new.scheme in
    let rule = cap_rule_of (plain_of scheme) in
    let ds = unsalted_dimensions g.row.N (matrices_of c.in_ok-cap.tree) in
    let k = salted_params_of scheme ds in
    let cap = roots_of c.in_ok-cap.cap in
    let o = salted_borrowed c.args.index c.args.claimed in
    let u = salted_owned c.args.index c.in_ok-opening.opening in
    let accepted = (returns-clause-opened g c).accepted in
    let same = c.deref-2.ensures.value ∙ c.in_ok-cap.ensures.dimensions in
    let lent = c.from-honest.ensures in
    let r = c.extract_collision-found.result in
    let is = subst (λ (z : List Dimensions × SaltedOpening _ _).
    IsSaltedExtraction row_eq digest_eq rule e z.0 (salted_params_of scheme z.0) cap o z.1 r)
    (λ i. (
      same i,
      salted_of c.args.index (row_lists (lent.0 i)) (row_lists (lent.1 i).0.items) (lent.1 i).1.items,
    )) c.extract_collision-found.ensures.extraction in
    let unrefused = salted_unrefused row_eq digest_eq e ds k cap g.met.P.PackedValue.eq_is_equality
    g.met.PW.PackedValue.eq_is_equality c.answers.ensures.single u accepted in
    compared_salted row_eq digest_eq rule e ds k cap o u refl unrefused accepted r is
