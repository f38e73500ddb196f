-- The opening is honest and accepted, and the claimed one is compared with it.
use Rattle.std.proofs.Common.{◌∙◌, List, refl, subst}
use Rattle.p3_support.specs.Shown.{roots_of, row_sets}
use Rattle.p3_support.specs.declared.matrix.Dimensions.{Dimensions}
use Rattle.p3_merkle_tree.specs.HidingSchemes.{plain_of, salted_params_of, salted_pruned_borrowed, salted_pruned_owned}
use Rattle.p3_merkle_tree.specs.Parts.{matrices_of}
use Rattle.p3_merkle_tree.specs.SaltedExtraction.{IsOnlySaltedOpening, IsSaltedPrunedExtraction}
use Rattle.p3_merkle_tree.specs.SaltedOpenings.{SaltedPruned, salted_pruned_of}
use Rattle.p3_merkle_tree.specs.SaltedTrees.{unsalted_dimensions}
use Rattle.p3_merkle_tree.specs.Schemes.{cap_rule_of}
use Rattle.p3_merkle_tree.specs.Presented.{IsVerdict}
use Rattle.p3_merkle_tree.specs.SaltedPresented.{presented_salted_pruned}
use Rattle.end_to_end.proofs.ComparisonFacts.{compared_salted_pruned}
use Rattle.end_to_end.proofs.RefusalFacts.{salted_pruned_unrefused}
use Rattle.end_to_end.proofs.SaltedFacts.{memory_left}
use Rattle.end_to_end.proofs.salted.salted_commit_compare_pruned.Goals as goal

pub returns-clause-opened : goal.returns-clause-opened
returns-clause-opened g c =
    let committed = c.in_ok-cap.ensures.committed in
    let opened = c.in_ok-opening.ensures.opened in
    record {
      rows = opened.rows;
      salts = opened.salts;
      digests = opened.is_honest committed.committed.own_layers;
      accepted = opened.is_accepted (roots_of c.in_ok-cap.cap) committed;
    }

pub returns-clause-verdict : goal.returns-clause-verdict
returns-clause-verdict g c =
    let e = g.row.SALT_ELEMS in
    let cap = roots_of c.in_ok-cap.cap in
    let presented = λ (ds : List Dimensions) (p : SaltedPruned _ _). presented_salted_pruned g.P.Value.PartialEq.eq
    g.PW.Value.PartialEq.eq e ds (salted_params_of c.salted_committed.new.scheme ds) cap p in
    let same = c.deref.ensures.value ∙ c.in_ok-cap.ensures.dimensions in
    let lent = c.deref-2.ensures.value in
    let proof = c.in_ok-opening.opening.1 in
    let is = subst (λ (z : List Dimensions × SaltedPruned _ _).
    IsVerdict (presented z.0 z.1) c.verify_multi_batch-verdict.result)
    (λ i. (
      same i,
      salted_pruned_of c.args.indices.now (row_sets (lent i)) (row_sets proof.0.items) proof.1.sibling_hashes.items,
    ))
    c.verify_multi_batch-verdict.ensures.verdict in
    memory_left (presented (unsalted_dimensions g.row.N (matrices_of c.in_ok-cap.tree))
    (salted_pruned_owned c.args.indices.now c.in_ok-opening.opening)) c.verify_multi_batch-verdict.result is
    (returns-clause-opened g c).accepted

pub returns-clause-compared : goal.returns-clause-compared
returns-clause-compared g c =
    let row_eq = g.P.Value.PartialEq.eq in
    let digest_eq = g.PW.Value.PartialEq.eq in
    let e = g.row.SALT_ELEMS in
    let scheme = c.salted_committed.new.scheme in
    let rule = cap_rule_of (plain_of scheme) in
    let arity = (plain_of scheme).arity in
    let ds = unsalted_dimensions g.row.N (matrices_of c.in_ok-cap.tree) in
    let k = salted_params_of scheme ds in
    let cap = roots_of c.in_ok-cap.cap in
    let p = salted_pruned_borrowed c.args.indices.now c.args.rows.now c.args.proof.now in
    let q = salted_pruned_owned c.args.indices.now c.in_ok-opening.opening in
    let accepted = (returns-clause-opened g c).accepted in
    let same = c.deref-3.ensures.value ∙ c.in_ok-cap.ensures.dimensions in
    let lent = c.deref-4.ensures.value in
    let proof = c.in_ok-opening.opening.1 in
    let r = c.extract_collision_multi-found.result in
    let is = subst (λ (z : List Dimensions × SaltedPruned _ _).
    IsSaltedPrunedExtraction row_eq digest_eq rule e z.0 (salted_params_of scheme z.0) cap p z.1 r)
    (λ i. (
      same i,
      salted_pruned_of c.args.indices.now (row_sets (lent i)) (row_sets proof.0.items) proof.1.sibling_hashes.items,
    )) c.extract_collision_multi-found.ensures.extraction in
    let one = subst (λ (z : List Dimensions × SaltedPruned _ _).
    IsOnlySaltedOpening rule (salted_params_of scheme z.0) p z.1 r)
    (λ i. (
      same i,
      salted_pruned_of c.args.indices.now (row_sets (lent i)) (row_sets proof.0.items) proof.1.sibling_hashes.items,
    )) c.extract_collision_multi-found.ensures.only in
    let unrefused = salted_pruned_unrefused row_eq digest_eq e ds k cap g.met.P.PackedValue.eq_is_equality
    g.met.PW.PackedValue.eq_is_equality c.answers.ensures.each_path arity q accepted in
    compared_salted_pruned row_eq digest_eq rule e ds k cap p q refl c.extraction.ensures.one_index arity unrefused
    accepted r is one
