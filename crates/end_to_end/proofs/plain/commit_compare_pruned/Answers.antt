-- The opening is honest and accepted, and the claimed one is compared with it.
use Rattle.std.proofs.Common.{◌∙◌, List, refl, subst}
use Rattle.p3_support.specs.Shown.{roots_of, row_sets}
use Rattle.p3_support.specs.declared.matrix.Dimensions.{Dimensions}
use Rattle.p3_merkle_tree.specs.Extraction.{IsExtraction, IsOnlyOpening}
use Rattle.p3_merkle_tree.specs.Geometry.{shape_of}
use Rattle.p3_merkle_tree.specs.Nodes.{shape}
use Rattle.p3_merkle_tree.specs.Parts.{tree_batch}
use Rattle.p3_merkle_tree.specs.Presented.{presented_pruned, IsVerdict}
use Rattle.p3_merkle_tree.specs.Pruning.{PrunedOpening, pruned_of}
use Rattle.p3_merkle_tree.specs.Schemes.{cap_rule_of, params_of}
use Rattle.p3_merkle_tree.specs.Views.{found_pair, pruned_borrowed, pruned_owned}
use Rattle.end_to_end.proofs.ComparisonFacts.{compared_pruned}
use Rattle.end_to_end.proofs.RefusalFacts.{pruned_unrefused}
use Rattle.end_to_end.proofs.SaltedFacts.{memory_left}
use Rattle.end_to_end.proofs.plain.commit_compare_pruned.Goals as goal

pub returns-clause-opened : goal.returns-clause-opened
returns-clause-opened g c =
    let committed = c.in_ok-cap.ensures.committed in
    let opened = c.in_ok-opening.ensures.opened in
    record {
      opened = opened.is_honest committed.own_layers;
      accepted = opened.is_accepted (roots_of c.in_ok-cap.cap) committed;
    }

pub returns-clause-verdict : goal.returns-clause-verdict
returns-clause-verdict g c =
    let at = λ (ds : List Dimensions). params_of c.args.scheme.now (shape_of g.row.N ds) in
    let shows = λ (ds : List Dimensions) (p : PrunedOpening _ _).
    presented_pruned g.P.Value.PartialEq.eq g.PW.Value.PartialEq.eq (at ds) (roots_of c.in_ok-cap.cap) p in
    let indices = c.args.indices.now in
    let opening = c.in_ok-opening.opening in
    let same = c.deref.ensures.value ∙ c.in_ok-cap.ensures.dimensions in
    let sets = c.deref-2.ensures.value in
    let r = c.verify_batch_pruned-verdict.result in
    memory_left (shows (shape (tree_batch c.in_ok-cap.tree)).dimensions (pruned_owned indices opening)) r
    (subst (λ (z : List Dimensions × PrunedOpening _ _). IsVerdict (shows z.0 z.1) r)
    (λ i. (same i, pruned_of indices (row_sets (sets i)) opening.pruned_proof.sibling_hashes.items))
    c.verify_batch_pruned-verdict.ensures.verdict)
    (returns-clause-opened g c).accepted

pub returns-clause-compared : goal.returns-clause-compared
returns-clause-compared g c =
    let row_eq = g.P.Value.PartialEq.eq in
    let digest_eq = g.PW.Value.PartialEq.eq in
    let scheme = c.args.scheme.now in
    let rule = cap_rule_of scheme in
    let at = λ (ds : List Dimensions). params_of scheme (shape_of g.row.N ds) in
    let k = params_of scheme (shape (tree_batch c.in_ok-cap.tree)) in
    let cap = roots_of c.in_ok-cap.cap in
    let indices = c.args.indices.now in
    let p = pruned_borrowed indices c.args.rows.now c.args.proof.now in
    let q = pruned_owned indices c.in_ok-opening.opening in
    let r = c.extract_collision_multi-found.result in
    let accepted = c.in_ok-opening.ensures.opened.is_accepted cap c.in_ok-cap.ensures.committed in
    let same = c.deref-3.ensures.value ∙ c.in_ok-cap.ensures.dimensions in
    let lent = c.deref-4.ensures.value in
    let is = subst (λ (z : List Dimensions × PrunedOpening _ _). IsExtraction row_eq digest_eq rule (at z.0)
    (presented_pruned row_eq digest_eq (at z.0) cap p) (presented_pruned row_eq digest_eq (at z.0) cap z.1)
    (found_pair r))
    (λ i. (same i, pruned_of indices (row_sets (lent i)) c.in_ok-opening.opening.pruned_proof.sibling_hashes.items))
    c.extract_collision_multi-found.ensures.extraction in
    let one = subst (λ (z : List Dimensions × PrunedOpening _ _). IsOnlyOpening rule (at z.0) p z.1 r)
    (λ i. (same i, pruned_of indices (row_sets (lent i)) c.in_ok-opening.opening.pruned_proof.sibling_hashes.items))
    c.extract_collision_multi-found.ensures.only in
    let unrefused = pruned_unrefused row_eq digest_eq k cap g.met.P.PackedValue.eq_is_equality
    g.met.PW.PackedValue.eq_is_equality c.answers.ensures.each_path scheme.arity q accepted in
    compared_pruned row_eq digest_eq rule k cap p q refl c.extraction.ensures.one_index scheme.arity unrefused accepted
    r is one
