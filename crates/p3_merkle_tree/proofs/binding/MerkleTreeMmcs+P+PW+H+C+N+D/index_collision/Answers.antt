-- What is extracted from both openings, which are read out of the trees' layers.
use Rattle.std.proofs.Common.{◌≡◌, ◌∙◌, ap, arith, subst, sym}
use Rattle.std.proofs.lemmas.Result.{err_from_is_err_and}
use Rattle.p3_support.specs.Batches.{greatest}
use Rattle.p3_support.specs.Shown.{roots_of, row_lists}
use Rattle.p3_merkle_core.specs.Checks.{IsAccepted}
use Rattle.p3_merkle_core.specs.Commitments.{IsCommitment}
use Rattle.p3_merkle_core.specs.Extraction.{IsExtraction}
use Rattle.p3_merkle_core.specs.Geometry.{Shape, heights, shape_of}
use Rattle.p3_merkle_core.specs.Nodes.{shape}
use Rattle.p3_merkle_core.specs.Openings.{Opening, opening_in_layers, opening_of}
use Rattle.p3_merkle_core.specs.Presented.{presented}
use Rattle.p3_merkle_core.specs.Views.{found_alone, opening_borrowed, opening_owned}
use Rattle.p3_merkle_prover.specs.Parts.{layers_of, tree_batch}
use Rattle.p3_merkle_tree.specs.Schemes.{cap_rule_of, params_of}
use Rattle.p3_merkle_tree.proofs.BindingFacts.{found_at, no_memory}
use Rattle.p3_merkle_tree.proofs.binding.MerkleTreeMmcs+P+PW+H+C+N+D.index_collision.Goals as goal

pub returns-then-index-max_height : goal.returns-then-index-max_height
returns-then-index-max_height g c one_shape =
    let one_height = ap (λ (s : Shape). greatest (heights s)) one_shape in
    absurd (omega (arith, one_height, c.requires, c.max_height-max_height.ensures))

pub returns-in_err-opening : goal.returns-in_err-opening
returns-in_err-opening g c one_shape =
    let left = err_from_is_err_and c.from_residual.result c.from_residual.ensures.1 in
    no_memory _ _ _ _ _ _ c.args.index c.from_residual.result left.0 _ left.1 left.2 c.in_err-opening.ensures.memory

pub returns-in_err-other : goal.returns-in_err-other
returns-in_err-other g c one_shape =
    let left = err_from_is_err_and c.from_residual-in_err-other.result c.from_residual-in_err-other.ensures.1 in
    no_memory _ _ _ _ _ _ c.args.index c.from_residual-in_err-other.result left.0 _ left.1 left.2
    c.in_err-other.ensures.memory

pub returns : goal.returns
returns g c one_shape =
    let row_eq = g.P.Value.PartialEq.eq in
    let digest_eq = g.PW.Value.PartialEq.eq in
    let scheme = c.args.self.now in
    let rule = cap_rule_of scheme in
    let at = λ (s : Shape). params_of scheme s in
    let cap = roots_of c.args.commit.now in
    let i = c.args.index in
    let a = tree_batch c.args.first.now in
    let b = tree_batch c.args.second.now in
    let stored = layers_of c.args.first.now in
    let others = layers_of c.args.second.now in
    let r = c.extract_collision.result in
    let opened = c.in_ok-opening.ensures.opened in
    let other = c.in_ok-other.ensures.opened in
    let lent = c.from.ensures in
    let lent_other = c.from-2.ensures in
    let same = ap (λ (s : Shape). shape_of g.row.N s.dimensions) c.tree_schedule.ensures in
    let own : opening_borrowed i c.from.result ≡ opening_owned i c.in_ok-opening.opening =
    λ k. opening_of i (row_lists (lent.0 k)) (lent.1 k).items in
    let others_own : opening_borrowed i c.from-2.result ≡ opening_owned i c.in_ok-other.other =
    λ k. opening_of i (row_lists (lent_other.0 k)) (lent_other.1 k).items in
    let at_own = ap (λ (s : Shape). opening_in_layers b others (at s).layer i) (sym one_shape) in
    let is = subst (λ (z : Shape × (Opening _ _ × Opening _ _)). IsExtraction row_eq digest_eq rule (at z.0)
    (presented digest_eq (at z.0) cap z.1.0) (presented digest_eq (at z.0) cap z.1.1) (found_alone r))
    (λ k. (same k, ((own ∙ opened.in_layers) k, (others_own ∙ other.in_layers ∙ at_own) k)))
    c.extract_collision.ensures.extraction in
    found_at (at (shape a)) cap a stored b others row_eq digest_eq rule i r
    (λ committed. subst (IsAccepted (at (shape a)) cap) opened.in_layers (opened.is_accepted cap committed))
    (λ committed. subst (IsAccepted (at (shape a)) cap) (other.in_layers ∙ at_own)
    (subst (λ (s : Shape). IsAccepted (at s) cap (opening_owned i c.in_ok-other.other)) (sym one_shape)
    (other.is_accepted cap (subst (λ (s : Shape). IsCommitment (at s) cap b others) one_shape committed)))) is
