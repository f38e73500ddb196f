-- The answer is that of the openings in parts. Two openings of one list are one where nothing is found.
use Rattle.std.proofs.Common.{subst}
use Rattle.p3_support.specs.Shown.{roots_of}
use Rattle.p3_merkle_core.specs.Extraction.{IsExtraction}
use Rattle.p3_merkle_core.specs.Geometry.{shape_of}
use Rattle.p3_merkle_core.specs.Presented.{Presented}
use Rattle.p3_merkle_core.specs.Refusals.{Refuses, pruned_early}
use Rattle.p3_merkle_core.specs.Views.{found_pair, pruned_borrowed}
use Rattle.p3_merkle_core.proofs.Collisions.ExtractionFacts.{all_authenticated}
use Rattle.p3_merkle_tree.specs.Committed.{presented_pruned_under}
use Rattle.p3_merkle_tree.specs.Schemes.{cap_rule_of, params_of}
use Rattle.p3_merkle_tree.proofs.OnlyFacts.{only_told}
use Rattle.p3_merkle_tree.proofs.extract.MerkleTreeMmcs+P+PW+H+C+N+D.extract_collision_multi.Goals as goal

pub returns-clause-extraction : goal.returns-clause-extraction
returns-clause-extraction g c =
    let scheme = c.args.self.now in
    let ds = c.args.dimensions.now in
    subst (λ (both : Presented _ _ × Presented _ _). IsExtraction g.P.Value.PartialEq.eq g.PW.Value.PartialEq.eq
    (cap_rule_of scheme) (params_of scheme (shape_of g.row.N ds)) both.0 both.1
    (found_pair c.pruned_extraction.result))
    (λ i. (
      presented_pruned_under scheme ds (c.roots.ensures i) (c.new-first.ensures i),
      presented_pruned_under scheme ds (c.roots.ensures i) (c.new-second.ensures i),
    )) c.pruned_extraction.ensures.extraction

pub returns-clause-only : goal.returns-clause-only
returns-clause-only g c =
    let scheme = c.args.self.now in
    let s = shape_of g.row.N c.args.dimensions.now in
    only_told scheme.cap_rule (params_of scheme s) (roots_of c.args.commit.now) scheme.arity
    (all_authenticated s scheme.cap_rule scheme.cap_height scheme.arity) g.P.Value.PartialEq.eq
    g.PW.Value.PartialEq.eq (pruned_borrowed c.args.indices1.now c.args.rows1.now c.args.proof1.now)
    (pruned_borrowed c.args.indices2.now c.args.rows2.now c.args.proof2.now) c.pruned_extraction.result
    (returns-clause-extraction g c)

pub returns-clause-checked : goal.returns-clause-checked
returns-clause-checked g c =
    let s = shape_of g.row.N c.args.dimensions.now in
    subst (λ opening. Refuses c.pruned_extraction.result (pruned_early s opening)) c.new-first.ensures
    c.pruned_extraction.ensures.checked
