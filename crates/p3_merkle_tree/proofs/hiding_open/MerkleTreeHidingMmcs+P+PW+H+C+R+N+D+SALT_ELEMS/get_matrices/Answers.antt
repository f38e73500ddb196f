-- The matrices so far are the left ones of the pairs so far, which are the matrices of the tree.
use Rattle.std.proofs.Common.{◌∙◌, ap, map, sym}
use Rattle.std.proofs.lemmas.Simd.{map-map}
use Rattle.p3_support.specs.Pairs.{left_of}
use Rattle.p3_merkle_tree.proofs.LoopFacts.{made_all, shown_more}
use Rattle.p3_merkle_tree.proofs.hiding_open.MerkleTreeHidingMmcs+P+PW+H+C+R+N+D+SALT_ELEMS.get_matrices.Goals as goal

pub loop-pair-preserved : goal.loop-pair-preserved
loop-pair-preserved g c =
    shown_more (λ m. m.now) (λ p. left_of p.now) c.deref-pair-items.result.now c.loop-pair.pair-index
    c.pair-item.result c.left.result c.loop-pair.matrices.items c.push.new.self.items c.loop-pair-test.true
    c.pair-item.is c.left.ensures c.in_ok-push.ensures.items c.loop-pair.invariant

pub returns-clause-matrices : goal.returns-clause-matrices
returns-clause-matrices g c =
    made_all (λ p. left_of p.now) c.deref-pair-items.result.now c.loop-pair.pair-index
    (map (λ m. m.now) c.loop-pair.matrices.items) c.loop-pair-test.false c.loop-pair.invariant
    ∙ ap (map (λ p. left_of p.now)) c.deref-pair-items.ensures.value
    ∙ sym (map-map left_of (λ p. p.now) c.in_ok-pairs.pairs.items) ∙ ap (map left_of) c.in_ok-pairs.ensures.matrices
