use Rattle.std.proofs.Common.{◌≡◌, map, take}
use Rattle.p3_support.specs.Pairs.{left_of}
use Rattle.p3_merkle_tree.proofs.hiding_open.MerkleTreeHidingMmcs+P+PW+H+C+R+N+D+SALT_ELEMS.get_matrices.Given as goal

-- those of the pairs so far
abbrev pub invariant-loop-pair : goal.invariant-loop-pair
invariant-loop-pair g l =
    map (λ m. m.now) l.matrices.items ≡ map (λ p. left_of p.now) (take l.pair-index l.pair-items)
