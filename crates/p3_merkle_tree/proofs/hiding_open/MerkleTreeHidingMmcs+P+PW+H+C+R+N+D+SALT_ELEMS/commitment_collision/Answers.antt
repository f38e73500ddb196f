-- What is found in rows followed by their salts tells of both.
use Rattle.p3_support.specs.Shown.{roots_of}
use Rattle.p3_merkle_core.specs.Nodes.{shape}
use Rattle.p3_merkle_prover.specs.Parts.{layers_of, matrices_of, tree_batch}
use Rattle.p3_merkle_tree.specs.HidingSchemes.{plain_of}
use Rattle.p3_merkle_tree.specs.Schemes.{cap_rule_of, params_of}
use Rattle.p3_merkle_tree.proofs.SaltedBindingFacts.{one_shape, tells_of_salts}
use Rattle.p3_merkle_tree.proofs.hiding_open.MerkleTreeHidingMmcs+P+PW+H+C+R+N+D+SALT_ELEMS.commitment_collision.Goals as goal

pub returns : goal.returns
returns g c alike =
    let n = g.row.N in
    let e = g.row.SALT_ELEMS in
    let plain = plain_of c.args.self.now in
    let first = c.args.first.now in
    let second = c.args.second.now in
    let is = c.commitment_collision.ensures (one_shape n e (matrices_of first) (matrices_of second) alike) in
    record {
      binding = is;
      tells = tells_of_salts n e (matrices_of first) (matrices_of second) alike g.met.A.Matrix.length_row_of
          g.met.B.Matrix.length_row_of (cap_rule_of plain) (params_of plain (shape (tree_batch first)))
          (roots_of c.args.commit.now) (layers_of first) (layers_of second) c.commitment_collision.result is;
    }
