-- The steps are those of the dimensions.
use Rattle.std.proofs.Common.{refl}
use Rattle.p3_merkle_tree.specs.Schemes.{functions_of}
use Rattle.p3_merkle_tree.proofs.CheckFacts.{params_alike}
use Rattle.p3_merkle_tree.proofs.mmcs.MerkleTreeMmcs+P+PW+H+C+N+D.checker.Goals as goal

pub returns : goal.returns
returns g c =
    let scheme = c.args.self.now in
    let made = c.schedule_of-schedule in
    params_alike g.row.N c.args.dimensions.now scheme.cap_rule scheme.cap_height made.result
    c.cap_layer-cap_layer.result
    made.ensures.arity made.ensures.dimensions c.cap_layer-cap_layer.ensures (functions_of scheme) (functions_of scheme)
    made.result.arity refl made.ensures.arity
