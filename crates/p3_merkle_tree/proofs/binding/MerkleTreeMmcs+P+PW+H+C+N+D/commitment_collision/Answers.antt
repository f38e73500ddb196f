-- No index so far gives a collision; where none does, all openings agree, and so do all rows.
use borrow.Author.Count.{below_more}
use Rattle.std.proofs.Common.{arith, refl, subst, sym}
use Rattle.std.proofs.lemmas.Result.{err_from_is_err_and}
use Rattle.std.specs.Prelude.{Err}
use Rattle.p3_support.specs.Shown.{roots_of}
use Rattle.p3_merkle_core.specs.Nodes.{shape}
use Rattle.p3_merkle_core.proofs.Collisions.ExtractionFacts.{all_authenticated}
use Rattle.p3_merkle_prover.specs.Parts.{layers_of, tree_batch}
use Rattle.p3_merkle_tree.specs.Binding.{IsBinding}
use Rattle.p3_merkle_tree.specs.Inner.IndexBinding.{AgreeAt, IsFoundAt}
use Rattle.p3_merkle_tree.specs.Schemes.{cap_layer_of, cap_rule_of, functions_of, params_of}
use Rattle.p3_merkle_tree.proofs.BindingFacts.{binds_err, binds_none, binds_some}
use Rattle.p3_merkle_tree.proofs.SameNodes.{committed_alike}
use Rattle.p3_merkle_tree.proofs.binding.MerkleTreeMmcs+P+PW+H+C+N+D.commitment_collision.Goals as goal

pub loop-index-init : goal.loop-index-init
loop-index-init g c one_shape i below = absurd (omega arith)

pub loop-index-preserved : goal.loop-index-preserved
loop-index-preserved g c one_shape =
    let a = tree_batch c.args.first.now in
    let b = tree_batch c.args.second.now in
    let found = rw c.in_default.is at (c.in_ok-found.ensures one_shape) in
    below_more
    (AgreeAt (params_of c.args.self.now (shape a)) a (layers_of c.args.first.now) b (layers_of c.args.second.now))
    c.loop-index.index (c.loop-index.invariant one_shape) (found.agree refl)

pub returns-in_err-found : goal.returns-in_err-found
returns-in_err-found g c one_shape =
    let scheme = c.args.self.now in
    let a = tree_batch c.args.first.now in
    let b = tree_batch c.args.second.now in
    let k = params_of scheme (shape a) in
    let cap = roots_of c.args.commit.now in
    let stored = layers_of c.args.first.now in
    let others = layers_of c.args.second.now in
    let i = c.loop-index.index in
    let left = err_from_is_err_and c.from_residual.result c.from_residual.ensures.1 in
    subst (IsBinding k cap a stored b others (cap_rule_of scheme)) (sym left.1)
    (binds_err k cap a stored b others (cap_rule_of scheme) i left.0
    (subst (λ e. IsFoundAt k cap a stored b others i (Err e)) (sym left.2) (c.in_err-found.ensures one_shape)))

pub returns-in-Some : goal.returns-in-Some
returns-in-Some g c one_shape =
    let scheme = c.args.self.now in
    let a = tree_batch c.args.first.now in
    let b = tree_batch c.args.second.now in
    let cap = roots_of c.args.commit.now in
    let stored = layers_of c.args.first.now in
    let others = layers_of c.args.second.now in
    let i = c.loop-index.index in
    binds_some (params_of scheme (shape a)) cap a stored b others (cap_rule_of scheme) i c.in-Some.collision
    (omega arith)
    (λ both same. committed_alike (functions_of scheme) a b (cap_layer_of scheme (shape a)) one_shape scheme.arity
    c.args.first.now.lawful (omega arith) same cap stored others both i (omega arith))
    (rw c.in-Some.is at (c.in_ok-found.ensures one_shape))

pub returns : goal.returns
returns g c one_shape =
    let scheme = c.args.self.now in
    let a = tree_batch c.args.first.now in
    let b = tree_batch c.args.second.now in
    binds_none (params_of scheme (shape a)) (roots_of c.args.commit.now) a (layers_of c.args.first.now) b
    (layers_of c.args.second.now) (cap_rule_of scheme) one_shape refl c.args.first.now.lawful
    (all_authenticated (shape a) scheme.cap_rule scheme.cap_height scheme.arity)
    (λ i below. c.loop-index.invariant one_shape i (omega arith))
