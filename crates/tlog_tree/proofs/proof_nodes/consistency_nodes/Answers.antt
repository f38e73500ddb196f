-- The proof from the `old` first nodes of the layer that is reached is that from the old size (`proof`): the last old
-- node, unless that is all, and then the path from it.
use Rattle.std.proofs.Common.{arith, length, ap, ◌∙◌, ◌≡◌, ◌<◌, ◌-◌, ◌/◌, ◌++◌, ◌∷◌, inl, inr, List, ℕ, []}
use Rattle.std.specs.Prelude.{true, ◌⊎◌}
use Rattle.tlog.specs.Rfc9162.{subproof}
use Rattle.tlog_tree.specs.Inner.Layers.{layer_of}
use Rattle.tlog_tree.specs.Trees.{id_of}
use Rattle.tlog_tree.specs.declared.node_id.NodeId.{NodeId}
use Rattle.tlog_tree.proofs.Paths.{consistency_is, layer_more, layer_none, length-layer, proof_half}
use Rattle.tlog_tree.proofs.proof_nodes.consistency_nodes.Goals as goal
use Rattle.tlog_tree.proofs.proof_nodes.consistency_nodes.Goals.{then-old-gt1+in_ok-push, else-old-gt1}

pub loop-old-init : goal.loop-old-init
loop-old-init c =
    let some = c.requires.some in
    let grown = c.requires.grown in
    record {
      some = some;
      below = omega arith;
      fits = omega arith;
      proof = λ hash leaves long.
          let none = layer_none hash leaves in (
            ap length none ∙ omega arith,
            ap (λ (nodes : List (List ℕ)). subproof hash (λ (leaf : List ℕ). leaf) c.args.old_size nodes true) none,
          );
    }

pub loop-old-preserved : goal.loop-old-preserved
loop-old-preserved c =
    let some = c.loop-old.invariant.some in
    let below = c.loop-old.invariant.below in
    let fits = c.loop-old.invariant.fits in
    record {
      some = omega arith;
      below = omega arith;
      fits = omega arith;
      proof = λ hash leaves long.
          let kept = c.loop-old.invariant.proof hash leaves long in
          let M = layer_of hash c.loop-old.layer leaves in (
            length-layer hash c.loop-old.layer leaves c.loop-old.last kept.0,
            ap (λ (nodes : List (List ℕ)). subproof hash (λ (leaf : List ℕ). leaf) (c.loop-old.old / 2) nodes true)
                (layer_more hash c.loop-old.layer leaves)
                ∙ proof_half hash M c.loop-old.old some c.loop-old-test.true (omega (arith, kept.0)) ∙ kept.1,
          );
    }

pub returns : goal.returns
returns c = λ hash leaves long.
    let kept = c.loop-old.invariant.proof hash leaves long in
    let layer = c.loop-old.layer in
    let old = c.loop-old.old in
    let below = c.loop-old.invariant.below in
    let some = c.loop-old.invariant.some in
    let nodes = c.if-old-gt1.nodes.items in
    let first : ((1 < old) × (nodes ≡ [] ++ id_of layer (old - 1) ∷ [])) ⊎ ((old ≡ 1) × (nodes ≡ [])) =
    elim c.if-old-gt1.branch [
      | then-old-gt1+in_ok-push w ↦ inl (
        w.if-old-gt1.true,
        rw w.nodes-is (w.in_ok-push.ensures.items
            ∙ ap (λ (ps : List NodeId). ps ++ id_of layer (old - 1) ∷ []) c.new-nodes.ensures.items),
      )
      | else-old-gt1 w ↦ inr (omega (arith, w.if-old-gt1.false), rw w.nodes-is c.new-nodes.ensures.items)
    ] in
    c.in_ok-add_path.ensures hash leaves kept.0
    ∙ consistency_is hash leaves layer old c.loop-old.last nodes
    (subproof hash (λ (leaf : List ℕ). leaf) c.args.old_size leaves true) kept.0 below kept.1
    c.loop-old-test.false first
