-- The siblings so far, and the path from the node that is reached, are the whole path (`path`).
use Rattle.std.proofs.Common.{arith, sym, ap, ◌∙◌, ◌++◌, List, ℕ}
use Rattle.std.proofs.lemmas.List.{append-nil}
use Rattle.tlog_tree.specs.Inner.Layers.{layer_of}
use Rattle.tlog_tree.specs.Trees.{all_there, values_at}
use Rattle.tlog_tree.proofs.Paths.{IsSibling, even_sibling, length-layer, odd_sibling, path_of_one, path_passed}
use Rattle.tlog_tree.proofs.Paths.{path_taken}
use Rattle.tlog_tree.proofs.proof_nodes.add_path.Goals.{then-slot-eq0}
use Rattle.tlog_tree.proofs.proof_nodes.add_path.Goals.{else-slot-eq0, then-sibling-last+in_ok-push, else-sibling-last}
use Rattle.tlog_tree.proofs.proof_nodes.add_path.Goals as goal

pub returns : goal.returns
returns c = λ hash leaves long.
    let kept = c.loop-last.invariant.path hash leaves long in
    sym (append-nil (values_at hash leaves c.loop-last.nodes.items))
    ∙ ap (λ (ds : List (List ℕ)). values_at hash leaves c.loop-last.nodes.items ++ all_there ds)
    (sym (path_of_one hash (layer_of hash c.loop-last.layer leaves) c.loop-last.slot (omega (arith, kept.0))))
    ∙ kept.1

pub loop-last-preserved : goal.loop-last-preserved
loop-last-preserved c =
    let layer = c.loop-last.layer in
    let slot = c.loop-last.slot in
    let last = c.loop-last.last in
    let s = c.if-slot-eq0.sibling in
    let within = c.loop-last.invariant.within in
    let fits = c.loop-last.invariant.fits in
    let is : IsSibling slot s = elim c.if-slot-eq0.branch [
      | then-slot-eq0 w ↦ even_sibling slot s w.if-slot-eq0.true w.sibling-is
      | else-slot-eq0 w ↦ odd_sibling slot s w.if-slot-eq0.false w.sibling-is
    ] in
    record {
      within = omega arith;
      fits = omega arith;
      path = λ hash leaves long.
          let kept = c.loop-last.invariant.path hash leaves long in (
            length-layer hash layer leaves last kept.0,
            elim c.if-sibling-last.branch [
              | then-sibling-last+in_ok-push w ↦
                  path_taken hash leaves layer slot last s c.loop-last.nodes.items c.if-sibling-last.nodes.items
                  (rw w.nodes-is w.in_ok-push.ensures.items) kept.0
                  within is w.if-sibling-last.true ∙ kept.1
              | else-sibling-last w ↦
                  rw w.nodes-is (path_passed hash leaves layer slot last s c.loop-last.nodes.items kept.0 within is
                  w.if-sibling-last.false ∙ kept.1)
            ],
          );
    }
