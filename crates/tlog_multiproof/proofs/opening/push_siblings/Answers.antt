-- The nodes so far are the siblings of the slots so far, without those that are covered.
use Rattle.std.proofs.Common.{◌≡◌, ◌++◌, ◌∷◌, [], ℕ, ap, arith, filter, get_or, map, not, sym, ◌∙◌, append-nil}
use Rattle.p3_support.specs.Lists.{is_among}
use Rattle.tlog_tree.specs.Trees.{id_of}
use Rattle.tlog_tree.specs.declared.node_id.NodeId.{NodeId}
use Rattle.tlog_multiproof.specs.Inner.Siblings.{sibling}
use Rattle.tlog_multiproof.proofs.BoundaryFacts.{found_among, missed_among, node_more}
use Rattle.tlog_multiproof.proofs.opening.push_siblings.Goals as goal
use Rattle.tlog_multiproof.proofs.opening.push_siblings.Goals.{then-slot-eq0, else-slot-eq0}
use Rattle.tlog_multiproof.proofs.opening.push_siblings.Goals.{then-is_err+in_ok-push, else-is_err}

pub loop-slot-preserved : goal.loop-slot-preserved
loop-slot-preserved c =
    let covered = c.args.covered.now in
    let s = c.if-slot-eq0.sibling in
    let so_far = c.loop-slot.nodes.items in
    let f : ℕ → NodeId = id_of c.args.layer in
    let is : s ≡ sibling (get_or covered c.loop-slot.slot-index 0) =
    elim c.if-slot-eq0.branch [
      | then-slot-eq0 w ↦ w.sibling-is ∙ omega (arith, w.if-slot-eq0.true)
      | else-slot-eq0 w ↦ w.sibling-is ∙ omega (arith, w.if-slot-eq0.false)
    ] in
    let more : c.if-is_err.nodes.items
    ≡ so_far ++ map f (filter (λ j. not (is_among covered j)) (s ∷ [])) =
    elim c.if-is_err.branch [
      | then-is_err+in_ok-push w ↦
          let t = missed_among covered s c.binary_search.result c.requires.ascending c.binary_search.ensures.position
          (sym w.if-is_err.ensures.value) in
          rw t (ap (λ nodes. nodes.items) w.nodes-is ∙ w.in_ok-push.ensures.items)
      | else-is_err w ↦
          let t = found_among covered s c.binary_search.result c.requires.ascending c.binary_search.ensures.position
          (sym w.if-is_err.ensures.value) in
          rw t (ap (λ nodes. nodes.items) w.nodes-is ∙ sym (append-nil so_far))
    ] in
    node_more f (λ j. not (is_among covered j)) sibling covered c.loop-slot.slot-index c.args.nodes.now.items so_far
    c.if-is_err.nodes.items c.loop-slot-test.true c.loop-slot.invariant (rw is at more)
