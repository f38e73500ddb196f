-- The row sets so far are the honest ones of the indices so far.
use Rattle.std.proofs.Common.{arith, refl, ◌∙◌, ap, map}
use Rattle.std.proofs.lemmas.{List.take_all}
use Rattle.p3_merkle_core.specs.Openings.{honest_rows}
use Rattle.p3_merkle_prover.specs.Parts.{tree_batch}
use Rattle.p3_merkle_prover.proofs.BoundaryFacts.{sets_more}
use Rattle.p3_merkle_prover.proofs.pruned_opener.rows_of_indices.Goals as goal

pub loop-index-preserved : goal.loop-index-preserved
loop-index-preserved g c =
    sets_more (honest_rows (tree_batch c.args.tree.now)) c.args.indices.now c.loop-index.index-index
    c.loop-index.rows.items c.push.new.self.items c.in_ok-rows_of_index.field-0 (omega arith)
    c.loop-index.invariant c.in_ok-push.ensures.items c.in_ok-rows_of_index.ensures.rows

pub loop-index-init : goal.loop-index-init
loop-index-init g c = rw c.in_ok-rows.ensures.items refl

pub returns-clause-rows : goal.returns-clause-rows
returns-clause-rows g c =
    c.loop-index.invariant
    ∙ ap (map (honest_rows (tree_batch c.args.tree.now)))
    (take_all c.loop-index.index-index c.args.indices.now c.loop-index-test.false)
