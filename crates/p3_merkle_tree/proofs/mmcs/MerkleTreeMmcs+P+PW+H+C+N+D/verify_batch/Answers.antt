-- The answer is that of the rows and the siblings.
use Rattle.std.proofs.Common.{◌∙◌, ap, subst}
use Rattle.p3_support.specs.Shown.{row_lists}
use Rattle.p3_support.proofs.RowFacts.{whole_in_parts}
use Rattle.p3_merkle_core.specs.Openings.{opening_of}
use Rattle.p3_merkle_core.specs.Presented.{IsExactVerdict}
use Rattle.p3_merkle_tree.specs.Committed.{presented_under}
use Rattle.p3_merkle_tree.proofs.mmcs.MerkleTreeMmcs+P+PW+H+C+N+D.verify_batch.Goals as goal

pub returns : goal.returns
returns g c =
    let scheme = c.args.self.now in
    let rows = whole_in_parts _ ∙ ap row_lists c.unpack.ensures.values in
    let siblings = c.deref.ensures.value ∙ ap (λ z. z.items) c.unpack.ensures.proof in
    subst (λ p. IsExactVerdict p c.verify_rows.result)
    (λ i. presented_under scheme c.args.dimensions.now (c.roots.ensures i)
    (opening_of c.args.index (rows i) (siblings i))) c.verify_rows.ensures
