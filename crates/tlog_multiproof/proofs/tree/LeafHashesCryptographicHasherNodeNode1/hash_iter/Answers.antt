use Rattle.std.proofs.Common.{rules, ap, ◌∷◌, []}
use Rattle.tlog_multiproof.specs.declared.tree.Node.{Node}
use Rattle.tlog_multiproof.proofs.tree.LeafHashesCryptographicHasherNodeNode1.hash_iter.Goals as goal

pub returns : goal.returns
returns g c =
    let run = c.fold.ensures.runs in
    (run.0, run.1, run.2, ap (λ word. word ∷ []) (run.3 (λ (before word : Node). word) (search rules)))
