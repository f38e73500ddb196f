-- The tree is of the leaf hashes of the entries.
use Rattle.std.proofs.Common.{◌≡◌, ◌∙◌, length, map, subst, sym}
use Rattle.std.proofs.lemmas.List.{length-map}
use Rattle.sha2.specs.Sha256.{sha256}
use Rattle.tlog.specs.Rfc9162.{leaf_hash, root_of}
use Rattle.tlog_tree.specs.Frontiers.{IsFrontierOf}
use Rattle.tlog_tree.specs.declared.frontier.Frontier.{Frontier}
use Rattle.tlog_multiproof.proofs.Leaves.{mth_map}
use Rattle.fohlazu_commands.proofs.inputs.size_and_root.Goals as goal

pub returns : goal.returns
returns c nodes wanted entries has =
    let leaves = map (leaf_hash sha256) entries in
    let is = subst (λ (f : Frontier). IsFrontierOf leaves f) (sym c.frontier-frontier.ensures) has.tree.frontier in
    let size_is : c.size.result ≡ length entries =
    c.size.ensures ∙ is.size ∙ length-map entries (leaf_hash sha256) in
    let root_is : c.root.result ≡ root_of sha256 entries =
    c.root.ensures leaves is ∙ mth_map sha256 (leaf_hash sha256) entries in
    (λ i. (size_is i, root_is i))
