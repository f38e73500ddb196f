use Rattle.std.proofs.Common.{◌∙◌, Bor, ℕ, List, ap, map}
use Rattle.std.proofs.lemmas.Result.{IfOk-weaker}
use Rattle.sha2.specs.Sha256.{sha256}
use Rattle.tlog.specs.Rfc9162.{leaf_hash}
use Rattle.fohlazu_c.proofs.EntryFacts.{hashes_lent}
use Rattle.fohlazu_c.proofs.growing.hashes_of.Goals as goal

pub returns : goal.returns
returns c =
    IfOk-weaker c.leaf_hashes.result _ _
    (λ hashes is. is ∙ ap (map (λ (entry : Bor (List ℕ)). leaf_hash sha256 entry.now)) c.deref.ensures.value
    ∙ hashes_lent c.in_ok-entries.entries.items ∙ ap (map (leaf_hash sha256)) c.in_ok-entries.ensures)
    c.leaf_hashes.ensures
