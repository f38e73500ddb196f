-- The digests are the values of the nodes, and the entries those that are wanted.
use Rattle.std.proofs.Common.{◌≡◌, ◌∙◌, ◌-◌, ℕ, List, ap, length, map, zip}
use Rattle.std.proofs.lemmas.Result.{IfOk-weaker}
use Rattle.sha2.specs.Sha256.{sha256}
use Rattle.tlog.specs.Rfc9162.{leaf_hash}
use Rattle.tlog_multiproof.specs.Entries.{proof_nodes}
use Rattle.tlog_text.specs.Texts.{entries_text, entry_fields}
use Rattle.tlog_files.specs.Entries.{entry_at, wanted_of}
use Rattle.fohlazu_commands.specs.Inner.{entry_of, HasEntries}
use Rattle.fohlazu_commands.specs.Outcomes.{proof_over}
use Rattle.fohlazu_commands.proofs.ProveFacts.{numbered_are, values_there}
use Rattle.fohlazu_commands.proofs.prove.text_of.Goals as goal

pub returns : goal.returns
returns c =
    let numbers = c.args.numbers.now in
    let indices = map (λ (n : ℕ). n - 1) numbers in
    IfOk-weaker c.to_text.result
    (λ text. text.items ≡ entries_text (record {
      entries = map entry_fields c.in_ok-entries.entries.items;
      digests = c.in_ok-digests.digests.items;
    }))
    (λ text. (entries : List (List ℕ)) →
    HasEntries (proof_nodes (length entries) indices) indices entries c.args.log →
    wanted_of entries indices ≡ map (entry_at entries) indices → text.items ≡ entries_text (proof_over entries numbers))
    (λ text is entries has wanted.
    let leaves = map (leaf_hash sha256) entries in
    let nodes = proof_nodes (length entries) indices in
    let entries_are : map entry_fields c.in_ok-entries.entries.items ≡ (proof_over entries numbers).entries =
    c.in_ok-entries.ensures ∙ ap (λ bytes. map entry_of (zip numbers bytes)) (has.wanted_are ∙ wanted)
    ∙ numbered_are entries numbers in
    let digests_are : c.in_ok-digests.digests.items ≡ (proof_over entries numbers).digests =
    c.in_ok-digests.ensures leaves nodes (proof_over entries numbers).digests has.tree (values_there entries indices) in
    is ∙ (λ i. entries_text (record { entries = entries_are i; digests = digests_are i }))) c.to_text.ensures
