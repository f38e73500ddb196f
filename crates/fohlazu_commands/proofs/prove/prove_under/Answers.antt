-- The entries of the checkpoint are read, and those of the numbers are proved.
use Rattle.std.proofs.Common.{◌≡◌, ◌<◌, ◌-◌, ◌∙◌, Err, Ok, List, ℕ, ap, length, map, rules, subst, sym}
use Rattle.std.proofs.lemmas.Result.{err_from_is_err_and}
use Rattle.std.specs.Prelude.{All}
use Rattle.tlog_tree.specs.declared.node_id.NodeId.{NodeId}
use Rattle.tlog_multiproof.specs.Entries.{proof_nodes}
use Rattle.tlog_text.specs.Texts.{checkpoint_fields, entries_text}
use Rattle.fohlazu_commands.specs.Inner.{HasEntries}
use Rattle.fohlazu_commands.specs.Outcomes.{bytes_in, entries_under, proof_over}
use Rattle.fohlazu_commands.proofs.ProveFacts.{gives_text, under_size, wanted_is, whole_goes, whole_stops, within_size}
use Rattle.fohlazu_commands.proofs.prove.prove_under.Goals as goal

pub entry_nodes-requires-clause-within : goal.entry_nodes-requires-clause-within
entry_nodes-requires-clause-within g c =
    let are : c.in_ok-indices.indices.items ≡ map (λ (n : ℕ). n - 1) c.args.numbers.now = search rules in
    subst (λ (indices : List ℕ). All (λ index. index < c.args.checkpoint.now.size) indices)
    (sym (c.deref.ensures.value ∙ are))
    (within_size c.args.checkpoint.now.size c.args.numbers.now c.requires.numbers.1 c.requires.inside)

pub returns-in_err-log : goal.returns-in_err-log
returns-in_err-log g c =
    let left = err_from_is_err_and c.from_residual-in_err-log.result c.from_residual-in_err-log.ensures.1 in
    whole_stops (entries_under c.args.framing (checkpoint_fields c.args.checkpoint.now))
    (λ entries. Ok (entries_text (proof_over entries c.args.numbers.now))) bytes_in
    (g.R.Read.remaining c.args.file.now) c.deref-2.result.now c.deref-3.result.now c.from_residual-in_err-log.result _
    (left.1 ∙ ap Err left.2) c.in_err-log.ensures

pub returns : goal.returns
returns g c =
    let numbers = c.args.numbers.now in
    let indices = map (λ (n : ℕ). n - 1) numbers in
    let size = c.args.checkpoint.now.size in
    let are : c.in_ok-indices.indices.items ≡ indices =
    search (
      rules,
      c.in_ok-indices.ensures.ran,
      c.map.ensures.source,
      c.map.ensures.closure,
      c.map.ensures.runs,
      c.iter.ensures.rest,
      c.iter.ensures.runs,
    ) in
    whole_goes (entries_under c.args.framing (checkpoint_fields c.args.checkpoint.now))
    (λ entries. Ok (entries_text (proof_over entries numbers))) bytes_in
    (g.R.Read.remaining c.args.file.now) c.deref-2.result.now c.deref-3.result.now c.in_ok-log.log
    (Ok c.in_ok-text_of.field-0) c.in_ok-log.ensures
    (λ input entries is has.
    let len = under_size c.args.framing (checkpoint_fields c.args.checkpoint.now) input entries is in
    let indices_are : c.deref-3.result.now ≡ indices = c.deref-3.ensures.value ∙ are in
    let nodes_are : c.deref-2.result.now ≡ proof_nodes (length entries) indices =
    c.deref-2.ensures.value ∙ c.in_ok-nodes.ensures.nodes
    ∙ ap (proof_nodes size) (c.deref.ensures.value ∙ are)
    ∙ ap (λ n. proof_nodes n indices) (sym len) in
    let own = subst (λ (p : List NodeId × List ℕ). HasEntries p.0 p.1 entries c.in_ok-log.log)
    (λ i. (nodes_are i, indices_are i)) has in
    gives_text c.in_ok-text_of.field-0 (entries_text (proof_over entries numbers)) (c.in_ok-text_of.ensures entries own
    (wanted_is entries numbers size len c.requires.numbers.1 c.requires.inside)))
