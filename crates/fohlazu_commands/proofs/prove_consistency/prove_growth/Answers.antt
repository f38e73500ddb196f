-- The tree that is read is that of the new checkpoint's entries, so its digests are those of their growth.
use Rattle.std.proofs.Common.{◌∙◌, Err, [], ap, map}
use Rattle.std.proofs.lemmas.Result.{err_from_is_err_and}
use Rattle.sha2.specs.Sha256.{sha256}
use Rattle.tlog.specs.Rfc9162.{leaf_hash}
use Rattle.tlog_tree.specs.Trees.{values_at}
use Rattle.tlog_text.specs.Texts.{checkpoint_fields}
use Rattle.fohlazu_commands.specs.Outcomes.{bytes_in, entries_under, growth_text}
use Rattle.fohlazu_commands.proofs.ProveFacts.{under_size, whole_goes, whole_stops}
use Rattle.fohlazu_commands.proofs.prove_consistency.prove_growth.Goals as goal

pub returns-in_err-log : goal.returns-in_err-log
returns-in_err-log g c =
    let left = err_from_is_err_and c.from_residual-in_err-log.result c.from_residual-in_err-log.ensures.1 in
    whole_stops (entries_under c.args.framing (checkpoint_fields c.args.new.now))
    (growth_text (checkpoint_fields c.args.old.now) (checkpoint_fields c.args.new.now) c.args.checkpoint.now) bytes_in
    (g.R.Read.remaining c.args.file.now) c.deref.result.now [] c.from_residual-in_err-log.result _
    (left.1 ∙ ap Err left.2) c.in_err-log.ensures

pub returns : goal.returns
returns g c =
    whole_goes (entries_under c.args.framing (checkpoint_fields c.args.new.now))
    (growth_text (checkpoint_fields c.args.old.now) (checkpoint_fields c.args.new.now) c.args.checkpoint.now) bytes_in
    (g.R.Read.remaining c.args.file.now) c.deref.result.now [] c.in_ok-log.log c.text_of.result c.in_ok-log.ensures
    (λ input entries is has. c.text_of.ensures c.deref.result.now entries has
    (ap (values_at sha256 (map (leaf_hash sha256) entries)) c.deref.ensures.value
    ∙ c.in_ok-nodes.ensures entries
    (under_size c.args.framing (checkpoint_fields c.args.new.now) input entries is)))
