-- The checkpoint is of the entries that are read.
use Rattle.std.proofs.Common.{◌∙◌, ℕ, List, [], None, Err, Ok, ap}
use Rattle.std.proofs.lemmas.Result.{err_from_is_err_and}
use Rattle.tlog_text.specs.Texts.{checkpoint_text}
use Rattle.fohlazu_commands.specs.Outcomes.{bytes_in, checkpoint_of, entries_read}
use Rattle.fohlazu_commands.proofs.ProveFacts.{gives_text, whole_goes, whole_stops}
use Rattle.fohlazu_commands.proofs.seal.seal.Goals as goal

pub returns-in_err-log : goal.returns-in_err-log
returns-in_err-log g c =
    let left = err_from_is_err_and c.from_residual.result c.from_residual.ensures.1 in
    whole_stops (entries_read c.args.framing None)
    (λ entries. Ok (checkpoint_text (checkpoint_of c.args.origin.now entries))) bytes_in
    (g.R.Read.remaining c.args.file.now) [] [] c.from_residual.result _ (left.1 ∙ ap Err left.2)
    c.in_err-log.ensures

pub returns : goal.returns
returns g c =
    whole_goes (entries_read c.args.framing None)
    (λ entries. Ok (checkpoint_text (checkpoint_of c.args.origin.now entries))) bytes_in
    (g.R.Read.remaining c.args.file.now) [] [] c.in_ok-log.log
    (Ok c.in_ok-to_text.field-0) c.in_ok-log.ensures
    (λ input entries is has. gives_text c.in_ok-to_text.field-0
    (checkpoint_text (checkpoint_of c.args.origin.now entries))
    (c.in_ok-to_text.ensures
    ∙ ap (λ (p : ℕ × List ℕ). checkpoint_text (record { origin = c.args.origin.now; size = p.0; root = p.1 }))
    (c.size_and_root-size.ensures [] [] entries has)))
