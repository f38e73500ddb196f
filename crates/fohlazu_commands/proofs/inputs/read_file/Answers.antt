-- What is read is of the bytes of the file, or they are refused.
use Rattle.std.proofs.Common.{◌≡◌, ◌∙◌, Err, None, Some, ap, arith, inl, inr, sym, ⊎_elim}
use Rattle.std.proofs.lemmas.List.{length-map}
use Rattle.std.proofs.lemmas.Result.{err_from_is_err_and}
use Rattle.sha2.specs.Sha256.{sha256}
use Rattle.tlog.specs.Rfc9162.{leaf_hash}
use Rattle.tlog_files.specs.Entries.{entries_in, first_entries, read_refusal}
use Rattle.tlog_files.specs.Logs.{IsLogOf}
use Rattle.fohlazu_commands.specs.Errors.{read_error}
use Rattle.fohlazu_commands.proofs.OutcomeFacts.{file_known, read_err, read_ok}
use Rattle.fohlazu_commands.proofs.inputs.read_file.Goals as goal

pub returns : goal.returns
returns g c =
    let log = c.in_ok-read_log.field-0 in
    let found = file_known (g.R.Read.remaining c.args.file.now)
    (IsLogOf log c.args.framing c.args.limit c.args.nodes.now c.args.wanted.now) c.in_ok-read_log.ensures.read in
    let entries = first_entries c.args.limit (entries_in c.args.framing found.0) in (
      Some found.0,
      found.1,
      (
        entries,
        read_ok c.args.framing c.args.limit found.0
            (omega (arith, log.tree.frontier.limit, found.2.tree.frontier.size, length-map entries (leaf_hash sha256)))
            found.2.not_refused,
        record { tree = found.2.tree; wanted_are = found.2.entries },
      ),
    )

pub returns-in_err-read_log : goal.returns-in_err-read_log
returns-in_err-read_log g c =
    let left = err_from_is_err_and c.from_residual.result c.from_residual.ensures.1 in
    let is = left.2 in
    rw left.1
    (⊎_elim
    (λ memory. (None, tt, inl (is ∙ ap read_error memory)))
    (λ other. ⊎_elim
    (λ failed. (None, tt, inr (ap Err (sym (is ∙ ap read_error failed)))))
    (λ refused.
    let found = file_known (g.R.Read.remaining c.args.file.now)
    (λ bytes. read_refusal c.args.framing c.args.limit bytes ≡ Some _) refused in
    (Some found.0, found.1, inr (read_err c.args.framing c.args.limit found.0 _ found.2 ∙ ap Err (sym is))))
    other) c.in_err-read_log.ensures.refused)
