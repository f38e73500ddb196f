-- What is read of the file, and then its tree.
use Rattle.std.proofs.Common.{Err, Ok, Some, inr}
use Rattle.std.proofs.lemmas.Result.{err_from_is_err_and}
use Rattle.tlog_text.specs.Texts.{checkpoint_fields}
use Rattle.fohlazu_commands.specs.Inner.{ReadsAs}
use Rattle.fohlazu_commands.specs.Outcomes.{entries_read}
use Rattle.fohlazu_commands.proofs.OutcomeFacts.{checked, checked_is, goes, stops}
use Rattle.fohlazu_commands.proofs.inputs.read_file_under.Goals as goal

pub returns-in_err-log : goal.returns-in_err-log
returns-in_err-log g c =
    let fields = checkpoint_fields c.args.checkpoint.now in
    let left = err_from_is_err_and c.from_residual.result c.from_residual.ensures.1 in
    rw (left.1, left.2)
    (stops (entries_read c.args.framing (Some fields.size)) (checked fields) _ _ c.in_err-log.ensures)

pub returns-in_err-check_tree : goal.returns-in_err-check_tree
returns-in_err-check_tree g c =
    let fields = checkpoint_fields c.args.checkpoint.now in
    let left = err_from_is_err_and c.from_residual-in_err-check_tree.result
    c.from_residual-in_err-check_tree.ensures.1 in
    rw (left.1, left.2) (goes (entries_read c.args.framing (Some fields.size)) (checked fields) _ _ _ _
    (ReadsAs c.args.nodes.now c.args.wanted.now (Err _)) c.in_ok-log.ensures
    (λ bytes entries is has. inr (checked_is fields _ entries _ (c.size_and_root-size.ensures _ _ entries has)
    c.in_err-check_tree.ensures)))

pub returns : goal.returns
returns g c =
    let fields = checkpoint_fields c.args.checkpoint.now in
    goes (entries_read c.args.framing (Some fields.size)) (checked fields) _ _ _ _
    (ReadsAs c.args.nodes.now c.args.wanted.now (Ok c.in_ok-log.log)) c.in_ok-log.ensures
    (λ bytes entries is has. (
      entries,
      checked_is fields _ entries _
          (c.size_and_root-size.ensures _ _ entries has) c.in_ok-check_tree.ensures,
      has,
    ))
