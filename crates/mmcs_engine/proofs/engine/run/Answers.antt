-- The text is written once all else has succeeded.
use Rattle.std.proofs.Common.{◌∙◌, ℕ, List, arith, string_bytes, subst, sym}
use Rattle.std.proofs.lemmas.Result.{err_from_is_err_and}
use Rattle.std.proofs.lemmas.Grind.{common_steps}
use Rattle.std.specs.Io.KnownBytes.{Appends}
use Rattle.whole_writes.specs.Prefixes.{AppendsPrefix}
use Rattle.mmcs_engine.proofs.ReplyFacts.{failed, of_error, unwritten, written}
use Rattle.mmcs_engine.proofs.engine.run.Goals as goal

pub returns-in_err-text : goal.returns-in_err-text
returns-in_err-text g c =
    let left = err_from_is_err_and c.from_residual.result c.from_residual.ensures.1 in
    let told = rw c.in_err-text.was at c.answer_to.ensures.fault in
    rw (left.1, left.2)
    (failed g.Src.Read.remaining g.Dst.Write.contents _ c.args.input.now c.answer_to.new.input c.args.output.now
    c.answer_to.result c.answer_to.ensures.usage c.answer_to.ensures.unread _ c.in_err-text.was told)

pub returns-then-is_err : goal.returns-then-is_err
returns-then-is_err g c =
    let Wrote : List ℕ → Type 0 = λ text.
    AppendsPrefix (g.Dst.Write.contents c.args.output.now) (g.Dst.Write.contents c.write_whole.new.output) text in
    let front : Wrote c.as_bytes.result.now = of_error c.write_whole.result
    (sym c.is_err.ensures.value ∙ c.if-is_err.true) c.write_whole.ensures.prefix in
    let wrote : Wrote (string_bytes c.in_ok-text.text) = subst Wrote c.as_bytes.ensures.value front in
    unwritten g.Src.Read.remaining g.Dst.Write.contents _ c.args.input.now c.answer_to.new.input c.args.output.now
    c.answer_to.result c.answer_to.ensures.usage c.answer_to.ensures.unread c.write_whole.new.output c.in_ok-text.text
    (string_bytes c.in_ok-text.text) c.in_ok-text.was c.in_ok-text.ensures.text wrote

pub returns : goal.returns
returns g c =
    let wrote : Appends (g.Dst.Write.contents c.args.output.now) (g.Dst.Write.contents c.write_whole.new.output)
    (string_bytes c.in_ok-text.text) = grind (arith, common_steps) in
    written g.Src.Read.remaining g.Dst.Write.contents _ c.args.input.now c.answer_to.new.input c.args.output.now
    c.answer_to.result c.answer_to.ensures.usage c.answer_to.ensures.unread c.write_whole.new.output c.in_ok-text.text
    (string_bytes c.in_ok-text.text) c.in_ok-text.was c.in_ok-text.ensures.text wrote
