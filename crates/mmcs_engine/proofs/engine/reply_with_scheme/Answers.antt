-- The matrices that are read are those that the input stands for.
use Rattle.std.proofs.Common.{string_bytes}
use Rattle.std.proofs.lemmas.Result.{err_from_is_err_and}
use Rattle.p3_merkle_core.specs.Nodes.{shape}
use Rattle.mmcs_engine.specs.Inner.Stored.{stored_batch}
use Rattle.mmcs_engine.specs.Inner.Alike.{batch_in_numbers}
use Rattle.mmcs_engine.proofs.TreesInNumbers.{in_numbers}
use Rattle.mmcs_engine.proofs.ReplyFacts.{reply_fault, reply_text}
use Rattle.mmcs_engine.proofs.engine.reply_with_scheme.Goals as goal

pub returns-in_err-act-clause-fault : goal.returns-in_err-act-clause-fault
returns-in_err-act-clause-fault g c =
    let w = g.met.W.Word in
    let given = stored_batch g.row.N c.in_ok-matrices.matrices.items in
    let found = c.in_ok-matrices.ensures.matrices in
    let read = rw c.deref.ensures.value at found.1 in
    let numbers = in_numbers g.W.Word.value w.some_word w.one_word in
    let left = err_from_is_err_and c.from_residual-in_err-act.result c.from_residual-in_err-act.ensures.1 in
    rw (left.1, left.2)
    (reply_fault c.args.args.now.command c.args.args.now.indices.items c.args.input.items g.W.Word.MAX g.row.N
    c.requires.scheme.greatest_word c.requires.arity found.0 read (batch_in_numbers g.W.Word.value given)
    (numbers.stored c.in_ok-matrices.matrices.items found.0 g.row.N found.2) (shape given) (numbers.same_shape given) _
    c.in_err-act.ensures.answer)

pub returns-clause-text : goal.returns-clause-text
returns-clause-text g c =
    let w = g.met.W.Word in
    let given = stored_batch g.row.N c.in_ok-matrices.matrices.items in
    let found = c.in_ok-matrices.ensures.matrices in
    let read = rw c.deref.ensures.value at found.1 in
    let numbers = in_numbers g.W.Word.value w.some_word w.one_word in
    reply_text c.args.args.now.command c.args.args.now.indices.items c.args.input.items g.W.Word.MAX g.row.N
    c.requires.scheme.greatest_word c.requires.arity found.0 read (batch_in_numbers g.W.Word.value given)
    (numbers.stored c.in_ok-matrices.matrices.items found.0 g.row.N found.2) (shape given) (numbers.same_shape given)
    (string_bytes c.in_ok-act.field-0) c.in_ok-act.ensures.answer c.in_ok-act.ensures.text
