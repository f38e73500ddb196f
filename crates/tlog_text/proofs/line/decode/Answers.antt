-- What the decoder writes to the front is what the text stands for.
use Rattle.std.proofs.Common.{arith, ◌∙◌}
use Rattle.tlog_text.proofs.Base64Facts.{decode_bytes, decode_len}
use Rattle.tlog_text.proofs.line.decode.Goals as goal

pub returns-clause-len : goal.returns-clause-len
returns-clause-len c =
    c.ok.ensures.value
    ∙ decode_len c.args.text.now c.args.bytes.now c.decode_slice_unchecked.new.output
    (λ i. let fits = c.type_inv.text i in omega arith) (λ i. let fits = c.type_inv.bytes i in omega arith)
    c.decode_slice_unchecked.auto.output c.decode_slice_unchecked.result
    (c.decode_slice_unchecked.ensures.ok, c.decode_slice_unchecked.ensures.err)

pub returns-clause-bytes : goal.returns-clause-bytes
returns-clause-bytes c =
    rw c.ok.ensures.value
    (decode_bytes c.args.text.now c.args.bytes.now c.decode_slice_unchecked.new.output
    (λ i. let fits = c.type_inv.text i in omega arith) (λ i. let fits = c.type_inv.bytes i in omega arith)
    c.decode_slice_unchecked.auto.output c.decode_slice_unchecked.result
    (c.decode_slice_unchecked.ensures.ok, c.decode_slice_unchecked.ensures.err))
