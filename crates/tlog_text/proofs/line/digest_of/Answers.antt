-- Each return is one reason why a line is no digest, and the last one has the digest.
use Rattle.tlog_text.proofs.Base64Facts.{is_digest, not_44, not_digest}
use Rattle.tlog_text.proofs.line.digest_of.Goals as goal

pub returns-then-line-ne44 : goal.returns-then-line-ne44
returns-then-line-ne44 c = not_44 c.args.line.now c.if-line-ne44.true

pub returns-in_err-decode : goal.returns-in_err-decode
returns-in_err-decode c =
    rw c.from_residual.ensures
    (not_digest c.args.line.now c.decode.result c.decode.ensures.len (λ n some is. let none = c.in_err-decode.was in
    cc))

pub returns-then-branch-ne32 : goal.returns-then-branch-ne32
returns-then-branch-ne32 c =
    not_digest c.args.line.now c.decode.result c.decode.ensures.len
    (λ n some is. let was = c.in_ok-decode.was in c.if-branch-ne32.true (cc))

pub returns : goal.returns
returns c =
    is_digest c.args.line.now c.decode.new.bytes c.copy_from_slice.new.self c.in_ok-decode.field-0
    c.in_ok-decode.ensures.bytes c.if-branch-ne32.false c.decode.auto.bytes c.copy_from_slice.ensures.after
