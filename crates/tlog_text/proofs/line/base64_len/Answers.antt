-- The length of the text is that of the groups so far and that of the rest (`same`), so that at the end it is what is
-- counted, and a group of less than three bytes ahead of the last one refuses the text.
use Rattle.std.proofs.Common.{◌≡◌, ◌+◌, ap, sym, ◌∙◌, arith, option_map}
use Rattle.tlog_text.proofs.Base64Facts.{len_begins, len_more, len_of, len_refused, len_step, with_group}
use Rattle.tlog_text.proofs.line.base64_len.Goals.{After-decode}
use Rattle.tlog_text.proofs.line.base64_len.Goals as goal

pub loop-rest-init : goal.loop-rest-init
loop-rest-init c = record { within = omega arith; same = len_begins c.args.text.now }

-- after a group is decoded: the length of the text by the bytes before it, by the group, and by the rest after it
length_by_group : (c : After-decode) → len_of c.args.text.now
    ≡ option_map (λ k. c.loop-rest.len + k) (with_group c.decode.result (len_of c.split_at.result.1.now))
length_by_group c =
    len_step c.args.text.now c.loop-rest.rest.now c.split_at.result.0.now c.split_at.result.1.now c.loop-rest.len
    c.split_at.ensures.by_index.0 c.split_at.ensures.front_len c.loop-rest-test.true c.loop-rest.invariant.same
    ∙ ap (λ o. option_map (λ k. c.loop-rest.len + k) (with_group o (len_of c.split_at.result.1.now)))
    (sym c.decode.ensures.len)

pub loop-rest-preserved : goal.loop-rest-preserved
loop-rest-preserved c =
    record {
      within = omega (arith, c.loop-rest.invariant.within, c.split_at.ensures.back_len);
      same = length_by_group (goal.at.loop-rest-preserved c).After-decode
          ∙ len_more c.loop-rest.len _ _ _ c.in_ok-decode.was c.if-branch-ne3.false;
    }

pub returns-in_err-decode : goal.returns-in_err-decode
returns-in_err-decode c =
    rw c.from_residual.ensures (sym (length_by_group (goal.at.returns-in_err-decode c).After-decode
    ∙ len_refused c.loop-rest.len c.decode.result _ (λ n some three. let none = c.in_err-decode.was in cc)))

pub returns-then-branch-ne3 : goal.returns-then-branch-ne3
returns-then-branch-ne3 c =
    sym (length_by_group (goal.at.returns-then-branch-ne3 c).After-decode
    ∙ len_refused c.loop-rest.len c.decode.result _
    (λ n some three. let was = c.in_ok-decode.was in c.if-branch-ne3.true cc))

pub returns : goal.returns
returns c =
    sym (c.loop-rest.invariant.same
    ∙ ap (option_map (λ n. c.loop-rest.len + n)) (sym c.decode-2.ensures.len ∙ c.in_ok-decode-2.was))
