-- The tests of the code are those of the definition, in another order.
use Rattle.std.proofs.Common.{true, length, sym, ap, ◌∙◌, arith, rules, nat_le}
use Rattle.std.proofs.lemmas.Iterator.{YieldsList-from_slice}
use Rattle.std.proofs.lemmas.Iterator.Search.{all_from_yields_List}
use Rattle.tlog_text.specs.Lines.{is_origin}
use Rattle.tlog_text.proofs.LineFacts.{origin_tests}
use Rattle.tlog_text.proofs.TestFacts.{le_decided}
use Rattle.tlog_text.proofs.checkpoint.is_origin.Goals as goal

pub returns-then-len-le-MAX_ORIGIN_BYTES : goal.returns-then-len-le-MAX_ORIGIN_BYTES
returns-then-len-le-MAX_ORIGIN_BYTES c =
    let bytes = c.as_bytes-bytes.result.now in
    let text = c.as_bytes-bytes.ensures.value in
    let unmarked = sym c.starts_with.ensures.value ∙ c.if-starts_with.false in
    let told = all_from_yields_List (λ b. nat_le 32 b) _ _ c.all.result c.all.ensures.ran
    (YieldsList-from_slice bytes c.iter.ensures.rest) (λ x b q called. search rules) in
    told
    ∙ origin_tests bytes true c.as_bytes-bytes.ensures.utf8 unmarked (omega arith) c.if-bytes-eq32.false
    c.if-bytes-len-eq32.false
    ((le_decided (length bytes) 999934).1 (omega (arith, c.if-len-le-MAX_ORIGIN_BYTES.true)))
    ∙ ap is_origin text
