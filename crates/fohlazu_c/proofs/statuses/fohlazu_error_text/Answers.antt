use Rattle.std.proofs.Common.{◌∙◌, ap, arith, w32}
use Rattle.std.proofs.lemmas.Bool.Decides.{nat_tests}
use Rattle.std.proofs.lemmas.Int.{to_z-of_z}
use Rattle.fohlazu_c.specs.Statuses.{placed, status_text}
use Rattle.fohlazu_c.proofs.TextFacts.{placed_is}
use Rattle.fohlazu_c.proofs.statuses.fohlazu_error_text.Goals as goal

pub returns-then-not-is_empty-clause-text : goal.returns-then-not-is_empty-clause-text
returns-then-not-is_empty-clause-text c =
    placed_is c.as_bytes-words.result.now c.copy_from_slice.new.self c.args.text.now c.min-count.result
    c.min-count.ensures c.copy_from_slice.ensures.after (grind (arith, nat_tests))
    ∙ ap (λ text. placed text c.args.text.now) (c.as_bytes-words.ensures.value ∙ c.words_of.ensures
    ∙ ap status_text (to_z-of_z w32 c.args.status c.ranges.status))
