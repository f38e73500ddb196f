-- The rows of the four messages, each by the call that reads it.
use Rattle.std.proofs.Common.{◌≡◌, ℕ, ◌+◌, ◌∙◌, ap, sym, length, slice_range, add-zero}
use Rattle.p3_support.specs.Lists.{message}
use Rattle.p3_hashes.proofs.Transposed.{transposed_same, four_cases}
use Rattle.p3_hashes.proofs.eights.columns_of_four.Goals as goal

pub returns-clause-columns : goal.returns-clause-columns
returns-clause-columns c =
    let words = λ (m : ℕ). slice_range (message c.args.width c.args.messages.now m) c.args.column (c.args.column + 4) in
    c.transpose.ensures
    ∙ transposed_same (c.words_at.ensures.words ∙ ap words (sym (add-zero c.args.first))) c.words_at-2.ensures.words
    c.words_at-3.ensures.words c.words_at-4.ensures.words

pub returns-clause-long : goal.returns-clause-long
returns-clause-long c =
    let words = λ (m : ℕ). slice_range (message c.args.width c.args.messages.now m) c.args.column (c.args.column + 4) in
    four_cases (λ k. length (words (c.args.first + k)) ≡ 4)
    (ap (λ m. length (words m)) (add-zero c.args.first) ∙ ap length (sym c.words_at.ensures.words)
    ∙ c.words_at.ensures.long)
    (ap length (sym c.words_at-2.ensures.words) ∙ c.words_at-2.ensures.long)
    (ap length (sym c.words_at-3.ensures.words) ∙ c.words_at-3.ensures.long)
    (ap length (sym c.words_at-4.ensures.words) ∙ c.words_at-4.ensures.long)
