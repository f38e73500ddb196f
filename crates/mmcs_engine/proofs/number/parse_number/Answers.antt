-- Text of digits is parsed as its number, and nothing else is a number.
use Rattle.std.proofs.Common.{◌≡◌, List, ℕ, None, Result, Ok, Err, rules, sym, ◌∙◌, ◌^◌}
use Rattle.std.proofs.lemmas.Str.{IsUtf8-from_ascii}
use Rattle.std.proofs.lemmas.Fmt.{IsAscii-from_digits}
use Rattle.std.specs.Result.{MatchResult, result_ok}
use Rattle.std.specs.Str.{IsUtf8}
use Rattle.mmcs_engine.specs.Numbers.{IsNumberBelow}
use Rattle.mmcs_engine.proofs.number.parse_number.Goals as goal

-- bytes that are no text are no number: digits are text
no_number : {S E : Type 0} (Y : S → Type 0) (N : E → Type 0) (bytes : List ℕ) (r : Result S E) → result_ok r ≡ None →
    MatchResult r Y (λ e. ((IsUtf8 bytes) → ⊥) × N e) → (IsNumberBelow (2 ^ 64) bytes → ⊥)
no_number Y N bytes (Ok s) none said = absurd cc
no_number Y N bytes (Err e) none said =
    λ number. said.0 (IsUtf8-from_ascii bytes (IsAscii-from_digits bytes number.numeral.1))

pub returns-in_err-text : goal.returns-in_err-text
returns-in_err-text c =
    rw c.from_residual.ensures
    (no_number _ _ c.args.digits.now c.from_utf8.result (sym c.ok.ensures.value ∙ c.in_err-text.was)
    c.from_utf8.ensures.cases)

pub returns : goal.returns
returns c = search rules
