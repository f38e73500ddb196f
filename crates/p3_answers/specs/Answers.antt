-- The answers of a call that may refuse its input, or run out of memory.
use Rattle.std.specs.Prelude.{◌≡◌, ◌⊎◌, Bool, if◌then◌else◌, List, [], ◌∷◌, map, Option, Some, None}
use Rattle.std.specs.Prelude.{Result, Ok, Err, MatchResult}
use Rattle.std.specs.Option.{option_or}

-- the first value among some options
abbrev pub first_some : {E : Type 0} → List (Option E) → Option E
first_some [] = None
first_some (x ∷ xs) = option_or x (first_some xs)

-- the first value that h gives for one of some items
abbrev pub first_of : {X E : Type 0} → (X → Option E) → List X → Option E
first_of h xs = first_some (map h xs)

-- e, unless the test passes
abbrev pub unless : {E : Type 0} → Bool → E → Option E
unless b e = if b then None else Some e

-- the refusal if there is one, else the value
abbrev pub ok_unless : {V E : Type 0} → Option E → V → Result V E
ok_unless None v = Ok v
ok_unless (Some e) v = Err e

-- Ok only where nothing is refused; an error is the refusal, or one that says that memory ran out, which is always
-- allowed
abbrev pub AnswersUnless : {V E : Type 0} → (E → Type 0) → Result V E → Option E → Type 0
AnswersUnless is_out_of_memory result refusal =
    MatchResult result (λ v. refusal ≡ None) (λ e. is_out_of_memory e ⊎ (refusal ≡ Some e))
