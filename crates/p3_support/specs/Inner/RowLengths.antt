-- How long a message is.
use Rattle.std.specs.Prelude.{◌≡◌, ℕ, ◌-◌, ◌≤◌, ◌<◌, length, drop, ◌+◌, ◌*◌, List}
use Rattle.std.proofs.Common.{◌∙◌, ap, arith, length-drop}
use Rattle.std.proofs.lemmas.List.{length-take-le}
use Rattle.std.proofs.Math.Nat.{add-mul, one-mul, mul-le-mul_right}
use Rattle.p3_support.specs.Lists.{message}

-- the end of message i is w past its start
pub next_start : (i w : ℕ) → (i + 1) * w ≡ i * w + w
next_start i w = add-mul i 1 w ∙ ap (λ v. i * w + v) (one-mul w)

-- a message has w words
pub length-message : {A : Type 0} (xs : List A) (w n i : ℕ) → length xs ≡ n * w → i < n → length (message w xs i) ≡ w
length-message xs w n i full below =
    let more = next_start i w in
    let fits : (i + 1) * w ≤ n * w = mul-le-mul_right w (omega arith) in
    length-take-le ((i + 1) * w - i * w) (drop (i * w) xs) (omega (arith, length-drop (i * w) xs, full, fits, more))
    ∙ omega (arith, more)
