-- How an output grows, write by write.
use Rattle.std.proofs.Common.{◌≡◌, ◌∙◌, ℕ, ◌-◌, ◌++◌, List, Option, Result, Ok, Err, ap, append_assoc, arith, drop}
use Rattle.std.proofs.Common.{length, subst, sym, take}
use Rattle.std.proofs.KnownBytes.{Appends-kept, Appends-trans}
use Rattle.std.proofs.lemmas.List.{length-drop, take-append-drop, take_all}
use Rattle.std.specs.Io.KnownBytes.{Appends, Keeps, WriteAppends}

-- the output has the text up to what is left
abbrev pub Wrote : Option (List ℕ) → Option (List ℕ) → List ℕ → List ℕ → Type 0
Wrote old new text rest = (front : List ℕ) × (text ≡ front ++ rest) × Appends old new front

-- nothing more
pub wrote_same : (old now new : Option (List ℕ)) (text rest : List ℕ) → Wrote old now text rest → Keeps now new →
    Wrote old new text rest
wrote_same old now new text rest wrote keeps =
    (wrote.0, wrote.1, Appends-kept old now new wrote.0 wrote.2 keeps)

-- the next bytes
pub wrote_more : (old now new : Option (List ℕ)) (text rest after : List ℕ) (n : ℕ) → Wrote old now text rest →
    Appends now new (take n rest) → after ≡ drop n rest → Wrote old new text after
wrote_more old now new text rest after n wrote more after_is = (
  wrote.0 ++ take n rest,
  wrote.1 ∙ ap (λ r. wrote.0 ++ r) (sym (take-append-drop n rest))
      ∙ sym (append_assoc wrote.0 (take n rest) (drop n rest))
      ∙ ap (λ r. (wrote.0 ++ take n rest) ++ r) (sym after_is),
  Appends-trans old now new wrote.0 (take n rest) wrote.2 more,
)

-- ---- by what a write returns

drop_rest : (xs : List ℕ) (n : ℕ) → take (length xs - n) (drop n xs) ≡ drop n xs
drop_rest xs n = take_all (length xs - n) (drop n xs) (omega (arith, length-drop n xs))

module _ {E : Type 0} (old now new : Option (List ℕ)) (text rest : List ℕ) (r : Result ℕ E)
    (wrote : Wrote old now text rest) (bytes : WriteAppends now new r rest) where
  pub step_ok : (after : List ℕ) (n : ℕ) → r ≡ Ok n → after ≡ take (length rest - n) (drop n rest) →
      Wrote old new text after
  step_ok after n is after_is =
      wrote_more old now new text rest after n wrote (subst (λ (x : Result ℕ E). WriteAppends now new x rest) is bytes)
      (after_is ∙ drop_rest rest n)

  pub step_err : (e : E) → r ≡ Err e → Keeps now new
  step_err e is = subst (λ (x : Result ℕ E). WriteAppends now new x rest) is bytes
