-- A list with repeats dropped, and one more element.
use Rattle.std.proofs.Common.{◌≡◌, ◌∙◌, ℕ, zero, suc, ◌+◌, ◌-◌, ◌<◌, ◌≤◌, true, false, eqb, cond, List, [], ◌∷◌, ◌++◌}
use Rattle.std.proofs.Common.{refl, ap, sym, arith, length, get_or, take, add-one, append-nil, eq-eqb}
use Rattle.std.proofs.lemmas.Grind.{common_steps}
use Rattle.std.proofs.lemmas.Bool.{ne_eqb}
use Rattle.std.proofs.lemmas.List.{take_more}
use Rattle.std.specs.List.{dedup, dedup_from}

-- the last element of x and those after it
abbrev last_from : ℕ → List ℕ → ℕ
last_from x [] = x
last_from x (y ∷ ys) = last_from y ys

-- one more element stays if it is not the one before it
from_more : (x : ℕ) (ys : List ℕ) (z : ℕ) → dedup_from eqb x (ys ++ z ∷ [])
    ≡ dedup_from eqb x ys ++ cond (eqb z (last_from x ys)) [] (z ∷ [])
from_more x [] z = grind (arith, common_steps)
from_more x (y ∷ ys) z = grind (arith, common_steps, from_more x ys z, from_more y ys z)

last_at : (x : ℕ) (ys : List ℕ) (k : ℕ) → k ≤ length ys → last_from x (take k ys) ≡ get_or (x ∷ ys) k 0
last_at x [] zero h = refl
last_at x (y ∷ ys) zero h = refl
last_at x [] (suc k) h = absurd (omega arith)
last_at x (y ∷ ys) (suc k) h = last_at y ys k (omega arith)

-- an element that is not the one before it stays
pub stays : (ys : List ℕ) (i : ℕ) → i < length ys → (0 < i → get_or ys (i - 1) 0 ≡ get_or ys i 0 → ⊥) →
    dedup eqb (take (i + 1) ys) ≡ dedup eqb (take i ys) ++ get_or ys i 0 ∷ []
stays [] i h n = absurd (omega arith)
stays (x ∷ ys) zero h n = refl
stays (x ∷ ys) (suc k) h n =
    let z = get_or ys k 0 in
    let back : suc k - 1 ≡ k = omega arith in
    let other : eqb z (last_from x (take k ys))
    ≡ false = ne_eqb z (last_from x (take k ys))
    (λ e. n (omega arith) (rw back (sym (e ∙ last_at x ys k (omega arith))))) in
    ap (λ n. dedup eqb (take n (x ∷ ys))) (add-one (suc k))
    ∙ ap (λ zs. dedup eqb (x ∷ zs)) (ap (λ n. take n ys) (sym (add-one k)) ∙ take_more ys k 0 (omega arith))
    ∙ from_more x (take k ys) z ∙ ap (λ b. dedup_from eqb x (take k ys) ++ cond b [] (z ∷ [])) other

-- and one that is, is dropped
pub dropped : (ys : List ℕ) (i : ℕ) → i < length ys → 0 < i → get_or ys (i - 1) 0 ≡ get_or ys i 0 →
    dedup eqb (take (i + 1) ys) ≡ dedup eqb (take i ys)
dropped [] i h p e = absurd (omega arith)
dropped (x ∷ ys) zero h p e = absurd (omega arith)
dropped (x ∷ ys) (suc k) h p e =
    let z = get_or ys k 0 in
    let back : suc k - 1 ≡ k = omega arith in
    let same : eqb z (last_from x (take k ys))
    ≡ true = eq-eqb z (last_from x (take k ys)) (sym (last_at x ys k (omega arith) ∙ rw back at e)) in
    ap (λ n. dedup eqb (take n (x ∷ ys))) (add-one (suc k))
    ∙ ap (λ zs. dedup eqb (x ∷ zs)) (ap (λ n. take n ys) (sym (add-one k)) ∙ take_more ys k 0 (omega arith))
    ∙ from_more x (take k ys) z ∙ ap (λ b. dedup_from eqb x (take k ys) ++ cond b [] (z ∷ [])) same
    ∙ append-nil (dedup_from eqb x (take k ys))
