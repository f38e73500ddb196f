-- What arrays are that are made index by index.
use Rattle.std.proofs.Common.{◌≡◌, ℕ, zero, suc, ◌+◌, ◌<◌, ◌≤◌, List, [], ◌∷◌, length, map, sym, ◌∙◌, subst, arith}
use Rattle.std.proofs.Common.{get_or, inl, inr}
use Rattle.std.proofs.Math.Nat.{eq-or-lt_of_le}
use Rattle.std.proofs.lemmas.List.{get_or-map, length-map}
use Rattle.std.proofs.lemmas.List.FromFn.{fill_by_all}
use Rattle.std.specs.Array.{IsFromFnResult, IsFromFnResultFrom}
use Rattle.std.specs.Fn.{Mut, Called}
use Rattle.std.specs.List.{range_with_len}

module _ {F B : Type 0} (g : Mut F (ℕ × Unit {0}) B) (f : F) (P : ℕ → B → Type 0) (keeps : (k : ℕ) (y : B) (q : F) →
    Called g f (k, tt) y q → (q ≡ f) × P k y) where
  -- from element i on
  each_made : (ys : List B) (i n : ℕ) → IsFromFnResultFrom g f ys i n → (k : ℕ) (e : B) → i ≤ k → k < i + n →
      P k (get_or ys k e)
  each_made ys i zero made k e above below = absurd (omega arith)
  each_made ys i (suc n) made k e above below =
      let kept = keeps i made.1 made.0 made.3 in
      elim (eq-or-lt_of_le {n = i} {m = k} above) as (λ _. P k (get_or ys k e)) [
        | inl same ↦ subst (λ (j : ℕ). P j (get_or ys j e)) same (subst (λ (v : B). P i v) (sym (made.2.1 e)) kept.1)
        | inr later ↦ each_made ys (i + 1) n (subst (λ (q : F). IsFromFnResultFrom g q ys (i + 1) n) kept.0 made.4) k e
            (omega arith) (omega arith)
      ]

  -- each element of `array::from_fn` with a closure that its calls leave as it was
  pub made_by : {ys : List B} {n : ℕ} → IsFromFnResult g f ys n → (k : ℕ) (e : B) → k < n → P k (get_or ys k e)
  made_by {ys} {n} made k e below = each_made ys 0 n made.each k e (omega arith) (omega arith)

-- what an array made index by index shows of its elements
pub map_made : {A B : Type 0} (of : A → B) (f : ℕ → B) (z : B) (ys : List A) (n : ℕ) → length ys ≡ n
    → ((k : ℕ) (d : A) → k < n → of (get_or ys k d) ≡ f k) → map of ys ≡ map f (range_with_len 0 n)
map_made of f z [] n long at = fill_by_all f (map of []) n z long (λ k h. absurd (omega (arith, long, h)))
map_made of f z (y ∷ ys) n long at =
    fill_by_all f (map of (y ∷ ys)) n z (length-map (y ∷ ys) of ∙ long) (λ k h. let inside : k < length (y ∷ ys) =
    rw long h in get_or-map of (y ∷ ys) k y z inside ∙ at k y h)
