-- How many elements of a list pass, and which nodes stand under a node.
use Rattle.std.proofs.Common.{◌≡◌, ℕ, suc, ◌+◌, ◌-◌, ◌*◌, ◌/◌, ◌<◌, ◌≤◌, Bool, true, eqb, nat_le, ◌&&◌, List, [], ◌∷◌}
use Rattle.std.proofs.Common.{◌++◌, refl, ap, sym, ◌∙◌, arith, inl, inr, eq-eqb}
use Rattle.std.proofs.Math.Nat.{mul_comm}
use Rattle.std.proofs.lemmas.Grind.{common_steps}
use Rattle.std.proofs.lemmas.Nat.{div-mul-add}
use Rattle.std.proofs.lemmas.Bool.{eqb-true}
use Rattle.std.proofs.lemmas.Bool.{and_parts, and_from, or_cases, or_left, or_right, le-leb, leb-true, true≢false}
use Rattle.p3_merkle_core.specs.Geometry.{Shape, step, ancestor}
use Rattle.p3_merkle_core.specs.Pruning.{is_covered, is_in, up, is_under}
use Rattle.p3_merkle_core.proofs.Shapes.StepFacts.{anc_next}
use Rattle.p3_merkle_core.proofs.Lists.ListFacts.{tally}

-- ---- how many elements pass

pub tally_two : {X : Type 0} (p q r : X → Bool) → ((x : X) → p x ≡ true → r x ≡ true) →
    ((x : X) → q x ≡ true → r x ≡ true) → ((x : X) → p x ≡ true → q x ≡ true → ⊥) →
    (xs : List X) → tally p xs + tally q xs ≤ tally r xs
unfolding tally
tally_two p q r pr qr pq [] = omega arith
tally_two p q r pr qr pq (x ∷ xs) = grind (arith, common_steps, tally_two p q r pr qr pq xs)

pub tally_append : {X : Type 0} (p : X → Bool) (xs ys : List X) → tally p (xs ++ ys) ≡ tally p xs + tally p ys
unfolding tally
tally_append p [] ys = omega arith
tally_append p (x ∷ xs) ys = omega (arith, tally_append p xs ys)

-- ---- what stands under a node

pub under_self : (s : Shape) (l j : ℕ) → is_under s l j (l, j) ≡ true
unfolding is_under up
under_self s l j = let z : l - l ≡ 0 = omega arith in
    rw z (and_from (nat_le l l) (eqb j j) (le-leb l l (omega arith)) (eq-eqb j j refl))

pub up_next : (s : Shape) (m k l : ℕ) → m ≤ l → up s m k (suc l - m) ≡ up s m k (l - m) / step s l
unfolding up
up_next s m k l h = grind (arith, common_steps)

pub under_parent : (s : Shape) (l j c : ℕ) → c / step s l ≡ j → (x : ℕ × ℕ) → is_under s l c x ≡ true →
    is_under s (suc l) j x ≡ true
unfolding is_under
under_parent s l j c e (m, k) h =
    grind (arith, common_steps, eq-eqb, eqb-true, and_parts, and_from, le-leb, leb-true, up_next)

pub under_one : (s : Shape) (l c d : ℕ) (x : ℕ × ℕ) → is_under s l c x ≡ true → is_under s l d x ≡ true → c ≡ d
unfolding is_under
under_one s l c d (m, k) h g = grind (arith, common_steps)

pub child_parent : (s : Shape) (l j i : ℕ) → i < step s l → (step s l * j + i) / step s l ≡ j
child_parent s l j i h = let e : step s l * j ≡ j * step s l = mul_comm (step s l) j in
    rw e (div-mul-add j (step s l) i h)

pub covered_up : (s : Shape) (queries : List ℕ) (l k : ℕ) → is_covered s queries l k ≡ true →
    is_covered s queries (suc l) (k / step s l) ≡ true
covered_up s [] l k h = absurd (true≢false (sym h))
covered_up s (q ∷ queries) l k h =
    elim (or_cases (eqb (ancestor s l q) k) (is_covered s queries l k) h) [
      | inl e ↦ or_left (eqb (ancestor s (suc l) q) (k / step s l)) (is_covered s queries (suc l) (k / step s l))
          (eq-eqb (ancestor s (suc l) q) (k / step s l) (anc_next s l q
          ∙ ap (λ n. n / step s l) (eqb-true (ancestor s l q) k e)))
      | inr r ↦ or_right (eqb (ancestor s (suc l) q) (k / step s l)) (is_covered s queries (suc l) (k / step s l))
          (covered_up s queries l k r)
    ]

pub member_counts : (s : Shape) (given : List (ℕ × ℕ)) (l j : ℕ) → is_in given l j ≡ true →
    1 ≤ tally (is_under s l j) given
unfolding tally
member_counts s [] l j h = absurd (true≢false (sym h))
member_counts s ((m, k) ∷ given) l j h =
    elim (or_cases (eqb m l && eqb k j) (is_in given l j) h) [
      | inl e ↦
          let p = and_parts (eqb m l) (eqb k j) e in
          let a = eqb-true m l p.0 in
          let b = eqb-true k j p.1 in
          let u : is_under s l j (m, k) ≡ true = rw (a, b) (under_self s l j) in
          rw u (omega arith)
      | inr r ↦ omega (arith, member_counts s given l j r)
    ]
