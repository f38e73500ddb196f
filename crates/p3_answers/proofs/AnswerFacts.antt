-- What the first of some refusals says, and what it says that there is none.
use Rattle.std.proofs.Common.{◌≡◌, ℕ, zero, suc, ◌+◌, ◌<◌, ◌≤◌, Bool, true, eqb, List, [], ◌∷◌, refl, ap}
use Rattle.std.proofs.Common.{sym, ◌∙◌, arith, inl, inr, length, get_or, Option, Some, None, filter, zip}
use Rattle.std.proofs.lemmas.Bool.{cases_Bool, cases_eq, cond-true, cond-false, true≢false}
use Rattle.std.specs.Prelude.{Ok}
use Rattle.std.specs.List.{range_with_len}
use Rattle.std.specs.Option.{option_map, option_or}
use Rattle.p3_answers.specs.Answers.{first_of, unless, ok_unless}

-- ---- what None says

pub none_parts : {E : Type 0} (x y : Option E) → option_or x y ≡ None → (x ≡ None) × (y ≡ None)
none_parts None y e = (refl, e)
none_parts (Some x) y e = absurd cc

pub none_of_both : {E : Type 0} (x y : Option E) → x ≡ None → y ≡ None → option_or x y ≡ None
none_of_both x y a b = rw (a, b) refl

pub map_none : {X Y : Type 0} (g : X → Y) (o : Option X) → option_map g o ≡ None → o ≡ None
map_none g None e = refl
map_none g (Some x) e = absurd cc

pub none_map : {X Y : Type 0} (g : X → Y) (o : Option X) → o ≡ None → option_map g o ≡ None
none_map g o e = rw e refl

pub unless_none : {E : Type 0} (b : Bool) (e : E) → unless b e ≡ None → b ≡ true
unless_none b e h = elim (cases_Bool b) [ inl t ↦ t | inr f ↦ let s = cond-false b None (Some e) f in cc ]

pub none_unless : {E : Type 0} (b : Bool) (e : E) → b ≡ true → unless b e ≡ None
none_unless b e t = cond-true b None (Some e) t

pub verdict_ok : {E : Type 0} (o : Option E) → ok_unless o (tt {0}) ≡ Ok tt → o ≡ None
verdict_ok None e = refl
verdict_ok (Some x) e = absurd cc

-- ---- an option, else another

pub found_or : {E : Type 0} (x y total : Option E) (e : E) → option_or x y ≡ total → x ≡ Some e → total ≡ Some e
found_or x y total e h s = sym (rw s at h)

pub kept_or : {E : Type 0} (x y total : Option E) → option_or x y ≡ total → x ≡ None → y ≡ total
kept_or x y total e n = rw n at e

-- ---- over lists

pub each_none : {X E : Type 0} (h : X → Option E) (xs : List X) (k : ℕ) (d : X) → first_of h xs ≡ None → k < length xs →
    h (get_or xs k d) ≡ None
each_none h [] k d e l = absurd (omega arith)
each_none h (x ∷ xs) zero d e l = (none_parts (h x) (first_of h xs) e).0
each_none h (x ∷ xs) (suc k) d e l = each_none h xs k d (none_parts (h x) (first_of h xs) e).1 (omega arith)

pub kept_none : {E : Type 0} (h : ℕ → Option E) (p : ℕ → Bool) (a n i : ℕ) → first_of h (filter p (range_with_len a n))
    ≡ None → p i ≡ true → a ≤ i → i < a + n → h i ≡ None
kept_none h p a zero i e t low high = absurd (omega arith)
kept_none h p a (suc n) i e t low high =
    let rest = first_of h (filter p (range_with_len (a + 1) n)) in
    elim (cases_Bool (p a)) [
      | inl y ↦
          let both = none_parts (h a) rest (rw y at e) in
          elim (cases_eq a i) [
            | inl same ↦ rw (← same) both.0
            | inr ne ↦ kept_none h p (a + 1) n i both.1 t (omega arith) (omega arith)
          ]
      | inr f ↦ elim (cases_eq a i) [
        | inl same ↦ absurd (true≢false (sym t ∙ ap p (sym same) ∙ f))
        | inr ne ↦ kept_none h p (a + 1) n i (rw f at e) t (omega arith) (omega arith)
      ]
    ]

pub range_none : {E : Type 0} (h : ℕ → Option E) (a n i : ℕ) → first_of h (range_with_len a n) ≡ None → a ≤ i →
    i < a + n → h i ≡ None
range_none h a zero i e low high = absurd (omega arith)
range_none h a (suc n) i e low high =
    let both = none_parts (h a) (first_of h (range_with_len (a + 1) n)) e in
    elim (cases_eq a i) [
      | inl same ↦ rw (← same) both.0
      | inr ne ↦ range_none h (a + 1) n i both.1 (omega arith) (omega arith)
    ]

pub paired_none : {X E : Type 0} (h : ℕ × X → Option E) (is : List ℕ) (xs : List X) (k : ℕ) (d : X) →
    first_of h (zip is xs) ≡ None → length xs ≡ length is → k < length is → h (get_or is k 0, get_or xs k d) ≡ None
paired_none h [] xs k d e same l = absurd (omega arith)
paired_none h (i ∷ is) [] k d e same l = absurd (omega arith)
paired_none h (i ∷ is) (x ∷ xs) zero d e same l = (none_parts (h (i, x)) (first_of h (zip is xs)) e).0
paired_none h (i ∷ is) (x ∷ xs) (suc k) d e same l =
    paired_none h is xs k d (none_parts (h (i, x)) (first_of h (zip is xs)) e).1 (omega arith) (omega arith)
