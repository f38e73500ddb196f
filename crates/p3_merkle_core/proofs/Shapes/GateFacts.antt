-- There is no refusal exactly if the heights are lawful.
use Rattle.std.proofs.Common.{◌≡◌, ℕ, zero, suc, ◌<◌, ◌≤◌, Bool, false, nat_lt, List, [], ◌∷◌, refl, sym, ◌∙◌}
use Rattle.std.proofs.Common.{arith, inl, inr, length, get_or, Some, None, All, position, find, eq-eqb, ◌↔◌, Option}
use Rattle.std.proofs.lemmas.Grind.{common_steps}
use Rattle.std.proofs.lemmas.Bool.{cases_lt, cases_Bool, ltb-false, le-ltb, lt-ltb, eqb-true, not-false, not_from_true}
use Rattle.std.proofs.lemmas.Bool.{cond-true, cond-false, ne_eqb, eqb-false}
use Rattle.std.proofs.lemmas.List.{get_or_default, get_or-map, length-map}
use Rattle.std.proofs.lemmas.List.Sums.{fails_before_first, position_or_len_is}
use Rattle.std.specs.List.{position_or_len}
use Rattle.p3_merkle_core.specs.Geometry.{height_limit, expected_height, IsLawful}
use Rattle.p3_support.specs.Batches.{greatest, heights_of}
use Rattle.p3_support.specs.declared.matrix.Dimensions.{Dimensions}
use Rattle.p3_merkle_core.specs.Gate.{first_too_large, first_off_ladder, gate_refusal, height_refusal_of}
use Rattle.p3_merkle_core.proofs.Shapes.LeastFacts.{le_tallest}

position_none : {X : Type 0} (p : X → Bool) (xs : List X) → position p xs ≡ None → All (λ x. p x ≡ false) xs
position_none p xs e k d h = grind (arith, common_steps, cases_lt, lt-ltb, cond-true, fails_before_first)

position_none_from : {X : Type 0} (p : X → Bool) (d : X) (xs : List X) → All (λ x. p x ≡ false) xs → position p xs
    ≡ None
position_none_from p d xs a =
    let e : position_or_len p xs
    ≡ length xs = position_or_len_is p xs (length xs) d (omega arith) (λ k h. a k d h)
    (λ h. absurd (omega arith)) in
    cond-false (nat_lt (position_or_len p xs) (length xs)) (Some (position_or_len p xs)) None
    (le-ltb (position_or_len p xs) (length xs) (omega arith))

find_none : {X : Type 0} (p : X → Bool) (xs : List X) → find p xs ≡ None → All (λ x. p x ≡ false) xs
find_none p [] e k d h = absurd (omega arith)
find_none p (x ∷ xs) e zero d h =
    elim (cases_Bool (p x)) [ inl t ↦ let s = cond-true (p x) (Some x) (find p xs) t in cc | inr f ↦ f ]
find_none p (x ∷ xs) e (suc k) d h =
    elim (cases_Bool (p x)) [
      | inl t ↦ let s = cond-true (p x) (Some x) (find p xs) t in cc
      | inr f ↦ find_none p xs (sym (cond-false (p x) (Some x) (find p xs) f) ∙ e) k d (omega arith)
    ]

find_none_from : {X : Type 0} (p : X → Bool) (xs : List X) → All (λ x. p x ≡ false) xs → find p xs ≡ None
find_none_from p [] a = refl
find_none_from p (x ∷ xs) a =
    cond-false (p x) (Some x) (find p xs) (a 0 x (omega arith))
    ∙ find_none_from p xs (λ k d h. a (suc k) d (omega arith))

-- the tallest is some height, or 0
tallest_reached : (hs : List ℕ) (m : ℕ) → All (λ h. h ≤ m) hs → greatest hs ≤ m
tallest_reached [] m a = omega arith
tallest_reached (h ∷ hs) m a =
    omega (arith, a 0 0 (omega arith), tallest_reached hs m (λ k d l. a (suc k) d (omega arith)))

none_too_large : (hs : List ℕ) → first_too_large hs ≡ None → All (λ h. h ≤ height_limit) hs
none_too_large hs e k d h =
    ltb-false height_limit (get_or hs k d) (position_none (λ h. nat_lt height_limit h) hs e k d h)

pub tallest_fits : (hs : List ℕ) → first_too_large hs ≡ None → greatest hs ≤ height_limit
tallest_fits hs e = tallest_reached hs height_limit (none_too_large hs e)

on_ladder : (m : ℕ) (hs : List ℕ) → first_off_ladder m hs ≡ None → All (λ h. h ≡ expected_height m h) hs
on_ladder m hs e k d h = grind (arith, common_steps, eqb-true, not-false, find_none)

pub lawful_from_none : (hs : List ℕ) → (greatest hs ≡ 0 → ⊥) → first_too_large hs ≡ None →
    first_off_ladder (greatest hs) hs ≡ None → IsLawful hs
lawful_from_none hs some large off = grind (arith, common_steps, none_too_large, on_ladder)

pub none_large_from_lawful : (hs : List ℕ) → IsLawful hs → first_too_large hs ≡ None
none_large_from_lawful hs w = grind (arith, common_steps, le-ltb, position_none_from, none_too_large)

-- none is too large, where the greatest is not
pub none_large_up_to : (hs : List ℕ) → greatest hs ≤ height_limit → first_too_large hs ≡ None
none_large_up_to hs low =
    position_none_from (λ h. nat_lt height_limit h) 0 hs
    (λ k d h. le-ltb height_limit (get_or hs k d)
    (omega (arith, low, le_tallest hs k, get_or_default hs k d 0 h)))

pub none_off_from_lawful : (hs : List ℕ) → IsLawful hs → first_off_ladder (greatest hs) hs ≡ None
none_off_from_lawful hs w = grind (arith, common_steps, eq-eqb, not_from_true, find_none_from, on_ladder)

-- a lawful height, as the code reads it, is the expected one
pub expected_there : (dimensions : List Dimensions) (k : ℕ) → k < length dimensions → IsLawful (heights_of dimensions) →
    let h = (get_or dimensions k (record { width = 0; height = 0 })).height in
    h ≡ expected_height (greatest (heights_of dimensions)) h
expected_there dimensions k l w =
    rw (← get_or-map (λ d. d.height) dimensions k (record { width = 0; height = 0 }) 0 l)
    (w.on_ladder k 0 (omega (arith, length-map dimensions (λ d. d.height))))

refusal_parts : (m : ℕ) (hs : List ℕ) (x o : Option ℕ) → height_refusal_of m hs x o ≡ None → (x ≡ None) × (o ≡ None)
refusal_parts m hs (Some i) o e = absurd cc
refusal_parts m hs None (Some h) e = absurd cc
refusal_parts m hs None None e = (refl, refl)

lawful_from : (hs : List ℕ) → gate_refusal hs ≡ None → IsLawful hs
lawful_from hs e =
    grind (arith, common_steps, cases_Bool, cond-true, cond-false, eqb-false, lawful_from_none, refusal_parts)

gate_none : (hs : List ℕ) → IsLawful hs → gate_refusal hs ≡ None
gate_none hs w = grind (arith, common_steps, cond-false, ne_eqb, none_large_from_lawful, none_off_from_lawful)

-- the gate refuses nothing exactly if the heights are lawful
pub gate_lawful : (hs : List ℕ) → (gate_refusal hs ≡ None) ↔ IsLawful hs
gate_lawful hs = (lawful_from hs, gate_none hs)
