-- What `least`, `exponent`, `tallest` and `shortest` are, and how many heights and widths there are.
use Rattle.std.proofs.Common.{◌≡◌, ℕ, zero, suc, ◌+◌, ◌-◌, ◌*◌, ◌^◌, ◌<◌, ◌≤◌, Bool, true, false, nat_le, List, [], ◌∷◌}
use Rattle.std.proofs.Common.{refl, ap, sym, ◌∙◌, arith, inl, inr, ◌⊎◌, length, get_or}
use Rattle.std.proofs.lemmas.Grind.{common_steps}
use Rattle.std.proofs.lemmas.Bool.{cases_lt, cases_Bool, false≢true, le-leb, lt-leb, leb-true, leb-false}
use Rattle.std.proofs.Math.Nat.{two-pow-succ}
use Rattle.std.proofs.lemmas.Nat.{pow_pos}
use Rattle.std.proofs.Math.Pow.{pow_mono}
use Rattle.std.proofs.lemmas.List.{length-map}
use Rattle.p3_merkle_core.specs.Geometry.{least, exponent, Shape, heights, widths}
use Rattle.p3_merkle_core.specs.Inner.Shapes.{least_height, shortest}
use Rattle.p3_support.specs.Batches.{greatest}

pub least_is : (p : ℕ → Bool) (bound k : ℕ) → k ≤ bound → ((j : ℕ) → j < k → p j ≡ false) → (k < bound → p k ≡ true) →
    least p bound ≡ k
least_is p zero k h none some = omega arith
least_is p (suc n) zero h none some = let e : p 0 ≡ true = some (omega arith) in rw (e, least)
least_is p (suc n) (suc k) h none some =
    let e : p 0 ≡ false = none 0 (omega arith) in
    rw (e, least)
    (ap suc (least_is (λ j. p (suc j)) n k (omega arith) (λ j l. none (suc j) (omega arith))
    (λ l. some (omega arith))))

pub least_le : (p : ℕ → Bool) (bound : ℕ) → least p bound ≤ bound
least_le p zero = omega arith
least_le p (suc n) =
    elim (p 0) as (λ v. elim v [ true ↦ 0 | false ↦ suc (least (λ k. p (suc k)) n) ] ≤ suc n)
    [ true ↦ omega arith | false ↦ omega (arith, least_le (λ k. p (suc k)) n) ]

-- what stands before the least does not pass
pub below_least : (p : ℕ → Bool) (bound j : ℕ) → j < least p bound → p j ≡ false
below_least p zero j h = absurd (omega arith)
below_least p (suc n) zero h =
    elim (cases_Bool (p 0)) [ inl e ↦ absurd (omega (arith, rw (e, least) at h)) | inr e ↦ e ]
below_least p (suc n) (suc j) h =
    elim (cases_Bool (p 0)) [
      | inl e ↦ absurd (omega (arith, rw (e, least) at h))
      | inr e ↦ let l : suc j < suc (least (λ k. p (suc k)) n) = rw (e, least) at h in
          below_least (λ k. p (suc k)) n j (omega arith)
    ]

-- the least passes, where any does
pub least_passes : (p : ℕ → Bool) (bound : ℕ) → least p bound < bound → p (least p bound) ≡ true
least_passes p zero h = absurd (omega arith)
least_passes p (suc n) h =
    elim (cases_Bool (p 0)) [
      | inl e ↦ rw (e, least) e
      | inr e ↦ let l : suc (least (λ k. p (suc k)) n) < suc n = rw (e, least) at h in
          rw (e, least) (least_passes (λ k. p (suc k)) n (omega arith))
    ]

-- what passes is not below the least
pub least_bound : (p : ℕ → Bool) (bound k : ℕ) → p k ≡ true → least p bound ≤ k
least_bound p bound k e =
    elim (cases_lt k (least p bound)) [ inl l ↦ absurd (false≢true (sym (below_least p bound k l) ∙ e)) | inr g ↦ g ]

pub n_below_pow : (n : ℕ) → n < 2 ^ n
n_below_pow zero = omega arith
n_below_pow (suc n) = omega (arith, two-pow-succ n, n_below_pow n)

pub exponent_is : (h m : ℕ) → h ≤ 2 ^ m → ((j : ℕ) → j < m → 2 ^ j < h) → exponent h ≡ m
unfolding exponent
exponent_is h m above below =
    least_is (λ k. nat_le h (2 ^ k)) h m
    (elim (cases_lt h m) [ inl l ↦ absurd (omega (arith, below h l, n_below_pow h)) | inr g ↦ g ])
    (λ j l. lt-leb h (2 ^ j) (below j l))
    (λ l. le-leb h (2 ^ m) above)

pub exponent_covers : (h : ℕ) → h ≤ 2 ^ exponent h
unfolding exponent
exponent_covers h = grind (arith, common_steps, cases_lt, leb-true, pow_mono, least_passes, n_below_pow)

pub below_exponent : (h j : ℕ) → j < exponent h → 2 ^ j < h
unfolding exponent
below_exponent h j l = leb-false h (2 ^ j) (below_least (λ k. nat_le h (2 ^ k)) h j l)

pub exponent_le : (h k : ℕ) → h ≤ 2 ^ k → exponent h ≤ k
exponent_le h k le =
    elim (cases_lt k (exponent h)) [ inl l ↦ absurd (omega (arith, below_exponent h k l)) | inr g ↦ g ]

pub exponent_mono : (h m : ℕ) → h ≤ m → exponent h ≤ exponent m
exponent_mono h m le = exponent_le h (exponent m) (omega (arith, exponent_covers m))

-- no height of the list is above the tallest
pub le_tallest : (hs : List ℕ) (i : ℕ) → get_or hs i 0 ≤ greatest hs
le_tallest [] i = omega arith
le_tallest (h ∷ hs) zero = omega arith
le_tallest (h ∷ hs) (suc i) = omega (arith, le_tallest hs i)

-- the least height is not above any height
pub least_height_below : (m : ℕ) (hs : List ℕ) (i d : ℕ) → i < length hs → least_height m hs ≤ get_or hs i d
least_height_below m [] i d l = absurd (omega arith)
least_height_below m (h ∷ hs) zero d l = omega arith
least_height_below m (h ∷ hs) (suc i) d l = omega (arith, least_height_below m hs i d (omega arith))

-- it is the start or some height
least_height_there : (m : ℕ) (hs : List ℕ) → (least_height m hs ≡ m) ⊎
    ((i : ℕ) × (i < length hs) × (get_or hs i 0 ≡ least_height m hs))
least_height_there m [] = inl refl
least_height_there m (h ∷ hs) =
    elim (cases_lt (least_height m hs) h) [
      | inl less ↦ elim (least_height_there m hs) [
        | inl e ↦ inl (omega arith)
        | inr there ↦ inr (suc there.0, omega (arith, there.1), omega (arith, there.2))
      ]
      | inr ge ↦ inr (0, omega arith, omega arith)
    ]

-- where there are heights, the shortest is one of them
pub shortest_there : (hs : List ℕ) → 0 < length hs → (i : ℕ) × (i < length hs) × (get_or hs i 0 ≡ shortest hs)
shortest_there hs some =
    elim (least_height_there (greatest hs) hs) [
      | inl e ↦ (0, some, omega (arith, le_tallest hs 0, least_height_below (greatest hs) hs 0 0 some))
      | inr there ↦ there
    ]

-- what a count of leading zeros says of the height h, where a is the number below it
pub exponent_from_leading : (h a z m : ℕ) → a ≡ h - 1 → z + m ≡ 64 → a < 2 ^ m → 2 ^ m ≤ 2 * a + 1 → 64 - z ≡ exponent h
exponent_from_leading h a z m is sum below above =
    let e : exponent h
    ≡ m = exponent_is h m (omega arith)
    (λ j l. omega (arith, two-pow-succ j, pow_mono {i = suc j} {j = m} l, pow_pos j)) in
    omega arith

pub length-heights : (s : Shape) → length (heights s) ≡ length s.dimensions
length-heights s = length-map s.dimensions (λ d. d.height)

pub length-widths : (s : Shape) → length (widths s) ≡ length s.dimensions
length-widths s = length-map s.dimensions (λ d. d.width)

pub widths_in_pairs : (s : Shape) → length (widths s) ≡ length (heights s)
widths_in_pairs s = length-widths s ∙ sym (length-heights s)
