-- Transposed rows, by the places of their words.
use Rattle.std.proofs.Common.{◌≡◌, ℕ, zero, suc, ◌<◌, List, [], ◌∷◌, length, get_or, slice_index, refl, arith}
use Rattle.p3_hashes.specs.Inner.Transposed.{transposed}
use Rattle.sha256_eights.proofs.Lanewise.{each_lane}

-- a list of four, by its elements
pub four_of : (xs : List ℕ) → length xs ≡ 4 → slice_index xs 0 ∷ slice_index xs 1 ∷ slice_index xs 2 ∷ slice_index xs 3
    ∷ [] ≡ xs
four_of [] h = absurd (omega (arith, h))
four_of (a ∷ []) h = absurd (omega (arith, h))
four_of (a ∷ b ∷ []) h = absurd (omega (arith, h))
four_of (a ∷ b ∷ c ∷ []) h = absurd (omega (arith, h))
four_of (a ∷ b ∷ c ∷ d ∷ []) h = refl
four_of (a ∷ b ∷ c ∷ d ∷ e ∷ xs) h = absurd (omega (arith, h))

-- four columns of the same rows
pub transposed_same : {a b c d p q r s : List ℕ} → a ≡ p → b ≡ q → c ≡ r → d ≡ s →
    transposed a b c d ≡ transposed p q r s
transposed_same ea eb ec ed = cc

-- what holds of each of four rows
pub four_cases : (P : ℕ → Type 0) → P 0 → P 1 → P 2 → P 3 → (k : ℕ) → k < 4 → P k
four_cases P a b c d zero below = a
four_cases P a b c d (suc zero) below = b
four_cases P a b c d (suc (suc zero)) below = c
four_cases P a b c d (suc (suc (suc zero))) below = d
four_cases P a b c d (suc (suc (suc (suc k)))) below = absurd (omega (arith, below))

-- what the lanes of four columns of eight rows are: the rows
pub transposed_lanes : (a b c d e f g h p q r s : List ℕ) → length a ≡ 4 → length b ≡ 4 → length c ≡ 4 → length d ≡ 4 →
    length e ≡ 4 → length f ≡ 4 → length g ≡ 4 → length h ≡ 4
    → p ≡ slice_index a 0 ∷ slice_index b 0 ∷ slice_index c 0 ∷ slice_index d 0 ∷ slice_index e 0 ∷ slice_index f 0
    ∷ slice_index g 0 ∷ slice_index h 0 ∷ []
    → q ≡ slice_index a 1 ∷ slice_index b 1 ∷ slice_index c 1 ∷ slice_index d 1 ∷ slice_index e 1 ∷ slice_index f 1
    ∷ slice_index g 1 ∷ slice_index h 1 ∷ []
    → r ≡ slice_index a 2 ∷ slice_index b 2 ∷ slice_index c 2 ∷ slice_index d 2 ∷ slice_index e 2 ∷ slice_index f 2
    ∷ slice_index g 2 ∷ slice_index h 2 ∷ []
    → s ≡ slice_index a 3 ∷ slice_index b 3 ∷ slice_index c 3 ∷ slice_index d 3 ∷ slice_index e 3 ∷ slice_index f 3
    ∷ slice_index g 3 ∷ slice_index h 3 ∷ []
    → (k : ℕ) → k < 8 → get_or p k 0 ∷ get_or q k 0 ∷ get_or r k 0 ∷ get_or s k 0 ∷ []
    ≡ get_or (a ∷ b ∷ c ∷ d ∷ e ∷ f ∷ g ∷ h ∷ []) k []
transposed_lanes a b c d e f g h p q r s la lb lc ld le lf lg lh ep eq er es =
    rw (ep, eq, er, es) (each_lane _ (four_of a la) (four_of b lb) (four_of c lc) (four_of d ld) (four_of e le)
    (four_of f lf) (four_of g lg) (four_of h lh))
