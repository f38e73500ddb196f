-- The functions of words, in the forms of the code.
use Rattle.std.proofs.Common.{◌≡◌, ℕ, ◌+◌, ◌%◌, ◌<◌, min, bit_and, bit_xor, arith}
use Rattle.std.proofs.lemmas.Nat.Bits.{bit_at-lt, bit_at_and, bit_at_xor, same_from_bits}
use Rattle.sha2.specs.Sha256.{maj}

-- one bit of Maj
majority : (a b c : ℕ) → a < 2 → b < 2 → c < 2 → (b + min ((a + b) % 2) ((b + c) % 2)) % 2
    ≡ ((min a b + min a c) % 2 + min b c) % 2
majority a b c ha hb hc = omega arith

-- Maj by three operations besides x xor y and y xor z
pub maj_of_differences : (x y z : ℕ) → bit_xor y (bit_and (bit_xor x y) (bit_xor y z)) ≡ maj x y z
maj_of_differences x y z = same_from_bits _ _ (λ i. simp (bit_at_xor, bit_at_and)
    (majority _ _ _ (bit_at-lt x i) (bit_at-lt y i) (bit_at-lt z i)))
