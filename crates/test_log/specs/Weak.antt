-- A hash function of eight bits, whose collisions are easy to find.
use Rattle.std.specs.Prelude.{◌≡◌, ℕ, ◌+◌, ◌≤◌, List, ◌++◌, length, replicate, take}
use Rattle.std.proofs.Common.{◌∙◌, ap, length-append, lit≤, subst, sym}
use Rattle.std.proofs.lemmas.List.{length-take-le}
use Rattle.sha2.proofs.Facts256.{length-sha256}
use Rattle.sha2.specs.Sha256.{sha256}

-- the first byte of a hash, and 31 zeros
abbrev pub weakened : List ℕ → List ℕ
weakened hash = take 1 hash ++ replicate 31 0

-- SHA-256 so
abbrev pub weak_hash : List ℕ → List ℕ
weak_hash bytes = weakened (sha256 bytes)

pub length-weak : (bytes : List ℕ) → length (weak_hash bytes) ≡ 32
length-weak bytes =
    length-append (take 1 (sha256 bytes)) (replicate 31 0) ∙ ap (λ n. n + 31)
    (length-take-le 1 (sha256 bytes)
    (let P : ℕ → Type 0 = λ n. 1 ≤ n in subst P (sym (length-sha256 bytes)) (lit≤ tt)))
