-- SHA-256 (FIPS 180-4) as the two functions of a tree, on lists of bytes. The standard leaves out messages of 2 ^ 64
-- bits or more: their length is taken modulo 2 ^ 64.
use Rattle.std.specs.Prelude.{ℕ, List}
use Rattle.std.specs.List.{concat}
use Rattle.sha2.specs.Sha256.{sha256}

-- the digest of a row: that of its bytes
abbrev pub sha256_rows : List ℕ → List ℕ
sha256_rows bytes = sha256 bytes

-- the digest of a group of digests: that of their bytes, one digest after another
abbrev pub sha256_nodes : List (List ℕ) → List ℕ
sha256_nodes digests = sha256 (concat digests)
