-- Entries that are hashed together with others.
use Rattle.std.specs.Prelude.{◌≡◌, ◌+◌, ◌/◌, ◌<◌, ℕ, List, [], length, slice_index_or}
use Rattle.sha2.specs.Sha256.{sha256}
use Rattle.tlog.specs.Rfc9162.{leaf_hash}

-- this length and index are those of an entry of so many bytes
pub record IsOfLength (entries : List (List ℕ)) (len : ℕ) (place : ℕ × ℕ) : Type 0 where
  pub is : place.0 ≡ len
  pub within : place.1 < length entries
  pub own : length (slice_index_or entries place.1 []) ≡ len

-- this length and index are those of an entry
abbrev pub IsPlaceOf : List (List ℕ) → ℕ × ℕ → Type 0
IsPlaceOf entries place = IsOfLength entries place.0 place

-- how many blocks of SHA-256 the input of the leaf hash of so many bytes fills with its padding
abbrev pub block_count : ℕ → ℕ
block_count len = (len + 73) / 64

-- an entry of this length and index fills so many
abbrev pub Fills : ℕ → ℕ × ℕ → Type 0
Fills count place = block_count place.0 ≡ count

-- the leaf hash of this entry stands at its index
abbrev pub IsHashed : List (List ℕ) → List (List ℕ) → ℕ → Type 0
IsHashed entries hashes index = slice_index_or hashes index [] ≡ leaf_hash sha256 (slice_index_or entries index [])

-- these are the leaf hashes of the entries at these places
abbrev pub AreHashes : List (List ℕ) → List (ℕ × ℕ) → List (List ℕ) → Type 0
AreHashes entries places values =
    (k : ℕ) (d : ℕ × ℕ) → k < length places →
    slice_index_or values k [] ≡ leaf_hash sha256 (slice_index_or entries (slice_index_or places k d).1 [])
