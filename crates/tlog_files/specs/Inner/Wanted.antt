-- Entries that are wanted, as far as they have come.
use Rattle.std.specs.Prelude.{◌≡◌, ◌⊎◌, ℕ, ◌<◌, ◌≤◌, ◌==◌, Bool, false, if◌then◌else◌, List, [], ◌∷◌, length, map, All}
use Rattle.std.specs.Prelude.{slice_index}
use Rattle.std.specs.List.{range_with_len, Contains}
use Rattle.tlog_files.specs.Entries.{entry_at}
use Rattle.tlog_files.specs.declared.wanted.WantedEntries.{WantedEntries}

-- an index at its place among the wanted ones
abbrev pub place_of : List ℕ → ℕ → ℕ × ℕ
place_of wanted place = (slice_index wanted place, place)

abbrev pub places_of : List ℕ → List (ℕ × ℕ)
places_of wanted = map (place_of wanted) (range_with_len 0 (length wanted))

-- the indices ascend, from n on, perhaps with repeats
abbrev pub IsAscending : ℕ → List (ℕ × ℕ) → Type 0
IsAscending n [] = Unit {0}
IsAscending n (p ∷ ps) = (n ≤ p.0) × IsAscending p.0 ps

-- whether the first of some indices is this one
abbrev pub is_next : ℕ → List (ℕ × ℕ) → Bool
is_next n [] = false
is_next n (p ∷ ps) = p.0 == n

-- the wanted entry of a place has ended, and stands there
pub record IsCopied (wanted : List ℕ) (ended entries : List (List ℕ)) (place : ℕ) : Type 0 where
  pub within : slice_index wanted place < length ended
  pub is : entry_at entries place ≡ entry_at ended (slice_index wanted place)

-- there is room for the entries that have not ended
abbrev pub HasPlaces : WantedEntries → Type 0
HasPlaces w = All (λ (p : ℕ × ℕ). p.1 < length w.entries.items) w.left.now

-- an index stands with its place
abbrev pub IsOwn : List ℕ → ℕ × ℕ → Type 0
IsOwn wanted p = (p.1 < length wanted) × (p.0 ≡ slice_index wanted p.1)

-- each wanted entry is left, or stands at its place
pub record IsKept (wanted : List ℕ) (ended entries : List (List ℕ)) (left : List (ℕ × ℕ)) : Type 0 where
  pub own : All (IsOwn wanted) left
  pub long : length entries ≡ length wanted
  pub each : (place : ℕ) → place < length wanted →
      Contains left (place_of wanted place) ⊎ IsCopied wanted ended entries place

-- of the entries that have ended the wanted ones are kept, and of the open one what has come of it
pub record HoldsWanted (w : WantedEntries) (wanted : List ℕ) (ended : List (List ℕ)) (open_bytes : List ℕ)
    : Type 0 where
  pub kept : IsKept wanted ended (map (λ entry. entry.items) w.entries.items) w.left.now
  pub ascending : IsAscending (length ended) w.left.now
  pub begun : w.begun.items ≡ (if is_next (length ended) w.left.now then open_bytes else [])
