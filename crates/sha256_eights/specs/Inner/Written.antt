-- Lists of words that are written into their places: digests, or words with a lane for each message.
use Rattle.std.specs.Prelude.{◌≡◌, ℕ, ◌<◌, ◌≤◌, List, [], length, slice_index_or}

-- new is old up to `from`; P j holds of its list in each place j from there up to `end`; what follows may change
pub record AreWritten (P : ℕ → List ℕ → Type 0) (from end : ℕ) (old new : List (List ℕ)) : Type 0 where
  pub long : length new ≡ length old
  pub before : (j : ℕ) → j < from → slice_index_or new j [] ≡ slice_index_or old j []
  pub written : (j : ℕ) → from ≤ j → j < end → P j (slice_index_or new j [])
