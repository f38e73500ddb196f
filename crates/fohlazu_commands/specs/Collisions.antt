-- What the verifiers' verdicts mean for files, but for collisions of SHA-256.
use Rattle.std.specs.Prelude.{◌≡◌, ℕ, ◌-◌, ◌≤◌, List, length, take, flat_map, All, Option, is_some, Ok}
use Rattle.tlog_text.specs.Reading.{checkpoint_in, entries_in as proof_in}
use Rattle.tlog_text.specs.Texts.{EntriesFields, EntryFields}
use Rattle.tlog_files.specs.Entries.{entries_in, entry_at}
use Rattle.tlog_files.specs.declared.framing.Framing.{Framing}
use Rattle.fohlazu_commands.specs.Outcomes.{checkpoint_of, printed, verify_consistency_outcome, verify_outcome}
use Rattle.fohlazu_commands.specs.declared.verify.Print.{Print}

-- a text is a checkpoint of these entries: as the one that `seal` prints, it says their count and their root
abbrev pub IsCheckpointOf : List (List ℕ) → List ℕ → Type 0
IsCheckpointOf entries text = (origin : List ℕ) × (checkpoint_in text ≡ Ok (checkpoint_of origin entries))

-- a text is a checkpoint of a file: of its first entries, or of all
abbrev pub IsCheckpointOfFile : Framing → List ℕ → List ℕ → Type 0
IsCheckpointOfFile framing file text = (n : ℕ) × IsCheckpointOf (take n (entries_in framing file)) text

-- an entry is the one of its number, counted from 1
pub record IsEntryOf (entries : List (List ℕ)) (e : EntryFields) : Type 0 where
  pub from_1 : 1 ≤ e.number
  pub within : e.number ≤ length entries
  pub bytes : e.bytes ≡ entry_at entries (e.number - 1)

-- what `verify` prints of a proof under a checkpoint of a file are entries of the file, whichever numbers are requested
-- and however they are printed
abbrev pub AreEntriesOfFile : Framing → (file checkpoint proof : List ℕ) → Type 0
AreEntriesOfFile framing file checkpoint proof =
    (n : ℕ) (p : EntriesFields) (print : Print) (numbers : Option (List ℕ)) (text : List ℕ) →
    let entries = take n (entries_in framing file) in
    IsCheckpointOf entries checkpoint → proof_in proof ≡ Ok p →
    verify_outcome print checkpoint proof numbers ≡ Ok text →
    (text ≡ flat_map (printed print (is_some numbers)) p.entries) × All (IsEntryOf entries) p.entries

-- where `verify-consistency` prints a checkpoint of a new file, the file begins with the entries of the old checkpoint,
-- which is of an old file
abbrev pub BeginsWithOldFile : Framing → (old_file new_file old proof : List ℕ) → Type 0
BeginsWithOldFile framing old_file new_file old proof =
    (m n : ℕ) (new : List ℕ) →
    let old_entries = take m (entries_in framing old_file) in
    let new_entries = take n (entries_in framing new_file) in
    IsCheckpointOf old_entries old → verify_consistency_outcome old proof ≡ Ok new → IsCheckpointOf new_entries new →
    old_entries ≡ take (length old_entries) new_entries
