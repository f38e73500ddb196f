-- What the outcomes say of files.
use Rattle.std.specs.Prelude.{◌≡◌, ◌≢◌, ◌↔◌, ℕ, ◌-◌, ◌^◌, ◌≤◌, Bool, true, is_some, All, List, [], ◌∷◌, ◌++◌, length}
use Rattle.std.specs.Prelude.{flat_map, map, Option, None, Some, Ok}
use Rattle.std.specs.List.{concat}
use Rattle.tlog_tree.specs.Parts.{HaveSize}
use Rattle.tlog_text.specs.Lines.{is_origin, part_origin}
use Rattle.tlog_text.specs.Reading.{checkpoint_in, part_in}
use Rattle.tlog_text.specs.Texts.{CheckpointFields, EntryFields}
use Rattle.tlog_files.specs.Entries.{entries_in, entry_at, rest_of, IsFraming}
use Rattle.tlog_files.specs.declared.framing.Framing.{Framing}
use Rattle.tlog_files.specs.declared.framing.Framing.TheVariants.{Blocks as InBlocks, Lines as InLines}
use Rattle.fohlazu_commands.specs.Commands.{prove_file, prove_file_growth, AreNumbers}
use Rattle.fohlazu_commands.specs.Outcomes.{checkpoint_of, join_outcome, joined, numbers_refusal, parts_in, printed}
use Rattle.fohlazu_commands.specs.Outcomes.{seal_outcome, verify_consistency_outcome, verify_outcome}
use Rattle.fohlazu_commands.specs.declared.verify.Print.{Print}
use Rattle.fohlazu_commands.specs.declared.verify.Print.TheVariants.{Blocks, Lines, Raw}

-- ---- files and checkpoints

-- a file ends where an entry does
abbrev pub EndsWithEntry : Framing → List ℕ → Type 0
EndsWithEntry framing file = rest_of framing file ≡ []

-- these are the first entries of a file
abbrev pub BeginsWith : Framing → List ℕ → List (List ℕ) → Type 0
BeginsWith framing file first = (more : List (List ℕ)) × (entries_in framing file ≡ first ++ more)

-- a text is a checkpoint of these entries under this origin
abbrev pub IsCheckpointUnder : (origin text : List ℕ) → List (List ℕ) → Type 0
IsCheckpointUnder origin text entries = checkpoint_in text ≡ Ok (checkpoint_of origin entries)

-- bytes after the end of an entry are further entries
abbrev pub FilesGrow : Type 0
FilesGrow =
    (framing : Framing) (file more : List ℕ) → IsFraming framing → EndsWithEntry framing file →
    entries_in framing (file ++ more) ≡ entries_in framing file ++ entries_in framing more

-- ---- seal and join

-- a text is read as this checkpoint, or as this part if it has the origin of parts
abbrev pub Says : List ℕ → CheckpointFields → Type 0
Says text c =
    (c.origin ≢ part_origin → checkpoint_in text ≡ Ok c) × (c.origin ≡ part_origin → part_in text ≡ Ok c)

-- what seal prints is read again
abbrev pub SealsAreReadAgain : Type 0
SealsAreReadAgain =
    (origin : List ℕ) (framing : Framing) (file text : List ℕ) → is_origin origin ≡ true →
    seal_outcome origin framing file ≡ Ok text → Says text (checkpoint_of origin (entries_in framing file))

-- what join prints is read again
abbrev pub JoinsAreReadAgain : Type 0
JoinsAreReadAgain =
    (origin : List ℕ) (parts : List (List ℕ)) (text : List ℕ) → is_origin origin ≡ true →
    join_outcome origin parts ≡ Ok text →
    (fields : List (ℕ × List ℕ)) × (parts_in 0 parts ≡ Ok fields) × Says text (joined origin fields)

-- texts are what seal prints of files as parts
abbrev pub AreSealed : Framing → (files texts : List (List ℕ)) → Type 0
AreSealed framing [] [] = Unit {0}
AreSealed framing (file ∷ files) (text ∷ texts) =
    (seal_outcome part_origin framing file ≡ Ok text) × AreSealed framing files texts
AreSealed framing files texts = ⊥

-- each file but the last ends where an entry does
abbrev pub EndWithEntries : Framing → List (List ℕ) → Type 0
EndWithEntries framing [] = Unit {0}
EndWithEntries framing (file ∷ []) = Unit {0}
EndWithEntries framing (file ∷ next ∷ files) = EndsWithEntry framing file × EndWithEntries framing (next ∷ files)

-- the parts of a file, each cut off where an entry ends, are joined exactly if their size is a power of two, and to
-- what seal prints of the whole file
abbrev pub PartsJoin : Type 0
PartsJoin =
    (origin : List ℕ) (framing : Framing) (files texts : List (List ℕ)) (text : List ℕ) → IsFraming framing →
    AreSealed framing files texts → EndWithEntries framing files →
    (join_outcome origin texts ≡ Ok text)
    ↔ (((power : ℕ) × HaveSize (2 ^ power) (map (λ file. length (entries_in framing file)) files))
    × (seal_outcome origin framing (concat files) ≡ Ok text))

-- ---- growth

-- what prove-consistency prints is accepted, and the new checkpoint is printed as it stands
abbrev pub GrowthIsAccepted : Type 0
GrowthIsAccepted =
    (framing : Framing) (old new file proof : List ℕ) →
    prove_file_growth framing (Some old) (Some new) (Some file) ≡ Ok proof →
    verify_consistency_outcome old proof ≡ Ok new

-- between checkpoints of first entries of a file it prints a proof
abbrev pub GrowthIsProved : Type 0
GrowthIsProved =
    (framing : Framing) (origin old new file : List ℕ) (first more : List (List ℕ)) →
    IsCheckpointUnder origin old first → IsCheckpointUnder origin new (first ++ more) →
    BeginsWith framing file (first ++ more) →
    (proof : List ℕ) × (prove_file_growth framing (Some old) (Some new) (Some file) ≡ Ok proof)

-- ---- entries

-- the numbers that are requested of a proof of these: none, or the same
abbrev pub AreRequested : Option (List ℕ) → List ℕ → Type 0
AreRequested None numbers = Unit {0}
AreRequested (Some requested) numbers = requested ≡ numbers

-- the entries of a proof are refused for their numbers exactly if these are not the requested ones, in their order
abbrev pub NumbersAreCompared : Type 0
NumbersAreCompared =
    (entries : List EntryFields) (numbers : List ℕ) →
    (numbers_refusal (Some numbers) entries ≡ None) ↔ (map (λ e. e.number) entries ≡ numbers)

-- the entries of a file that is cut so can be printed so
abbrev pub FitsCut : Print → Framing → Type 0
FitsCut Lines (InLines partial) = Unit {0}
FitsCut (Blocks len) (InBlocks size) = len ≡ size
FitsCut Raw framing = Unit {0}
FitsCut print framing = ⊥

-- what is printed of the entries of these numbers
abbrev pub printed_of : Print → Bool → List (List ℕ) → List ℕ → List ℕ
printed_of print is_requested entries numbers =
    flat_map (λ n. printed print is_requested (record { number = n; bytes = entry_at entries (n - 1) })) numbers

-- a proof can say so many entries, each of so many bytes
pub record CanSay (entries : List (List ℕ)) (numbers : List ℕ) : Type 0 where
  pub count : length numbers ≤ 2 ^ 62
  pub lengths : All (λ n. length (entry_at entries (n - 1)) ≤ 2 ^ 62) numbers

-- what prove prints is accepted, and the entries of the file are printed
abbrev pub ProofsAreAccepted : Type 0
ProofsAreAccepted =
    (framing : Framing) (print : Print) (checkpoint file : List ℕ) (numbers : List ℕ) (requested : Option (List ℕ))
    (proof : List ℕ) → IsFraming framing → FitsCut print framing → AreNumbers numbers →
    CanSay (entries_in framing file) numbers →
    AreRequested requested numbers → prove_file framing (Some checkpoint) (Some file) numbers ≡ Ok proof →
    verify_outcome print checkpoint proof requested
    ≡ Ok (printed_of print (is_some requested) (entries_in framing file) numbers)

-- under a checkpoint of first entries of a file it prints a proof of any of them
abbrev pub ProofsAreProved : Type 0
ProofsAreProved =
    (framing : Framing) (origin checkpoint file : List ℕ) (first : List (List ℕ)) (numbers : List ℕ) →
    IsCheckpointUnder origin checkpoint first → BeginsWith framing file first → All (λ n. n ≤ length first) numbers →
    (proof : List ℕ) × (prove_file framing (Some checkpoint) (Some file) numbers ≡ Ok proof)

-- further entries change no proof
abbrev pub ProofsStay : Type 0
ProofsStay =
    (framing : Framing) (checkpoint file grown : List ℕ) (numbers : List ℕ) (proof : List ℕ) →
    BeginsWith framing grown (entries_in framing file) →
    prove_file framing (Some checkpoint) (Some file) numbers ≡ Ok proof →
    prove_file framing (Some checkpoint) (Some grown) numbers ≡ Ok proof
