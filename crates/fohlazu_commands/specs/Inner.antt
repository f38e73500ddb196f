-- Definitions that only proofs and internal calls use.
use Rattle.std.specs.Prelude.{◌≡◌, ◌⊎◌, ℕ, ◌-◌, ◌≤◌, List, length, map, All, MatchResult, Option, None, Some, Result}
use Rattle.std.specs.Prelude.{Ok, Err, [], drop}
use Rattle.std.specs.Option.{option_map_or}
use Rattle.std.specs.Result.{result_ok}
use Rattle.sha2.specs.Sha256.{sha256}
use Rattle.tlog.specs.Rfc9162.{leaf_hash, root_of}
use Rattle.tlog_tree.specs.Builders.{IsBuilderOf}
use Rattle.tlog_tree.specs.declared.node_id.NodeId.{NodeId}
use Rattle.tlog_multiproof.specs.Entries.{entries_refusal}
use Rattle.tlog_text.specs.Reading.{checkpoint_in, entry_by}
use Rattle.tlog_text.specs.Texts.{EntriesFields, EntryFields}
use Rattle.tlog_files.specs.Entries.{entry_at, wanted_of}
use Rattle.tlog_files.specs.declared.framing.Framing.{Framing}
use Rattle.tlog_files.specs.declared.reading.ReadLog.{ReadLog}
use Rattle.fohlazu_commands.specs.Outcomes.{and_then, bytes_in, entries_under, said_by}
use Rattle.fohlazu_commands.specs.declared.error.Error.{Error}
use Rattle.fohlazu_commands.specs.declared.error.Error.TheVariants.{OutOfMemory}
use Rattle.fohlazu_commands.specs.declared.error.Source.{Source}

-- an error says that memory ran out
abbrev pub IsMemory : Error → Type 0
IsMemory error = error ≡ OutOfMemory

-- a check refuses for this reason, and accepts where there is none; the second one may end as memory runs out, too
abbrev pub Checks : Result (Unit {0}) Error → Option Error → Type 0
Checks result refusal = MatchResult result (λ ok. refusal ≡ None) (λ error. refusal ≡ Some error)

abbrev pub ChecksUnlessMemory : Result (Unit {0}) Error → Option Error → Type 0
ChecksUnlessMemory result refusal =
    MatchResult result (λ ok. refusal ≡ None) (λ error. (error ≡ OutOfMemory) ⊎ (refusal ≡ Some error))

-- an entry of a number and its bytes
abbrev pub entry_of : ℕ × List ℕ → EntryFields
entry_of (number, bytes) = record { number = number; bytes = bytes }

-- what is read of a file with these entries: their tree, with wanted nodes, and wanted entries
pub record HasEntries (nodes : List NodeId) (wanted : List ℕ) (entries : List (List ℕ)) (log : ReadLog) : Type 0 where
  pub tree : IsBuilderOf (map (leaf_hash sha256) entries) nodes log.tree
  pub wanted_are : map bytes_in log.entries.items ≡ wanted_of entries wanted

-- what is read is of the entries of this outcome, unless memory ran out
abbrev pub ReadsAs : List NodeId → List ℕ → Result ReadLog Error → Result (List (List ℕ)) Error → Type 0
ReadsAs nodes wanted result outcome =
    MatchResult result (λ log. (entries : List (List ℕ)) × (outcome ≡ Ok entries) × HasEntries nodes wanted entries log)
    (λ error. (error ≡ OutOfMemory) ⊎ (outcome ≡ Err error))

-- a proof of entries is accepted under the root of these
pub record AreProved (entries : List (List ℕ)) (p : EntriesFields) : Type 0 where
  pub from_1 : All (λ e. 1 ≤ e.number) p.entries
  pub accepted : entries_refusal sha256 (length entries) (map (λ e. e.number - 1) p.entries)
      (map (λ e. leaf_hash sha256 e.bytes) p.entries) p.digests (root_of sha256 entries) ≡ None

-- an entry has the leaf hash of the one of its number
pub record HasLeafIn (entries : List (List ℕ)) (e : EntryFields) : Type 0 where
  pub from_1 : 1 ≤ e.number
  pub within : e.number ≤ length entries
  pub leaf : leaf_hash sha256 e.bytes ≡ leaf_hash sha256 (entry_at entries (e.number - 1))

-- the entries of a file under its checkpoint, by their texts
abbrev pub entries_by : Source → Framing → (checkpoint file : List ℕ) → Result (List (List ℕ)) Error
entries_by source framing checkpoint file =
    and_then (said_by source (checkpoint_in checkpoint)) (λ c. entries_under framing c file)

-- ---- the entries of a proof, where they stand in its text

-- the index of an entry, of it and its place
abbrev pub index_of : ℕ × ℕ → ℕ
index_of (index, place) = index

-- the leaf hash of the entry at a place; of no entry, where none stands there
abbrev pub leaf_at : List ℕ → ℕ × ℕ → List ℕ
leaf_at text (index, place) =
    leaf_hash sha256 (option_map_or (λ read. read.0.bytes) (result_ok (entry_by (drop place text))) [])

-- the index of each entry and its place
pub record ArePlaces (text : List ℕ) (entries : List EntryFields) (places : List (ℕ × ℕ)) : Type 0 where
  pub indices : map index_of places ≡ map (λ e. e.number - 1) entries
  pub leaves : map (leaf_at text) places ≡ map (λ e. leaf_hash sha256 e.bytes) entries
