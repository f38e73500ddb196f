-- The texts of logs, as they are printed.
use Rattle.std.specs.Prelude.{◌≡◌, ℕ, ◌^◌, ◌≤◌, List, [], ◌∷◌, ◌++◌, length, map, flat_map, All, codes, decimal, true}
use Rattle.base64.specs.GeneralPurpose.{IsBytes}
use Rattle.tlog_text.specs.Lines.{base64, is_line, is_origin}
use Rattle.tlog_text.specs.declared.checkpoint.Checkpoint.{Checkpoint}
use Rattle.tlog_text.specs.declared.consistency.ConsistencyProof.{ConsistencyProof}
use Rattle.tlog_text.specs.declared.entries.EntriesProof.{EntriesProof}
use Rattle.tlog_text.specs.declared.entries.Entry.{Entry}
use Rattle.tlog_text.specs.declared.error.Expected.{Expected}
use Rattle.tlog_text.specs.declared.error.Expected.TheVariants.{Extension, Signature}

-- bytes and a line feed
abbrev pub line : List ℕ → List ℕ
line bytes = bytes ++ 10 ∷ []

-- a digest in base64, and a line feed
abbrev pub digest_line : List ℕ → List ℕ
digest_line digest = line (base64 digest)

-- a SHA-256 value
abbrev pub IsDigest : List ℕ → Type 0
IsDigest digest = (length digest ≡ 32) × IsBytes digest

-- ---- checkpoints

-- what a checkpoint says: whose it is, how many entries there are, and their root
pub record CheckpointFields : Type 0 where
  pub origin : List ℕ
  pub size : ℕ
  pub root : List ℕ

abbrev pub checkpoint_fields : Checkpoint → CheckpointFields
checkpoint_fields c = record { origin = c.origin.now; size = c.size; root = c.root }

-- what a checkpoint may say
pub record IsCheckpoint (c : CheckpointFields) : Type 0 where
  pub origin : is_origin c.origin ≡ true
  pub size : c.size ≤ 2 ^ 62
  pub root : IsDigest c.root

-- a checkpoint: a line each for the origin, the size and the root
abbrev pub checkpoint_text : CheckpointFields → List ℕ
checkpoint_text c = line c.origin ++ (line (decimal c.size) ++ digest_line c.root)

-- each of these lines is what is expected
abbrev pub AreLines : Expected → List (List ℕ) → Type 0
AreLines expected lines = All (λ l. is_line expected l ≡ true) lines

-- the signatures of a note: none, or a blank line and a line for each
abbrev pub signature_lines : List (List ℕ) → List ℕ
signature_lines [] = []
signature_lines (s ∷ ss) = line [] ++ flat_map line (s ∷ ss)

-- a checkpoint as it is published: its text, extension lines, and signatures
pub record IsNote (note : List ℕ) (c : CheckpointFields) (extensions signatures : List (List ℕ)) : Type 0 where
  pub checkpoint : IsCheckpoint c
  pub extensions_are : AreLines Extension extensions
  pub signatures_are : AreLines Signature signatures
  pub few_signatures : length signatures ≤ 100
  pub short : length note ≤ 1000000
  pub spelled : note ≡ checkpoint_text c ++ (flat_map line extensions ++ signature_lines signatures)

-- ---- proofs of entries

-- an entry: its number, from 1 on, and its bytes
pub record EntryFields : Type 0 where
  pub number : ℕ
  pub bytes : List ℕ

abbrev pub entry_fields : Entry → EntryFields
entry_fields e = record { number = e.number; bytes = e.bytes.items }

pub record IsEntry (e : EntryFields) : Type 0 where
  pub from_1 : 1 ≤ e.number
  pub number : e.number ≤ 2 ^ 62
  pub len : length e.bytes ≤ 2 ^ 62

-- what a proof of entries says: the entries, and the digests of one proof of them all
pub record EntriesFields : Type 0 where
  pub entries : List EntryFields
  pub digests : List (List ℕ)

abbrev pub entries_fields : EntriesProof → EntriesFields
entries_fields p = record { entries = map entry_fields p.entries.items; digests = p.digests.items }

-- what a proof of entries may say, whether it proves them or not
pub record IsEntriesProof (p : EntriesFields) : Type 0 where
  pub entries : All IsEntry p.entries
  pub entry_count : length p.entries ≤ 2 ^ 62
  pub digests : All IsDigest p.digests
  pub digest_count : length p.digests ≤ 2 ^ 62

-- an entry: a line of its number and its length, and its bytes, whatever they are, with a line feed
abbrev pub entry_lines : EntryFields → List ℕ
entry_lines e = line (codes "entry " ++ (decimal e.number ++ 32 ∷ decimal (length e.bytes))) ++ line e.bytes

-- a proof of entries: how many entries there are, and the entries; how many digests, and the digests
abbrev pub entries_text : EntriesFields → List ℕ
entries_text p =
    line (codes "fohlazu proof 1") ++ (line (codes "entries " ++ decimal (length p.entries)) ++
    (flat_map entry_lines p.entries ++ (line (codes "digests " ++ decimal (length p.digests)) ++
    flat_map digest_line p.digests)))

-- ---- consistency proofs

-- what a consistency proof says: the old size, the digests, and the new checkpoint as it is published
pub record ConsistencyFields : Type 0 where
  pub old_size : ℕ
  pub digests : List (List ℕ)
  pub checkpoint : List ℕ

abbrev pub consistency_fields : ConsistencyProof → ConsistencyFields
consistency_fields p =
    record { old_size = p.old_size; digests = p.digests.items; checkpoint = p.checkpoint.now }

-- what a consistency proof may say, whether it proves anything or not
pub record IsConsistencyProof (p : ConsistencyFields) : Type 0 where
  pub old_size : p.old_size ≤ 2 ^ 62
  pub digests : All IsDigest p.digests
  pub few_digests : length p.digests ≤ 63

-- a consistency proof: the old size, the digests, a blank line, and the new checkpoint
abbrev pub consistency_text : ConsistencyFields → List ℕ
consistency_text p =
    line (codes "old " ++ decimal p.old_size) ++ (flat_map digest_line p.digests ++ (line [] ++ p.checkpoint))
