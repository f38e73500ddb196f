-- A file whose bytes come piece by piece: entries that have ended, and one that is open.
use Rattle.std.specs.Prelude.{◌≡◌, ◌⊎◌, ℕ, ◌-◌, ◌^◌, ◌<◌, ◌≤◌, ◌==◌, min, false, List, [], ◌∷◌, ◌++◌, length, map, take}
use Rattle.std.specs.Prelude.{All, Option, Some, flat_map}
use Rattle.std.specs.Io.KnownBytes.{Consumes}
use Rattle.sha2.specs.Hashers.{Holds256}
use Rattle.sha2.specs.Sha256.{sha256}
use Rattle.tlog.specs.Rfc9162.{leaf_hash}
use Rattle.tlog_tree.specs.Builders.{IsBuilderOf}
use Rattle.tlog_tree.specs.declared.builder.TreeBuilder.{TreeBuilder}
use Rattle.tlog_tree.specs.declared.node_id.NodeId.{NodeId}
use Rattle.tlog_files.specs.Entries.{entries_in, is_refused, rest_of, whole_entries, IsFraming}
use Rattle.tlog_files.specs.Inner.Wanted.{HasPlaces, HoldsWanted}
use Rattle.tlog_files.specs.declared.framing.Framing.{Framing}
use Rattle.tlog_files.specs.declared.{framing.Framing.TheVariants.Lines, framing.Framing.TheVariants.Blocks}
use Rattle.tlog_files.specs.declared.splitter.OpenEntry.{OpenEntry}
use Rattle.tlog_files.specs.declared.splitter.Splitter.{Splitter}
use Rattle.tlog_files.specs.declared.wanted.WantedEntries.{WantedEntries}

-- what follows an entry that has ended
abbrev pub ending : Framing → List ℕ
ending (Lines partial) = 10 ∷ []
ending (Blocks size) = []

-- there is no LF
abbrev pub LacksFeed : List ℕ → Type 0
LacksFeed bytes = All (λ b. (b == 10) ≡ false) bytes

-- the bytes of an entry that has ended
abbrev pub IsWhole : Framing → List ℕ → Type 0
IsWhole (Lines partial) bytes = LacksFeed bytes
IsWhole (Blocks size) bytes = length bytes ≡ size

-- the bytes of an entry that has not ended
abbrev pub IsOpen : Framing → List ℕ → Type 0
IsOpen (Lines partial) bytes = LacksFeed bytes
IsOpen (Blocks size) bytes = length bytes < size

-- ---- whole entries at the head of bytes

-- entries one after another, each with what follows it
abbrev pub joined : Framing → List (List ℕ) → List ℕ
joined framing entries = flat_map (λ entry. entry ++ ending framing) entries

-- these entries stand at the head of the bytes, and after them the rest
pub record AreAtHead (framing : Framing) (bytes rest : List ℕ) (entries : List (List ℕ)) : Type 0 where
  pub parts : bytes ≡ joined framing entries ++ rest
  pub whole : All (IsWhole framing) entries

-- ---- a place in a file

-- after these bytes of a file: the entries that have ended are its first, and what follows them is in the open one
pub record IsCutAt (framing : Framing) (front : List ℕ) (ended : List (List ℕ)) (open_bytes : List ℕ) : Type 0 where
  pub opens : IsOpen framing open_bytes
  pub whole : (rest : List ℕ) →
      whole_entries framing (front ++ rest) ≡ ended ++ whole_entries framing (open_bytes ++ rest)
  pub rest : (rest : List ℕ) → rest_of framing (front ++ rest) ≡ rest_of framing (open_bytes ++ rest)

-- the open entry has these bytes
pub record HoldsOpen (o : OpenEntry) (open_bytes : List ℕ) : Type 0 where
  pub hashed : Holds256 o.hasher (0 ∷ open_bytes)
  pub counted : o.len ≡ min (length open_bytes) (2 ^ 64 - 1)

-- what a splitter holds of the entries that have ended, and of the open one
pub record Holds (wanted : List ℕ) (s : Splitter) (ended : List (List ℕ)) (open_bytes : List ℕ) : Type 0 where
  pub counted : s.count ≡ length ended
  pub within : length ended ≤ s.limit
  pub opened : HoldsOpen s.open_entry open_bytes
  pub kept : HoldsWanted s.wanted wanted ended open_bytes

-- a splitter stands after these bytes of a file
pub record IsAt (wanted : List ℕ) (s : Splitter) (front : List ℕ) (ended : List (List ℕ)) : Type 0 where
  pub open_bytes : List ℕ
  pub holds : Holds wanted s ended open_bytes
  pub at : IsCutAt s.framing front ended open_bytes

-- a splitter can read on
pub record IsReady (s : Splitter) : Type 0 where
  pub framing : IsFraming s.framing
  pub places : HasPlaces s.wanted
  pub stands : (wanted front : List ℕ) × (ended : List (List ℕ)) × IsAt wanted s front ended

-- it has read some of these bytes, from where it stood, and has these leaf hashes
pub record HasRead (wanted : List ℕ) (s : Splitter) (front : List ℕ) (ended : List (List ℕ)) (bytes rest : List ℕ)
    (hashes : List (List ℕ)) : Type 0 where
  pub read : List ℕ
  pub more : List (List ℕ)
  pub parts : bytes ≡ read ++ rest
  pub at : IsAt wanted s (front ++ read) (ended ++ more)
  pub hashed : hashes ≡ map (leaf_hash sha256) more

-- with these leaf hashes it has all entries of a file that are read
pub record AreAll (wanted : List ℕ) (w : WantedEntries) (framing : Framing) (limit : ℕ) (ended : List (List ℕ))
    (bytes : List ℕ) (hashes : List (List ℕ)) : Type 0 where
  pub more : List (List ℕ)
  pub open_bytes : List ℕ
  pub all : take limit (entries_in framing bytes) ≡ ended ++ more
  pub hashed : hashes ≡ map (leaf_hash sha256) more
  pub kept : HoldsWanted w wanted (ended ++ more) open_bytes
  pub not_refused : is_refused framing (Some limit) bytes ≡ false

-- more of its entries are read than a log may have
abbrev pub AreTooMany : Framing → ℕ → List ℕ → Type 0
AreTooMany framing limit bytes = 2 ^ 62 < length (take limit (entries_in framing bytes))

-- so it is, whatever follows what has been read
pub record ReadsTooMany (framing : Framing) (limit : ℕ) (before after : Option (List ℕ)) : Type 0 where
  pub front : List ℕ
  pub consumed : Consumes before after front
  pub many : (rest : List ℕ) → AreTooMany framing limit (front ++ rest)

-- ---- the tree

-- a splitter has read these bytes of a file, and this is the tree of the entries that have ended
pub record HasBuilt (nodes : List NodeId) (wanted : List ℕ) (s : Splitter) (tree : TreeBuilder) (front : List ℕ)
    : Type 0 where
  pub ended : List (List ℕ)
  pub at : IsAt wanted s front ended
  pub built : IsBuilderOf (map (leaf_hash sha256) ended) nodes tree

-- it has read on into these bytes, and leaves some only where as many entries have ended as are read
pub record HasGrown (nodes : List NodeId) (wanted : List ℕ) (s : Splitter) (tree : TreeBuilder)
    (front bytes : List ℕ) : Type 0 where
  pub read : List ℕ
  pub left : List ℕ
  pub parts : bytes ≡ read ++ left
  pub built : HasBuilt nodes wanted s tree (front ++ read)
  pub all_read : (left ≡ []) ⊎ (s.limit ≤ s.count)
