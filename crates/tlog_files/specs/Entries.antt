-- The entries of a file.
use Rattle.std.specs.Prelude.{ℕ, ◌*◌, ◌/◌, ◌^◌, ◌≤◌, ◌<◌, ◌==◌, ◌&&◌, nat_le, nat_lt, not, Bool, true, false}
use Rattle.std.specs.Prelude.{List, [], ◌∷◌, ◌++◌, length, take, drop, map, slice_index_or, Option, None, Some, IfSome}
use Rattle.std.specs.Prelude.{◌≡◌, ◌⊎◌, if◌then◌else◌}
use Rattle.std.specs.List.{list_all, range_with_len, slice_split}
use Rattle.tlog_files.specs.declared.framing.Framing.{Framing}
use Rattle.tlog_files.specs.declared.framing.Framing.TheVariants.{Lines, Blocks}
use Rattle.tlog_files.specs.declared.framing.PartialLine.{PartialLine}
use Rattle.tlog_files.specs.declared.framing.PartialLine.TheVariants.{Refuse, LeaveOut, Include}
use Rattle.tlog_files.specs.declared.error.ReadError.{ReadError}
use Rattle.tlog_files.specs.declared.error.ReadError.TheVariants.{EndsInsideLine, TooManyEntries}

-- the size of a block, from 1 byte to 2^30
abbrev pub IsFraming : Framing → Type 0
IsFraming (Lines partial) = Unit {0}
IsFraming (Blocks size) = (1 ≤ size) × (size ≤ 2 ^ 30)

-- ---- whole entries

-- all of some pieces but the last, and the last
abbrev pub all_but_last : List (List ℕ) → List (List ℕ)
all_but_last [] = []
all_but_last (x ∷ []) = []
all_but_last (x ∷ y ∷ more) = x ∷ all_but_last (y ∷ more)

abbrev pub last_of : List (List ℕ) → List ℕ
last_of [] = []
last_of (x ∷ []) = x
last_of (x ∷ y ∷ more) = last_of (y ∷ more)

-- the pieces of bytes between LFs
abbrev pub pieces_of : List ℕ → List (List ℕ)
pieces_of bytes = slice_split (λ b. b == 10) bytes

-- block i, counted from 0
abbrev pub block_of : ℕ → List ℕ → ℕ → List ℕ
block_of size bytes i = take size (drop (i * size) bytes)

-- the whole entries of a file: each piece ahead of an LF, or each block that has its size
abbrev pub whole_entries : Framing → List ℕ → List (List ℕ)
whole_entries (Lines partial) bytes = all_but_last (pieces_of bytes)
whole_entries (Blocks size) bytes = map (block_of size bytes) (range_with_len 0 (length bytes / size))

-- the bytes that follow them
abbrev pub rest_of : Framing → List ℕ → List ℕ
rest_of (Lines partial) bytes = last_of (pieces_of bytes)
rest_of (Blocks size) bytes = drop (length bytes / size * size) bytes

-- ---- all entries

-- what becomes of the bytes that follow the whole entries: of blocks, they are the last one
abbrev pub partial_of : Framing → PartialLine
partial_of (Lines partial) = partial
partial_of (Blocks size) = Include

-- the entry that ends with the file, if there is one
abbrev pub last_entry : PartialLine → List ℕ → List (List ℕ)
last_entry Refuse bytes = []
last_entry LeaveOut bytes = []
last_entry Include bytes = if length bytes == 0 then [] else bytes ∷ []

-- the entries of a file
abbrev pub entries_in : Framing → List ℕ → List (List ℕ)
entries_in framing bytes = whole_entries framing bytes ++ last_entry (partial_of framing) (rest_of framing bytes)

-- ---- what is read of them

-- the first entries, as many as are read
abbrev pub first_entries : Option ℕ → List (List ℕ) → List (List ℕ)
first_entries None entries = entries
first_entries (Some limit) entries = take limit entries

-- whether a reader of so many entries comes to the end of the file
abbrev pub is_short : Option ℕ → List (List ℕ) → Bool
is_short None entries = true
is_short (Some limit) entries = nat_lt (length entries) limit

-- whether partial lines are refused
abbrev pub refuses : PartialLine → Bool
refuses Refuse = true
refuses LeaveOut = false
refuses Include = false

-- whether a reader refuses a file: it comes to the end, inside a line, and refuses partial lines
abbrev pub is_refused : Framing → Option ℕ → List ℕ → Bool
is_refused framing limit bytes =
    refuses (partial_of framing)
    && (not (length (rest_of framing bytes) == 0) && is_short limit (entries_in framing bytes))

-- why the first entries of a file are not read: there are more than a log may have, or the file is refused
abbrev pub read_refusal : Framing → Option ℕ → List ℕ → Option ReadError
read_refusal framing limit bytes =
    if nat_le (length (first_entries limit (entries_in framing bytes))) (2 ^ 62)
    then (if is_refused framing limit bytes then Some EndsInsideLine else None) else Some TooManyEntries

-- what is read of a file, no further than its first entries: no bytes, or bytes that without the last 2^20, or fewer,
-- do not have all of these
abbrev pub IsReadNoFurther : Framing → Option ℕ → List ℕ → Type 0
IsReadNoFurther framing limit bytes =
    (bytes ≡ []) ⊎ ((front : List ℕ) × (last : List ℕ) × (bytes ≡ front ++ last) × (length last ≤ 2 ^ 20)
    × IfSome limit (λ most. length (whole_entries framing front) < most))

-- the entry of this index, counted from 0
abbrev pub entry_at : List (List ℕ) → ℕ → List ℕ
entry_at entries index = slice_index_or entries index []

-- the entries of these indices, if there are all of them
abbrev pub wanted_of : List (List ℕ) → List ℕ → List (List ℕ)
wanted_of entries wanted =
    if list_all (λ index. nat_lt index (length entries)) wanted then map (entry_at entries) wanted else []

-- a fact holds of the bytes of a file: of the known ones, or else of some
abbrev pub HoldsOfFile : Option (List ℕ) → (List ℕ → Type 0) → Type 0
HoldsOfFile None Holds = (bytes : List ℕ) × Holds bytes
HoldsOfFile (Some bytes) Holds = Holds bytes
