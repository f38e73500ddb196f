-- What the commands print, or why they stop, by the texts of their inputs and the bytes of the file.
use Rattle.std.specs.Prelude.{◌≡◌, ◌⊎◌, ℕ, ◌+◌, ◌-◌, ◌==◌, ◌&&◌, max, nat_le, not, MatchResult, Vec, ◌||◌, Bool, true}
use Rattle.std.specs.Prelude.{false, is_some, if◌then◌else◌, List, [], ◌∷◌, ◌++◌, length, map, flat_map, decimal}
use Rattle.std.specs.Prelude.{slice_index, Option, None, Some, option_map, Result, Ok, Err}
use Rattle.std.specs.Global.{Global}
use Rattle.std.specs.Int.{is_power_of_two}
use Rattle.std.specs.List.{list_all, range_with_len, sum}
use Rattle.sha2.specs.Sha256.{sha256}
use Rattle.p3_answers.specs.Answers.{first_of, first_some, ok_unless, unless}
use Rattle.tlog.specs.Rfc9162.{leaf_hash, proof_of, root_of}
use Rattle.tlog.specs.Verdicts.{consistency_refusal, is_same, size_limit}
use Rattle.tlog_tree.specs.Trees.{leaves_root, node_at}
use Rattle.tlog_tree.specs.declared.node_id.NodeId.{NodeId}
use Rattle.tlog_multiproof.specs.Entries.{entries_refusal, proof_nodes}
use Rattle.tlog_text.specs.Reading.{checkpoint_in, consistency_in, entries_in as proof_in, part_in}
use Rattle.tlog_text.specs.Texts.{CheckpointFields, ConsistencyFields, EntriesFields, EntryFields, checkpoint_text}
use Rattle.tlog_text.specs.Texts.{consistency_text, entries_text}
use Rattle.tlog_text.specs.declared.error.TextError.{TextError}
use Rattle.tlog_files.specs.Entries.{entries_in, entry_at, first_entries, is_refused}
use Rattle.tlog_files.specs.declared.framing.Framing.{Framing}
use Rattle.fohlazu_commands.specs.Errors.{checkpoint_error, entries_error, text_error}
use Rattle.fohlazu_commands.specs.declared.error.Error.{Error}
use Rattle.fohlazu_commands.specs.declared.error.Error.TheVariants.{OutOfMemory, Read, Refused}
use Rattle.fohlazu_commands.specs.declared.error.Refusal.TheVariants.{Consistency, EndsInsideLine, UnprintableEntry}
use Rattle.fohlazu_commands.specs.declared.error.Refusal.TheVariants.{MissingEntry, NumberPastEnd, OtherEntries}
use Rattle.fohlazu_commands.specs.declared.error.Refusal.TheVariants.{OtherNumber, OtherOldEntries, OtherOldSize}
use Rattle.fohlazu_commands.specs.declared.error.Refusal.TheVariants.{OtherOrigin, PartSize, SmallerSize, TooFewEntries}
use Rattle.fohlazu_commands.specs.declared.error.Refusal.TheVariants.{TooManyEntries, TooManyNumbers, TwoHistories}
use Rattle.fohlazu_commands.specs.declared.error.Refusal.TheVariants.{UnrequestedEntry}
use Rattle.fohlazu_commands.specs.declared.error.Source.{Source}
use Rattle.fohlazu_commands.specs.declared.error.Source.TheVariants.{Checkpoint, File, New, Old, Part, Proof}
use Rattle.fohlazu_commands.specs.declared.verify.Print.{Print}
use Rattle.fohlazu_commands.specs.declared.verify.Print.TheVariants.{Blocks, Lines, Raw}
use Rattle.fohlazu_commands.specs.declared.verify.Requested.{Requested}
use Rattle.fohlazu_commands.specs.declared.verify.Requested.TheVariants.{All, Any, Numbers}

-- ---- steps

-- a result, looked at so, is this outcome, unless memory ran out
abbrev pub Gives : {V W : Type 0} → (V → W) → Result V Error → Result W Error → Type 0
Gives view result outcome =
    MatchResult result (λ v. outcome ≡ Ok (view v)) (λ error. (error ≡ OutOfMemory) ⊎ (outcome ≡ Err error))

-- the bytes of a text
abbrev pub bytes_in : Vec ℕ Global → List ℕ
bytes_in text = text.items

-- what follows, unless there is an error
abbrev pub and_then : {V W : Type 0} → Result V Error → (V → Result W Error) → Result W Error
and_then (Ok v) next = next v
and_then (Err error) next = Err error

-- the bytes of an input, if it can be read
abbrev pub bytes_from : Source → Option (List ℕ) → Result (List ℕ) Error
bytes_from source (Some bytes) = Ok bytes
bytes_from source None = Err (Read source)

-- what a text says, or its first wrong line
abbrev pub said_by : {V : Type 0} → Source → Result V TextError → Result V Error
said_by source (Ok v) = Ok v
said_by source (Err error) = Err (text_error source error)

-- the checkpoint that a consistency proof contains
abbrev pub said_inside : {V : Type 0} → Result V TextError → Result V Error
said_inside (Ok v) = Ok v
said_inside (Err error) = Err (checkpoint_error error)

-- ---- entries of a file

-- why a file is refused when so many of its entries are read, or all: it has too many, or it ends inside a line
abbrev pub cut_refusal : Framing → Option ℕ → List ℕ → Option Error
cut_refusal framing limit bytes =
    first_some (
    unless (nat_le (length (first_entries limit (entries_in framing bytes))) size_limit) (Refused File TooManyEntries)
    ∷ unless (not (is_refused framing limit bytes)) (Refused File EndsInsideLine)
    ∷ [])

-- the first entries of a file, up to a limit, or all
abbrev pub entries_read : Framing → Option ℕ → List ℕ → Result (List (List ℕ)) Error
entries_read framing limit bytes =
    ok_unless (cut_refusal framing limit bytes) (first_entries limit (entries_in framing bytes))

-- why so many entries with this root are not those of a checkpoint: they are fewer, or they have another root
abbrev pub tree_refusal : CheckpointFields → ℕ → List ℕ → Option Error
tree_refusal c size root =
    first_some (
    unless (size == c.size) (Refused File (TooFewEntries size c.size))
    ∷ unless (is_same root c.root) (Refused File OtherEntries)
    ∷ [])

-- the first entries of a file, as many as a checkpoint has, if they are those of the checkpoint
abbrev pub entries_under : Framing → CheckpointFields → List ℕ → Result (List (List ℕ)) Error
entries_under framing c bytes =
    and_then (entries_read framing (Some c.size) bytes)
    (λ first. ok_unless (tree_refusal c (length first) (root_of sha256 first)) first)

-- ---- seal

-- the checkpoint of entries
abbrev pub checkpoint_of : List ℕ → List (List ℕ) → CheckpointFields
checkpoint_of origin entries =
    record { origin = origin; size = length entries; root = root_of sha256 entries }

-- seal: the checkpoint of a file
abbrev pub seal_outcome : List ℕ → Framing → List ℕ → Result (List ℕ) Error
seal_outcome origin framing file =
    and_then (entries_read framing None file) (λ entries. Ok (checkpoint_text (checkpoint_of origin entries)))

-- ---- prove

-- the numbers of all entries of a log of so many; number 1, which is refused, of one of none
abbrev pub all_numbers : ℕ → List ℕ
all_numbers size = range_with_len 1 (max size 1)

-- why all entries of a checkpoint are not proved at once: they are too many
abbrev pub all_refusal : ℕ → Option Error
all_refusal size = unless (nat_le size 100000000) (Refused Checkpoint TooManyNumbers)

-- the numbers of entries to prove: the requested ones, or those of all entries of a checkpoint
abbrev pub numbers_under : Option (List ℕ) → List ℕ → Result (List ℕ) Error
numbers_under (Some numbers) checkpoint = Ok numbers
numbers_under None checkpoint =
    and_then (said_by Checkpoint (checkpoint_in checkpoint))
    (λ c. ok_unless (all_refusal c.size) (all_numbers c.size))

-- why an entry is not proved: the checkpoint does not have it
abbrev pub number_refusal : ℕ → ℕ → Option Error
number_refusal size number = unless (nat_le number size) (Refused Checkpoint (NumberPastEnd number size))

-- the checkpoint that a text says, if it has entries of these numbers
abbrev pub checkpoint_with : (text numbers : List ℕ) → Result CheckpointFields Error
checkpoint_with text numbers =
    and_then (said_by Checkpoint (checkpoint_in text))
    (λ c. ok_unless (first_of (number_refusal c.size) numbers) c)

-- the entries of these numbers, and the digests that prove them: the values of nodes
abbrev pub proof_over : List (List ℕ) → List ℕ → EntriesFields
proof_over entries numbers =
    record {
      entries = map (λ n. record { number = n; bytes = entry_at entries (n - 1) }) numbers;
      digests = map (λ (node : NodeId). node_at sha256 (map (leaf_hash sha256) entries) node.layer node.slot)
          (proof_nodes (length entries) (map (λ n. n - 1) numbers));
    }

-- prove under a checkpoint: the proof of entries of a file
abbrev pub prove_under : Framing → CheckpointFields → List ℕ → List ℕ → Result (List ℕ) Error
prove_under framing c numbers file =
    and_then (entries_under framing c file) (λ entries. Ok (entries_text (proof_over entries numbers)))

-- ---- verify

-- why entries of these numbers are refused: the first place where they are not the requested ones
abbrev pub first_other : (got requested : List ℕ) → Option Error
first_other [] [] = None
first_other [] (expected ∷ more) = Some (Refused Proof (MissingEntry expected))
first_other (got ∷ rest) [] = Some (Refused Proof (UnrequestedEntry got))
first_other (got ∷ rest) (expected ∷ more) =
    if got == expected then first_other rest more else Some (Refused Proof (OtherNumber got expected))

-- why a proof is refused: it has other entries than the requested ones, or in another order
abbrev pub numbers_refusal : Option (List ℕ) → List EntryFields → Option Error
numbers_refusal None entries = None
numbers_refusal (Some numbers) entries = first_other (map (λ e. e.number) entries) numbers

-- whether an entry can be printed: a line has no line feed inside; a block has its length, but for a shorter last one
abbrev pub is_printable : Print → ℕ → EntryFields → Bool
is_printable Lines size e = list_all (λ b. not (b == 10)) e.bytes
is_printable (Blocks len) size e =
    if e.number == size then nat_le 1 (length e.bytes) && nat_le (length e.bytes) len else length e.bytes == len
is_printable Raw size e = true

-- why an entry is refused
abbrev pub entry_refusal : Print → ℕ → EntryFields → Option Error
entry_refusal print size e = unless (is_printable print size e) (Refused Proof (UnprintableEntry e.number))

-- why the verifier refuses the entries
abbrev pub proof_refusal : CheckpointFields → EntriesFields → Option Error
proof_refusal c p =
    option_map entries_error (entries_refusal sha256 c.size (map (λ e. e.number - 1) p.entries)
    (map (λ e. leaf_hash sha256 e.bytes) p.entries) p.digests c.root)

-- what is printed of an entry: a line with its line feed, its number and a tab ahead if no numbers are requested; the
-- bytes of a block, or of any entry, as they are
abbrev pub printed : Print → Bool → EntryFields → List ℕ
printed Lines true e = e.bytes ++ 10 ∷ []
printed Lines false e = decimal e.number ++ 9 ∷ (e.bytes ++ 10 ∷ [])
printed (Blocks len) is_requested e = e.bytes
printed Raw is_requested e = e.bytes

-- the numbers that those of a proof are compared with, if any, under a checkpoint of so many entries
abbrev pub numbers_in : Requested → ℕ → Option (List ℕ)
numbers_in Any size = None
numbers_in All size = Some (all_numbers size)
numbers_in (Numbers numbers) size = Some numbers.items

-- verify under a checkpoint: the entries of a proof, if it is accepted
abbrev pub verify_under : Print → CheckpointFields → List ℕ → Option (List ℕ) → Result (List ℕ) Error
verify_under print c proof numbers =
    and_then (said_by Proof (proof_in proof)) (λ p.
    ok_unless (first_some (
    numbers_refusal numbers p.entries
    ∷ first_of (entry_refusal print c.size) p.entries
    ∷ proof_refusal c p
    ∷ [])) (flat_map (printed print (is_some numbers)) p.entries))

-- verify: any entries, or those of some numbers
abbrev pub verify_outcome : Print → List ℕ → List ℕ → Option (List ℕ) → Result (List ℕ) Error
verify_outcome print checkpoint proof numbers =
    and_then (said_by Checkpoint (checkpoint_in checkpoint)) (λ c. verify_under print c proof numbers)

-- verify: the requested entries
abbrev pub verify_requested : Print → List ℕ → List ℕ → Requested → Result (List ℕ) Error
verify_requested print checkpoint proof requested =
    and_then (said_by Checkpoint (checkpoint_in checkpoint))
    (λ c. verify_under print c proof (numbers_in requested c.size))

-- ---- prove-consistency and verify-consistency

-- why a new checkpoint does not follow an old one: it is of another log, or smaller, or of the same size with another
-- root
abbrev pub growth_refusal : Source → CheckpointFields → CheckpointFields → Option Error
growth_refusal source old new =
    first_some (
    unless (is_same old.origin new.origin) (Refused source OtherOrigin)
    ∷ unless (nat_le old.size new.size) (Refused source (SmallerSize old.size new.size))
    ∷ unless (not (old.size == new.size) || is_same old.root new.root) (Refused source TwoHistories)
    ∷ [])

-- an old checkpoint, and a new one that may follow it
abbrev pub compared : List ℕ → List ℕ → Result (CheckpointFields × CheckpointFields) Error
compared old new =
    and_then (said_by Old (checkpoint_in old)) (λ o. and_then (said_by New (checkpoint_in new)) (λ n.
    ok_unless (growth_refusal New o n) (o, n)))

-- the digests from a size to all entries; none are sent from size 0
abbrev pub growth_digests : ℕ → List (List ℕ) → List (List ℕ)
growth_digests old_size entries = if old_size == 0 then [] else proof_of sha256 old_size entries

-- the proof that entries begin with those of an old checkpoint, with the new one as its text stands, if the verifier
-- accepts it
abbrev pub growth_text : CheckpointFields → CheckpointFields → List ℕ → List (List ℕ) → Result (List ℕ) Error
growth_text old new text entries =
    let digests = growth_digests old.size entries in
    ok_unless (option_map (λ e. Refused File OtherOldEntries)
    (consistency_refusal sha256 old.size new.size digests old.root new.root))
    (consistency_text (record { old_size = old.size; digests = digests; checkpoint = text }))

-- prove-consistency between two checkpoints: the proof over the entries of the new one
abbrev pub prove_growth : Framing → CheckpointFields → CheckpointFields → List ℕ → List ℕ → Result (List ℕ) Error
prove_growth framing old new text file = and_then (entries_under framing new file) (growth_text old new text)

-- why a proof is not between two checkpoints: it begins with another size than the old one's
abbrev pub old_size_refusal : CheckpointFields → ConsistencyFields → Option Error
old_size_refusal old p = unless (p.old_size == old.size) (Refused Proof (OtherOldSize p.old_size old.size))

-- why the verifier refuses a proof between two checkpoints
abbrev pub consistency_refused : CheckpointFields → CheckpointFields → List (List ℕ) → Option Error
consistency_refused old new digests =
    option_map (λ e. Refused Proof (Consistency e))
    (consistency_refusal sha256 old.size new.size digests old.root new.root)

-- verify-consistency: the new checkpoint that a proof contains, as it stands, if the proof is accepted
abbrev pub verify_consistency_outcome : List ℕ → List ℕ → Result (List ℕ) Error
verify_consistency_outcome old proof =
    and_then (said_by Old (checkpoint_in old)) (λ o. and_then (said_by Proof (consistency_in proof)) (λ p.
    and_then (ok_unless (old_size_refusal o p) (tt {0})) (λ _.
    and_then (said_inside (checkpoint_in p.checkpoint)) (λ n.
    ok_unless (first_some (growth_refusal Proof o n ∷ consistency_refused o n p.digests ∷ [])) p.checkpoint))))

-- ---- join

-- the sizes and the roots of parts, counted from k
abbrev pub parts_in : ℕ → List (List ℕ) → Result (List (ℕ × List ℕ)) Error
parts_in k [] = Ok []
parts_in k (text ∷ texts) =
    and_then (said_by (Part k) (part_in text)) (λ c. and_then (parts_in (k + 1) texts)
    (λ parts. Ok ((c.size, c.root) ∷ parts)))

-- whether part k has a size that fits: the first one's, a power of two; the last from 1 to that
abbrev pub is_part_size : List ℕ → ℕ → Bool
is_part_size sizes k =
    let first = slice_index sizes 0 in
    let size = slice_index sizes k in
    if k + 1 == length sizes then nat_le 1 size && nat_le size first
    else (size == first) && is_power_of_two first

abbrev pub part_refusal : List ℕ → ℕ → Option Error
part_refusal sizes k =
    unless (is_part_size sizes k) (Refused (Part k) (PartSize (slice_index sizes k) (slice_index sizes 0)))

-- the first part whose size does not fit
abbrev pub sizes_refusal : List ℕ → Option Error
sizes_refusal sizes = first_of (part_refusal sizes) (range_with_len 0 (length sizes))

-- why parts of these sizes are not joined
abbrev pub join_refusal : List ℕ → Option Error
join_refusal sizes =
    first_some (
    sizes_refusal sizes
    ∷ unless (nat_le (sum sizes) size_limit) (Refused (Part 0) TooManyEntries)
    ∷ [])

-- the checkpoint of the whole: the root is computed from those of the parts as one from leaf hashes
abbrev pub joined : List ℕ → List (ℕ × List ℕ) → CheckpointFields
joined origin parts =
    record {
      origin = origin;
      size = sum (map (λ p. p.0) parts);
      root = leaves_root sha256 (map (λ p. p.1) parts);
    }

-- join: the checkpoint of a file by those of its parts
abbrev pub join_outcome : List ℕ → List (List ℕ) → Result (List ℕ) Error
join_outcome origin texts =
    and_then (parts_in 0 texts) (λ parts.
    ok_unless (join_refusal (map (λ p. p.0) parts)) (checkpoint_text (joined origin parts)))
