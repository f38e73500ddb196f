-- What a text says, or its first wrong line. Each part is read at the front of what is left of the text.
use Rattle.std.specs.Prelude.{ℕ, zero, suc, ◌+◌, ◌-◌, ◌==◌, ◌&&◌, ◌||◌, nat_eq, nat_lt, Bool, false, Err}
use Rattle.std.specs.Prelude.{if◌then◌else◌, List, [], ◌∷◌, length, take, drop, codes, slice_index, Option, Result, Ok}
use Rattle.std.specs.List.{count_by, starts_with}
use Rattle.std.specs.Option.{option_map_or}
use Rattle.std.specs.Result.{result_map_both}
use Rattle.std.specs.Cmp.Lexicographic.{pointwise}
use Rattle.tlog_text.specs.Lines.{byte_order_mark, cut_at, digest_of, head_of, is_line, is_origin, number_after}
use Rattle.tlog_text.specs.Lines.{part_origin, passing}
use Rattle.tlog_text.specs.Texts.{CheckpointFields, ConsistencyFields, EntriesFields, EntryFields}
use Rattle.tlog_text.specs.declared.error.Expected.{Expected}
use Rattle.tlog_text.specs.declared.error.Expected.TheVariants.{Blank, Digest, DigestCount, DigestOrBlank, End}
use Rattle.tlog_text.specs.declared.error.Expected.TheVariants.{EntryBytes, EntryCount, EntryHead, Extension, NotPart}
use Rattle.tlog_text.specs.declared.error.Expected.TheVariants.{OldSize, Origin, PartOrigin, ProofVersion, ShortNote}
use Rattle.tlog_text.specs.declared.error.Expected.TheVariants.{Signature, Size}
use Rattle.tlog_text.specs.declared.error.Found.{Found}
use Rattle.tlog_text.specs.declared.error.Found.TheVariants.{ByteOrderMark, CarriageReturn, NoLineFeed, Other, TextEnd}
use Rattle.tlog_text.specs.declared.error.Stop.{Stop}
use Rattle.tlog_text.specs.declared.error.Stop.TheVariants.{Memory, Missing}
use Rattle.tlog_text.specs.declared.error.TextError.{TextError}
use Rattle.tlog_text.specs.declared.error.TextError.TheVariants.{Line, OutOfMemory}

-- a value and what is left after it, or where reading stops
abbrev pub Reads : Type 0 → Type 0
Reads V = Result (V × List ℕ) Stop

-- what is expected does not stand at the front of what is left
abbrev pub missing : {V : Type 0} → Expected → List ℕ → Result V Stop
missing expected left = Err (Missing (length left) expected)

-- what is read after a value
abbrev pub then_read : {V W : Type 0} → Reads V → (V → List ℕ → Result W Stop) → Result W Stop
then_read (Ok read) next = next read.0 read.1
then_read (Err stop) next = Err stop

-- what the next line says
abbrev pub line_by : {V : Type 0} → Expected → (List ℕ → Option V) → List ℕ → Reads V
line_by expected says left =
    option_map_or (λ cut. option_map_or (λ v. Ok (v, cut.1)) (says cut.0) (missing expected left))
    (cut_at 10 left) (missing expected left)

-- values one after another, up to a stop, and at most so many
unfoldable pub many : {V : Type 0} → (List ℕ → Bool) → (List ℕ → Reads V) → ℕ → List ℕ → Reads (List V)
many stops read zero left = Ok ([], left)
many stops read (suc n) left =
    if stops left then Ok ([], left)
    else then_read (read left) (λ v rest. then_read (many stops read n rest) (λ vs end. Ok (v ∷ vs, end)))

-- a line that says nothing but what is expected
abbrev pub line_that : Expected → List ℕ → Reads (List ℕ)
line_that expected left = line_by expected (passing (is_line expected)) left

-- nothing is left
abbrev pub ended : {V : Type 0} → V → List ℕ → Result V Stop
ended v [] = Ok v
ended v (b ∷ left) = missing End (b ∷ left)

-- stops: nowhere, at the end, at a blank line, and at either of both
abbrev pub never : List ℕ → Bool
never left = false

abbrev pub at_end : List ℕ → Bool
at_end left = length left == 0

abbrev pub at_blank : List ℕ → Bool
at_blank left = slice_index left 0 == 10

abbrev pub at_text_end : List ℕ → Bool
at_text_end left = at_end left || at_blank left

-- ---- digests

-- so many digests
unfoldable pub digests_by : ℕ → List ℕ → Reads (List (List ℕ))
digests_by count left = many never (line_by Digest digest_of) count left

-- the digests up to a blank line, at most so many
unfoldable pub digests_to_blank : ℕ → List ℕ → Reads (List (List ℕ))
digests_to_blank limit left = many at_blank (line_by DigestOrBlank digest_of) limit left

-- ---- checkpoints

-- the origin of a log, which is not that of a part
unfoldable pub log_origin_by : List ℕ → Reads (List ℕ)
log_origin_by left =
    then_read (line_by Origin (passing is_origin) left) (λ origin rest.
    if pointwise nat_eq origin part_origin then missing NotPart left else Ok (origin, rest))

-- the origin of a part
abbrev pub part_origin_by : List ℕ → Reads (List ℕ)
part_origin_by left = line_that PartOrigin left

-- extension lines, as many as there are
unfoldable pub extensions_by : List ℕ → Reads (List (List ℕ))
extensions_by left = many at_text_end (line_that Extension) (length left) left

-- a blank line and 1 to 100 signatures, or nothing
unfoldable pub signatures_by : List ℕ → Reads (List (List ℕ))
signatures_by left =
    if at_end left then Ok ([], left)
    else then_read (line_that Blank left) (λ blank left. then_read (line_that Signature left) (λ s left.
    then_read (many at_text_end (line_that Signature) 99 left) (λ ss end. Ok (s ∷ ss, end))))

-- a size and a root, extension lines and signatures after an origin
unfoldable pub after_origin : List ℕ → List ℕ → Result CheckpointFields Stop
after_origin origin left =
    then_read (line_by Size (number_after []) left) (λ size left.
    then_read (line_by Digest digest_of left) (λ root left.
    then_read (extensions_by left) (λ extensions left.
    then_read (signatures_by left) (λ signatures left.
    ended (record { origin = origin; size = size; root = root }) left))))

-- a note of at most 10 ^ 6 bytes that begins with such an origin
abbrev pub note_by : (List ℕ → Reads (List ℕ)) → List ℕ → Result CheckpointFields Stop
note_by origin_by note =
    if nat_lt 1000000 (length note) then missing ShortNote note else then_read (origin_by note) after_origin

-- ---- proofs of entries

-- so many bytes and a line feed
unfoldable pub bytes_by : ℕ → List ℕ → Reads (List ℕ)
bytes_by count left =
    if nat_lt count (length left) && (slice_index left count == 10)
    then Ok (take count left, drop (count + 1) left)
    else missing (EntryBytes count) left

-- an entry: its number and its length, and its bytes
unfoldable pub entry_by : List ℕ → Reads EntryFields
entry_by left =
    then_read (line_by EntryHead head_of left) (λ head left. then_read (bytes_by head.1 left) (λ bytes left.
    Ok (record { number = head.0; bytes = bytes }, left)))

-- a proof of entries
unfoldable pub entries_by : List ℕ → Result EntriesFields Stop
entries_by text =
    then_read (line_that ProofVersion text) (λ version left.
    then_read (line_by EntryCount (number_after (codes "entries ")) left) (λ count left.
    then_read (many never entry_by count left) (λ entries left.
    then_read (line_by DigestCount (number_after (codes "digests ")) left) (λ digest_count left.
    then_read (digests_by digest_count left) (λ digests left.
    ended (record { entries = entries; digests = digests }) left)))))

-- ---- consistency proofs

-- a consistency proof: all that is left after a blank line is the new checkpoint
unfoldable pub consistency_by : List ℕ → Result ConsistencyFields Stop
consistency_by text =
    then_read (line_by OldSize (number_after (codes "old ")) text) (λ old_size left.
    then_read (digests_to_blank 63 left) (λ digests left. then_read (line_that Blank left) (λ blank left.
    Ok (record { old_size = old_size; digests = digests; checkpoint = left }))))

-- ---- errors

-- the line, numbered from 1, that has so many bytes of the text left
abbrev pub line_at : List ℕ → ℕ → ℕ
line_at text left = count_by (λ b. b == 10) (take (length text - left) text) + 1

-- what stands at the front of the rest of a text: a byte order mark at its first byte, its end, a line without a line
-- feed, a line that ends in a carriage return ahead of its line feed, or something else
abbrev pub found_in : List ℕ → List ℕ → Found
found_in above below =
    if (length above == 0) && starts_with nat_eq below byte_order_mark then ByteOrderMark
    else if length below == 0 then TextEnd
    else option_map_or (λ cut. if slice_index cut.0 (length cut.0 - 1) == 13 then CarriageReturn else Other)
    (cut_at 10 below) NoLineFeed

-- the error of a wrong line
abbrev pub wrong_line : ℕ → Expected → Found → TextError
wrong_line line expected found = Line (record { line = line; expected = expected; found = found })

-- the error of a text where reading stops
abbrev pub error_of : List ℕ → Stop → TextError
error_of text (Missing left expected) =
    let above = length text - left in
    wrong_line (line_at text left) expected (found_in (take above text) (drop above text))
error_of text Memory = OutOfMemory

-- what a text says, or its first wrong line
abbrev pub in_text : {V : Type 0} → (List ℕ → Result V Stop) → List ℕ → Result V TextError
in_text read text = result_map_both (λ v. v) (error_of text) (read text)

abbrev pub checkpoint_in : List ℕ → Result CheckpointFields TextError
checkpoint_in note = in_text (note_by log_origin_by) note

abbrev pub part_in : List ℕ → Result CheckpointFields TextError
part_in text = in_text (note_by part_origin_by) text

abbrev pub entries_in : List ℕ → Result EntriesFields TextError
entries_in text = in_text entries_by text

abbrev pub consistency_in : List ℕ → Result ConsistencyFields TextError
consistency_in text = in_text consistency_by text
