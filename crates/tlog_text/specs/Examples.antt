-- Texts and what they say, which the checker computes. The digests are those of another implementation.
use Rattle.std.specs.Prelude.{◌≡◌, ⊤, ℕ, List, [], ◌∷◌, ◌++◌, codes, None, Some, Ok, Err, true, false, refl}
use Rattle.std.specs.Fmt.{digits}
use Rattle.std.specs.Str.{chars, is_utf8}
use lib.Utf8.{encode}
use Rattle.base64.proofs.OnLiterals.{base64_on_literals}
use Rattle.tlog_text.specs.Lines.{base64, base64_bytes, dash, is_key_name, is_line, is_origin, is_signature, is_text}
use Rattle.tlog_text.specs.Lines.{number_of}
use Rattle.tlog_text.specs.Reading.{after_origin, bytes_by, checkpoint_in}
use Rattle.tlog_text.specs.Reading.{consistency_by, consistency_in, digests_by, digests_to_blank, entries_by}
use Rattle.tlog_text.specs.Reading.{entries_in, entry_by, extensions_by, log_origin_by, many, part_in, signatures_by}
use Rattle.tlog_text.specs.Reading.{wrong_line}
use Rattle.tlog_text.specs.Texts.{checkpoint_text, consistency_text, entries_text, line, CheckpointFields}
use Rattle.tlog_text.specs.Texts.{ConsistencyFields, EntriesFields}
use Rattle.tlog_text.specs.declared.error.Expected.TheVariants.{Digest, DigestOrBlank, End, EntryBytes, EntryHead}
use Rattle.tlog_text.specs.declared.error.Expected.TheVariants.{NotPart, OldSize, PartOrigin, Signature, Size}
use Rattle.tlog_text.specs.declared.error.Found.TheVariants.{ByteOrderMark, CarriageReturn, NoLineFeed, Other, TextEnd}

-- what the examples open
unfoldable pub on_lines : ⊤
unfolding base64_on_literals base64 base64_bytes number_of is_text is_origin is_key_name is_signature is_line
on_lines = tt

unfoldable pub on_notes : ⊤
unfolding log_origin_by extensions_by signatures_by after_origin many digits chars is_utf8 encode
on_notes = tt

unfoldable pub on_literals : ⊤
unfolding on_lines on_notes bytes_by entry_by digests_by digests_to_blank entries_by consistency_by
on_literals = tt

-- ---- lines

-- a number has no leading zeros, and is at most 2 ^ 62
pub numbers : (number_of (codes "0") ≡ Some 0) × (number_of (codes "07") ≡ None)
    × (number_of (codes "4611686018427387904") ≡ Some 4611686018427387904)
    × (number_of (codes "4611686018427387905") ≡ None) × (number_of (codes "+7") ≡ None) × (number_of [] ≡ None)
unfolding on_literals
numbers = (refl, refl, refl, refl, refl, refl)

-- base64 has its padding, and no spare bits
pub base64s : (base64_bytes (codes "AAE=") ≡ Some (0 ∷ 1 ∷ [])) × (base64_bytes (codes "AAF=") ≡ None)
    × (base64_bytes (codes "AAE") ≡ None)
unfolding on_literals
base64s = (refl, refl, refl)

-- an origin has no space at an end, and may have characters beyond ASCII
pub origins : (is_origin (codes "journal example") ≡ true) × (is_origin (codes " journal") ≡ false)
    × (is_origin (codes "journal ") ≡ false) × (is_origin [] ≡ false) × (is_origin (195 ∷ 169 ∷ []) ≡ true)
    × (is_origin (195 ∷ []) ≡ false) × (is_origin (239 ∷ 187 ∷ 191 ∷ codes "journal") ≡ false)
unfolding on_literals
origins = (refl, refl, refl, refl, refl, refl, refl)

-- a signature has at least 5 bytes, and its name has no `+` and no U+00A0
pub signatures : (is_signature (dash ++ codes "witness AAAAAAA=") ≡ true)
    × (is_signature (dash ++ codes "witness AAAAAA==") ≡ false) × (is_signature (dash ++ codes "a+b AAAAAAA=") ≡ false)
    × (is_signature (codes "- witness AAAAAAA=") ≡ false)
    × (is_signature (dash ++ 194 ∷ 160 ∷ codes "b AAAAAAA=") ≡ false)
unfolding on_literals
signatures = (refl, refl, refl, refl, refl)

-- ---- checkpoints

-- the root of no entries, of five and of seven: the decimal numbers from 1 on
abbrev pub empty_root : List ℕ
empty_root =
    227 ∷ 176 ∷ 196 ∷ 66 ∷ 152 ∷ 252 ∷ 28 ∷ 20 ∷ 154 ∷ 251 ∷ 244 ∷ 200 ∷ 153 ∷ 111 ∷ 185 ∷ 36 ∷ 39 ∷ 174 ∷ 65 ∷
    228 ∷ 100 ∷ 155 ∷ 147 ∷ 76 ∷ 164 ∷ 149 ∷ 153 ∷ 27 ∷ 120 ∷ 82 ∷ 184 ∷ 85 ∷ []

abbrev pub root_of_5 : List ℕ
root_of_5 =
    225 ∷ 6 ∷ 222 ∷ 109 ∷ 51 ∷ 30 ∷ 130 ∷ 98 ∷ 37 ∷ 191 ∷ 38 ∷ 156 ∷ 77 ∷ 112 ∷ 134 ∷ 118 ∷ 11 ∷ 207 ∷ 189 ∷ 248
    ∷ 62 ∷ 213 ∷ 132 ∷ 87 ∷ 69 ∷ 118 ∷ 50 ∷ 215 ∷ 7 ∷ 30 ∷ 169 ∷ 99 ∷ []

abbrev pub root_of_7 : List ℕ
root_of_7 =
    116 ∷ 252 ∷ 202 ∷ 105 ∷ 207 ∷ 215 ∷ 8 ∷ 57 ∷ 245 ∷ 209 ∷ 100 ∷ 52 ∷ 143 ∷ 159 ∷ 65 ∷ 164 ∷ 207 ∷ 68 ∷ 48 ∷
    208 ∷ 136 ∷ 130 ∷ 220 ∷ 157 ∷ 204 ∷ 114 ∷ 176 ∷ 166 ∷ 201 ∷ 123 ∷ 178 ∷ 102 ∷ []

-- the last in base64
abbrev pub root_text : List ℕ
root_text = codes "dPzKac/XCDn10WQ0j59BpM9EMNCIgtydzHKwpsl7smY="

-- the checkpoint of seven entries
abbrev pub journal : CheckpointFields
journal = record { origin = codes "journal.example"; size = 7; root = root_of_7 }

abbrev pub journal_lines : List ℕ
journal_lines = line (codes "journal.example") ++ line (codes "7") ++ line root_text

pub its_text : checkpoint_text journal ≡ journal_lines
unfolding on_literals
its_text = refl

pub read_back : checkpoint_in journal_lines ≡ Ok journal
unfolding on_literals
read_back = refl

-- of no entries
pub of_none : checkpoint_in (line (codes "journal.example") ++ line (codes "0") ++
    line (codes "47DEQpj8HBSa+/TImW+5JCeuQeRkm5NMpJWZG3hSuFU="))
    ≡ Ok (record { origin = codes "journal.example"; size = 0; root = empty_root })
unfolding on_literals
of_none = refl

-- an extension line and a signature
abbrev pub a_signature : List ℕ
a_signature = dash ++ codes "witness AAAAAAA="

pub published : checkpoint_in (journal_lines ++ line (codes "extension") ++ line [] ++ line a_signature) ≡ Ok journal
unfolding on_literals
published = refl

-- a part is no checkpoint, and a checkpoint is no part
abbrev pub part_lines : List ℕ
part_lines = line (codes "fohlazu part 1") ++ line (codes "7") ++ line root_text

pub a_part : (checkpoint_in part_lines ≡ Err (wrong_line 1 NotPart Other))
    × (part_in part_lines ≡ Ok (record { origin = codes "fohlazu part 1"; size = 7; root = root_of_7 }))
    × (part_in journal_lines ≡ Err (wrong_line 1 PartOrigin Other))
unfolding on_literals
a_part = (refl, refl, refl)

-- a leading zero; spare bits; a root without a line feed; a blank line alone; and signatures in two parts
pub leading_zero : checkpoint_in (line (codes "journal.example") ++ line (codes "07") ++ line root_text)
    ≡ Err (wrong_line 2 Size Other)
unfolding on_literals
leading_zero = refl

pub spare_bits : checkpoint_in (line (codes "journal.example") ++ line (codes "7") ++
    line (codes "dPzKac/XCDn10WQ0j59BpM9EMNCIgtydzHKwpsl7smZ="))
    ≡ Err (wrong_line 3 Digest Other)
unfolding on_literals
spare_bits = refl

pub no_line_feed : checkpoint_in (line (codes "journal.example") ++ line (codes "7") ++ root_text)
    ≡ Err (wrong_line 3 Digest NoLineFeed)
unfolding on_literals
no_line_feed = refl

-- lines that an editor has ended in a carriage return, and a text that it has begun with a byte order mark
pub carriage_return : checkpoint_in (line (codes "journal.example") ++ (55 ∷ 13 ∷ 10 ∷ []))
    ≡ Err (wrong_line 2 Size CarriageReturn)
unfolding on_literals
carriage_return = refl

pub byte_order_mark : consistency_in (239 ∷ 187 ∷ 191 ∷ line (codes "old 3"))
    ≡ Err (wrong_line 1 OldSize ByteOrderMark)
unfolding on_literals
byte_order_mark = refl

pub no_signature : checkpoint_in (journal_lines ++ line []) ≡ Err (wrong_line 5 Signature TextEnd)
unfolding on_literals
no_signature = refl

-- a second checkpoint below the first one is read as three extension lines
pub two_checkpoints : checkpoint_in (journal_lines ++ journal_lines) ≡ Ok journal
unfolding on_literals
two_checkpoints = refl

pub two_blank_lines : checkpoint_in (journal_lines ++ line [] ++ line a_signature ++ line [] ++ line a_signature)
    ≡ Err (wrong_line 6 End Other)
unfolding on_literals
two_blank_lines = refl

-- ---- proofs of entries

abbrev pub first_digest : List ℕ
first_digest =
    144 ∷ 108 ∷ 93 ∷ 36 ∷ 133 ∷ 202 ∷ 231 ∷ 34 ∷ 7 ∷ 58 ∷ 67 ∷ 15 ∷ 77 ∷ 4 ∷ 254 ∷ 23 ∷ 103 ∷ 80 ∷ 117 ∷ 146 ∷
    206 ∷ 242 ∷ 38 ∷ 98 ∷ 154 ∷ 234 ∷ 219 ∷ 133 ∷ 162 ∷ 236 ∷ 144 ∷ 157 ∷ []

abbrev pub second_digest : List ℕ
second_digest =
    17 ∷ 225 ∷ 245 ∷ 88 ∷ 34 ∷ 63 ∷ 76 ∷ 113 ∷ 182 ∷ 190 ∷ 28 ∷ 236 ∷ 253 ∷ 31 ∷ 13 ∷ 232 ∷ 113 ∷ 70 ∷ 210 ∷ 89
    ∷ 72 ∷ 119 ∷ 194 ∷ 123 ∷ 41 ∷ 236 ∷ 81 ∷ 159 ∷ 144 ∷ 64 ∷ 33 ∷ 60 ∷ []

abbrev pub third_digest : List ℕ
third_digest =
    232 ∷ 188 ∷ 217 ∷ 126 ∷ 52 ∷ 150 ∷ 147 ∷ 220 ∷ 254 ∷ 192 ∷ 84 ∷ 254 ∷ 33 ∷ 154 ∷ 179 ∷ 87 ∷ 183 ∷ 93 ∷ 60 ∷
    28 ∷ 217 ∷ 248 ∷ 190 ∷ 23 ∷ 103 ∷ 246 ∷ 9 ∷ 15 ∷ 156 ∷ 134 ∷ 249 ∷ 253 ∷ []

abbrev pub fourth_digest : List ℕ
fourth_digest =
    83 ∷ 48 ∷ 79 ∷ 94 ∷ 63 ∷ 212 ∷ 188 ∷ 210 ∷ 11 ∷ 57 ∷ 171 ∷ 222 ∷ 242 ∷ 254 ∷ 17 ∷ 128 ∷ 49 ∷ 204 ∷ 90 ∷ 232
    ∷ 33 ∷ 123 ∷ 206 ∷ 160 ∷ 8 ∷ 222 ∷ 167 ∷ 226 ∷ 120 ∷ 105 ∷ 52 ∷ 138 ∷ []

-- the third of five lines, with two of the digests that prove it
abbrev pub third_line : EntriesFields
third_line =
    record {
      entries = record { number = 3; bytes = codes "3" } ∷ [];
      digests = second_digest ∷ third_digest ∷ [];
    }

pub its_proof : entries_text third_line
    ≡ line (codes "fohlazu proof 1") ++ line (codes "entries 1") ++ line (codes "entry 3 1") ++ line (codes "3")
    ++ line (codes "digests 2") ++
    line (codes "EeH1WCI/THG2vhzs/R8N6HFG0llId8J7KexRn5BAITw=") ++
    line (codes "6LzZfjSWk9z+wFT+IZqzV7ddPBzZ+L4XZ/YJD5yG+f0=")
unfolding on_literals
its_proof = refl

pub proof_back : entries_in (entries_text third_line) ≡ Ok third_line
unfolding on_literals
proof_back = refl

-- the bytes of an entry may be any, line feeds too: here they are two line feeds, and a third ends them
pub lines_counted : entries_in (line (codes "fohlazu proof 1") ++ line (codes "entries 2") ++ line (codes "entry 1 2")
    ++ line (10 ∷ 10 ∷ []) ++ line (codes "entries 1")) ≡ Err (wrong_line 7 EntryHead Other)
unfolding on_literals
lines_counted = refl

-- fewer bytes than an entry says; and entries are counted from 1
pub too_short : entries_in (line (codes "fohlazu proof 1") ++ line (codes "entries 1") ++ line (codes "entry 3 2") ++
    line (codes "3")) ≡ Err (wrong_line 4 (EntryBytes 2) Other)
unfolding on_literals
too_short = refl

pub entry_0 : entries_in (line (codes "fohlazu proof 1") ++ line (codes "entries 1") ++ line (codes "entry 0 1") ++
    line (codes "0")) ≡ Err (wrong_line 3 EntryHead Other)
unfolding on_literals
entry_0 = refl

-- ---- consistency proofs

-- from three entries to five
abbrev pub growth : ConsistencyFields
growth =
    record {
      old_size = 3;
      digests = first_digest ∷ second_digest ∷ third_digest ∷ fourth_digest ∷ [];
      checkpoint = checkpoint_text (record { origin = codes "journal.example"; size = 5; root = root_of_5 });
    }

pub its_consistency : consistency_text growth
    ≡ line (codes "old 3") ++
    line (codes "kGxdJIXK5yIHOkMPTQT+F2dQdZLO8iZimurbhaLskJ0=") ++
    line (codes "EeH1WCI/THG2vhzs/R8N6HFG0llId8J7KexRn5BAITw=") ++
    line (codes "6LzZfjSWk9z+wFT+IZqzV7ddPBzZ+L4XZ/YJD5yG+f0=")
    ++
    line (codes "UzBPXj/UvNILOave8v4RgDHMWughe86gCN6n4nhpNIo=") ++ line [] ++ line (codes "journal.example") ++ line
    (codes "5")
    ++
    line (codes "4QbebTMegmIlvyacTXCGdgvPvfg+1YRXRXYy1wceqWM=")
unfolding on_literals
its_consistency = refl

pub consistency_back : consistency_in (consistency_text growth) ≡ Ok growth
unfolding on_literals
consistency_back = refl

-- no blank line
pub no_blank_line : consistency_in (line (codes "old 3") ++ line (codes "journal.example"))
    ≡ Err (wrong_line 2 DigestOrBlank Other)
unfolding on_literals
no_blank_line = refl
