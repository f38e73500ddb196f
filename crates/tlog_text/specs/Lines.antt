-- What a line says. A value is read from its own spelling and from nothing else.
use Rattle.std.specs.Prelude.{ℕ, ◌+◌, ◌-◌, ◌^◌, ◌==◌, ◌&&◌, not, nat_eq, nat_le, nat_lt, Bool, false, decimal}
use Rattle.std.specs.Prelude.{if◌then◌else◌, List, ◌∷◌, [], length, take, drop, position, slice_index, codes}
use Rattle.std.specs.Prelude.{option_map, Option, None, Some}
use Rattle.std.specs.Char.{is_whitespace}
use Rattle.std.specs.Cmp.Lexicographic.{pointwise}
use Rattle.std.specs.List.{list_all, starts_with}
use Rattle.std.specs.Option.{option_and_then, option_map_or}
use Rattle.std.specs.Result.{result_ok}
use Rattle.std.specs.Str.{chars, is_utf8}
use Rattle.std.specs.Str.Parse.{digits_value}
use Rattle.base64.specs.Engines.{standard}
use Rattle.base64.specs.GeneralPurpose.{decode_of, encode_of}
use Rattle.tlog_text.specs.declared.error.Expected.{Expected}
use Rattle.tlog_text.specs.declared.error.Expected.TheVariants.{Blank, Extension, PartOrigin, ProofVersion, Signature}

-- ---- parts of a line

-- the bytes ahead of the first byte that is this one, and those after it
abbrev pub cut_at : ℕ → List ℕ → Option (List ℕ × List ℕ)
cut_at mark bytes = option_map (λ at. (take at bytes, drop (at + 1) bytes)) (position (λ b. b == mark) bytes)

-- the bytes after a word, if they begin with it
abbrev pub after : List ℕ → List ℕ → Option (List ℕ)
after word bytes = if pointwise nat_eq (take (length word) bytes) word then Some (drop (length word) bytes) else None

-- a line, if it passes a test
abbrev pub passing : (List ℕ → Bool) → List ℕ → Option (List ℕ)
passing test line = if test line then Some line else None

-- ---- numbers

-- the number up to 2 ^ 62 whose decimal digits these are
unfoldable pub number_of : List ℕ → Option ℕ
number_of digits =
    let n = digits_value 10 digits in
    if pointwise nat_eq (decimal n) digits && nat_le n (2 ^ 62) then Some n else None

-- a number after a word
abbrev pub number_after : List ℕ → List ℕ → Option ℕ
number_after word line = option_and_then number_of (after word line)

-- the number of an entry, from 1 on, and its length, after a word and with a space between
abbrev pub head_of : List ℕ → Option (ℕ × ℕ)
head_of line =
    option_and_then (λ parts. option_and_then (λ number. option_and_then (λ len.
    if number == 0 then None else Some (number, len)) (number_of parts.1)) (number_of parts.0))
    (option_and_then (cut_at 32) (after (codes "entry ") line))

-- ---- base64

-- whether these are bytes
abbrev pub are_bytes : List ℕ → Bool
are_bytes bytes = list_all (λ b. nat_lt b 256) bytes

-- the base64 of bytes, with its padding (RFC 4648, section 4)
unfoldable pub base64 : List ℕ → List ℕ
base64 bytes = encode_of standard bytes

-- the bytes whose base64 this is
unfoldable pub base64_bytes : List ℕ → Option (List ℕ)
base64_bytes text =
    option_and_then (λ bytes. if are_bytes bytes && pointwise nat_eq (base64 bytes) text then Some bytes else None)
    (result_ok (decode_of standard text))

-- the 32 bytes whose base64 this is
abbrev pub digest_of : List ℕ → Option (List ℕ)
digest_of line = option_and_then (λ bytes. if length bytes == 32 then Some bytes else None) (base64_bytes line)

-- ---- text

-- UTF-8 without characters below U+0020
unfoldable pub is_text : List ℕ → Bool
is_text bytes = is_utf8 bytes && list_all (λ b. nat_le 32 b) bytes

-- a byte order mark in UTF-8
abbrev pub byte_order_mark : List ℕ
byte_order_mark = 239 ∷ 187 ∷ 191 ∷ []

-- an origin: text that is not empty, no byte order mark first, no space first or last, and at most 999934 bytes. A
-- checkpoint has at most 10 ^ 6 bytes, and beside its origin it may need 66: the LF of the origin, 19 digits of a size
-- and their LF, 44 characters of a root and their LF
unfoldable pub is_origin : List ℕ → Bool
is_origin text =
    is_utf8 text && (not (starts_with nat_eq text byte_order_mark) && (nat_le 1 (length text) &&
    (not (slice_index text 0 == 32) && (not (slice_index text (length text - 1) == 32) &&
    (nat_le (length text) 999934 && list_all (λ b. nat_le 32 b) text)))))

-- a character of a key's name: no space, be it one of Unicode's, and no `+`
abbrev pub is_name_char : ℕ → Bool
is_name_char c = not (is_whitespace c) && not (c == 43)

-- the name of a key: text of one or more such characters
unfoldable pub is_key_name : List ℕ → Bool
is_key_name name = nat_le 1 (length name) && (is_text name && list_all is_name_char (chars name))

-- an em dash in UTF-8, and a space
abbrev pub dash : List ℕ
dash = 226 ∷ 128 ∷ 148 ∷ 32 ∷ []

-- a key's name, a space, and the base64 of at least 5 bytes
abbrev pub is_signed : List ℕ × List ℕ → Bool
is_signed parts = is_key_name parts.0 && option_map_or (λ bytes. nat_le 5 (length bytes)) (base64_bytes parts.1) false

-- a signature: these after an em dash and a space
unfoldable pub is_signature : List ℕ → Bool
is_signature line = option_map_or (λ rest. option_map_or is_signed (cut_at 32 rest) false) (after dash line) false

-- the origin of each part of a file
abbrev pub part_origin : List ℕ
part_origin = codes "fohlazu part 1"

-- whether a line is what is expected, of the kinds that say nothing else; an extension line is any text, and not blank
unfoldable pub is_line : Expected → List ℕ → Bool
is_line PartOrigin line = pointwise nat_eq line part_origin
is_line Extension line = nat_le 1 (length line) && is_text line
is_line Signature line = is_signature line
is_line ProofVersion line = pointwise nat_eq line (codes "fohlazu proof 1")
is_line Blank line = length line == 0
is_line other line = false
