-- The lines of texts: UTF-8, origins, names and numbers.
use Rattle.std.proofs.Common.{◌≡◌, ◌≤◌, ◌-◌, ◌==◌, Bool, true, false, ℕ, List, length, Some, None, Result, Ok, Err, sym}
use Rattle.std.proofs.Common.{ap, arith, ◌&&◌, if◌then◌else◌, not, nat_eq, nat_le, slice_index, MatchResult, le-leb}
use Rattle.std.proofs.Common.{ne_eqb, ◌^◌, Decides, [], ◌∷◌, ◌++◌, Option, refl, ◌∙◌, subst, inl, inr, ◌⊎◌, codes}
use Rattle.std.proofs.Common.{decimal, All, eqb-true, leb-true}
use Rattle.std.proofs.lemmas.List.Elements.{All-append, All-cons, All-nil, All-weaker}
use Rattle.std.proofs.lemmas.Bool.{and_left, eqb-false, and_parts, false_from_ne_true}
use Rattle.std.proofs.lemmas.Bool.Decides.{Decides-eqb}
use Rattle.std.proofs.lemmas.List.{nil_from_length}
use Rattle.std.proofs.lemmas.Str.{is_utf8-from_IsUtf8, IsUtf8-from_is_utf8}
use Rattle.std.specs.Cmp.Lexicographic.{pointwise, bytes_decides}
use Rattle.std.specs.List.{list_all, starts_with}
use Rattle.std.specs.Option.{option_map_or}
use Rattle.std.specs.Result.{is_ok, result_ok}
use Rattle.std.specs.Str.{chars, is_utf8, IsUtf8}
use lib.Utf8.{encode}
use Rattle.tlog_text.specs.Lines.{byte_order_mark, is_origin, passing, after, base64, base64_bytes, cut_at, dash}
use Rattle.tlog_text.specs.Lines.{digest_of, head_of, is_key_name, is_line, is_signature, is_signed, is_text}
use Rattle.tlog_text.specs.Reading.{line_by, line_that, log_origin_by}
use Rattle.tlog_text.specs.declared.error.Expected.TheVariants.{Blank, EntryHead, Extension}
use Rattle.tlog_text.specs.declared.error.Expected.TheVariants.{Origin, PartOrigin, ProofVersion, Signature}
use Rattle.tlog_text.specs.Texts.{digest_line, line, IsDigest}
use Rattle.tlog_text.specs.declared.error.Expected.{Expected}
use Rattle.tlog_text.proofs.TestFacts.{fails, and_then, each_decided, found, le_decided, said_as, unless, IsFound}
use Rattle.tlog_text.proofs.TestFacts.{after_found, cut_found, lacks_below, Lacks, decimal_high, number_after_found}
use Rattle.tlog_text.proofs.ReadFacts.{gives, in_turn, line_spelled, passes, passing_spelled, read_as, IsSpelled}
use Rattle.tlog_text.proofs.Base64Facts.{base64_found, base64_plain, digest_found}
use Rattle.tlog_text.proofs.TestFacts.{number_found}
use Rattle.tlog_text.specs.Lines.{number_after, part_origin}

-- what a call that reads UTF-8 tells
pub utf8_tells : {S E : Type 0} (Y : S → Type 0) (N : E → Type 0) (r : Result S E) (bytes : List ℕ) →
    MatchResult r (λ s. Y s × IsUtf8 bytes) (λ e. (IsUtf8 bytes → ⊥) × N e) → is_ok r ≡ is_utf8 bytes
utf8_tells Y N (Ok s) bytes said = sym (is_utf8-from_IsUtf8 bytes said.1)
utf8_tells Y N (Err e) bytes said =
    sym (fails (is_utf8 bytes) (IsUtf8-from_is_utf8 bytes, is_utf8-from_IsUtf8 bytes) said.0)

-- the tests of an origin
abbrev pub plain : List ℕ → Bool
plain text = list_all (λ b. nat_le 32 b) text

pub origin_tests : (text : List ℕ) (few : Bool) → IsUtf8 text → starts_with nat_eq text byte_order_mark ≡ false →
    1 ≤ length text → (slice_index text 0 ≡ 32 → ⊥) →
    (slice_index text (length text - 1) ≡ 32 → ⊥) → nat_le (length text) 999934 ≡ few →
    (few && plain text) ≡ is_origin text
unfolding is_origin
origin_tests text few utf8 unmarked some first last few_is =
    let a = is_utf8-from_IsUtf8 text utf8 in
    let b = le-leb 1 (length text) some in
    let d : not (slice_index text 0 == 32) ≡ true = ap not (ne_eqb (slice_index text 0) 32 first) in
    let e : not (slice_index text (length text - 1) == 32) ≡ true =
    ap not (ne_eqb (slice_index text (length text - 1)) 32 last) in
    λ i. sym a i && (not (sym unmarked i) && (sym b i && (sym d i && (sym e i && (sym few_is i && plain text)))))

-- bytes that are no text are no origin
pub no_origin : {S E : Type 0} (Y : S → Type 0) (N : E → Type 0) (r : Result S E) (bytes : List ℕ) →
    result_ok r ≡ None → MatchResult r (λ s. Y s × IsUtf8 bytes) (λ e. (IsUtf8 bytes → ⊥) × N e) →
    None ≡ passing is_origin bytes
unfolding is_origin
no_origin Y N (Ok s) bytes none said = absurd cc
no_origin Y N (Err e) bytes none said =
    let other = and_left (is_utf8 bytes) _ (sym (utf8_tells Y N (Err e) bytes said)) in
    λ i. if sym other i then Some bytes else None

-- bytes that are no text are no name
pub no_name : (bytes : List ℕ) → (IsUtf8 bytes → ⊥) → is_key_name bytes ≡ false
unfolding is_key_name is_text
no_name bytes other =
    false_from_ne_true (is_key_name bytes) (λ is.
    let (text, named) = and_parts (is_text bytes) _ (and_parts (nat_le 1 (length bytes)) _ is).1 in
    other (IsUtf8-from_is_utf8 bytes (and_parts (is_utf8 bytes) _ text).0))

pub some_tested : (bytes : List ℕ) → (length bytes == 0) ≡ false → nat_le 1 (length bytes) ≡ true
some_tested bytes some = le-leb 1 (length bytes) (omega (arith, eqb-false (length bytes) 0 some))

-- ---- plain bytes

abbrev pub IsPlain : List ℕ → Type 0
IsPlain bytes = All (λ c. 32 ≤ c) bytes

pub plain_lacks : (bytes : List ℕ) → IsPlain bytes → Lacks 10 bytes
plain_lacks bytes plain = lacks_below 10 32 bytes (omega arith) plain

pub plain_tested : (bytes : List ℕ) → list_all (λ b. nat_le 32 b) bytes ≡ true → IsPlain bytes
plain_tested bytes is = (each_decided (λ b. nat_le 32 b) (λ c. 32 ≤ c) (λ b. le_decided 32 b) bytes).0 is

decimal_plain : (n : ℕ) → n ≤ 2 ^ 62 → IsPlain (decimal n)
decimal_plain n small =
    All-weaker (λ c. 48 ≤ c) (λ c. 32 ≤ c) (λ c high. omega (arith, high)) (decimal n) (decimal_high n small)

pub text_plain : (bytes : List ℕ) → is_text bytes ≡ true → IsPlain bytes
unfolding is_text
text_plain bytes is = plain_tested bytes (and_parts (is_utf8 bytes) _ is).1

-- ---- numbers

pub number_spelled : (expected : Expected) (word : List ℕ) → list_all (λ b. nat_le 32 b) word ≡ true →
    IsSpelled (line_by expected (number_after word)) (λ n rest. n ≤ 2 ^ 62) (λ n. line (word ++ decimal n))
number_spelled expected word plain =
    line_spelled expected (number_after word) (λ n. n ≤ 2 ^ 62) (λ n. word ++ decimal n)
    (λ n small. plain_lacks (word ++ decimal n)
    (All-append (λ c. 32 ≤ c) word (decimal n) (plain_tested word plain) (decimal_plain n small)))
    (number_after_found word)

-- the number and the length of an entry
abbrev pub IsHead : ℕ × ℕ → Type 0
IsHead head = (1 ≤ head.0) × (head.0 ≤ 2 ^ 62) × (head.1 ≤ 2 ^ 62)

abbrev pub head_bytes : ℕ × ℕ → List ℕ
head_bytes head = codes "entry " ++ (decimal head.0 ++ 32 ∷ decimal head.1)

head_found : (l : List ℕ) → IsFound (head_of l) (λ head. IsHead head × (l ≡ head_bytes head))
head_found l =
    said_as (and_then _ _ (and_then (cut_at 32) _ (after_found (codes "entry ") l) (cut_found 32)) (λ parts.
    and_then _ _ (number_found parts.0) (λ number. and_then _ _ (number_found parts.1) (λ len.
    unless (number == 0) (Decides-eqb number 0) (found (number, len))))))
    (λ head (parts, (rest, word, (lacks, cut)), (number, (small, digits), (len, (low, tail), (some, same)))).
    subst (λ (h : ℕ × ℕ). IsHead h × (l ≡ head_bytes h)) same (
      (omega (arith, some), small, low),
      word ∙ ap (λ t. codes "entry " ++ t) (cut ∙ (λ i. digits i ++ 32 ∷ tail i)),
    ))
    (λ head ((from_1, small, low), is). (
      (decimal head.0, decimal head.1),
      (
        decimal head.0 ++ 32 ∷ decimal head.1,
        is,
        (lacks_below 32 48 (decimal head.0) (omega arith) (decimal_high head.0 small), refl),
      ),
      (head.0, (small, refl), (head.1, (low, refl), (λ none. omega (arith, none, from_1), refl))),
    ))

pub head_spelled : IsSpelled (line_by EntryHead head_of) (λ head rest. IsHead head) (λ head. line (head_bytes head))
head_spelled =
    line_spelled EntryHead head_of IsHead head_bytes
    (λ head is. plain_lacks (head_bytes head)
    (All-append (λ c. 32 ≤ c) (codes "entry ") (decimal head.0 ++ 32 ∷ decimal head.1)
    (plain_tested (codes "entry ") refl)
    (All-append (λ c. 32 ≤ c) (decimal head.0) (32 ∷ decimal head.1) (decimal_plain head.0 is.1)
    (All-cons (λ c. 32 ≤ c) 32 (decimal head.1) (omega arith) (decimal_plain head.1 is.2)))))
    head_found

-- ---- digests

pub digest_spelled : (expected : Expected) → IsSpelled (line_by expected digest_of)
    (λ digest rest. IsDigest digest) digest_line
digest_spelled expected =
    line_spelled expected digest_of IsDigest base64
    (λ digest is. plain_lacks (base64 digest) (base64_plain digest is.1)) digest_found

-- ---- origins

pub origin_parts : (origin : List ℕ) → is_origin origin ≡ true →
    IsUtf8 origin × (length origin ≤ 999934) × IsPlain origin
unfolding is_origin
origin_parts origin is =
    let (utf8, a) = and_parts (is_utf8 origin) _ is in
    let (unmarked, marked) = and_parts (not (starts_with nat_eq origin byte_order_mark)) _ a in
    let (some, b) = and_parts (nat_le 1 (length origin)) _ marked in
    let (first, c) = and_parts (not (slice_index origin 0 == 32)) _ b in
    let (last, d) = and_parts (not (slice_index origin (length origin - 1) == 32)) _ c in
    let (few, all) = and_parts (nat_le (length origin) 999934) _ d in (
      IsUtf8-from_is_utf8 origin utf8,
      leb-true (length origin) 999934 few,
      plain_tested origin all,
    )

abbrev pub IsLogOrigin : List ℕ → Type 0
IsLogOrigin origin = (is_origin origin ≡ true) × (origin ≡ part_origin → ⊥)

pub log_origin_spelled : IsSpelled log_origin_by (λ origin rest. IsLogOrigin origin) line
unfolding log_origin_by
log_origin_spelled left =
    read_as (in_turn _ _ (passing_spelled Origin is_origin (λ o is. plain_lacks o (origin_parts o is).2) left)
    (λ o rest. passes _ (pointwise nat_eq o part_origin) (bytes_decides o part_origin) (gives (o, rest))))
    (λ r (o, rest, (is, parts), (other, same)).
    subst (λ (q : List ℕ × List ℕ). IsLogOrigin q.0 × (left ≡ line q.0 ++ q.1)) same ((is, other), parts))
    (λ r ((is, other), parts). (r.0, r.1, (is, parts), (other, refl)))

pub part_is_origin : is_origin part_origin ≡ true
unfolding is_origin is_utf8 chars encode
part_is_origin = refl

-- ---- lines that say nothing but what is expected

-- what a test on a value tells
or_false : {A : Type 0} (f : A → Bool) (o : Option A) → option_map_or f o false ≡ true →
    (x : A) × (o ≡ Some x) × (f x ≡ true)
or_false f None is = cc
or_false f (Some x) is = (x, refl, is)

signature_text : (bytes : List ℕ) → is_signature bytes ≡ true → (1 ≤ length bytes) × IsPlain bytes
unfolding is_signature is_key_name
signature_text bytes is =
    let (rest, word, named) = or_false _ (after dash bytes) is in
    let ((name, signature), cut, signed) = or_false is_signed (cut_at 32 rest) named in
    let (key, long) = and_parts (is_key_name name) _ signed in
    let (symbols, decodes, many) = or_false _ (base64_bytes signature) long in
    let (are, text) = (base64_found signature).only symbols decodes in
    let (text_is, free) = and_parts (is_text name) _ (and_parts (nat_le 1 (length name)) _ key).1 in
    let parts : bytes ≡ dash ++ (name ++ 32 ∷ base64 symbols) =
    (after_found dash bytes).only rest word
    ∙ ap (λ t. dash ++ t) (((cut_found 32 rest).only (name, signature) cut).1 ∙ ap (λ t. name ++ 32 ∷ t) text) in (
      omega (arith, ap length parts),
      subst IsPlain (sym parts)
          (All-append (λ c. 32 ≤ c) dash (name ++ 32 ∷ base64 symbols) (plain_tested dash refl)
          (All-append (λ c. 32 ≤ c) name (32 ∷ base64 symbols) (text_plain name text_is)
          (All-cons (λ c. 32 ≤ c) 32 (base64 symbols) (omega arith) (base64_plain symbols are)))),
    )

-- a part's origin, a version, and a blank line
pub part_decided : (origin : List ℕ) → Decides (is_line PartOrigin origin) (origin ≡ part_origin)
unfolding is_line
part_decided origin = bytes_decides origin part_origin

pub version_decided : (bytes : List ℕ) → Decides (is_line ProofVersion bytes) (bytes ≡ codes "fohlazu proof 1")
unfolding is_line
version_decided bytes = bytes_decides bytes (codes "fohlazu proof 1")

pub blank_decided : (bytes : List ℕ) → Decides (is_line Blank bytes) (bytes ≡ [])
unfolding is_line
blank_decided bytes = (λ is. nil_from_length bytes (eqb-true (length bytes) 0 is), λ none. ap (λ t. length t == 0) none)

-- an extension line or a signature
pub is_solid : (expected : Expected) → (expected ≡ Extension) ⊎ (expected ≡ Signature) → (bytes : List ℕ) →
    is_line expected bytes ≡ true → (1 ≤ length bytes) × IsPlain bytes
unfolding is_line
is_solid Extension kind bytes is =
    let (some, text) = and_parts (nat_le 1 (length bytes)) _ is in
    (leb-true 1 (length bytes) some, text_plain bytes text)
is_solid Signature kind bytes is = signature_text bytes is
is_solid other (inl kind) bytes is = cc
is_solid other (inr kind) bytes is = cc

line_plain : (expected : Expected) (bytes : List ℕ) → is_line expected bytes ≡ true → IsPlain bytes
unfolding is_line
line_plain PartOrigin bytes is =
    subst IsPlain (sym ((part_decided bytes).0 is)) (origin_parts part_origin part_is_origin).2
line_plain Extension bytes is = (is_solid Extension (inl refl) bytes is).1
line_plain Signature bytes is = (signature_text bytes is).1
line_plain ProofVersion bytes is =
    subst IsPlain (sym ((version_decided bytes).0 is)) (plain_tested (codes "fohlazu proof 1") refl)
line_plain Blank bytes is = subst IsPlain (sym ((blank_decided bytes).0 is)) (All-nil (λ c. 32 ≤ c))
line_plain other bytes is = cc

-- a line is what is expected
abbrev pub Fits : Expected → List ℕ → Type 0
Fits expected line = is_line expected line ≡ true

pub that_spelled : (expected : Expected) → IsSpelled (line_that expected) (λ bytes rest. Fits expected bytes) line
that_spelled expected =
    passing_spelled expected (is_line expected) (λ bytes is. plain_lacks bytes (line_plain expected bytes is))
