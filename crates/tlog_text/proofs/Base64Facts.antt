-- Base64 is read as it is printed, and as nothing else; and group by group.
use Rattle.std.proofs.Common.{◌≡◌, ◌<◌, ◌≤◌, ◌+◌, ◌*◌, ◌/◌, ◌%◌, ◌==◌, Decides, ℕ, suc, List, [], ◌∷◌, ◌++◌, length}
use Rattle.std.proofs.Common.{get_or, take, drop, replicate, Option, Some, None, Result, Ok, Err, refl, sym, ap, ◌∙◌}
use Rattle.std.proofs.Common.{subst, arith, inl, inr, add_assoc, length-append, length-take, zero-add, ◌&&◌}
use Rattle.std.proofs.Common.{if◌then◌else◌, nat_eq, nat_lt, option_map, slice_index, All, IfErr, IfOk, IfSome, ne_eqb}
use Rattle.std.proofs.Common.{take-append-drop, take_at, drop_at, get_or-append-add}
use Rattle.std.specs.Cmp.Lexicographic.{pointwise, bytes_decides}
use Rattle.std.specs.Option.{option_and_then}
use Rattle.std.specs.Result.{result_ok}
use Rattle.std.proofs.lemmas.Bool.{cases_lt}
use Rattle.std.proofs.lemmas.List.{get_or_past, length-replicate}
use Rattle.std.proofs.lemmas.Bool.Decides.{Decides-and, Decides-eqb, Decides-like, Decides-ltb}
use Rattle.std.proofs.lemmas.List.Elements.{All-append, All-cons, All-from_get_or, All-get_or, All-nil, All-replicate}
use Rattle.base64.specs.Engines.{standard}
use Rattle.base64.specs.Rfc4648.{encode_symbols, padding_len, unpadded_len}
use Rattle.base64.specs.GeneralPurpose.{IsBytes, IsDecodedInto, decode_of}
use Rattle.base64.specs.declared.decode.DecodeError.{DecodeError}
use Rattle.base64.specs.declared.engine.general_purpose.GeneralPurpose.{GeneralPurpose}
use Rattle.base64.proofs.EngineFacts.{decode_of-encode_of, decode_of_strict, encode_of-append, front_bytes}
use Rattle.base64.proofs.RoundTrip.{length-encode_symbols}
use Rattle.base64.proofs.Tables.{are_tables_alphabet, is_alphabet_printable, printable_range}
use Rattle.tlog_text.specs.Lines.{are_bytes, base64, base64_bytes, digest_of}
use Rattle.tlog_text.specs.Texts.{IsDigest}
use Rattle.tlog_text.proofs.TestFacts.{and_then, each_decided, found, itself, mapped, no_found, only_if, said_as}
use Rattle.tlog_text.proofs.TestFacts.{same_found, IsFound}

-- ---- bytes

pub all_bytes : (bytes : List ℕ) → All (λ b. b < 256) bytes → IsBytes bytes
all_bytes bytes all i = elim (cases_lt i (length bytes)) [
  | inl within ↦ All-get_or (λ b. b < 256) bytes i 0 within all
  | inr past ↦ let none : get_or bytes i 0 ≡ 0 = get_or_past bytes i 0 past in omega (arith, none)
]

bytes_all : (bytes : List ℕ) → IsBytes bytes → All (λ b. b < 256) bytes
bytes_all bytes is = All-from_get_or (λ b. b < 256) bytes 0 (λ i within. is i)

bytes_decided : (bytes : List ℕ) → Decides (are_bytes bytes) (IsBytes bytes)
bytes_decided bytes =
    Decides-like (are_bytes bytes) (all_bytes bytes) (bytes_all bytes)
    (each_decided (λ b. nat_lt b 256) (λ b. b < 256) (λ b. Decides-ltb b 256) bytes)

-- ---- whole texts

-- how many bytes a text is the base64 of
abbrev pub len_of : List ℕ → Option ℕ
len_of text = option_map length (base64_bytes text)

pub base64_found : (text : List ℕ) → IsFound (base64_bytes text) (λ bytes. IsBytes bytes × (text ≡ base64 bytes))
unfolding base64 base64_bytes
base64_found text =
    said_as (and_then _ _ (itself (result_ok (decode_of standard text))) (λ bytes.
    only_if (are_bytes bytes && pointwise nat_eq (base64 bytes) text)
    (Decides-and _ _ (bytes_decided bytes) (bytes_decides (base64 bytes) text)) (found bytes)))
    (λ bytes (read, decodes, ((are, same), is)). subst (λ bs. IsBytes bs × (text ≡ base64 bs)) is (are, sym same))
    (λ bytes (are, is). (
      bytes,
      ap (λ t. result_ok (decode_of standard t)) is
          ∙ ap result_ok (decode_of-encode_of standard bytes refl are),
      ((are, sym is), refl),
    ))

-- what decoding tells
pub decoded : (text bytes : List ℕ) → IsBytes text → IsBytes bytes → decode_of standard text ≡ Ok bytes →
    base64_bytes text ≡ Some bytes
unfolding base64
decoded text bytes text_is bytes_are is =
    (base64_found text).back bytes (bytes_are, decode_of_strict standard text bytes (refl, refl) text_is is)

pub not_decoded : (text : List ℕ) (e : DecodeError) → decode_of standard text ≡ Err e → base64_bytes text ≡ None
unfolding base64_bytes
not_decoded text e is =
    ap (λ (r : Result (List ℕ) DecodeError). option_and_then (λ bs.
    if are_bytes bs && pointwise nat_eq (base64 bs) text then Some bs else None) (result_ok r)) is

-- ---- lengths

pub length-base64 : (bytes : List ℕ) →
    length (base64 bytes) ≡ unpadded_len (length bytes) + padding_len (length bytes)
unfolding base64
length-base64 bytes =
    let t = standard.encode_table in
    let pads = replicate (padding_len (length bytes)) 61 in
    length-append (encode_symbols t bytes) pads
    ∙ (λ i. length-encode_symbols t bytes i + length-replicate {A = ℕ} (padding_len (length bytes)) 61 i)

-- ---- printable

record IsPrintable (text : List ℕ) : Type 0 where
  high : All (λ c. 32 ≤ c) text

module _ (e : GeneralPurpose) where
  plain_cons : (i : ℕ) (rest : List ℕ) → i < 64 → IsPrintable rest →
      IsPrintable (slice_index e.encode_table i ∷ rest)
  plain_cons i rest small plain =
      let printable = is_alphabet_printable e.encode_table e.padding.value i
      (are_tables_alphabet e.encode_table e.decode_table e.padding.value e.tables) small in
      record { high = All-cons (λ c. 32 ≤ c) _ rest (printable_range _ printable).0 plain.high }

  symbols_plain : (bytes : List ℕ) → IsBytes bytes → IsPrintable (encode_symbols e.encode_table bytes)
  unfolding encode_symbols
  symbols_plain [] is = record { high = All-nil (λ c. 32 ≤ c) }
  symbols_plain (a ∷ []) is =
      let a_is : a < 256 = is 0 in
      plain_cons (a / 4) _ (omega arith) (plain_cons (a % 4 * 16) _ (omega arith) (symbols_plain [] (λ i. is (suc i))))
  symbols_plain (a ∷ b ∷ []) is =
      let (a_is, b_is) : (a < 256) × (b < 256) = (is 0, is 1) in
      plain_cons (a / 4) _ (omega arith) (plain_cons (a % 4 * 16 + b / 16) _ (omega arith)
      (plain_cons (b % 16 * 4) _ (omega arith) (symbols_plain [] (λ i. is (suc (suc i))))))
  symbols_plain (a ∷ b ∷ c ∷ rest) is =
      let (a_is, b_is, c_is) : (a < 256) × (b < 256) × (c < 256) = (is 0, is 1, is 2) in
      plain_cons (a / 4) _ (omega arith) (plain_cons (a % 4 * 16 + b / 16) _ (omega arith)
      (plain_cons (b % 16 * 4 + c / 64) _ (omega arith)
      (plain_cons (c % 64) _ (omega arith) (symbols_plain rest (λ i. is (suc (suc (suc i))))))))

pub base64_plain : (bytes : List ℕ) → IsBytes bytes → All (λ c. 32 ≤ c) (base64 bytes)
unfolding base64
base64_plain bytes is =
    All-append (λ c. 32 ≤ c) (encode_symbols standard.encode_table bytes)
    (replicate (padding_len (length bytes)) 61) (symbols_plain standard bytes is).high
    (All-replicate (λ c. 32 ≤ c) (padding_len (length bytes)) 61 (omega arith))

-- ---- digests

pub digest_found : (line : List ℕ) → IsFound (digest_of line) (λ digest. IsDigest digest × (line ≡ base64 digest))
digest_found line =
    said_as (and_then _ _ (base64_found line) (λ bytes.
    only_if (length bytes == 32) (Decides-eqb (length bytes) 32) (found bytes)))
    (λ digest (bytes, (are, text), (long, is)).
    subst (λ d. IsDigest d × (line ≡ base64 d)) is ((long, are), text))
    (λ digest ((long, are), text). (digest, (are, text), (long, refl)))

-- no digest but of 44 symbols
pub not_44 : (line : List ℕ) → (length line ≡ 44 → ⊥) → None ≡ digest_of line
not_44 line other =
    no_found (digest_of line) (digest_found line) (λ digest ((long, are), text).
    other (ap length text ∙ length-base64 digest ∙ ap (λ n. unpadded_len n + padding_len n) long))

-- what decoding tells of a digest
pub not_digest : (line : List ℕ) (o : Option ℕ) → o ≡ len_of line → ((n : ℕ) → o ≡ Some n → n ≡ 32 → ⊥) →
    None ≡ digest_of line
not_digest line o is never =
    no_found (digest_of line) (digest_found line) (λ digest ((long, are), text).
    never (length digest) (is ∙ ap (option_map length) ((base64_found line).back digest (are, text))) long)

pub is_digest : (line bytes digest : List ℕ) (n : ℕ) → base64_bytes line ≡ Some (take n bytes) → n ≡ 32 →
    length bytes ≡ 33 → digest ≡ take 32 bytes → Some digest ≡ digest_of line
is_digest line bytes digest n is all len same =
    let whole : take n bytes ≡ digest = ap (λ k. take k bytes) all ∙ sym same in
    let (are, text) = (base64_found line).only digest (is ∙ ap Some whole) in
    sym ((digest_found line).back digest ((omega (arith, length-take 32 bytes, len, ap length same), are), text))

-- ---- a group of four symbols ahead of others

back_bytes : (a b : List ℕ) → IsBytes (a ++ b) → IsBytes b
back_bytes a b is i =
    let same : get_or (a ++ b) (length a + i) 0 ≡ get_or b i 0 = get_or-append-add a b i 0 in
    omega (arith, is (length a + i), same)

joined_bytes : (a b : List ℕ) → IsBytes a → IsBytes b → IsBytes (a ++ b)
joined_bytes a b a_is b_is =
    all_bytes (a ++ b) (All-append (λ x. x < 256) a b (bytes_all a a_is) (bytes_all b b_is))

-- three bytes ahead of others
base64-append : (a b : List ℕ) → length a ≡ 3 → base64 (a ++ b) ≡ base64 a ++ base64 b
unfolding base64
base64-append a b three = encode_of-append standard a b (ap (λ n. n % 3) three)

-- how many bytes a text is of, by those of its first group and of the others
abbrev pub with_group : Option ℕ → Option ℕ → Option ℕ
with_group group rest =
    option_and_then (λ n. if n == 3 then option_map (λ m. 3 + m) rest else None) group

len_found : (text : List ℕ) →
    IsFound (len_of text) (λ n. (bytes : List ℕ) × (IsBytes bytes × (text ≡ base64 bytes)) × (length bytes ≡ n))
len_found text = mapped length (base64_bytes text) (base64_found text)

-- a text of more than four symbols has three bytes by the first four symbols, then those by the rest
pub len_of_group : (group rest : List ℕ) → length group ≡ 4 → 0 < length rest →
    len_of (group ++ rest) ≡ with_group (len_of group) (len_of rest)
len_of_group group rest four more =
    same_found (len_of (group ++ rest)) _ (len_found (group ++ rest))
    (said_as (and_then _ _ (len_found group) (λ n.
    only_if (n == 3) (Decides-eqb n 3) (mapped (λ m. 3 + m) _ (len_found rest))))
    (λ n (k, (front, (front_are, front_is), long), (three, (m, (back, (back_are, back_is), rest_long), same))).
    let few : length front ≡ 3 = long ∙ three in (
      front ++ back,
      (
        joined_bytes front back front_are back_are,
        (λ i. front_is i ++ back_is i) ∙ sym (base64-append front back few),
      ),
      omega (arith, length-append front back, few, rest_long, same),
    ))
    (λ n (bytes, (are, text), long).
    let front = take 3 bytes in
    let back = drop 3 bytes in
    let whole = take-append-drop 3 bytes in
    let total = sym (length-append group rest) ∙ ap length text ∙ length-base64 bytes in
    let three : length front ≡ 3 = omega (arith, length-take 3 bytes, total, four, more) in
    let both : IsBytes (front ++ back) = subst IsBytes (sym whole) are in
    let spelled : group ++ rest ≡ base64 front ++ base64 back =
    text ∙ ap base64 (sym whole) ∙ base64-append front back three in
    let symbols : length (base64 front) ≡ 4 = length-base64 front ∙ ap (λ n. unpadded_len n + padding_len n) three in (
      3,
      (
        front,
        (
          front_bytes front back both,
          sym (take_at group rest 4 four) ∙ ap (take 4) spelled
              ∙ take_at (base64 front) (base64 back) 4 symbols,
        ),
        three,
      ),
      (
        refl,
        (
          length back,
          (
            back,
            (
              back_bytes front back both,
              sym (drop_at group rest 4 four) ∙ ap (drop 4) spelled
                  ∙ drop_at (base64 front) (base64 back) 4 symbols,
            ),
            refl,
          ),
          omega (arith, ap length whole, length-append front back, three, long),
        ),
      ),
    )))

-- how many bytes there are, group by group
pub len_begins : (text : List ℕ) → len_of text ≡ option_map (λ n. 0 + n) (len_of text)
len_begins text = by_outcome (len_of text)
  where
    by_outcome : (o : Option ℕ) → o ≡ option_map (λ n. 0 + n) o
    by_outcome None = refl
    by_outcome (Some n) = ap Some (sym (zero-add n))

pub len_step : (text rest group below : List ℕ) (len : ℕ) → rest ≡ group ++ below → length group ≡ 4 →
    4 < length rest → len_of text ≡ option_map (λ k. len + k) (len_of rest) →
    len_of text ≡ option_map (λ k. len + k) (with_group (len_of group) (len_of below))
len_step text rest group below len split four long so_far =
    let more : 0 < length below = omega (arith, long, four, ap length split, length-append group below) in
    so_far ∙ ap (option_map (λ k. len + k)) (ap len_of split ∙ len_of_group group below four more)

pub len_more : (len n : ℕ) (group rest : Option ℕ) → group ≡ Some n → n ≡ 3 →
    option_map (λ k. len + k) (with_group group rest) ≡ option_map (λ k. len + 3 + k) rest
len_more len n group rest some three =
    ap (λ o. option_map (λ k. len + k) (with_group o rest)) (some ∙ ap Some three) ∙ by_rest rest
  where
    by_rest : (o : Option ℕ) → option_map (λ k. len + k) (option_map (λ m. 3 + m) o) ≡ option_map (λ k. len + 3 + k) o
    by_rest None = refl
    by_rest (Some k) = ap Some (sym (add_assoc len 3 k))

pub len_refused : (len : ℕ) (group rest : Option ℕ) → ((n : ℕ) → group ≡ Some n → n ≡ 3 → ⊥) →
    option_map (λ k. len + k) (with_group group rest) ≡ None
len_refused len None rest never = refl
len_refused len (Some n) rest never =
    let other = ne_eqb n 3 (never n refl) in
    λ i. option_map (λ k. len + k) (if other i then option_map (λ m. 3 + m) rest else None)

-- what decoding into a slice tells
module _ (text old new : List ℕ) (text_is : IsBytes text) (new_is : IsBytes new) (len : length new ≡ length old) where
  abbrev Ended : Result ℕ DecodeError → Type 0
  Ended r = IfOk r (λ n. IsDecodedInto standard text n old new) × IfErr r (λ e. decode_of standard text ≡ Err e)

  pub decode_bytes : (r : Result ℕ DecodeError) → Ended r →
      IfSome (result_ok r) (λ n. base64_bytes text ≡ Some (take n new))
  decode_bytes (Err e) is = tt
  decode_bytes (Ok n) is =
      decoded text (take n new) text_is
      (front_bytes (take n new) (drop n new) (subst IsBytes (sym (take-append-drop n new)) new_is)) is.0.0

  pub decode_len : (r : Result ℕ DecodeError) → Ended r → result_ok r ≡ len_of text
  decode_len (Err e) is = sym (ap (option_map length) (not_decoded text e is.1))
  decode_len (Ok n) is =
      let fits : length (take n new) ≡ n = omega (arith, length-take n new, len, is.0.2) in
      sym (ap (option_map length) (decode_bytes (Ok n) is) ∙ ap Some fits)
