-- Tests, cuts and numbers, and what they tell.
use Rattle.std.proofs.Common.{◌≡◌, ◌≤◌, Bool, true, false, Decides, ℕ, List, Option, Some, refl, sym, ap, ◌∙◌}
use Rattle.std.proofs.Common.{if◌then◌else◌, nat_le, option_map, All, None, le-leb, leb-true, ◌<◌, ◌+◌, ◌-◌, ◌==◌, ◌∷◌}
use Rattle.std.proofs.Common.{◌++◌, length, get_or, take, drop, arith, length-append, length-take, subst, add-one}
use Rattle.std.proofs.Common.{drop-cons, cond, nat_eq, nat_lt, position, eq-eqb, eqb-true, ne_eqb, get_or-take}
use Rattle.std.proofs.Common.{length-drop, take-append-drop, take_all, ◌^◌, zero, suc, Result, Ok, Err, inl, inr, ◌&&◌}
use Rattle.std.proofs.Math.Seq.{drop-append-add, drop-append_seam, get_or-append_seam, take-append_seam}
use Rattle.std.proofs.lemmas.Fmt.{decimal-digits_value, decimal_digit, decimal_is_IsNumeral, first_decimal}
use Rattle.std.proofs.Common.{decimal, MatchResult}
use Rattle.std.proofs.lemmas.Bool.{false_from_ne_true, cases_lt}
use Rattle.std.proofs.lemmas.Bool.Decides.{Decides-by_and, Decides-ltb, Decides-and}
use Rattle.std.proofs.lemmas.Fmt.{IsAscii-from_digits}
use Rattle.std.proofs.lemmas.List.{get_or_append_left}
use Rattle.std.proofs.lemmas.List.Elements.{All-from_get_or, All-get_or, All-weaker}
use Rattle.std.proofs.lemmas.List.Quantifiers.{position-Some}
use Rattle.std.proofs.lemmas.List.Sums.{position_or_len_is}
use Rattle.std.proofs.lemmas.Str.{IsUtf8-from_ascii}
use Rattle.std.proofs.lemmas.Str.Parse.{digit_at, IsNumeralModel}
use Rattle.std.specs.Bool.{then_some}
use Rattle.std.specs.Cmp.Lexicographic.{pointwise, bytes_decides}
use Rattle.std.specs.List.{list_all, position_or_len}
use Rattle.std.specs.Option.{option_and_then, SomeIff}
use Rattle.std.specs.Result.{result_ok}
use Rattle.std.specs.Str.{IsUtf8}
use Rattle.std.specs.Str.Parse.{digits_value, AllDigits, IsNumeral}
use Rattle.tlog_text.specs.Lines.{after, cut_at, number_after, number_of}

-- ---- tests

pub le_decided : (a b : ℕ) → Decides (nat_le a b) (a ≤ b)
le_decided a b = (leb-true a b, le-leb a b)

-- a test of what does not hold fails
pub fails : {P : Type 0} (t : Bool) → Decides t P → (P → ⊥) → t ≡ false
fails t decided never = false_from_ne_true t (λ is. never (decided.0 is))

-- each of a list passes a test
pub each_decided : (p : ℕ → Bool) (P : ℕ → Type 0) → ((x : ℕ) → Decides (p x) (P x)) → (xs : List ℕ) →
    Decides (list_all p xs) (All P xs)
each_decided p P each xs = Decides-by_and p P (list_all p) each refl (λ y ys. refl) xs

-- ---- values

-- the value that is there if any is: just this is said of it
pub record IsFound {A : Type 0} (o : Option A) (Says : A → Type 0) : Type 0 where
  pub back : (x : A) → Says x → o ≡ Some x
  pub only : (x : A) → o ≡ Some x → Says x

pub itself : {A : Type 0} (o : Option A) → IsFound o (λ x. o ≡ Some x)
itself o = record { back = λ x is. is; only = λ x is. is }

pub found : {A : Type 0} (x : A) → IsFound (Some x) (λ y. x ≡ y)
found x = record { back = λ y is. ap Some is; only = λ y is. cc }

pub mapped : {A B : Type 0} {P : A → Type 0} (f : A → B) (o : Option A) → IsFound o P →
    IsFound (option_map f o) (λ y. (x : A) × P x × (f x ≡ y))
mapped f None here = record { back = λ y (x, is, same). let none = here.back x is in cc; only = λ y is. cc }
mapped f (Some z) here =
    record {
      back = λ y (x, is, same). ap (option_map f) (here.back x is) ∙ ap Some same;
      only = λ y is. (z, here.only z refl, cc);
    }

pub and_then : {A B : Type 0} {P : A → Type 0} {Q : A → B → Type 0} (f : A → Option B) (o : Option A) → IsFound o P →
    ((x : A) → IsFound (f x) (Q x)) → IsFound (option_and_then f o) (λ y. (x : A) × P x × Q x y)
and_then f None here after =
    record { back = λ y (x, is, says). let none = here.back x is in cc; only = λ y is. cc }
and_then f (Some z) here after =
    record {
      back = λ y (x, is, says). ap (option_and_then f) (here.back x is) ∙ (after x).back y says;
      only = λ y is. (z, here.only z refl, (after z).only y is);
    }

-- a value that passes a test, or fails it
pub only_if : {A P : Type 0} {Says : A → Type 0} {o : Option A} (t : Bool) → Decides t P → IsFound o Says →
    IsFound (if t then o else None) (λ x. P × Says x)
only_if true decided here =
    record { back = λ x (is, says). here.back x says; only = λ x is. (decided.0 refl, here.only x is) }
only_if false decided here =
    record { back = λ x (is, says). let passes = decided.1 is in cc; only = λ x is. cc }

pub unless : {A P : Type 0} {Says : A → Type 0} {o : Option A} (t : Bool) → Decides t P → IsFound o Says →
    IsFound (if t then None else o) (λ x. (P → ⊥) × Says x)
unless true decided here =
    record { back = λ x (never, says). absurd (never (decided.0 refl)); only = λ x is. cc }
unless false decided here =
    record {
      back = λ x (never, says). here.back x says;
      only = λ x is. (λ holds. let passes = decided.1 holds in cc, here.only x is);
    }

pub said_as : {A : Type 0} {P Q : A → Type 0} {o : Option A} → IsFound o P → ((x : A) → P x → Q x) →
    ((x : A) → Q x → P x) → IsFound o Q
said_as here to from = record { back = λ x is. here.back x (from x is); only = λ x is. to x (here.only x is) }

pub no_found : {A : Type 0} {P : A → Type 0} (o : Option A) → IsFound o P → ((x : A) → P x → ⊥) → None ≡ o
no_found None here never = refl
no_found (Some x) here never = absurd (never x (here.only x refl))

pub same_found : {A : Type 0} {P : A → Type 0} (o q : Option A) → IsFound o P → IsFound q P → o ≡ q
same_found None q none here = no_found q here (λ x is. let some = none.back x is in cc)
same_found (Some x) q some here = sym (here.back x (some.only x refl))

-- what has no such byte
abbrev pub Lacks : ℕ → List ℕ → Type 0
Lacks mark bytes = All (λ b. (b == mark) ≡ false) bytes

pub lacks_below : (mark low : ℕ) (bytes : List ℕ) → mark < low → All (λ c. low ≤ c) bytes → Lacks mark bytes
lacks_below mark low bytes less high =
    All-weaker (λ c. low ≤ c) (λ b. (b == mark) ≡ false)
    (λ c above. ne_eqb c mark (λ is. omega (arith, above, less, is))) bytes high

-- the bytes ahead of a place, and those after it
abbrev parts_at : List ℕ → ℕ → List ℕ × List ℕ
parts_at bytes at = (take at bytes, drop (at + 1) bytes)

cut_front : (mark : ℕ) (front back : List ℕ) → Lacks mark front →
    cut_at mark (front ++ mark ∷ back) ≡ Some (front, back)
cut_front mark front back none =
    let p : ℕ → Bool = λ b. b == mark in
    let text = front ++ mark ∷ back in
    let place : position_or_len p text ≡ length front =
    position_or_len_is p text (length front) 0 (omega (arith, length-append front (mark ∷ back)))
    (λ k h. ap p (get_or_append_left front (mark ∷ back) 0 k h) ∙ All-get_or (λ b.
    (b == mark) ≡ false) front k 0 h none)
    (λ h. ap p (get_or-append_seam front mark back 0) ∙ eq-eqb mark mark refl) in
    let within : nat_lt (length front) (length text) ≡ true =
    (Decides-ltb (length front) (length text)).1 (omega (arith, length-append front (mark ∷ back))) in
    let found : position p text ≡ Some (length front) =
    (λ i. cond (nat_lt (place i) (length text)) (Some (place i)) None)
    ∙ (λ i. cond (within i) (Some (length front)) None) in
    ap (option_map (λ at. (take at text, drop (at + 1) text))) found
    ∙ (λ i. Some (take-append_seam front (mark ∷ back) i, drop-append-add front (mark ∷ back) 1 i))

pub cut_found : (mark : ℕ) (bytes : List ℕ) →
    IsFound (cut_at mark bytes) (λ p. Lacks mark p.0 × (bytes ≡ p.0 ++ mark ∷ p.1))
cut_found mark bytes =
    record {
      back = λ p (lacks, parts). ap (cut_at mark) parts ∙ cut_front mark p.0 p.1 lacks;
      only = λ p is.
          let (at, here, parts) = (mapped (parts_at bytes) _ (itself (position (λ b. b == mark) bytes))).only p is in
          let (within, same, before) = position-Some (λ b. b == mark) bytes at 0 here in
          let found = eqb-true (get_or bytes at 0) mark same in
          subst (λ (q : List ℕ × List ℕ). Lacks mark q.0 × (bytes ≡ q.0 ++ mark ∷ q.1)) parts (
            All-from_get_or (λ b. (b == mark) ≡ false) (take at bytes) 0 (λ k h.
                let near : k < at = omega (arith, h, length-take at bytes) in
                ap (λ b. b == mark) (get_or-take at bytes k 0 near) ∙ before k near),
            sym (take-append-drop at bytes)
                ∙ rw (drop-cons bytes at 0 within) (λ i. take at bytes ++ (found i ∷ drop (sym (add-one at) i) bytes)),
          );
    }

-- what the place of a byte tells
pub cut_none : (mark : ℕ) (bytes : List ℕ) (place : Option ℕ) → place ≡ position (λ b. b == mark) bytes →
    place ≡ None → None ≡ cut_at mark bytes
cut_none mark bytes place is none = ap (option_map (parts_at bytes)) (sym none ∙ is)

pub cut_some : (mark : ℕ) (bytes : List ℕ) (place : Option ℕ) (at : ℕ) → place ≡ position (λ b. b == mark) bytes →
    place ≡ Some at →
    ◌≡◌ {A = Option (List ℕ × List ℕ)} (Some (take at bytes, take (length bytes - (at + 1)) (drop (at + 1) bytes)))
    (cut_at mark bytes)
cut_some mark bytes place at is some =
    ap (λ (back : List ℕ). let r : Option (List ℕ × List ℕ) = Some (take at bytes, back) in r)
    (take_all (length bytes - (at + 1)) (drop (at + 1) bytes) (omega (arith, length-drop (at + 1) bytes)))
    ∙ ap (option_map (parts_at bytes)) (sym some ∙ is)

-- ---- words

pub after_found : (word bytes : List ℕ) → IsFound (after word bytes) (λ rest. bytes ≡ word ++ rest)
after_found word bytes =
    let n = length word in
    said_as (only_if (pointwise nat_eq (take n bytes) word) (bytes_decides (take n bytes) word) (found (drop n bytes)))
    (λ rest (front, back). sym (take-append-drop n bytes) ∙ (λ i. front i ++ back i))
    (λ rest is. (ap (take n) is ∙ take-append_seam word rest, ap (drop n) is ∙ drop-append_seam word rest))

-- ---- digits

own : IsNumeralModel (AllDigits 10) (digits_value 10)
own = record { to = λ ds all. all; from = λ ds all. all; same = λ ds all. refl }

pub decimal_high : (n : ℕ) → n ≤ 2 ^ 62 → All (λ c. 48 ≤ c) (decimal n)
decimal_high n small =
    let digits = (decimal_is_IsNumeral n (omega (arith, small))).0.1 in
    All-from_get_or (λ c. 48 ≤ c) (decimal n) 0 (λ i within. (digit_at (decimal n) i digits within).0)

-- bytes that are no text are no number
pub no_text : {S E : Type 0} (Y : S → Type 0) (N : E → Type 0) (bytes : List ℕ) (r : Result S E) → result_ok r ≡ None →
    MatchResult r Y (λ e. (IsUtf8 bytes → ⊥) × N e) →
    (IsNumeral 10 bytes × (digits_value 10 bytes < 2 ^ 64) → ⊥)
no_text Y N bytes (Ok s) none said = absurd cc
no_text Y N bytes (Err e) none said =
    λ number. said.0 (IsUtf8-from_ascii bytes (IsAscii-from_digits bytes number.0.1))

-- ---- a number

pub number_found : (digits : List ℕ) → IsFound (number_of digits) (λ n. (n ≤ 2 ^ 62) × (digits ≡ decimal n))
unfolding number_of
number_found digits =
    let value = digits_value 10 digits in
    said_as (only_if (pointwise nat_eq (decimal value) digits && nat_le value (2 ^ 62))
    (Decides-and _ _ (bytes_decides (decimal value) digits) (le_decided value (2 ^ 62))) (found value))
    (λ n ((same, small), is). subst (λ m. (m ≤ 2 ^ 62) × (digits ≡ decimal m)) is (small, sym same))
    (λ n (small, same).
    let is : value ≡ n = ap (digits_value 10) same ∙ (decimal_is_IsNumeral n (omega (arith, small))).1 in
    ((ap decimal is ∙ sym same, omega (arith, is, small)), is))

-- a leading zero is no printed number's
pub leading_zero : (digits : List ℕ) → 1 < length digits → get_or digits 0 0 ≡ 48 → None ≡ number_of digits
leading_zero digits long first =
    no_found (number_of digits) (number_found digits)
    (λ n (small, is). by_number n small (ap length is) (ap (λ (ds : List ℕ). get_or ds 0 0) is))
  where
    by_number : (n : ℕ) → n ≤ 2 ^ 62 → length digits ≡ length (decimal n) →
        get_or digits 0 0 ≡ get_or (decimal n) 0 0 → ⊥
    by_number zero small len at =
        let one : length (decimal 0) ≡ 1 = ap length (decimal_digit 0 (omega arith)) in
        omega (arith, one, len, long)
    by_number (suc n) small len at =
        let high = first_decimal (suc n) (omega arith) (omega (arith, small)) in
        omega (arith, high, at, first)

-- what the call that parses digits tells
abbrev pub Parses : Option ℕ → List ℕ → Type 0
Parses o digits = SomeIff o (IsNumeral 10 digits × (digits_value 10 digits < 2 ^ 64)) (digits_value 10 digits)

pub not_parsed : (digits : List ℕ) (o : Option ℕ) → Parses o digits → o ≡ None → None ≡ number_of digits
not_parsed digits (Some m) said none = absurd cc
not_parsed digits None said none =
    no_found (number_of digits) (number_found digits)
    (λ n (small, is).
    let numeral = decimal_is_IsNumeral n (omega (arith, small)) in
    said (subst (λ ds. IsNumeral 10 ds × (digits_value 10 ds < 2 ^ 64)) (sym is)
    (numeral.0, omega (arith, numeral.1, small))))

pub parsed : (digits : List ℕ) (o : Option ℕ) (n : ℕ) → Parses o digits → o ≡ Some n →
    (1 < length digits → get_or digits 0 0 ≡ 48 → ⊥) → then_some (nat_le n (2 ^ 62)) n ≡ number_of digits
parsed digits None n said is free = absurd cc
parsed digits (Some m) n said is free =
    let value : digits_value 10 digits ≡ n = sym said.1 ∙ cc in
    let numeral = said.0.0 in
    let one_zero = λ (first : get_or digits 0 0 ≡ 48).
    elim (cases_lt 1 (length digits)) as (λ _. length digits ≡ 1) [
      | inl long ↦ absurd (free long first)
      | inr short ↦ omega (arith, short, numeral.0)
    ] in
    let printed = sym (decimal-digits_value own digits numeral.1 numeral.0 one_zero said.0.1) ∙ ap decimal value in
    by_test (nat_le n (2 ^ 62))
    ∙ same_found _ _ (said_as (only_if (nat_le n (2 ^ 62)) (le_decided n (2 ^ 62)) (found n))
    (λ k (small, same). subst (λ j. (j ≤ 2 ^ 62) × (digits ≡ decimal j)) same (small, printed))
    (λ k (small, same).
    let is : n ≡ k = sym value ∙ ap (digits_value 10) same ∙ (decimal_is_IsNumeral k (omega (arith, small))).1 in
    (omega (arith, is, small), is))) (number_found digits)
  where
    by_test : (t : Bool) → then_some t n ≡ (if t then Some n else None)
    by_test true = refl
    by_test false = refl

-- a number after a word
pub number_after_found : (word line : List ℕ) →
    IsFound (number_after word line) (λ n. (n ≤ 2 ^ 62) × (line ≡ word ++ decimal n))
number_after_found word line =
    said_as (and_then number_of (after word line) (after_found word line) number_found)
    (λ n (rest, parts, (small, is)). (small, parts ∙ ap (λ t. word ++ t) is))
    (λ n (small, is). (decimal n, is, (small, refl)))
