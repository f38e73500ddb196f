-- The numbers of a line, byte by byte.
use Rattle.std.proofs.Common.{Bool, MatchBool, ⊎_elim, ◌≡◌, ℕ, ◌+◌, ◌-◌, ◌*◌, ◌<◌, ◌≤◌, true, false, List, [], ◌∷◌}
use Rattle.std.proofs.Common.{◌++◌, length, get_or, drop, map, Option, Some, None, sym, ap, ◌∙◌, subst, arith, refl}
use Rattle.std.proofs.Common.{append_assoc, append-nil, length-append}
use Rattle.std.proofs.lemmas.Str.Parse.{digit_from_value}
use Rattle.std.proofs.lemmas.List.{at_drop_more, at_drop_all, map-append, length_push}
use Rattle.std.proofs.lemmas.List.Elements.{All-nil, All-push, All-contains, Contains-append_right, Contains-get_or}
use Rattle.std.specs.Prelude.{All, IfSome, IfNone}
use Rattle.std.specs.Option.{is_some, unwrap_or}
use Rattle.std.specs.Char.{digit_value, IsAsciiDigit, IsNotAsciiDigit}
use Rattle.std.specs.Int.{IsInRange}
use Rattle.std.specs.Str.Parse.{AllDigits, digits_value, digits_value_after}
use Rattle.mmcs_engine.specs.Numbers.{IsNumberBelow}
use Rattle.mmcs_engine.specs.Inner.Stored.{IsRead}
use Rattle.mmcs_engine.specs.Input.{is_gap, numerals_of, numbers_of, runs_between}
use Rattle.mmcs_engine.proofs.Runs.{run_ends, run_skips, run_whole, first_run}

-- ---- one more digit

-- the value of digits, and one more
value_push : (n : ℕ) (xs : List ℕ) (d : ℕ) → digits_value_after 10 n (xs ++ d ∷ [])
    ≡ digits_value_after 10 n xs * 10 + digit_value d
value_push n [] d = refl
value_push n (x ∷ xs) d = value_push (n * 10 + digit_value x) xs d

-- the value of digits after digits
value_behind : (n : ℕ) (xs ys : List ℕ) → digits_value_after 10 n (xs ++ ys)
    ≡ digits_value_after 10 (digits_value_after 10 n xs) ys
value_behind n [] ys = refl
value_behind n (x ∷ xs) ys = value_behind (n * 10 + digit_value x) xs ys

-- more digits make no number smaller
value_grows : (n : ℕ) (xs : List ℕ) → n ≤ digits_value_after 10 n xs
value_grows n [] = omega arith
value_grows n (x ∷ xs) = let more = value_grows (n * 10 + digit_value x) xs in omega (arith, more)

digits_push : (xs : List ℕ) (d : ℕ) → AllDigits 10 xs → digit_value d < 10 → AllDigits 10 (xs ++ d ∷ [])
digits_push [] d all is = (is, tt)
digits_push (x ∷ xs) d all is = (all.0, digits_push xs d all.1 is)

digit_inside : (xs : List ℕ) (d : ℕ) (ys : List ℕ) → AllDigits 10 ((xs ++ d ∷ []) ++ ys) → digit_value d < 10
digit_inside [] d ys all = all.0
digit_inside (x ∷ xs) d ys all = digit_inside xs d ys all.1

-- what was read is a number, or 0 of nothing
read_value : (limit : ℕ) (digits : List ℕ) (number : Option ℕ) → IsRead limit digits number → digits_value 10 digits
    ≡ unwrap_or number 0
read_value limit digits None read = ap (digits_value 10) read
read_value limit digits (Some n) read = sym read.1

read_digits : (limit : ℕ) (digits : List ℕ) (number : Option ℕ) → IsRead limit digits number → AllDigits 10 digits
read_digits limit digits None read = subst (λ (ds : List ℕ). AllDigits 10 ds) (sym read) tt
read_digits limit digits (Some n) read = read.0.numeral.1

-- the value of a digit
value_of_digit : (d : ℕ) → IsInRange 48 57 d → digit_value d ≡ d - 48
value_of_digit d range = search (arith, range)

-- a byte that failed the test of digits
pub not_in_range : (d : ℕ) (b : Bool) → MatchBool b (IsAsciiDigit d) (IsNotAsciiDigit d) → b ≡ false →
    IsInRange 48 57 d → ⊥
not_in_range d true said failed range = let apart = failed in cc
not_in_range d false said failed range =
    ⊎_elim (λ low. absurd (omega (arith, low, range.0))) (λ high. absurd (omega (arith, high, range.1))) said

-- and one that passed it
pub in_range : (d : ℕ) (b : Bool) → MatchBool b (IsAsciiDigit d) (IsNotAsciiDigit d) → b ≡ true → IsInRange 48 57 d
in_range d true said passed = said
in_range d false said passed = absurd (let apart = passed in cc)

module _ (limit : ℕ) (digits : List ℕ) (before : Option ℕ) (digit : ℕ) (read : IsRead limit digits before) where
  value_is : IsInRange 48 57 digit → digits_value 10 (digits ++ digit ∷ []) ≡ unwrap_or before 0 * 10 + (digit - 48)
  value_is range =
      value_push 0 digits digit
      ∙ (λ i. read_value limit digits before read i * 10 + value_of_digit digit range i)

  -- one more digit, of a number below the limit
  pub number_more : (number : ℕ) → IsInRange 48 57 digit → number ≡ unwrap_or before 0 * 10 + (digit - 48) →
      number < limit → IsRead limit (digits ++ digit ∷ []) (Some number)
  number_more number range number_is fits =
      let value = value_is range in
      let small : digit_value digit < 10 = omega (arith, value_of_digit digit range, range) in (
        record {
          numeral = (
            omega (arith, length_push digits digit),
            digits_push digits digit (read_digits limit digits before read) small,
          );
          below = omega (arith, value, number_is, fits);
        },
        number_is ∙ sym value,
      )

  -- one more byte that is no digit
  pub no_digit : (more : List ℕ) → (IsInRange 48 57 digit → ⊥) →
      (IsNumberBelow limit ((digits ++ digit ∷ []) ++ more) → ⊥)
  no_digit more bad number = bad (digit_from_value digit (digit_inside digits digit more number.numeral.1))

  -- one more digit, of a number that is too large
  pub too_large : (more : List ℕ) → IsInRange 48 57 digit → limit ≤ unwrap_or before 0 * 10 + (digit - 48) →
      (IsNumberBelow limit ((digits ++ digit ∷ []) ++ more) → ⊥)
  too_large more range large number =
      let value = value_is range in
      let behind = value_behind 0 (digits ++ digit ∷ []) more in
      let grows = value_grows (digits_value 10 (digits ++ digit ∷ [])) more in
      let below = number.below in
      absurd (omega (arith, value, behind, grows, below, large))

-- ---- one more byte

-- the numbers of the first n bytes of a line, after those that were there before, and the number that has not ended
pub record RowSoFar (limit : ℕ) (line : List ℕ) (n : ℕ) (before values : List ℕ) (number : Option ℕ) : Type 0 where
  pub done : List (List ℕ)
  pub run : List ℕ
  pub with_rest : done ++ runs_between is_gap (run ++ drop n line) ≡ numerals_of line
  pub numbers : All (IsNumberBelow limit) done
  pub values_are : values ≡ before ++ map (digits_value 10) done
  pub no_gap : All (λ b. is_gap b ≡ false) run
  pub read : IsRead limit run number

module _ (limit : ℕ) (line before : List ℕ) where
  pub row_start : RowSoFar limit line 0 before before None
  row_start = record {
    done = [];
    run = [];
    with_rest = refl;
    numbers = All-nil (IsNumberBelow limit);
    values_are = sym (append-nil before);
    no_gap = All-nil (λ b. is_gap b ≡ false);
    read = refl;
  }

  -- a number that has ended joins the others
  values_push : (done : List (List ℕ)) (run values : List ℕ) (number : ℕ) → values
      ≡ before ++ map (digits_value 10) done → number ≡ digits_value 10 run →
      values ++ number ∷ [] ≡ before ++ map (digits_value 10) (done ++ run ∷ [])
  values_push done run values number values_are number_is =
      (λ i. values_are i ++ number_is i ∷ [])
      ∙ append_assoc before (map (digits_value 10) done) (digits_value 10 run ∷ [])
      ∙ ap (λ vs. before ++ vs) (sym (map-append (digits_value 10) done (run ∷ [])))

  module _ (n : ℕ) (byte : ℕ) (values : List ℕ) (within : n < length line) (byte_is : byte ≡ get_or line n 0) where
    rest_is : drop n line ≡ byte ∷ drop (n + 1) line
    rest_is = at_drop_more (λ bs. bs) line n 0 within ∙ ap (λ b. b ∷ drop (n + 1) line) (sym byte_is)

    -- a gap after no number
    pub row_gap : is_gap byte ≡ true → RowSoFar limit line n before values None →
        RowSoFar limit line (n + 1) before values None
    row_gap gap so_far = record {
      done = so_far.done;
      run = [];
      with_rest =
          ap (λ runs. so_far.done ++ runs)
          (sym (run_skips is_gap byte (drop (n + 1) line) gap) ∙ ap (runs_between is_gap) (sym rest_is)
          ∙ ap (λ bs. runs_between is_gap (bs ++ drop n line)) (sym so_far.read))
          ∙ so_far.with_rest;
      numbers = so_far.numbers;
      values_are = so_far.values_are;
      no_gap = All-nil (λ b. is_gap b ≡ false);
      read = refl;
    }

    -- a gap ends a number
    pub row_ended : (number : ℕ) → is_gap byte ≡ true → RowSoFar limit line n before values (Some number) →
        RowSoFar limit line (n + 1) before (values ++ number ∷ []) None
    row_ended number gap so_far = record {
      done = so_far.done ++ so_far.run ∷ [];
      run = [];
      with_rest =
          append_assoc so_far.done (so_far.run ∷ []) (runs_between is_gap (drop (n + 1) line))
          ∙ ap (λ runs. so_far.done ++ runs)
          (sym (run_ends is_gap so_far.run byte (drop (n + 1) line) so_far.no_gap so_far.read.0.numeral.0 gap)
          ∙ ap (λ bs. runs_between is_gap (so_far.run ++ bs)) (sym rest_is))
          ∙ so_far.with_rest;
      numbers = All-push (IsNumberBelow limit) so_far.done so_far.run so_far.numbers so_far.read.0;
      values_are = values_push so_far.done so_far.run values number so_far.values_are so_far.read.1;
      no_gap = All-nil (λ b. is_gap b ≡ false);
      read = refl;
    }

    module _ (number : Option ℕ) (full : is_gap byte ≡ false) (so_far : RowSoFar limit line n before values number)
      where
        joins : runs_between is_gap ((so_far.run ++ byte ∷ []) ++ drop (n + 1) line)
            ≡ runs_between is_gap (so_far.run ++ drop n line)
        joins = ap (runs_between is_gap) (append_assoc so_far.run (byte ∷ []) (drop (n + 1) line)
            ∙ ap (λ bs. so_far.run ++ bs) (sym rest_is))

        no_gap_more : All (λ b. is_gap b ≡ false) (so_far.run ++ byte ∷ [])
        no_gap_more = All-push (λ b. is_gap b ≡ false) so_far.run byte so_far.no_gap full

        -- a byte of a number
        pub row_more : (next : Option ℕ) →
            ((digits : List ℕ) → IsRead limit digits number → IsRead limit (digits ++ byte ∷ []) next) →
            RowSoFar limit line (n + 1) before values next
        row_more next reads = record {
          done = so_far.done;
          run = so_far.run ++ byte ∷ [];
          with_rest = ap (λ runs. so_far.done ++ runs) joins ∙ so_far.with_rest;
          numbers = so_far.numbers;
          values_are = so_far.values_are;
          no_gap = no_gap_more;
          read = reads so_far.run so_far.read;
        }

        -- a byte of no number, and then the line is no row
        pub row_refused :
            ((digits more : List ℕ) → IsRead limit digits number →
            (IsNumberBelow limit ((digits ++ byte ∷ []) ++ more) → ⊥)) →
            (All (IsNumberBelow limit) (numerals_of line) → ⊥)
        row_refused bad each =
            let run = first_run is_gap (so_far.run ++ byte ∷ []) (drop (n + 1) line) no_gap_more
            (omega (arith, length_push so_far.run byte)) in
            let numeral = (so_far.run ++ byte ∷ []) ++ run.more in
            let numerals : numerals_of line ≡ so_far.done ++ (numeral ∷ run.others) = sym so_far.with_rest
            ∙ ap (λ runs. so_far.done ++ runs) (sym joins ∙ run.runs) in
            bad so_far.run run.more so_far.read
            (All-contains (IsNumberBelow limit) (so_far.done ++ (numeral ∷ run.others)) numeral (rw numerals at each)
            (Contains-append_right so_far.done (numeral ∷ run.others) numeral
            (Contains-get_or (numeral ∷ run.others) 0 numeral (omega arith))))

  -- after the last byte
  module _ (n : ℕ) (values : List ℕ) (ended : length line ≤ n) where
    no_rest : (run : List ℕ) → run ++ drop n line ≡ run
    no_rest run = ap (λ bs. run ++ bs) (at_drop_all (λ bs. bs) line n ended) ∙ append-nil run

    pub row_end : RowSoFar limit line n before values None → (values ≡ before ++ numbers_of line) ×
        All (IsNumberBelow limit) (numerals_of line)
    row_end so_far =
        let all : so_far.done ≡ numerals_of line = sym (append-nil so_far.done)
        ∙ ap (λ bs. so_far.done ++ runs_between is_gap bs) (sym (no_rest so_far.run ∙ so_far.read))
        ∙ so_far.with_rest in
        (so_far.values_are ∙ ap (λ ds. before ++ map (digits_value 10) ds) all, rw all at so_far.numbers)

    pub row_end_number : (number : ℕ) → RowSoFar limit line n before values (Some number) →
        (values ++ number ∷ [] ≡ before ++ numbers_of line) × All (IsNumberBelow limit) (numerals_of line)
    row_end_number number so_far =
        let all : so_far.done ++ so_far.run ∷ [] ≡ numerals_of line =
        ap (λ runs. so_far.done ++ runs) (sym (run_whole is_gap so_far.run so_far.no_gap so_far.read.0.numeral.0)
        ∙ ap (runs_between is_gap) (sym (no_rest so_far.run))) ∙ so_far.with_rest in (
          values_push so_far.done so_far.run values number so_far.values_are so_far.read.1
              ∙ ap (λ ds. before ++ map (digits_value 10) ds) all,
          rw all at (All-push (IsNumberBelow limit) so_far.done so_far.run so_far.numbers so_far.read.0),
        )

-- a number that was read is below the limit
pub row_fits : (max : ℕ) (line : List ℕ) (n : ℕ) (before values : List ℕ) (number : ℕ) →
    RowSoFar (max + 1) line n before values (Some number) → number ≤ max
row_fits max line n before values number so_far = omega (arith, so_far.read.1, so_far.read.0.below)

-- the numbers of words, and of one more
pub words_push : {W : Type 0} (value : W → ℕ) (words : List W) (word : W) (number : ℕ) → value word ≡ number →
    map value (words ++ word ∷ []) ≡ map value words ++ number ∷ []
words_push value words word number is = map-append value words (word ∷ []) ∙ ap (λ n. map value words ++ n ∷ []) is

-- what was counted
pub row_counted : (limit : ℕ) (line before values : List ℕ) (now was : ℕ) → now ≡ length values → was ≡ length before →
    (values ≡ before ++ numbers_of line) × All (IsNumberBelow limit) (numerals_of line) →
    (was ≤ now) ×
    ((values ≡ before ++ numbers_of line) × (now - was ≡ length (numbers_of line)) ×
    All (IsNumberBelow limit) (numerals_of line))
row_counted limit line before values now was now_is was_is there =
    let lengths = ap length there.0 ∙ length-append before (numbers_of line) in
    (omega (arith, lengths, now_is, was_is), (there.0, omega (arith, lengths, now_is, was_is), there.1))

-- what is told where there is a number, or none
pub some_told : (r : Option ℕ) (P : Type 0) → is_some r ≡ true → IfSome r (λ n. P) → P
some_told None P is told = absurd cc
some_told (Some n) P is told = told

pub none_told : (r : Option ℕ) (P : Type 0) → is_some r ≡ false → IfNone r P → P
none_told None P is told = told
none_told (Some n) P is told = absurd cc
