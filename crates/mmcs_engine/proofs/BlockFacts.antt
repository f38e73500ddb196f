-- Lines that are rows of one matrix.
use Rattle.std.proofs.Common.{◌≡◌, ℕ, ◌<◌, ◌⊎◌, ⊎_elim, false, List, [], ◌∷◌, ◌++◌, length, map, sym, refl, ap, ◌∙◌}
use Rattle.std.proofs.Common.{subst, arith, append-nil, Bool, true, ◌&&◌}
use Rattle.std.proofs.lemmas.List.{length_push, length-map}
use Rattle.std.proofs.lemmas.List.Concat.{flat_map-append}
use Rattle.std.proofs.lemmas.List.Elements.{All-nil, All-cons, All-head, All-tail, All-push, All-map}
use Rattle.std.specs.Prelude.{All, flat_map}
use Rattle.std.specs.Str.Parse.{digits_value}
use Rattle.mmcs_engine.specs.Numbers.{IsNumberBelow}
use Rattle.mmcs_engine.specs.Input.{is_blank, numerals_of, numbers_of, IsMatrix, is_gap}
use Rattle.mmcs_engine.specs.Inner.Blocks.{IsBlock}
use Rattle.mmcs_engine.proofs.Runs.{run_skips, first_run}

-- one more byte in front, that is a gap or not
some_numeral_cons : (b : ℕ) (line : List ℕ) → (is_blank line ≡ false → 0 < length (numerals_of line)) →
    is_blank (b ∷ line) ≡ false → (t : Bool) → is_gap b ≡ t → 0 < length (numerals_of (b ∷ line))
some_numeral_cons b line rest full true gap =
    omega (arith, ap length (run_skips is_gap b line gap), rest (ap (λ t. t && is_blank line) (sym gap) ∙ full))
some_numeral_cons b line rest full false text =
    let r = first_run is_gap (b ∷ []) line
    (All-cons (λ c. is_gap c ≡ false) b [] text (All-nil (λ c. is_gap c ≡ false))) (omega arith) in
    omega (arith, ap length r.runs)

-- some byte is no gap, so there is a run of such bytes
some_numeral : (line : List ℕ) → is_blank line ≡ false → 0 < length (numerals_of line)
some_numeral [] full = absurd cc
some_numeral (b ∷ line) full = some_numeral_cons b line (some_numeral line) full (is_gap b) refl

pub row_has_number : (line : List ℕ) → is_blank line ≡ false → 0 < length (numbers_of line)
row_has_number line full = omega (arith, some_numeral line full, length-map (numerals_of line) (digits_value 10))

-- what holds of the images holds of the elements' images
pub all_from_map : {X Y : Type 0} (P : Y → Type 0) (f : X → Y) (xs : List X) → All P (map f xs) → All (λ x. P (f x)) xs
all_from_map P f [] each = All-nil (λ x. P (f x))
all_from_map P f (x ∷ xs) each = All-cons (λ y. P (f y)) x xs (All-head P (f x) (map f xs) each)
    (all_from_map P f xs (All-tail P (f x) (map f xs) each))

module _ {limit : ℕ} {lines : List (List ℕ)} {values : List ℕ} {width : ℕ} (block : IsBlock limit lines values width)
  where
    -- one more line
    pub block_more : (line : List ℕ) {new_values : List ℕ} {new_width : ℕ} → is_blank line ≡ false →
        All (IsNumberBelow limit) (numerals_of line) →
        new_values ≡ values ++ numbers_of line → length (numbers_of line) ≡ new_width →
        (width ≡ 0) ⊎ (width ≡ new_width) → IsBlock limit (lines ++ line ∷ []) new_values new_width
    block_more line {new_values} {new_width} full numbers values_are width_is was =
        let some : 0 < new_width = omega (arith, row_has_number line full, width_is) in
        let same : All (λ l. length (numbers_of l) ≡ new_width) lines =
        ⊎_elim
        (λ none. subst (λ (ls : List (List ℕ)). All (λ l. length (numbers_of l) ≡ new_width) ls)
        (sym (block.none_at_0 none)) (All-nil (λ l. length (numbers_of l) ≡ new_width)))
        (λ kept. subst (λ (w : ℕ). All (λ l. length (numbers_of l) ≡ w) lines) kept block.widths)
        was in
        record {
          none_blank = All-push (λ l. is_blank l ≡ false) lines line block.none_blank full;
          numbers = All-push (λ l. All (IsNumberBelow limit) (numerals_of l)) lines line block.numbers numbers;
          values_are =
              values_are ∙ ap (λ vs. vs ++ numbers_of line) block.values_are
              ∙ sym (flat_map-append numbers_of lines (line ∷ [])
              ∙ ap (λ vs. flat_map numbers_of lines ++ vs) (append-nil (numbers_of line)));
          widths = All-push (λ l. length (numbers_of l) ≡ new_width) lines line same width_is;
          none_at_0 = λ none. absurd (omega arith);
          some_above_0 = λ above. omega (arith, length_push lines line);
        }

    -- the lines, if any, are a matrix
    pub block_is_matrix : IsMatrix limit lines (map numbers_of lines)
    block_is_matrix = record {
      numbers = block.numbers;
      rows_are = refl;
      one_length = (width, All-map (λ r. length r ≡ width) numbers_of lines block.widths);
    }
