-- Lines stand for matrices, or one of them is the first faulty one.
use Rattle.std.proofs.Common.{◌≡◌, ◌<◌, ◌+◌, ◌⊎◌, ⊎_elim, inl, inr, Bool, true, false, ℕ, List, [], ◌∷◌}
use Rattle.std.proofs.Common.{◌++◌, length, sym, refl, ◌∙◌, subst, arith, append_assoc, append-nil}
use Rattle.std.proofs.lemmas.Bool.{cases_eq, cases_lt}
use Rattle.std.proofs.lemmas.List.Elements.{All-nil, All-get_or}
use Rattle.std.specs.Prelude.{All}
use Rattle.mmcs_engine.specs.declared.fault.Fault.{Fault}
use Rattle.mmcs_engine.specs.declared.fault.Fault.TheVariants.{Number, Count}
use Rattle.mmcs_engine.specs.Numbers.{IsNumberBelow}
use Rattle.mmcs_engine.specs.Input.{is_blank, numerals_of, numbers_of, AreLinesOf, IsFirstFault}
use Rattle.mmcs_engine.specs.Inner.Blocks.{IsBlock}
use Rattle.mmcs_engine.proofs.BlockFacts.{block_more}
use Rattle.mmcs_engine.proofs.InputFacts.{LinesSoFar, lines_start}
use Rattle.mmcs_engine.proofs.InputFacts.{lines_blank, lines_ended, lines_row, lines_fault, lines_good}
use Rattle.mmcs_engine.proofs.ArgFacts.{settled_each, settled_number}

module _ (max : ℕ) (lines : List (List ℕ)) where
  -- what is told of each matrix: nothing
  abbrev Shows : Unit {0} → List (List ℕ) → Type 0
  Shows matrix rows = Unit {0}

  -- no line of these is faulty
  abbrev AreGood : List (List ℕ) → Type 0
  AreGood seen = (found : List (Unit {0})) × (values : List ℕ) × (width : ℕ) ×
      LinesSoFar Shows (max + 1) seen found values width

  -- some line is the first faulty one
  abbrev HaveFault : Type 0
  HaveFault = (fault : Fault) × IsFirstFault (max + 1) lines fault

  no_rows : IsBlock (max + 1) [] [] 0
  no_rows = record {
    none_blank = All-nil (λ line. is_blank line ≡ false);
    numbers = All-nil (λ line. All (IsNumberBelow (max + 1)) (numerals_of line));
    values_are = refl;
    widths = All-nil (λ line. length (numbers_of line) ≡ 0);
    none_at_0 = λ none. refl;
    some_above_0 = λ above. absurd (omega arith);
  }

  module _ {seen : List (List ℕ)} {found : List (Unit {0})} {values : List ℕ} {width : ℕ}
      (so_far : LinesSoFar Shows (max + 1) seen found values width) where
    -- one more line, that is blank
    good_blank : (line : List ℕ) → is_blank line ≡ true → AreGood (seen ++ line ∷ [])
    good_blank line blank =
        ⊎_elim
        (λ some. (found ++ tt ∷ [], [], 0, lines_ended so_far line tt blank some no_rows (λ rows block. tt)))
        (λ none. (found, [], 0, lines_blank so_far line blank (omega (arith, none)) no_rows))
        (cases_lt 0 width)

    module _ (line : List ℕ) (below : List (List ℕ)) (cut : lines ≡ seen ++ line ∷ below) (full : is_blank line ≡ false)
      where
        -- or has numbers, as many as the rows above
        good_row : All (IsNumberBelow (max + 1)) (numerals_of line) →
            (width ≡ 0) ⊎ (width ≡ length (numbers_of line)) → AreGood (seen ++ line ∷ []) ⊎ HaveFault
        good_row numbers was = inl (
          found,
          values ++ numbers_of line,
          length (numbers_of line),
          lines_row so_far line (λ rows block. block_more block line full numbers refl refl was),
        )

        -- or another count of them
        wrong_count : All (IsNumberBelow (max + 1)) (numerals_of line) → 0 < width →
            (length (numbers_of line) ≡ width → ⊥) → AreGood (seen ++ line ∷ []) ⊎ HaveFault
        wrong_count numbers above other =
            let some = so_far.block.some_above_0 above in
            let first = All-get_or (λ l. length (numbers_of l) ≡ width) so_far.rows 0 [] some so_far.block.widths in
            inr (
              Count (length seen + 1) width (length (numbers_of line)),
              lines_fault so_far line lines below (length seen + 1) _ cut refl full
                  (refl, some, sym first, refl, other, numbers),
            )

        row_or_fault : AreGood (seen ++ line ∷ []) ⊎ HaveFault
        row_or_fault =
            ⊎_elim
            (λ numbers. ⊎_elim
            (λ above. ⊎_elim (λ same. good_row numbers (inr (sym same))) (wrong_count numbers above)
            (cases_eq (length (numbers_of line)) width))
            (λ none. good_row numbers (inl (omega (arith, none))))
            (cases_lt 0 width))
            (λ bad. inr (
              Number (length seen + 1) max,
              lines_fault so_far line lines below (length seen + 1) _ cut refl full (refl, refl, bad),
            ))
            (settled_each (IsNumberBelow (max + 1)) (settled_number (max + 1)) (numerals_of line))

    -- one more line
    line_or_fault : (line : List ℕ) (below : List (List ℕ)) → lines ≡ seen ++ line ∷ below → (b : Bool) → is_blank line
        ≡ b → AreGood (seen ++ line ∷ []) ⊎ HaveFault
    line_or_fault line below cut true blank = inl (good_blank line blank)
    line_or_fault line below cut false full = row_or_fault line below cut full

  rest_or_fault : (rest seen : List (List ℕ)) → lines ≡ seen ++ rest → AreGood seen → AreGood lines ⊎ HaveFault
  rest_or_fault [] seen cut good = inl (subst AreGood (sym (cut ∙ append-nil seen)) good)
  rest_or_fault (line ∷ rest) seen cut good =
      ⊎_elim
      (rest_or_fault rest (seen ++ line ∷ []) (cut ∙ sym (append_assoc seen (line ∷ []) rest)))
      inr
      (line_or_fault good.3 line rest cut (is_blank line) refl)

  pub matrices_or_fault : ((matrices : List (List (List ℕ))) × AreLinesOf (max + 1) lines matrices) ⊎ HaveFault
  matrices_or_fault =
      ⊎_elim (λ good. inl (lines_good good.3)) inr (rest_or_fault lines [] refl ([], [], 0, lines_start no_rows))
