-- There is one first faulty line at most, and none where the lines stand for matrices.
use Rattle.std.proofs.Common.{◌≡◌, ℕ, ◌+◌, ◌⊎◌, ⊎_elim, inl, inr, Bool, true, false, List, [], ◌∷◌, ◌++◌, length}
use Rattle.std.proofs.Common.{get_or, sym, refl, ap, ◌∙◌, subst, arith, append_assoc}
use Rattle.std.proofs.lemmas.List.{length_push}
use Rattle.std.proofs.lemmas.List.Elements.{All-nil, All-cons, All-push}
use Rattle.std.proofs.lemmas.List.Elements.{All-contains, Contains-append_left, Contains-push, Contains-get_or}
use Rattle.std.specs.Prelude.{All}
use Rattle.std.specs.List.{AllZip}
use Rattle.mmcs_engine.specs.Numbers.{IsNumberBelow}
use Rattle.mmcs_engine.specs.declared.fault.Fault.{Fault}
use Rattle.mmcs_engine.specs.declared.fault.Fault.TheVariants.{Usage, Read, Number, Count, Tree, Write}
use Rattle.mmcs_engine.specs.Input.{is_blank, numerals_of, numbers_of, rows_at_end, runs_between, AreLinesOf}
use Rattle.mmcs_engine.specs.Input.{IsFirstFault, IsLineFault, IsMatrix}
use Rattle.mmcs_engine.proofs.Runs.{first_run}
use Rattle.mmcs_engine.proofs.BlockFacts.{all_from_map}
use Rattle.mmcs_engine.proofs.InputFacts.{zip_at, rows_are_last, runs_ended, IsEnded}

-- ---- lines, cut after the last blank one

record HasEnd (lines : List (List ℕ)) : Type 0 where
  pub front : List (List ℕ)
  pub rows : List (List ℕ)
  pub cut : lines ≡ front ++ rows
  pub ended : IsEnded front
  pub full : All (λ line. is_blank line ≡ false) rows

end_cons : (line : List ℕ) (lines : List (List ℕ)) (b : Bool) → is_blank line ≡ b → HasEnd lines → HasEnd (line ∷ lines)
end_cons line lines b is there =
    ⊎_elim (λ none. none_before b is none)
    (λ some. record {
      front = line ∷ there.front;
      rows = there.rows;
      cut = ap (λ ls. line ∷ ls) there.cut;
      ended = inr (line ∷ some.0, some.1, ap (λ ls. line ∷ ls) some.2, some.3);
      full = there.full;
    })
    there.ended
  where
    none_before : (c : Bool) → is_blank line ≡ c → there.front ≡ [] → HasEnd (line ∷ lines)
    none_before true blank none = record {
      front = line ∷ [];
      rows = there.rows;
      cut = ap (λ ls. line ∷ ls) (there.cut ∙ ap (λ f. f ++ there.rows) none);
      ended = inr ([], line, refl, blank);
      full = there.full;
    }
    none_before false full none = record {
      front = [];
      rows = line ∷ there.rows;
      cut = ap (λ ls. line ∷ ls) (there.cut ∙ ap (λ f. f ++ there.rows) none);
      ended = inl refl;
      full = All-cons (λ l. is_blank l ≡ false) line there.rows full there.full;
    }

has_end : (lines : List (List ℕ)) → HasEnd lines
has_end [] = record { front = []; rows = []; cut = refl; ended = inl refl; full = All-nil (λ l. is_blank l ≡ false) }
has_end (line ∷ lines) = end_cons line lines (is_blank line) refl (has_end lines)

-- ---- a faulty line is in no matrix

-- the lines of a matrix have one length
same_lengths : (limit : ℕ) (block rows : List (List ℕ)) → IsMatrix limit block rows →
    (width : ℕ) × All (λ line. length (numbers_of line) ≡ width) block
same_lengths limit block rows matrix =
    let w = matrix.one_length.0 in (
      w,
      all_from_map (λ r. length r ≡ w) numbers_of block
          (subst (λ (rs : List (List ℕ)). All (λ r. length r ≡ w) rs) matrix.rows_are matrix.one_length.1),
    )

refused_by : (limit at : ℕ) (rows : List (List ℕ)) (line : List ℕ) (more made : List (List ℕ)) (fault : Fault) →
    IsMatrix limit ((rows ++ line ∷ []) ++ more) made → IsLineFault limit rows at line fault → ⊥
refused_by limit at rows line more made Usage matrix faulty = faulty
refused_by limit at rows line more made Read matrix faulty = faulty
refused_by limit at rows line more made Write matrix faulty = faulty
refused_by limit at rows line more made (Tree e) matrix faulty = faulty
refused_by limit at rows line more made (Number number max) matrix faulty =
    faulty.2 (All-contains (λ l. All (IsNumberBelow limit) (numerals_of l)) ((rows ++ line ∷ []) ++ more) line
    matrix.numbers (Contains-append_left (rows ++ line ∷ []) more line (Contains-push rows line)))
refused_by limit at rows line more made (Count number expected got) matrix faulty =
    let each = same_lengths limit ((rows ++ line ∷ []) ++ more) made matrix in
    let P : List ℕ → Type 0 = λ l. length (numbers_of l) ≡ each.0 in
    let first = get_or rows 0 [] in
    let first_among =
    Contains-append_left (rows ++ line ∷ []) more first
    (Contains-append_left rows (line ∷ []) first (Contains-get_or rows 0 [] faulty.1)) in
    let first_width = All-contains P ((rows ++ line ∷ []) ++ more) first each.1 first_among in
    let line_width = All-contains P ((rows ++ line ∷ []) ++ more) line each.1
    (Contains-append_left (rows ++ line ∷ []) more line (Contains-push rows line)) in
    faulty.4 (faulty.3 ∙ line_width ∙ sym first_width ∙ sym faulty.2)

-- lines with a faulty one stand for nothing
pub fault_excludes : (limit : ℕ) (lines : List (List ℕ)) (fault : Fault) (matrices : List (List (List ℕ))) →
    IsFirstFault limit lines fault → AreLinesOf limit lines matrices → ⊥
fault_excludes limit lines fault matrices found stands =
    let there = has_end found.above in
    let rows = there.rows in
    let last : rows_at_end found.above ≡ rows = ap rows_at_end there.cut
    ∙ rows_are_last there.front rows there.ended there.full in
    let run = first_run is_blank (rows ++ found.line ∷ []) found.below
    (All-push (λ l. is_blank l ≡ false) rows found.line there.full found.full)
    (omega (arith, length_push rows found.line)) in
    let whole : lines ≡ there.front ++ ((rows ++ found.line ∷ []) ++ found.below) =
    found.cut ∙ ap (λ ls. ls ++ found.line ∷ found.below) there.cut
    ∙ append_assoc there.front rows (found.line ∷ found.below)
    ∙ ap (λ ls. there.front ++ ls) (sym (append_assoc rows (found.line ∷ []) found.below)) in
    let runs : runs_between is_blank lines
    ≡ runs_between is_blank there.front ++ (((rows ++ found.line ∷ []) ++ run.more) ∷ run.others) =
    ap (runs_between is_blank) whole ∙ runs_ended there.front ((rows ++ found.line ∷ []) ++ found.below) there.ended
    ∙ ap (λ rs. runs_between is_blank there.front ++ rs) run.runs in
    let matrix = zip_at (IsMatrix limit) (runs_between is_blank there.front) ((rows ++ found.line ∷ []) ++ run.more)
    run.others matrices (subst (λ (bs : List (List (List ℕ))). AllZip (IsMatrix limit) bs matrices) runs stands) in
    refused_by limit (length found.above + 1) rows found.line run.more matrix.0 fault matrix.1
    (subst (λ (rs : List (List ℕ)). IsLineFault limit rs (length found.above + 1) found.line fault) last
    found.fault_is)

-- ---- one at most

-- a line has one fault
one_fault : (limit at : ℕ) (rows : List (List ℕ)) (line : List ℕ) (f g : Fault) → IsLineFault limit rows at line f →
    IsLineFault limit rows at line g → f ≡ g
one_fault limit at rows line (Number n m) (Number k l) u v = let same : m ≡ l = omega (arith, u.1, v.1) in
    λ i. Number ((u.0 ∙ sym v.0) i) (same i)
one_fault limit at rows line (Count n e g) (Count k f h) u v =
    λ i. Count ((u.0 ∙ sym v.0) i) ((u.2 ∙ sym v.2) i) ((u.3 ∙ sym v.3) i)
one_fault limit at rows line (Number n m) (Count k f h) u v = absurd (u.2 v.5)
one_fault limit at rows line (Count n e g) (Number k l) u v = absurd (v.2 u.5)
one_fault limit at rows line Usage g u v = absurd u
one_fault limit at rows line Read g u v = absurd u
one_fault limit at rows line Write g u v = absurd u
one_fault limit at rows line (Tree e) g u v = absurd u
one_fault limit at rows line (Number n m) Usage u v = absurd v
one_fault limit at rows line (Number n m) Read u v = absurd v
one_fault limit at rows line (Number n m) Write u v = absurd v
one_fault limit at rows line (Number n m) (Tree e) u v = absurd v
one_fault limit at rows line (Count n e g) Usage u v = absurd v
one_fault limit at rows line (Count n e g) Read u v = absurd v
one_fault limit at rows line (Count n e g) Write u v = absurd v
one_fault limit at rows line (Count n e g) (Tree d) u v = absurd v

-- of two cuts of one list the first is the shorter one, or the second, or they are one
two_cuts : {X : Type 0} (xs ys : List X) (x y : X) (us vs : List X) → xs ++ x ∷ us ≡ ys ++ y ∷ vs →
    ((mid : List X) × (ys ≡ xs ++ x ∷ mid)) ⊎ (((mid : List X) × (xs ≡ ys ++ y ∷ mid)) ⊎ ((xs ≡ ys) × (x ≡ y)))
two_cuts [] [] x y us vs same = inr (inr (refl, cc))
two_cuts [] (b ∷ ys) x y us vs same = let head : b ≡ x = cc in inl (ys, λ i. head i ∷ ys)
two_cuts (a ∷ xs) [] x y us vs same = let head : a ≡ y = cc in inr (inl (xs, λ i. head i ∷ xs))
two_cuts (a ∷ xs) (b ∷ ys) x y us vs same =
    let head : a ≡ b = cc in
    let tail : xs ++ x ∷ us ≡ ys ++ y ∷ vs = cc in
    ⊎_elim (λ first. inl (first.0, λ i. sym head i ∷ first.1 i))
    (λ others. ⊎_elim (λ second. inr (inl (second.0, λ i. head i ∷ second.1 i)))
    (λ one. inr (inr ((λ i. head i ∷ one.0 i), one.1))) others)
    (two_cuts xs ys x y us vs tail)

-- lines up to a faulty one have it as their first
fault_before : (limit : ℕ) (lines mid : List (List ℕ)) (fault : Fault) (found : IsFirstFault limit lines fault) →
    IsFirstFault limit (found.above ++ found.line ∷ mid) fault
fault_before limit lines mid fault found = record {
  above = found.above;
  line = found.line;
  below = mid;
  cut = refl;
  matrices = found.matrices;
  good = found.good;
  full = found.full;
  fault_is = found.fault_is;
}

pub one_first_fault : (limit : ℕ) (lines : List (List ℕ)) (f g : Fault) → IsFirstFault limit lines f →
    IsFirstFault limit lines g → f ≡ g
one_first_fault limit lines f g u v =
    ⊎_elim
    (λ first. absurd
    (fault_excludes limit v.above f v.matrices
    (subst (λ (ls : List (List ℕ)). IsFirstFault limit ls f) (sym first.1) (fault_before limit lines first.0 f u))
    v.good))
    (λ others.
    ⊎_elim
    (λ second. absurd
    (fault_excludes limit u.above g u.matrices
    (subst (λ (ls : List (List ℕ)). IsFirstFault limit ls g) (sym second.1) (fault_before limit lines second.0 g v))
    u.good))
    (λ one.
    one_fault limit (length v.above + 1) (rows_at_end v.above) v.line f g
    (subst (λ (l : List ℕ). IsLineFault limit (rows_at_end v.above) (length v.above + 1) l f) one.1
    (subst (λ (ls : List (List ℕ)). IsLineFault limit (rows_at_end ls) (length ls + 1) u.line f) one.0 u.fault_is))
    v.fault_is)
    others)
    (two_cuts u.above v.above u.line v.line u.below v.below (sym u.cut ∙ v.cut))
