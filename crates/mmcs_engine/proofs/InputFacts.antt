-- An input that is read line by line.
use Rattle.std.proofs.Common.{◌≡◌, ℕ, ◌+◌, ◌-◌, ◌<◌, ◌≤◌, ◌==◌, ◌⊎◌, ⊎_elim, inl, inr, true, false, List, [], ◌∷◌, ◌++◌}
use Rattle.std.proofs.Common.{Option, Some, None, length, get_or, take, drop, map, sym, refl, ap, ◌∙◌, subst, arith}
use Rattle.std.proofs.Common.{append_assoc, append-nil}
use Rattle.std.proofs.lemmas.List.{take_more, length-map, length-take-le}
use Rattle.std.proofs.lemmas.List.{take_all, take-append-drop, drop_more, get_or-map, length-drop, get_or-take}
use Rattle.std.proofs.lemmas.List.Sums.{count_by-le-length}
use Rattle.std.proofs.lemmas.List.Splits.{slice_split_at, slice_split_none, length-slice_split}
use Rattle.std.proofs.lemmas.Bool.{cases_lt, false_from_ne_true}
use Rattle.std.proofs.lemmas.Grind.{get_or_default_zero}
use Rattle.std.specs.Prelude.{All, IfNone, IfSome}
use Rattle.std.specs.List.{slice_split, AllZip}
use Rattle.std.specs.Str.Lines.{strip_carriage_return}
use Rattle.memchr.specs.Find.{is_byte, Nowhere, Passes}
use Rattle.p3_merkle_core.specs.Checks.{last_of}
use Rattle.p3_merkle_core.specs.declared.error.MerkleTreeError.TheVariants.{OutOfMemory}
use Rattle.mmcs_engine.specs.declared.fault.Fault.{Fault}
use Rattle.mmcs_engine.specs.declared.fault.Fault.TheVariants.{Tree}
use Rattle.mmcs_engine.specs.Input.{is_blank, numbers_of, runs_between, pieces_of, rows_at_end, AreLinesOf}
use Rattle.mmcs_engine.specs.Input.{IsFirstFault, IsLineFault, IsMatrix}
use Rattle.mmcs_engine.specs.Inner.Blocks.{IsBlock}
use Rattle.mmcs_engine.proofs.Runs.{run_whole}
use Rattle.mmcs_engine.proofs.InputLaws.{runs_apart, split_apart}
use Rattle.mmcs_engine.proofs.BlockFacts.{block_is_matrix}

-- two pairs of lists, one after the other
pub zip_append : {A B : Type 0} (R : A → B → Type 0) (xs : List A) (ys : List B) (us : List A) (vs : List B) →
    AllZip R xs ys → AllZip R us vs → AllZip R (xs ++ us) (ys ++ vs)
zip_append R [] [] us vs each more = more
zip_append R [] (b ∷ ys) us vs each more = absurd each
zip_append R (a ∷ xs) [] us vs each more = absurd each
zip_append R (a ∷ xs) (b ∷ ys) us vs each more = (each.0, zip_append R xs ys us vs each.1 more)

-- the pair of an element in the middle
pub zip_at : {A B : Type 0} (R : A → B → Type 0) (xs : List A) (x : A) (others : List A) (ys : List B) →
    AllZip R (xs ++ x ∷ others) ys → (y : B) × R x y
zip_at R [] x others [] each = absurd each
zip_at R [] x others (y ∷ ys) each = (y, each.0)
zip_at R (a ∷ xs) x others [] each = absurd each
zip_at R (a ∷ xs) x others (y ∷ ys) each = zip_at R xs x others ys each.1

-- no lines, or lines that end with a blank one
abbrev pub IsEnded : List (List ℕ) → Type 0
IsEnded front = (front ≡ []) ⊎
    ((before : List (List ℕ)) × (blank : List ℕ) × (front ≡ before ++ blank ∷ []) × (is_blank blank ≡ true))

-- what follows a blank line has its own runs
pub runs_ended : (front xs : List (List ℕ)) → IsEnded front → runs_between is_blank (front ++ xs)
    ≡ runs_between is_blank front ++ runs_between is_blank xs
runs_ended front xs ended =
    ⊎_elim
    (λ none. ap (λ f. runs_between is_blank (f ++ xs)) none
    ∙ ap (λ f. runs_between is_blank f ++ runs_between is_blank xs) (sym none))
    (λ some.
    let before = some.0 in
    let blank = some.1 in
    let whole : runs_between is_blank front ≡ runs_between is_blank before =
    ap (runs_between is_blank) some.2 ∙ runs_apart is_blank before blank [] some.3
    ∙ append-nil (runs_between is_blank before) in
    ap (λ f. runs_between is_blank (f ++ xs)) some.2
    ∙ ap (runs_between is_blank) (append_assoc before (blank ∷ []) xs)
    ∙ runs_apart is_blank before blank xs some.3
    ∙ ap (λ runs. runs ++ runs_between is_blank xs) (sym whole))
    ended

-- the last of several
last_behind : {X : Type 0} (d x : X) (xs : List X) → last_of d (xs ++ x ∷ []) ≡ x
last_behind d x [] = refl
last_behind d x (y ∷ xs) = last_behind y x xs

-- lines after a blank one, none of which is blank, are the rows at the end
pub rows_are_last : (front rows : List (List ℕ)) → IsEnded front → All (λ line. is_blank line ≡ false) rows →
    rows_at_end (front ++ rows) ≡ rows
rows_are_last front rows ended full =
    ⊎_elim
    (λ none. ap (λ f. rows_at_end (f ++ rows)) none ∙ ap (last_of []) (slice_split_none is_blank rows full))
    (λ some.
    let before = some.0 in
    let blank = some.1 in
    ap (λ f. rows_at_end (f ++ rows)) some.2
    ∙ ap rows_at_end (append_assoc before (blank ∷ []) rows)
    ∙ ap (last_of []) (split_apart is_blank before blank rows some.3
    ∙ ap (λ parts. slice_split is_blank before ++ parts) (slice_split_none is_blank rows full))
    ∙ last_behind [] rows (slice_split is_blank before))
    ended

-- what lines that were seen gave: matrices, each with its rows, and the block of the last lines
pub record LinesSoFar {M : Type 0} (Shows : M → List (List ℕ) → Type 0) (limit : ℕ) (seen : List (List ℕ))
    (found : List M) (values : List ℕ) (width : ℕ) : Type 0 where
  pub front : List (List ℕ)
  pub rows : List (List ℕ)
  pub matrices : List (List (List ℕ))
  pub cut : seen ≡ front ++ rows
  pub ended : IsEnded front
  pub are_matrices : AreLinesOf limit front matrices
  pub shown : AllZip Shows found matrices
  pub block : IsBlock limit rows values width

module _ {M : Type 0} {Shows : M → List (List ℕ) → Type 0} {limit : ℕ} where
  pub lines_start : {values : List ℕ} {width : ℕ} → IsBlock limit [] values width →
      LinesSoFar Shows limit [] [] values width
  lines_start block = record {
    front = [];
    rows = [];
    matrices = [];
    cut = refl;
    ended = inl refl;
    are_matrices = tt;
    shown = tt;
    block = block;
  }

  module _ {seen : List (List ℕ)} {found : List M} {values : List ℕ} {width : ℕ}
      (so_far : LinesSoFar Shows limit seen found values width) where
    -- the runs, where the last lines were blank
    runs_at_0 : width ≡ 0 → runs_between is_blank seen ≡ runs_between is_blank so_far.front
    runs_at_0 none =
        ap (runs_between is_blank) (so_far.cut ∙ ap (λ ls. so_far.front ++ ls) (so_far.block.none_at_0 none)
        ∙ append-nil so_far.front)

    -- and where they were rows
    runs_above_0 : 0 < width → runs_between is_blank seen ≡ runs_between is_blank so_far.front ++ so_far.rows ∷ []
    runs_above_0 some =
        ap (runs_between is_blank) so_far.cut
        ∙ runs_ended so_far.front so_far.rows so_far.ended
        ∙ ap (λ runs. runs_between is_blank so_far.front ++ runs)
        (run_whole is_blank so_far.rows so_far.block.none_blank (so_far.block.some_above_0 some))

    -- the lines stand for matrices
    pub good_at_0 : width ≡ 0 → AreLinesOf limit seen so_far.matrices
    good_at_0 none = subst (λ (runs : List (List (List ℕ))). AllZip (IsMatrix limit) runs so_far.matrices)
        (sym (runs_at_0 none)) so_far.are_matrices

    pub good_above_0 : 0 < width → AreLinesOf limit seen (so_far.matrices ++ map numbers_of so_far.rows ∷ [])
    good_above_0 some =
        subst (λ (runs : List (List (List ℕ))).
        AllZip (IsMatrix limit) runs (so_far.matrices ++ map numbers_of so_far.rows ∷ [])) (sym (runs_above_0 some))
        (zip_append (IsMatrix limit) (runs_between is_blank so_far.front) so_far.matrices (so_far.rows ∷ [])
        (map numbers_of so_far.rows ∷ []) so_far.are_matrices (block_is_matrix so_far.block, tt))

    pub lines_good : (matrices : List (List (List ℕ))) × AreLinesOf limit seen matrices
    lines_good =
        ⊎_elim (λ some. (so_far.matrices ++ map numbers_of so_far.rows ∷ [], good_above_0 some))
        (λ none. (so_far.matrices, good_at_0 (omega (arith, none)))) (cases_lt 0 width)

    module _ (line : List ℕ) where
      -- a blank line that ends a front
      with_blank : is_blank line ≡ true → runs_between is_blank (seen ++ line ∷ []) ≡ runs_between is_blank seen
      with_blank blank = runs_apart is_blank seen line [] blank ∙ append-nil (runs_between is_blank seen)

      -- a blank line after no rows
      pub lines_blank : {new_values : List ℕ} {new_width : ℕ} → is_blank line ≡ true → width ≡ 0 →
          IsBlock limit [] new_values new_width → LinesSoFar Shows limit (seen ++ line ∷ []) found new_values new_width
      lines_blank blank none emptied = record {
        front = seen ++ line ∷ [];
        rows = [];
        matrices = so_far.matrices;
        cut = sym (append-nil (seen ++ line ∷ []));
        ended = inr (seen, line, refl, blank);
        are_matrices = subst (λ (runs : List (List (List ℕ))). AllZip (IsMatrix limit) runs so_far.matrices)
            (sym (with_blank blank)) (good_at_0 none);
        shown = so_far.shown;
        block = emptied;
      }

      -- a blank line ends the rows of a matrix
      pub lines_ended : {new_values : List ℕ} {new_width : ℕ} (matrix : M) → is_blank line ≡ true → 0 < width →
          IsBlock limit [] new_values new_width →
          ((rows : List (List ℕ)) → IsBlock limit rows values width → Shows matrix (map numbers_of rows)) →
          LinesSoFar Shows limit (seen ++ line ∷ []) (found ++ matrix ∷ []) new_values new_width
      lines_ended matrix blank some emptied shows = record {
        front = seen ++ line ∷ [];
        rows = [];
        matrices = so_far.matrices ++ map numbers_of so_far.rows ∷ [];
        cut = sym (append-nil (seen ++ line ∷ []));
        ended = inr (seen, line, refl, blank);
        are_matrices =
            subst (λ (runs : List (List (List ℕ))).
            AllZip (IsMatrix limit) runs (so_far.matrices ++ map numbers_of so_far.rows ∷ [])) (sym (with_blank blank))
            (good_above_0 some);
        shown = zip_append Shows found so_far.matrices (matrix ∷ []) (map numbers_of so_far.rows ∷ []) so_far.shown
            (shows so_far.rows so_far.block, tt);
        block = emptied;
      }

      -- any other line is a row
      pub lines_row : {new_values : List ℕ} {new_width : ℕ} →
          ((rows : List (List ℕ)) → IsBlock limit rows values width →
          IsBlock limit (rows ++ line ∷ []) new_values new_width) →
          LinesSoFar Shows limit (seen ++ line ∷ []) found new_values new_width
      lines_row pushed = record {
        front = so_far.front;
        rows = so_far.rows ++ line ∷ [];
        matrices = so_far.matrices;
        cut = ap (λ ls. ls ++ line ∷ []) so_far.cut ∙ append_assoc so_far.front so_far.rows (line ∷ []);
        ended = so_far.ended;
        are_matrices = so_far.are_matrices;
        shown = so_far.shown;
        block = pushed so_far.rows so_far.block;
      }

      -- or the first faulty one
      pub lines_fault : (all below : List (List ℕ)) (at : ℕ) (fault : Fault) → all ≡ seen ++ line ∷ below → at
          ≡ length seen + 1 → is_blank line ≡ false →
          IsLineFault limit so_far.rows at line fault → IsFirstFault limit all fault
      lines_fault all below at fault cut at_is full faulty =
          let there = lines_good in
          let last : rows_at_end seen ≡ so_far.rows = ap rows_at_end so_far.cut
          ∙ rows_are_last so_far.front so_far.rows so_far.ended so_far.block.none_blank in
          record {
            above = seen;
            line = line;
            below = below;
            cut = cut;
            matrices = there.0;
            good = there.1;
            full = full;
            fault_is =
                subst (λ (n : ℕ). IsLineFault limit (rows_at_end seen) n line fault) at_is
                (subst (λ (rows : List (List ℕ)). IsLineFault limit rows at line fault) (sym last) faulty);
          }

      -- what is told of a line that is no row
      pub lines_refused : (all below : List (List ℕ)) (at : ℕ) (fault : Fault) → all ≡ seen ++ line ∷ below → at
          ≡ length seen + 1 → is_blank line ≡ false →
          ((rows : List (List ℕ)) → IsBlock limit rows values width → (fault ≡ Tree OutOfMemory) ⊎
          IsLineFault limit rows at line fault) → (fault ≡ Tree OutOfMemory) ⊎ IsFirstFault limit all fault
      lines_refused all below at fault cut at_is full told =
          ⊎_elim inl (λ faulty. inr (lines_fault all below at fault cut at_is full faulty))
          (told so_far.rows so_far.block)

    -- the end, where the last line was blank
    pub lines_end : width ≡ 0 → (matrices : List (List (List ℕ))) × AreLinesOf limit seen matrices ×
        AllZip Shows found matrices
    lines_end none = (so_far.matrices, good_at_0 none, so_far.shown)

    -- the end of the last block
    pub lines_end_block : (matrix : M) → 0 < width →
        ((rows : List (List ℕ)) → IsBlock limit rows values width → Shows matrix (map numbers_of rows)) →
        (matrices : List (List (List ℕ))) × AreLinesOf limit seen matrices ×
        AllZip Shows (found ++ matrix ∷ []) matrices
    lines_end_block matrix some shows = (
      so_far.matrices ++ map numbers_of so_far.rows ∷ [],
      good_above_0 some,
      zip_append Shows found so_far.matrices (matrix ∷ []) (map numbers_of so_far.rows ∷ []) so_far.shown
          (shows so_far.rows so_far.block, tt),
    )

-- the line of a piece of an input, after those of the first n
module _ (input : List ℕ) (n : ℕ) (raw line : List ℕ) (within : n < length (slice_split (λ b. b == 10) input))
    (raw_is : raw ≡ get_or (slice_split (λ b. b == 10) input) n raw)
    (line_is : line ≡ strip_carriage_return raw) where
  short : n < length (pieces_of input)
  short = omega (arith, within, length-map (slice_split (λ b. b == 10) input) strip_carriage_return)

  at_n : get_or (pieces_of input) n [] ≡ line
  at_n = get_or-map strip_carriage_return (slice_split (λ b. b == 10) input) n raw [] within
      ∙ ap strip_carriage_return (sym raw_is) ∙ sym line_is

  pub pieces_more : take (n + 1) (pieces_of input) ≡ take n (pieces_of input) ++ line ∷ []
  pieces_more = take_more (pieces_of input) n [] short ∙ ap (λ l. take n (pieces_of input) ++ l ∷ []) at_n

  pub pieces_cut : pieces_of input ≡ take n (pieces_of input) ++ line ∷ drop (n + 1) (pieces_of input)
  pieces_cut =
      sym (take-append-drop n (pieces_of input))
      ∙ ap (λ rest. take n (pieces_of input) ++ rest) (drop_more (pieces_of input) n [] short
      ∙ ap (λ l. l ∷ drop (n + 1) (pieces_of input)) at_n)

  pub seen_is : length (take n (pieces_of input)) ≡ n
  seen_is = length-take-le n (pieces_of input) (omega (arith, short))

-- lines are at most one more than bytes
pub lines_fit : (input : List ℕ) (n : ℕ) → n < length (slice_split (λ b. b == 10) input) → n ≤ length input
lines_fit input n within =
    omega (arith, within, length-slice_split (λ b. b == 10) input, count_by-le-length (λ b. b == 10) input)

-- the first of what is left
front_cut : {X : Type 0} (xs : List X) (n : ℕ) (x : X) (rest : List X) → drop n xs ≡ x ∷ rest → (n < length xs) ×
    (x ≡ get_or xs n x) × (drop (n + 1) xs ≡ rest)
front_cut xs n x rest left =
    let lengths = ap length left in
    let within : n < length xs = omega (arith, lengths, length-drop n xs) in
    let both : x ∷ rest ≡ get_or xs n x ∷ drop (n + 1) xs = sym left ∙ drop_more xs n x within in
    let head : x ≡ get_or xs n x = cc in
    let tail : drop (n + 1) xs ≡ rest = cc in (within, head, tail)

-- the next piece, and the bytes below it
pub next_piece : {R : Type 0} (below : Option R) (bytes : R → List ℕ) (pieces : List (List ℕ)) (n : ℕ)
    (left piece : List ℕ) → drop n pieces ≡ slice_split (λ b. b == 10) left →
    IfSome below (λ r. slice_split (λ b. b == 10) left ≡ piece ∷ slice_split (λ b. b == 10) (bytes r)) →
    IfNone below (slice_split (λ b. b == 10) left ≡ piece ∷ []) →
    (n < length pieces) × (piece ≡ get_or pieces n piece) ×
    IfSome below (λ r. drop (n + 1) pieces ≡ slice_split (λ b. b == 10) (bytes r)) ×
    IfNone below (length pieces ≤ n + 1)
next_piece None bytes pieces n left piece left_is more last =
    let first = front_cut pieces n piece [] (left_is ∙ last) in
    let lengths = ap length first.2 in (first.0, first.1, tt, omega (arith, lengths, length-drop (n + 1) pieces))
next_piece (Some r) bytes pieces n left piece left_is more last =
    let first = front_cut pieces n piece (slice_split (λ b. b == 10) (bytes r)) (left_is ∙ more) in
    (first.0, first.1, first.2, tt)

-- the bytes in front of the first line feed have none
pub no_line_feed : (input : List ℕ) (n : ℕ) → n ≤ length input → Nowhere (Passes (is_byte 10) input) 0 n →
    All (λ b. (b == 10) ≡ false) (take n input)
no_line_feed input n within none = λ k d inside.
    let below : k < n = omega (arith, length-take-le n input within) in
    rw (get_or-take n input k d below) (rw (get_or_default_zero input k d (omega (arith, within)))
    (false_from_ne_true _ (none k (omega arith) below)))

-- an input is cut at its first line feed
pub cut_at : (input : List ℕ) (n : ℕ) → n < length input → Nowhere (Passes (is_byte 10) input) 0 n →
    (get_or input n 0 == 10) ≡ true →
    slice_split (λ b. b == 10) input
    ≡ take n input ∷ slice_split (λ b. b == 10) (take (length input - (n + 1)) (drop (n + 1) input))
cut_at input n within none is =
    ap (slice_split (λ b. b == 10)) (sym (take-append-drop n input)
    ∙ ap (λ bs. take n input ++ bs) (drop_more input n 0 within))
    ∙ slice_split_at (λ b. b == 10) (take n input) (get_or input n 0) (drop (n + 1) input)
    (no_line_feed input n (omega (arith, within)) none) is
    ∙ ap (λ bs. take n input ∷ slice_split (λ b. b == 10) bs)
    (sym (take_all (length input - (n + 1)) (drop (n + 1) input) (omega (arith, length-drop (n + 1) input))))

-- after the last piece
pub pieces_all : (input : List ℕ) (n : ℕ) → length (slice_split (λ b. b == 10) input) ≤ n → take n (pieces_of input)
    ≡ pieces_of input
pieces_all input n ended =
    take_all n (pieces_of input)
    (omega (arith, ended, length-map (slice_split (λ b. b == 10) input) strip_carriage_return))
