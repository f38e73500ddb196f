-- What is left of a row, of columns and of the rows of several matrices, once one more element is read.
use Rattle.std.proofs.Common.{◌≡◌, ℕ, zero, suc, take, ◌+◌, ◌-◌, ◌*◌, ◌<◌, ◌≤◌, List, [], ◌∷◌, ◌++◌, length, drop, map}
use Rattle.std.proofs.Common.{All, get_or, refl, sym, ap, ◌∙◌, arith, true, add-one}
use Rattle.std.proofs.Math.Seq.{drop-append-add, drop-cons, drop-drop as drop_drop, take-add, take-append-add}
use Rattle.std.proofs.lemmas.List.Folds.{drop_split}
use Rattle.std.proofs.lemmas.Option.{slice_get_within, slice_get_read, get_or_from_slice_get}
use Rattle.std.proofs.lemmas.List.Edits.{get_or-between}
use Rattle.std.proofs.Math.ListN.{get_or-append}
use Rattle.std.proofs.lemmas.List.{drop_all, drop-append-le, get_or-append_right, length-append, length-drop}
use Rattle.std.proofs.lemmas.List.{get_or-take, map-append, take-append-le, take-take}
use Rattle.std.proofs.lemmas.List.FromFn.{fill_by_all, get_or-map-range_with_len, length-map-range_with_len}
use Rattle.std.proofs.lemmas.Simd.{map-map}
use Rattle.std.proofs.lemmas.Bool.{eqb-true}
use Rattle.std.specs.Prelude.{Bool, false, cond, ◌==◌, slice_get, slice_index_or, Some}
use Rattle.std.specs.List.{flat_map, range_with_len}
use Rattle.p3_support.specs.Lists.{message, rows_left, rows_of_height, column_of_rows, columns, lane_of, columns_left}
use Rattle.p3_support.specs.Lists.{columns_over}
use Rattle.p3_support.specs.Inner.RowLengths.{next_start, length-message}

-- what is left from an element on
pub drop_at : {A : Type 0} (xs : List A) (c : ℕ) (x : A) → slice_get xs c ≡ Some x → drop c xs ≡ x ∷ drop (c + 1) xs
drop_at xs c x at = drop-cons xs c x (slice_get_within xs c x at) ∙ rw (add-one, get_or_from_slice_get xs c x x at) refl

-- one more of the elements from c on
pub take_one_more : {A : Type 0} (xs : List A) (c n : ℕ) (x : A) → slice_get xs (c + n) ≡ Some x →
    take (n + 1) (drop c xs) ≡ take n (drop c xs) ++ x ∷ []
take_one_more xs c n x at =
    let more = drop_drop n c xs ∙ drop_at xs (c + n) x at in
    take-add n 1 (drop c xs) ∙ ap (λ l. take n (drop c xs) ++ take 1 l) more

-- the same where the list is made from indices
pub drop_column : {A : Type 0} (f : ℕ → A) (c w : ℕ) → c < w → drop c (map f (range_with_len 0 w))
    ≡ f c ∷ drop (c + 1) (map f (range_with_len 0 w))
drop_column f c w below =
    let xs = map f (range_with_len 0 w) in
    let inside : c < length xs = rw (length-map-range_with_len f 0 w) below in
    drop-cons xs c (f c) inside ∙ rw (add-one, get_or-map-range_with_len f 0 w c c (f c) below (omega arith)) refl

-- nothing is left after the last column
pub drop_columns : {A : Type 0} (f : ℕ → A) (w : ℕ) → drop w (map f (range_with_len 0 w)) ≡ []
drop_columns f w = drop_all w (map f (range_with_len 0 w)) (omega (arith, length-map-range_with_len f 0 w))

-- the element of a row that is stored among others
pub message_at : {A : Type 0} (xs : List A) (w h r c : ℕ) (x : A) → length xs ≡ h * w → r < h → c < w → x
    ≡ slice_index_or xs (r * w + c) x
    → slice_get (message w xs r) c ≡ Some x
message_at xs w h r c x full below inside read =
    let more = next_start r w in
    slice_get_read (message w xs r) w c x (sym (length-message xs w h r full below)) inside
    (read ∙ sym (get_or-between xs (r * w) ((r + 1) * w) c x (omega (arith, more))))

-- the n rows from r on, stored to the end
pub stored_rows : {A : Type 0} (xs : List A) (w r n : ℕ) → length xs ≡ (r + n) * w
    → drop (r * w) xs ≡ flat_map (message w xs) (range_with_len r n)
stored_rows xs w r zero full = drop_all (r * w) xs (omega (arith, full))
stored_rows xs w r (suc n) full =
    let step = next_start r w in
    let end : r + suc n ≡ r + 1 + n = omega arith in
    drop_split xs (r * w) ((r + 1) * w) (omega (arith, step))
    ∙ ap (λ l. message w xs r ++ l) (stored_rows xs w (r + 1) n (full ∙ ap (λ k. k * w) end))

-- what a piece begins with
pub cut_piece : {A : Type 0} (xs whole : List A) (n : ℕ) → xs ≡ take (length xs) whole → n ≤ length xs →
    take n xs ≡ take n whole
cut_piece xs whole n is few = ap (take n) is ∙ take-take n (length xs) whole few

module _ {A : Type 0} (row : ℕ → List A) (w : ℕ) where
  -- an element of one of n rows from r on
  at_row : (r n k c : ℕ) (d : A) → ((j : ℕ) → j < r + n → length (row j) ≡ w) → k < n → c < w
      → get_or (flat_map row (range_with_len r n)) (k * w + c) d ≡ get_or (row (r + k)) c d
  at_row r zero k c d long few inside = absurd (omega (arith, few))
  at_row r (suc n) zero c d long few inside =
      let here : r + 0 ≡ r = omega arith in
      let start : 0 * w + c ≡ c = omega arith in
      rw (here, start) (get_or-append (row r) (flat_map row (range_with_len (r + 1) n)) d c
      (omega (arith, inside, long r (omega arith))))
  at_row r (suc n) (suc k) c d long few inside =
      let rest = flat_map row (range_with_len (r + 1) n) in
      let past : suc k * w + c - w ≡ k * w + c = omega (arith, next_start k w) in
      let there : r + 1 + k ≡ r + suc k = omega arith in
      get_or-append_right (row r) rest w (suc k * w + c) d (long r (omega arith)) (omega (arith, next_start k w))
      ∙ ap (λ i. get_or rest i d) past
      ∙ at_row (r + 1) n k c d (λ j h. long j (omega (arith, h))) (omega (arith, few)) inside
      ∙ ap (λ j. get_or (row j) c d) there

  -- the same in a piece from row r on, of h rows in all
  pub stored_at : (h r k c : ℕ) (d : A) (xs : List A) → ((j : ℕ) → j < h → length (row j) ≡ w) → r + k < h → c < w
      → xs ≡ take (length xs) (drop 0 (flat_map row (range_with_len r (h - r)))) → k * w + c < length xs
      → get_or xs (k * w + c) d ≡ get_or (row (r + k)) c d
  stored_at h r k c d xs long below inside is some =
      let all = flat_map row (range_with_len r (h - r)) in
      ap (λ l. get_or l (k * w + c) d) is ∙ get_or-take (length xs) all (k * w + c) d some
      ∙ at_row r (h - r) k c d (λ j b. long j (omega (arith, b, below))) (omega (arith, below)) inside

  -- the first n of the rows from r to h
  pub whole_rows : (h r n : ℕ) → ((j : ℕ) → j < h → length (row j) ≡ w) → r + n ≤ h
      → take (n * w) (flat_map row (range_with_len r (h - r))) ≡ flat_map row (range_with_len r n)
  whole_rows h r zero long fits = let none : 0 * w ≡ 0 = omega arith in rw none refl
  whole_rows h r (suc n) long fits =
      let more : h - r ≡ suc (h - (r + 1)) = omega arith in
      let later = flat_map row (range_with_len (r + 1) (h - (r + 1))) in
      let first : suc n * w ≡ length (row r) + n * w = omega (arith, long r (omega arith), next_start n w) in
      rw (more, first) (take-append-add (row r) later (n * w)
      ∙ ap (λ l. row r ++ l) (whole_rows h (r + 1) n long (omega arith)))

  -- n elements of row r, from column c on
  pub within_row : (h r c n : ℕ) → ((j : ℕ) → j < h → length (row j) ≡ w) → r < h → c + n ≤ w
      → take n (drop c (flat_map row (range_with_len r (h - r)))) ≡ take n (drop c (row r))
  within_row h r c n long below fits =
      let more : h - r ≡ suc (h - (r + 1)) = omega arith in
      let later = flat_map row (range_with_len (r + 1) (h - (r + 1))) in
      let wide : length (row r) ≡ w = long r below in
      rw more (ap (take n) (drop-append-le c (row r) later (omega arith))
      ∙ take-append-le n (drop c (row r)) later (omega (arith, length-drop c (row r))))

  -- so a piece from there on begins
  pub piece_read : (h r c n : ℕ) (xs : List A) → ((j : ℕ) → j < h → length (row j) ≡ w) → r < h → c + n ≤ w
      → n ≤ length xs → xs ≡ take (length xs) (drop c (flat_map row (range_with_len r (h - r))))
      → take n xs ≡ take n (drop c (row r))
  piece_read h r c n xs long below fits few is =
      cut_piece xs (drop c (flat_map row (range_with_len r (h - r)))) n is few ∙ within_row h r c n long below fits

  -- and they make one
  pub piece_made : (h r c n : ℕ) (xs : List A) → ((j : ℕ) → j < h → length (row j) ≡ w) → r < h → c + n ≤ w
      → length xs ≡ n → xs ≡ take n (drop c (row r))
      → xs ≡ take (length xs) (drop c (flat_map row (range_with_len r (h - r))))
  piece_made h r c n xs long below fits size is =
      is ∙ sym (within_row h r c n long below fits)
      ∙ ap (λ k. take k (drop c (flat_map row (range_with_len r (h - r))))) (sym size)

module _ {A M : Type 0} (height : M → ℕ) (row : M → ℕ → List A) (h r : ℕ) where
  -- one more element of the first matrix
  pub rows_more : (m : M) (ms xs : List M) (c : ℕ) (x : A) → xs ≡ m ∷ ms → (height m == h) ≡ true →
      slice_get (row m r) c ≡ Some x
      → rows_left height row h r xs c ≡ x ∷ rows_left height row h r xs (c + 1)
  rows_more m ms xs c x e same at = rw (e, same, drop_at (row m r) c x at) refl

  -- the rows as they stand before any element is read
  rows_from_start : (ms : List M) → rows_left height row h r ms 0 ≡ rows_of_height height row h r ms
  rows_from_start [] = refl
  rows_from_start (m ∷ ms) = refl

  -- nothing is left of the first matrix, which is of another height or read to its end
  pub rows_skip : (m : M) (ms xs : List M) (c : ℕ) → xs ≡ m ∷ ms → (height m ≡ h → length (row m r) ≤ c)
      → rows_left height row h r ms 0 ≡ rows_left height row h r xs c
  rows_skip m ms xs c e short =
      let read : (b : Bool) → (height m == h) ≡ b → cond b (drop c (row m r)) [] ≡ [] =
      λ b. λ tested. elim b as (λ b. (height m == h) ≡ b → cond b (drop c (row m r)) [] ≡ []) [
        | true ↦ λ same. drop_all c (row m r) (short (eqb-true (height m) h same))
        | false ↦ λ other. refl
      ] tested in
      rows_from_start ms
      ∙ sym (ap (λ l. l ++ rows_of_height height row h r ms) (read (height m == h) refl))
      ∙ ap (λ l. rows_left height row h r l c) (sym e)

  -- nor of no matrix
  pub rows_none : (xs : List M) (c : ℕ) → length xs ≡ 0 → rows_left height row h r xs c ≡ []
  rows_none [] c none = refl
  rows_none (m ∷ ms) c none = absurd (omega (arith, none))

-- what stands in place k of the columns of rows is row k of them
pub picked_columns : {A : Type 0} (row : ℕ → List A) (d : A) (r n k w : ℕ) → k < n → length (row (r + k)) ≡ w →
    map (λ xs. get_or xs k d) (columns row d r n w) ≡ row (r + k)
picked_columns {A} row d r n k w below long =
    let pick = λ (xs : List A). get_or xs k d in
    let at : (c : ℕ) → pick (column_of_rows row d r n c) ≡ get_or (row (r + k)) c d =
    λ c. get_or-map-range_with_len (λ j. get_or (row (r + j)) c d) 0 n k k d below (omega arith) in
    map-map pick (column_of_rows row d r n) (range_with_len 0 w)
    ∙ sym (fill_by_all (λ c. pick (column_of_rows row d r n c)) (row (r + k)) w d long (λ c h. sym (at c)))

-- lane k of the packed columns of rows is row k of them
pub lane_of_columns : {A P : Type 0} (lanes : P → List A) (row : ℕ → List A) (d : A) (r n k w : ℕ) (ps : List P) →
    map lanes ps ≡ columns row d r n w → k < n → length (row (r + k)) ≡ w
    → lane_of lanes d k ps ≡ row (r + k)
lane_of_columns {A} lanes row d r n k w ps packed below long =
    let pick = λ (xs : List A). get_or xs k d in
    sym (map-map pick lanes ps) ∙ ap (map pick) packed ∙ picked_columns row d r n k w below long

-- what holds of all of a list holds of the first, and of the others
pub all_split : {M : Type 0} (P : M → Type 0) (m : M) (ms xs : List M) → xs ≡ m ∷ ms → All P xs → P m × All P ms
all_split P m ms xs e all =
    let each : All P (m ∷ ms) = rw e at all in (each 0 m (omega arith), λ k d b. each (suc k) d (omega (arith, b)))

module _ {A M : Type 0} (row : M → ℕ → List A) (width : M → ℕ) (d : A) (r n : ℕ) where
  -- one more column of the first matrix
  pub columns_more : (m : M) (ms xs : List M) (c : ℕ) → xs ≡ m ∷ ms → c < width m →
      columns_left row width d r n xs c ≡ column_of_rows (row m) d r n c ∷ columns_left row width d r n xs (c + 1)
  columns_more m ms xs c e inside =
      rw e (ap (λ l. l ++ columns_over row width d r n ms)
      (drop_column (column_of_rows (row m) d r n) c (width m) inside))

  -- the columns as they stand before any is read
  columns_from_start : (ms : List M) → columns_left row width d r n ms 0 ≡ columns_over row width d r n ms
  columns_from_start [] = refl
  columns_from_start (m ∷ ms) = refl

  -- nothing is left of the first matrix, which is read to its end
  pub columns_skip : (m : M) (ms xs : List M) (c : ℕ) → xs ≡ m ∷ ms → width m ≤ c →
      columns_left row width d r n ms 0 ≡ columns_left row width d r n xs c
  columns_skip m ms xs c e read =
      let none : drop c (columns (row m) d r n (width m)) ≡ [] = drop_all c (columns (row m) d r n (width m))
      (omega (arith, read, length-map-range_with_len (column_of_rows (row m) d r n) 0 (width m))) in
      columns_from_start ms ∙ sym (ap (λ l. l ++ columns_over row width d r n ms) none)
      ∙ ap (λ l. columns_left row width d r n l c) (sym e)

  -- nor of no matrix
  pub columns_none : (xs : List M) (c : ℕ) → length xs ≡ 0 → columns_left row width d r n xs c ≡ []
  columns_none [] c none = refl
  columns_none (m ∷ ms) c none = absurd (omega (arith, none))

  -- what stands in place k of the columns of several matrices is row k of each of them
  picked_rows : (height : M → ℕ) (k : ℕ) → k < n → ((m : M) (i : ℕ) → i < height m → length (row m i) ≡ width m) →
      (ms : List M) → All (λ m. r + n ≤ height m) ms →
      map (λ xs. get_or xs k d) (columns_over row width d r n ms) ≡ flat_map (λ m. row m (r + k)) ms
  picked_rows height k below each [] all = refl
  picked_rows height k below each (m ∷ ms) all =
      let pick = λ (xs : List A). get_or xs k d in
      let high : r + n ≤ height m = all 0 m (omega arith) in
      map-append pick (columns (row m) d r n (width m)) (columns_over row width d r n ms)
      ∙ ap (λ l. l ++ map pick (columns_over row width d r n ms))
      (picked_columns (row m) d r n k (width m) below (each m (r + k) (omega (arith, high, below))))
      ∙ ap (λ l. row m (r + k) ++ l) (picked_rows height k below each ms (λ i e b. all (suc i) e (omega (arith, b))))

  -- lane k of their packed columns is row k of each of them
  pub lane_of_rows : {P : Type 0} (height : M → ℕ) (lanes : P → List A) (k : ℕ) (ps : List P) (ms : List M) → k < n →
      ((m : M) (i : ℕ) → i < height m → length (row m i) ≡ width m) → All (λ m. r + n ≤ height m) ms →
      map lanes ps ≡ columns_over row width d r n ms → lane_of lanes d k ps ≡ flat_map (λ m. row m (r + k)) ms
  lane_of_rows height lanes k ps ms below each all packed =
      let pick = λ (xs : List A). get_or xs k d in
      sym (map-map pick lanes ps) ∙ ap (map pick) packed ∙ picked_rows height k below each ms all

-- n elements within the first of two lists, read in the two, one after the other
pub joined_front : {A : Type 0} (xs ys : List A) (c n : ℕ) → c + n ≤ length xs → take n (drop c (xs ++ ys))
    ≡ take n (drop c xs)
joined_front xs ys c n fits =
    ap (take n) (drop-append-le c xs ys (omega arith))
    ∙ take-append-le n (drop c xs) ys (omega (arith, length-drop c xs))

-- what stands after the first, which has n elements
pub joined_back : {A : Type 0} (xs ys : List A) (n c : ℕ) → length xs ≡ n → n ≤ c → drop c (xs ++ ys) ≡ drop (c - n) ys
joined_back xs ys n c long above =
    let at : c ≡ length xs + (c - n) = omega (arith, long) in
    ap (λ k. drop k (xs ++ ys)) at ∙ drop-append-add xs ys (c - n)

-- an element of the first of two lists, read in the two, one after the other
pub joined_first : {A : Type 0} (xs ys : List A) (c : ℕ) (x : A) → slice_get xs c ≡ Some x → slice_get (xs ++ ys) c
    ≡ Some x
joined_first xs ys c x at =
    let inside = slice_get_within xs c x at in
    slice_get_read (xs ++ ys) (length xs + length ys) c x (sym (length-append xs ys)) (omega (arith, inside))
    (sym (get_or-append xs ys x c inside ∙ get_or_from_slice_get xs c x x at))

-- the same of the second, where the first has n elements
pub joined_second : {A : Type 0} (xs ys : List A) (n c : ℕ) (x : A) → length xs ≡ n → n ≤ c → slice_get ys (c - n)
    ≡ Some x → slice_get (xs ++ ys) c ≡ Some x
joined_second xs ys n c x long above at =
    let inside = slice_get_within ys (c - n) x at in
    slice_get_read (xs ++ ys) (length xs + length ys) c x (sym (length-append xs ys))
    (omega (arith, long, above, inside))
    (sym (get_or-append_right xs ys n c x long above ∙ get_or_from_slice_get ys (c - n) x x at))
