-- Messages that are laid one after another, and slots that are filled part by part.
use Rattle.std.proofs.Common.{◌≡◌, ℕ, zero, suc, ◌+◌, ◌-◌, ◌*◌, ◌/◌, ◌<◌, ◌≤◌, List, [], ◌∷◌, ◌++◌, length, map, take}
use Rattle.std.proofs.Common.{drop, get_or, replicate, All, refl, sym, ap, ◌∙◌, arith, inl, inr, length-append}
use Rattle.std.proofs.Common.{length-drop, append-nil, append_assoc}
use Rattle.std.proofs.lemmas.Bool.{cases_lt}
use Rattle.std.proofs.lemmas.List.{get_or-append_right, get_or-drop, get_or-take, drop-drop, length-take-le, length-map}
use Rattle.std.proofs.lemmas.List.{get_or-map, get_or_append_left, take_at}
use Rattle.std.proofs.lemmas.List.FromFn.{fill_by_all, get_or-map-range_with_len, length-map-range_with_len}
use Rattle.std.proofs.lemmas.List.Sums.{sum_by-cons}
use Rattle.std.proofs.Math.Seq.{drop-append-add}
use Rattle.std.proofs.lemmas.Simd.{map-map}
use Rattle.std.proofs.Math.Nat.{mul-le-mul_left, mul-suc}
use Rattle.std.specs.List.{flat_map, range_with_len}
use Rattle.std.specs.Prelude.{sum_by}
use Rattle.std.specs.Simd.{first_chunks}
use Rattle.p3_support.specs.Lists.{message, messages}
use Rattle.p3_support.specs.Inner.RowLengths.{next_start}
use Rattle.p3_merkle_hashing.specs.Inner.Slots.{rows_over, IsFilled, IsStaged}
use Rattle.p3_merkle_hashing.proofs.LaneFacts.{part_written, part_before}
use borrow.Rule.Slice.PartMut.{put_mid, same_len_mid}

-- n rows of w elements, one after another
module _ {A : Type 0} (row : ℕ → List A) (w : ℕ) where
  length-rows : (a n : ℕ) → ((r : ℕ) → r < a + n → length (row r) ≡ w) → length (flat_map row (range_with_len a n))
      ≡ w * n
  length-rows a zero wide = omega arith
  length-rows a (suc n) wide =
      length-append (row a) (flat_map row (range_with_len (a + 1) n))
      ∙ omega (
        arith,
        wide a (omega arith),
        length-rows (a + 1) n (λ r below. wide r (omega arith)),
        mul-suc w n,
      )

  -- what stands in place j of them
  row_at : (a n j : ℕ) → ((r : ℕ) → r < a + n → length (row r) ≡ w) → j < n →
      message w (flat_map row (range_with_len a n)) j ≡ row (a + j)
  row_at a zero j wide below = absurd (omega arith)
  row_at a (suc n) zero wide below =
      let later = flat_map row (range_with_len (a + 1) n) in
      let start : 0 * w ≡ 0 = omega arith in
      let count : (0 + 1) * w - 0 * w ≡ w = omega arith in
      let here : a + 0 ≡ a = omega arith in
      rw (count, start, here) (take_at (row a) later w (wide a (omega arith)))
  row_at a (suc n) (suc j) wide below =
      let later = flat_map row (range_with_len (a + 1) n) in
      let k : ℕ = (suc j + 1) * w - suc j * w in
      let same : k ≡ (j + 1) * w - j * w = omega (arith, next_start j w, next_start (suc j) w) in
      let past : suc j * w ≡ length (row a) + j * w = omega (arith, wide a (omega arith), next_start j w) in
      ap (λ i. take k (drop i (row a ++ later))) past
      ∙ ap (take k) (drop-append-add (row a) later (j * w))
      ∙ ap (λ i. take i (drop (j * w) later)) same
      ∙ row_at (a + 1) n j (λ r h. wide r (omega (arith, h))) (omega arith)
      ∙ ap row (omega arith)

  -- so they are staged
  pub staged_rows : (f : ℕ → List A) (a n : ℕ) → ((r : ℕ) → r < a + n → length (row r) ≡ w) →
      ((j : ℕ) → j < n → row (a + j) ≡ f j) → IsStaged f n (flat_map row (range_with_len a n))
  staged_rows f a n wide are =
      let xs = flat_map row (range_with_len a n) in
      record {
        width = w;
        long = length-rows a n wide;
        are = fill_by_all f (messages w n xs) n [] (length-map-range_with_len (message w xs) 0 n)
            (λ j below. get_or-map-range_with_len (message w xs) 0 n j j [] below (omega arith)
            ∙ row_at a n j wide below ∙ are j below);
      }

-- so many elements has a row of each of the matrices together
pub length-all : {A M : Type 0} (height width : M → ℕ) (row : M → ℕ → List A) (h : ℕ) →
    ((m : M) (r : ℕ) → r < height m → length (row m r) ≡ width m) → (r : ℕ) → r < h → (ms : List M) →
    All (λ m. height m ≡ h) ms → length (rows_over row ms r) ≡ sum_by width ms
length-all height width row h each r below [] all = refl
length-all height width row h each r below (m ∷ ms) all =
    let rest = length-all height width row h each r below ms (λ k d b. all (suc k) d (omega arith)) in
    let same : height m ≡ h = all 0 m (omega arith) in
    length-append (row m r) (rows_over row ms r)
    ∙ omega (arith, each m r (rw same below), rest, sum_by-cons width m ms)

-- with one more part after the first a elements, these are longer
pub part_put : {X : Type 0} (xs ys : List X) (a k n : ℕ) → length ys ≡ n → a ≤ length xs →
    take (a + n) (put_mid a k xs ys) ≡ take a xs ++ ys
part_put xs ys a k n long inside =
    let rest = drop k (drop a xs) in
    ap (take (a + n)) (sym (append_assoc (take a xs) ys rest))
    ∙ take_at (take a xs ++ ys) rest (a + n)
    (omega (arith, length-append (take a xs) ys, length-take-le a xs inside, long))

-- a list made by index has its length
pub made_long : {X : Type 0} (f : ℕ → X) (n : ℕ) (xs : List X) → xs ≡ map f (range_with_len 0 n) → length xs ≡ n
made_long f n xs is = ap length is ∙ length-map-range_with_len f 0 n

-- one more part of slots is written
pub part_more : {X : Type 0} (f : ℕ → X) (xs ys : List X) (a k n : ℕ) (d : X) → length ys ≡ n →
    ((j : ℕ) → j < n → get_or ys j d ≡ f (a + j)) → a ≤ length xs
    → ((j : ℕ) → j < a → get_or xs j d ≡ f j) → (j : ℕ) → j < a + n → get_or (put_mid a k xs ys) j d ≡ f j
part_more f xs ys a k n d long made inside before j below =
    elim (cases_lt j a) [
      | inl low ↦ part_before xs ys a k j d inside low ∙ before j low
      | inr high ↦
          let inner : j - a < n = omega arith in
          let at : j ≡ a + (j - a) = omega arith in
          ap (λ i. get_or (put_mid a k xs ys) i d) at ∙ part_written xs ys a k n (j - a) d long inside inner
          ∙ made (j - a) inner ∙ ap f (sym at)
    ]

-- what stands after a part stays
pub part_after : {X : Type 0} (xs ys : List X) (a k j : ℕ) (d : X) → length ys ≡ k → a ≤ length xs → a + k ≤ j →
    get_or (put_mid a k xs ys) j d ≡ get_or xs j d
part_after xs ys a k j d long inside behind =
    get_or-append_right (take a xs) (ys ++ drop k (drop a xs)) a j d (length-take-le a xs inside) (omega arith)
    ∙ get_or-append_right ys (drop k (drop a xs)) k (j - a) d long (omega arith)
    ∙ get_or-drop k (drop a xs) (j - a - k) d
    ∙ get_or-drop a xs (k + (j - a - k)) d
    ∙ ap (λ i. get_or xs i d) (omega arith)

-- a chunk is the elements from its start on
pub chunk_at : {X : Type 0} (n k : ℕ) (xs : List X) (j : ℕ) → j < k → get_or (first_chunks n k xs) j []
    ≡ take n (drop (n * j) xs)
chunk_at n zero xs j below = absurd (omega arith)
chunk_at n (suc k) xs zero below = let none : n * 0 ≡ 0 = omega arith in rw none refl
chunk_at n (suc k) xs (suc j) below =
    chunk_at n k (drop n xs) j (omega arith)
    ∙ ap (take n) (drop-drop (n * j) n xs)
    ∙ ap (λ i. take n (drop i xs)) (let next = mul-suc n j in omega (arith, next))

-- one more part is written, each slot with what it should have
pub fill_part : {W : Type 0} (f made : ℕ → List W) (xs ys : List (List W)) (a k n len : ℕ) → k ≡ n → a + n ≤ length xs →
    ys ≡ map made (range_with_len 0 (length (take k (drop a xs)))) →
    ((j : ℕ) → j < n → made j ≡ f (a + j)) → IsFilled f a len xs → IsFilled f (a + n) len (put_mid a k xs ys)
fill_part f made xs ys a k n len same inside is each before =
    let part : length (take k (drop a xs)) ≡ n = length-take-le k (drop a xs) (omega (arith, length-drop a xs))
    ∙ same in
    let long : length ys ≡ length (take k (drop a xs)) = ap length is
    ∙ length-map-range_with_len made 0 (length (take k (drop a xs))) in
    record {
      long = same_len_mid a k xs ys long ∙ before.long;
      filled = part_more f xs ys a k n [] (long ∙ part) (λ j h. ap (λ l. get_or l j []) is
          ∙ get_or-map-range_with_len made 0 (length (take k (drop a xs))) j j [] (omega (arith, part, h)) (omega arith)
          ∙ each j h) (omega arith) before.filled;
    }

-- one more part is written, with the digests of the rows that are staged
pub leaves_part : {T W : Type 0} (hash : List T → List W) (rows : ℕ → List T) (first : ℕ) (words : List T)
    (xs ys : List (List W)) (a k n len : ℕ) → k ≡ n → a + n ≤ length xs → IsStaged (λ j. rows (first + a + j)) k words
    → ((w : ℕ) → length words ≡ w * length (take k (drop a xs))
    → ys ≡ map hash (messages w (length (take k (drop a xs))) words))
    → IsFilled (λ j. hash (rows (first + j))) a len xs →
    IsFilled (λ j. hash (rows (first + j))) (a + n) len (put_mid a k xs ys)
leaves_part hash rows first words xs ys a k n len same inside s hashed before =
    let row = λ (j : ℕ). rows (first + a + j) in
    let made = λ (j : ℕ). hash (row j) in
    let long : length (take k (drop a xs)) ≡ k = length-take-le k (drop a xs) (omega (arith, length-drop a xs)) in
    let all : ys ≡ map made (range_with_len 0 (length (take k (drop a xs)))) =
    hashed s.width (s.long ∙ ap (λ m. s.width * m) (sym long)) ∙ ap (λ m. map hash (messages s.width m words)) long
    ∙ ap (map hash) s.are ∙ map-map hash row (range_with_len 0 k)
    ∙ ap (λ m. map made (range_with_len 0 m)) (sym long) in
    fill_part (λ j. hash (rows (first + j))) made xs ys a k n len same inside all
    (λ j small. let at : first + a + j ≡ first + (a + j) = omega arith in ap (λ i. hash (rows i)) at) before

-- The first n of some slots, which have the default digest d, are lent. The first a of these are written, then the
-- rest. The others should keep what they have, so all slots have what they should.
pub all_filled : {W : Type 0} (f made : ℕ → List W) (d : List W) (xs front ys : List (List W)) (a k n : ℕ) →
    All (λ x. x ≡ d) xs → n ≤ length xs → k ≡ n - a → a ≤ n →
    ys ≡ map made (range_with_len 0 (length (take k (drop a front)))) →
    ((j : ℕ) → a + j < n → made j ≡ f (a + j)) → ((j : ℕ) → n ≤ j → j < length xs → f j ≡ d) →
    IsFilled f a n front → put_mid a k front ys ++ drop n xs ≡ map f (range_with_len 0 (length xs))
all_filled f made d xs front ys a k n blank room same few is each past s =
    let lent = put_mid a k front ys in
    let all = fill_part f made front ys a k (n - a) n same (omega (arith, s.long)) is
    (λ j h. each j (omega (arith, h))) s in
    fill_by_all f (lent ++ drop n xs) (length xs) []
    (omega (arith, length-append lent (drop n xs), length-drop n xs, all.long))
    (λ j below. elim (cases_lt j n) [
      | inl low ↦ get_or_append_left lent (drop n xs) [] j (omega (arith, all.long, low))
          ∙ all.filled j (omega (arith, low))
      | inr high ↦ get_or-append_right lent (drop n xs) n j [] all.long high ∙ get_or-drop n xs (j - n) []
          ∙ ap (λ i. get_or xs i []) (omega arith) ∙ blank j [] below ∙ sym (past j high below)
    ])

-- all slots hold what was made of the first of a list
pub filled_all : {G W : Type 0} (C : List G → List W) (groups : List (List G)) (ys : List (List W)) (n : ℕ) →
    n ≤ length groups → ys ≡ map C (take n groups) → IsFilled (λ j. C (get_or groups j [])) n n ys
filled_all C groups ys n some is =
    record {
      long = ap length is ∙ length-map (take n groups) C ∙ length-take-le n groups some;
      filled = λ j below. ap (λ l. get_or l j []) is
          ∙ get_or-map C (take n groups) j [] [] (omega (arith, length-take-le n groups some, below))
          ∙ ap C (get_or-take n groups j [] below);
    }

-- one more part of digests is compressed once more with the digests of rows
module _ {W : Type 0} (C : List (List W) → List W) (pad rows old : List (List W)) where
  abbrev pub joined : ℕ → List W
  joined j = C (get_or old j [] ∷ get_or rows j [] ∷ pad)

  pub join_more : (xs ys : List (List W)) (a k n : ℕ) → k ≡ n → a + n ≤ length rows → a + n ≤ length xs →
      ys ≡ map C (map (λ j. get_or (take k (drop a xs)) j [] ∷ get_or (take k (drop a rows)) j [] ∷ pad)
      (range_with_len 0 (length (take k (drop a xs))))) →
      IsFilled joined a (length old) xs → ((j : ℕ) → a ≤ j → get_or xs j [] ≡ get_or old j []) →
      IsFilled joined (a + n) (length old) (put_mid a k xs ys) ×
      ((j : ℕ) → a + n ≤ j → get_or (put_mid a k xs ys) j [] ≡ get_or old j [])
  join_more xs ys a k n same few inside is before behind =
      let group = λ (j : ℕ). get_or (take k (drop a xs)) j [] ∷ get_or (take k (drop a rows)) j [] ∷ pad in
      let made = λ (j : ℕ). C (group j) in
      let part : length (take k (drop a xs)) ≡ k = length-take-le k (drop a xs) (omega (arith, length-drop a xs)) in
      let all : ys ≡ map made (range_with_len 0 (length (take k (drop a xs)))) = is
      ∙ map-map C group (range_with_len 0 (length (take k (drop a xs)))) in
      let each : (j : ℕ) → j < n → made j ≡ joined (a + j) = λ j h.
      let low : j < k = omega arith in
      let left : get_or (take k (drop a xs)) j [] ≡ get_or old (a + j) [] = get_or-take k (drop a xs) j [] low
      ∙ get_or-drop a xs j [] ∙ behind (a + j) (omega arith) in
      let right : get_or (take k (drop a rows)) j [] ≡ get_or rows (a + j) [] = get_or-take k (drop a rows) j [] low
      ∙ get_or-drop a rows j [] in
      ap (λ x. C (x ∷ get_or (take k (drop a rows)) j [] ∷ pad)) left
      ∙ ap (λ x. C (get_or old (a + j) [] ∷ x ∷ pad)) right in
      let long : length ys ≡ k = ap length all ∙ length-map-range_with_len made 0 (length (take k (drop a xs)))
      ∙ part in (
        fill_part joined made xs ys a k n (length old) same inside all each before,
        λ j past. part_after xs ys a k j [] long (omega arith) (omega arith) ∙ behind j (omega arith),
      )

-- m groups of n within len elements are among the whole groups
quotient_enough : (n m len : ℕ) → 0 < n → n * m ≤ len → m ≤ len / n
quotient_enough n m len some fits =
    elim (cases_lt (len / n) m) [
      | inl less ↦ let more : n * suc (len / n) ≤ n * m = mul-le-mul_left n less in
          absurd (omega (arith, more, mul-suc n (len / n), fits))
      | inr all ↦ all
    ]

-- where a node has as many children as a group has places, the group is its children
group_whole : {W : Type 0} (C : List (List W) → List W) (n k step j : ℕ) (below : List (List W))
    (groups : List (List (List W))) (d : List W) → step ≡ n → groups ≡ first_chunks n k below → j < k →
    C (get_or groups j []) ≡ C (take step (drop (step * j) below) ++ replicate (n - step) d)
group_whole C n k step j below groups d same are inside =
    let none : n - n ≡ 0 = omega arith in
    rw (same, none)
    (ap C (ap (λ gs. get_or gs j []) are ∙ chunk_at n k below j inside
    ∙ sym (append-nil (take n (drop (n * j) below)))))

-- so the compressions of whole groups are those of the children of nodes
pub whole_groups : {W : Type 0} (C : List (List W) → List W) (n step m : ℕ) (below : List (List W))
    (groups : List (List (List W))) (d : List W) (ys : List (List W)) → step ≡ n → 0 < step →
    step * m ≤ length below → groups ≡ first_chunks n (length below / n) below →
    length groups ≡ length below / n → ys ≡ map C (take m groups) →
    IsFilled (λ j. C (take step (drop (step * j) below) ++ replicate (n - step) d)) m m ys
whole_groups C n step m below groups d ys same some fits are many is =
    let some_n : 0 < n = rw same at some in
    let fits_n : n * m ≤ length below = rw same at fits in
    let enough = quotient_enough n m (length below) some_n fits_n in
    let all = filled_all C groups ys m (omega (arith, many, enough)) is in
    record {
      long = all.long;
      filled = λ j h. all.filled j h
          ∙ group_whole C n (length below / n) step j below groups d same are (omega (arith, enough, h));
    }
