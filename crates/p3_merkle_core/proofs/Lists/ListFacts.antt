-- Facts on lists: pieces that are joined, an element taken out and put back, how many elements pass.
use Rattle.std.proofs.lemmas.Grind.{common_steps}
use Rattle.std.proofs.Common.{◌≡◌, ℕ, zero, suc, append-nil, sym, ◌∙◌}
use Rattle.std.proofs.Common.{◌+◌, ◌-◌, ◌<◌, ◌≤◌, List, [], ◌∷◌, refl, ap, arith, inl, inr, length, get_or, take, drop}
use Rattle.std.proofs.Common.{insert, remove, length-append, length-take, length-drop, cond, Bool, map, ◌++◌}
use Rattle.std.proofs.lemmas.Bool.{cases_eq, cases_Bool}
use Rattle.std.proofs.lemmas.List.{drop_at, drop-append-le, take-append-le, take_all}
use Rattle.std.proofs.lemmas.List.Recursion.{is_count_by}
use Rattle.std.specs.List.{count_by, flat_map, range_with_len}

-- the values of v at n numbers from s + a on, by those numbers less s
pub map_shift : {Y : Type 0} (v : ℕ → Y) (s a n : ℕ) → map (λ i. v (s + i)) (range_with_len a n)
    ≡ map v (range_with_len (s + a) n)
map_shift v s a zero = refl
map_shift v s a (suc n) = grind (arith, common_steps, map_shift v s (a + 1) n)

-- ---- pieces that are joined

-- g 0, g 1 and so on up to g (n - 1), one after another
abbrev pub joined : {A : Type 0} → (ℕ → List A) → ℕ → List A
joined g n = flat_map g (range_with_len 0 n)

-- of pieces that are joined from a on, the last one stands behind the others
more_from : {A : Type 0} (g : ℕ → List A) (a n : ℕ) → flat_map g (range_with_len a (suc n))
    ≡ flat_map g (range_with_len a n) ++ g (a + n)
more_from g a zero = let z : a + 0 ≡ a = omega arith in rw z (append-nil (g a))
more_from g a (suc n) = grind (arith, common_steps, more_from g (a + 1) n)

-- one more piece
pub joined_more : {A : Type 0} (g : ℕ → List A) (n : ℕ) → joined g (suc n) ≡ joined g n ++ g n
joined_more g n = let z : 0 + n ≡ n = omega arith in rw z at (more_from g 0 n)

-- what is joined up to t has room for what is joined up to l, and for piece l
pub length-joined_le : {A : Type 0} (g : ℕ → List A) (l t : ℕ) → l < t →
    length (joined g l) + length (g l) ≤ length (joined g t)
length-joined_le g l zero h = absurd (omega arith)
length-joined_le g l (suc t) h =
    elim (cases_eq l t) [
      | inl e ↦ rw (e, joined_more g t, length-append) (omega arith)
      | inr ne ↦ rw (joined_more g t, length-append) (omega (arith, length-joined_le g l t (omega arith)))
    ]

-- the piece l of what is joined
pub joined_piece : {A : Type 0} (g : ℕ → List A) (l t : ℕ) → l < t →
    take (length (g l)) (drop (length (joined g l)) (joined g t)) ≡ g l
joined_piece g l zero h = absurd (omega arith)
joined_piece g l (suc t) h =
    elim (cases_eq l t) [
      | inl e ↦ rw (e, joined_more g t, drop_at (joined g t) (g t) (length (joined g t)) refl)
          (take_all (length (g t)) (g t) (omega arith))
      | inr ne ↦
          let le = length-joined_le g l t (omega arith) in
          rw (
            joined_more g t,
            drop-append-le (length (joined g l)) (joined g t) (g t) (omega arith),
            take-append-le (length (g l)) (drop (length (joined g l)) (joined g t)) (g t)
                (omega (arith, length-drop (length (joined g l)) (joined g t))),
          )
          (joined_piece g l t (omega arith))
    ]

-- of two lists that are equal, both made of two parts, the parts are equal if the first ones are of one length
pub same_ends : {X : Type 0} (xs ys cs ds : List X) → length xs ≡ length ys → xs ++ cs ≡ ys ++ ds →
    (xs ≡ ys) × (cs ≡ ds)
same_ends [] [] cs ds long same = (refl, same)
same_ends [] (y ∷ ys) cs ds long same = absurd (omega arith)
same_ends (x ∷ xs) [] cs ds long same = absurd (omega arith)
same_ends (x ∷ xs) (y ∷ ys) cs ds long same =
    let tails : xs ++ cs ≡ ys ++ ds = cc in
    let rest = same_ends xs ys cs ds (omega arith) tails in
    let heads : x ≡ y = cc in
    ((let r = rest.0 in cc), rest.1)

-- pieces that have the same lengths one by one join to lists of one length
pub joined_same_length : {A : Type 0} (g h : ℕ → List A) (n : ℕ) → ((k : ℕ) → length (g k) ≡ length (h k)) →
    length (joined g n) ≡ length (joined h n)
joined_same_length g h zero long = refl
joined_same_length g h (suc n) long = rw (joined_more g n, joined_more h n) (length-append (joined g n) (g n)
    ∙ (let before = joined_same_length g h n long in let last = long n in omega arith)
    ∙ sym (length-append (joined h n) (h n)))

-- and are equal where these lists are
pub pieces_same : {A : Type 0} (g h : ℕ → List A) (n : ℕ) → ((k : ℕ) → length (g k) ≡ length (h k)) → joined g n
    ≡ joined h n → (k : ℕ) → k < n → g k ≡ h k
pieces_same g h zero long same k below = absurd (omega arith)
pieces_same g h (suc n) long same k below =
    let ends = same_ends (joined g n) (joined h n) (g n) (h n) (joined_same_length g h n long)
    (sym (joined_more g n) ∙ same ∙ joined_more h n) in
    elim (cases_eq k n) [
      | inl last ↦ rw last ends.1
      | inr before ↦ pieces_same g h n long ends.0 k (omega arith)
    ]

-- ---- an element taken out, and put back

-- lists into which elements are put at one place are equal where the results are
pub insert_same : {X : Type 0} (xs ys : List X) (p : ℕ) (x y : X) → length xs ≡ length ys → insert xs p x
    ≡ insert ys p y → xs ≡ ys
insert_same xs ys zero x y long same = cc
insert_same [] [] (suc p) x y long same = refl
insert_same [] (b ∷ ys) (suc p) x y long same = absurd (omega arith)
insert_same (a ∷ xs) [] (suc p) x y long same = absurd (omega arith)
insert_same (a ∷ xs) (b ∷ ys) (suc p) x y long same =
    let tails : insert xs p x ≡ insert ys p y = cc in
    let rest = insert_same xs ys p x y (omega arith) tails in
    let heads : a ≡ b = cc in
    cc

pub insert-remove : {X : Type 0} (xs : List X) (p : ℕ) (d : X) → p < length xs → insert (remove xs p) p (get_or xs p d)
    ≡ xs
insert-remove [] p d h = absurd (omega arith)
insert-remove (x ∷ xs) zero d h = refl
insert-remove (x ∷ xs) (suc p) d h = ap (λ (ys : List _). x ∷ ys) (insert-remove xs p d (omega arith))

pub length-remove : {X : Type 0} (xs : List X) (p : ℕ) → p < length xs → length (remove xs p) ≡ length xs - 1
length-remove xs p h = simp (length-append, length-take, length-drop) (omega arith)

-- ---- how many elements pass

-- how many elements pass, by recursion: the first, and those of the rest
unfoldable pub tally : {X : Type 0} → (X → Bool) → List X → ℕ
tally p [] = 0
tally p (x ∷ xs) = cond (p x) 1 0 + tally p xs

-- that is how many the count of the standard library gives
pub tally_is : {X : Type 0} (p : X → Bool) (xs : List X) → tally p xs ≡ count_by p xs
unfolding tally
tally_is p xs =
    is_count_by (λ ys. tally p ys) p refl
    (λ x ys. elim (cases_Bool (p x)) [ inl t ↦ rw t refl | inr f ↦ rw f (omega arith) ]) xs
