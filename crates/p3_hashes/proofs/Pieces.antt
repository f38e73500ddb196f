-- Pieces of one length, one after another.
use Rattle.std.proofs.Common.{◌≡◌, ℕ, zero, suc, ◌+◌, ◌-◌, ◌*◌, ◌<◌, List, [], ◌∷◌, ◌++◌, length, map, take, drop}
use Rattle.std.proofs.Common.{get_or, refl, sym, ap, ◌∙◌, append_assoc, append-nil, length-append, arith}
use Rattle.std.proofs.Math.Nat.{add-mul, one-mul}
use Rattle.std.proofs.Math.Seq.{take-append_seam, drop-append-add}
use Rattle.std.proofs.lemmas.List.Folds.{concat-append}
use Rattle.std.proofs.lemmas.List.{get_or-map, length-map, take_more}
use Rattle.std.specs.List.{concat, flat_map}
use Rattle.p3_support.specs.Lists.{message}

flat_append : (xs ys : List (List ℕ)) → flat_map (λ x. x) (xs ++ ys) ≡ concat xs ++ flat_map (λ x. x) ys
flat_append [] ys = refl
flat_append (x ∷ xs) ys = ap (λ l. x ++ l) (flat_append xs ys) ∙ sym (append_assoc x (concat xs) (flat_map (λ l. l) ys))

-- groups of pieces, flattened twice
flat_twice : (groups : List (List (List ℕ))) → flat_map (λ x. x) (flat_map (λ (x : List (List ℕ)). x) groups)
    ≡ concat (map concat groups)
flat_twice [] = refl
flat_twice (g ∷ gs) = flat_append g (flat_map (λ (x : List (List ℕ)). x) gs) ∙ ap (λ l. concat g ++ l) (flat_twice gs)

-- one more piece
pub concat_more : (xs : List (List ℕ)) (i : ℕ) → i < length xs → concat (take (i + 1) xs)
    ≡ concat (take i xs) ++ get_or xs i []
concat_more xs i below = rw (take_more xs i [] below) (simp (concat-append, append-nil))

-- how long so many pieces are
length-concat : (n : ℕ) (xs : List (List ℕ)) → ((k : ℕ) → k < length xs → length (get_or xs k []) ≡ n)
    → length (concat xs) ≡ length xs * n
length-concat n [] each = omega arith
length-concat n (x ∷ xs) each =
    let first : length x ≡ n = each 0 (omega arith) in
    let rest = length-concat n xs (λ k h. each (suc k) (omega arith)) in
    length-append x (concat xs) ∙ omega (arith, first, rest, add-mul 1 (length xs) n, one-mul n)

-- a piece, from where it stands
piece : (n : ℕ) (xs : List (List ℕ)) → ((k : ℕ) → k < length xs → length (get_or xs k []) ≡ n) → (j : ℕ) → j < length xs
    → take n (drop (j * n) (concat xs)) ≡ get_or xs j []
piece n [] each j below = absurd (omega arith)
piece n (x ∷ xs) each zero below =
    let first : length x ≡ n = each 0 (omega arith) in
    let none : 0 * n ≡ 0 = omega arith in
    ap (λ (i : ℕ). take n (drop i (x ++ concat xs))) none ∙ ap (λ (m : ℕ). take m (x ++ concat xs)) (sym first)
    ∙ take-append_seam x (concat xs)
piece n (x ∷ xs) each (suc j) below =
    let first : length x ≡ n = each 0 (omega arith) in
    let past : suc j * n ≡ length x + j * n = omega (arith, first, add-mul 1 j n, one-mul n) in
    ap (λ (i : ℕ). take n (drop i (x ++ concat xs))) past ∙ ap (take n) (drop-append-add x (concat xs) (j * n))
    ∙ piece n xs (λ k h. each (suc k) (omega arith)) j (omega arith)

-- the bytes of a group among those of all groups
pub message_of_group : (n d : ℕ) (groups : List (List (List ℕ)))
    → ((k : ℕ) → k < length groups → length (get_or groups k []) ≡ n)
    → ((k e : ℕ) → k < length groups → e < length (get_or groups k []) → length (get_or (get_or groups k []) e []) ≡ d)
    → (j : ℕ) → j < length groups
    → message (n * d) (flat_map (λ x. x) (flat_map (λ (x : List (List ℕ)). x) groups)) j ≡ concat (get_or groups j [])
message_of_group n d groups many long j below =
    let rows = map concat groups in
    let wide : (k : ℕ) → k < length rows → length (get_or rows k []) ≡ n * d = λ k h.
    let inside : k < length groups = omega (arith, h, length-map groups concat) in
    ap length (get_or-map concat groups k [] [] inside) ∙ length-concat d (get_or groups k [])
    (λ e i. long k e inside i) ∙ ap (λ (m : ℕ). m * d) (many k inside) in
    let within : j < length rows = omega (arith, below, length-map groups concat) in
    let span : (j + 1) * (n * d) - j * (n * d) ≡ n * d = omega (arith, add-mul j 1 (n * d), one-mul (n * d)) in
    ap (λ (l : List ℕ). message (n * d) l j) (flat_twice groups)
    ∙ ap (λ (m : ℕ). take m (drop (j * (n * d)) (concat rows))) span
    ∙ piece (n * d) rows wide j within ∙ get_or-map concat groups j [] [] below
