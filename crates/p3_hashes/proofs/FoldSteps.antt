-- Steps of the fold functions.
use Rattle.std.proofs.Common.{◌≡◌, ℕ, ◌+◌, ◌*◌, ◌%◌, ◌^◌, ◌<◌, List, [], ◌∷◌, ◌++◌, length, map, take, get_or, ap, ◌∙◌}
use Rattle.std.proofs.Common.{arith, sym}
use Rattle.std.proofs.lemmas.List.{take_more, map-append, length-map, length-take-le}
use Rattle.std.proofs.lemmas.List.Sums.{fold-append}
use Rattle.std.proofs.lemmas.Simd.{map-map}
use Rattle.std.specs.List.{fold, enumerate_from}
use Rattle.p3_support.specs.Lists.{lane_of}
use Rattle.p3_support.proofs.LaneReads.{single_lane}
use Rattle.p3_hashes.specs.Fold.{take_in, fold_hash, mix_in, placed_elements}

-- a digest that takes in more words is that of all of them
pub fold_hash-append : (n : ℕ) (xs ys : List ℕ) → map (λ s. fold take_in s ys) (fold_hash n xs) ≡ fold_hash n (xs ++ ys)
unfolding fold_hash
fold_hash-append n xs ys = simp (map-map, fold-append)

-- an element after a word, from the sums of the code
pub taken_in : (s x : ℕ) → ((s * 31) % 2 ^ 32 + x) % 2 ^ 32 ≡ take_in s x
taken_in s x = omega arith

-- an element after a child, from the sums of the code
pub mixed : (s x place : ℕ) → ((31 * s + x) % 2 ^ 32 + place % 2 ^ 32) % 2 ^ 32 ≡ mix_in s (place, x)
mixed s x place = omega arith

-- one more element has the next place
enumerate_from-append : {A : Type 0} (n : ℕ) (xs : List A) (x : A) → enumerate_from n (xs ++ x ∷ [])
    ≡ enumerate_from n xs ++ (n + length xs, x) ∷ []
enumerate_from-append n [] x = ap (λ i. (i, x) ∷ []) (omega arith)
enumerate_from-append n (y ∷ ys) x =
    let place : n + 1 + length ys ≡ n + length (y ∷ ys) = omega arith in
    ap (λ l. (n, y) ∷ l) (enumerate_from-append (n + 1) ys x ∙ ap (λ i. enumerate_from (n + 1) ys ++ (i, x) ∷ []) place)

-- an element after one more child
pub placed_more : (e i : ℕ) (children : List (List ℕ)) (d : List ℕ) → i < length children
    → fold mix_in 0 (placed_elements e (take (i + 1) children))
    ≡ mix_in (fold mix_in 0 (placed_elements e (take i children))) (i, get_or (get_or children i d) e 0)
placed_more e i children d below =
    let of = λ (child : List ℕ). get_or child e 0 in
    let so_far = take i children in
    let count : 0 + length (map of so_far)
    ≡ i = omega (arith, length-map so_far of, length-take-le i children (omega arith)) in
    ap (λ l. fold mix_in 0 (enumerate_from 0 l)) (ap (map of) (take_more children i d below)
    ∙ map-append of so_far (get_or children i d ∷ []))
    ∙ ap (fold mix_in 0) (enumerate_from-append 0 (map of so_far) (of (get_or children i d)))
    ∙ fold-append mix_in 0 (placed_elements e so_far) ((0 + length (map of so_far), of (get_or children i d)) ∷ [])
    ∙ ap (λ j. mix_in (fold mix_in 0 (placed_elements e so_far)) (j, of (get_or children i d))) count

-- what a value alone in its lane absorbs
pub absorbed_alone : (new old words : List ℕ)
    → lane_of (λ x. x ∷ []) 0 0 new
    ≡ map (λ s. fold take_in s (lane_of (λ x. x ∷ []) 0 0 words)) (lane_of (λ x. x ∷ []) 0 0 old)
    → new ≡ map (λ s. fold take_in s words) old
absorbed_alone new old words absorbed =
    sym (single_lane 0 new) ∙ absorbed
    ∙ ap (λ l. map (λ s. fold take_in s l) (lane_of (λ x. x ∷ []) 0 0 old)) (single_lane 0 words)
    ∙ ap (map (λ s. fold take_in s words)) (single_lane 0 old)

-- elements that take in one more word of a slice
pub absorbed_more : (words state : List ℕ) (i : ℕ) → i < length words
    → map (λ s. take_in s (get_or words i 0)) (map (λ s. fold take_in s (take i words)) state)
    ≡ map (λ s. fold take_in s (take (i + 1) words)) state
absorbed_more words state i below = rw (take_more words i 0 below) (simp (map-map, fold-append))
