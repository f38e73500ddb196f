-- Lanes of lists of packed values.
use Rattle.std.proofs.Common.{◌≡◌, ℕ, ◌+◌, ◌<◌, List, [], ◌∷◌, ◌++◌, length, map, take, drop, get_or, set, replicate}
use Rattle.std.proofs.Common.{sym, ap, ◌∙◌, arith}
use Rattle.std.proofs.lemmas.List.{map-set, get_or-map, length-map, map-id, get_or-set_same, get_or-set_other}
use Rattle.std.proofs.lemmas.List.{get_or-replicate, length-replicate}
use Rattle.std.proofs.lemmas.List.Edits.{map_over_more}
use Rattle.p3_support.specs.Lists.{lane_of}

-- a value alone in its lane
pub single_lane : {A : Type 0} (d : A) (xs : List A) → lane_of (λ x. x ∷ []) d 0 xs ≡ xs
single_lane d xs = map-id xs

-- the same of lists of such values
pub single_lanes : {A : Type 0} (d : A) (xss : List (List A)) → map (lane_of (λ x. x ∷ []) d 0) xss ≡ xss
single_lanes d [] = map-id []
single_lanes d (xs ∷ xss) = ap (λ ys. ys ∷ map (lane_of (λ x. x ∷ []) d 0) xss) (single_lane d xs)
    ∙ ap (λ yss. xs ∷ yss) (single_lanes d xss)

-- what each lane of values alone in theirs is
pub only_lane : {A : Type 0} (d : A) (k : ℕ) (xs : List A) → k < 1 → lane_of (λ x. x ∷ []) d k xs ≡ xs
only_lane d k xs below = let first : k ≡ 0 = omega (arith, below) in rw first (single_lane d xs)

-- the same of lists of such values
pub only_lanes : {A : Type 0} (d : A) (k : ℕ) (xss : List (List A)) → k < 1 → map (lane_of (λ x. x ∷ []) d k) xss ≡ xss
only_lanes d k xss below = let first : k ≡ 0 = omega (arith, below) in rw first (single_lanes d xss)

-- a loop that writes y over the element at i, where `of y` is f of what `of` saw there
pub map_seen_more : {A B : Type 0} (of : A → B) (f : B → B) (xs ys : List A) (i : ℕ) (y d : A) → i < length xs →
    length ys ≡ length xs
    → of y ≡ f (of (get_or ys i d))
    → map of ys ≡ map f (take i (map of xs)) ++ drop i (map of xs)
    → map of (set ys i y) ≡ map f (take (i + 1) (map of xs)) ++ drop (i + 1) (map of xs)
map_seen_more of f xs ys i y d within same made so_far =
    let long : i < length (map of xs) = rw (length-map xs of) within in
    let inside : i < length ys = rw same within in
    let read : of (get_or ys i d) ≡ get_or (map of ys) i (of (get_or ys i d)) =
    sym (get_or-map of ys i d (of (get_or ys i d)) inside) in
    map-set of ys i y ∙ ap (λ v. set (map of ys) i v) made
    ∙ map_over_more f (map of xs) (map of ys) i (of (get_or ys i d)) long so_far read

-- what every lane of one shows is the whole
pub alone : {A : Type 0} (d : A) (xs ys : List A) → ((k : ℕ) → k < 1 → lane_of (λ x. x ∷ []) d k xs ≡ ys) → xs ≡ ys
alone d xs ys lanes = sym (single_lane d xs) ∙ lanes 0 (omega arith)

-- an element of a lane of one value everywhere
pub lane_of_same : {A B : Type 0} (of : A → B) (n e : ℕ) (x : A) (d : B) → e < n → get_or (map of (replicate n x)) e d
    ≡ of x
lane_of_same of n e x d below =
    let inside : e < length (replicate n x) = rw (length-replicate n x) below in
    get_or-map of (replicate n x) e x d inside ∙ ap of (get_or-replicate n e x x below)

-- an element of the list that lane `of` is, once one value is written
pub lane_of_set : {A B : Type 0} (of : A → B) (xs : List A) (i j : ℕ) (x : A) (d : B) → (j ≡ i → ⊥) →
    get_or (map of (set xs i x)) j d ≡ get_or (map of xs) j d
lane_of_set of xs i j x d other = ap (λ l. get_or l j d) (map-set of xs i x)
    ∙ get_or-set_other (map of xs) i j (of x) d other

-- the same at the place itself
pub lane_of_written : {A B : Type 0} (of : A → B) (xs : List A) (i : ℕ) (x : A) (d : B) → i < length xs →
    get_or (map of (set xs i x)) i d ≡ of x
lane_of_written of xs i x d inside =
    let long : i < length (map of xs) = rw (length-map xs of) inside in
    ap (λ l. get_or l i d) (map-set of xs i x) ∙ get_or-set_same (map of xs) i (of x) d long
