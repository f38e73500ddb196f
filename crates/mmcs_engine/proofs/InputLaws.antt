-- What an input stands for, from parts of it.
use Rattle.std.proofs.Common.{◌≡◌, ℕ, ◌==◌, Bool, true, false, cond, List, [], ◌∷◌, ◌++◌, map, sym, refl, ap, ◌∙◌}
use Rattle.std.proofs.Common.{append-nil}
use Rattle.std.proofs.lemmas.List.{map-append}
use Rattle.std.proofs.lemmas.List.Elements.{All-head, All-tail, filter-append}
use Rattle.std.specs.Prelude.{All, filter}
use Rattle.std.specs.List.{slice_split, onto_first}
use Rattle.std.specs.Str.Lines.{strip_carriage_return}
use Rattle.mmcs_engine.specs.Input.{is_blank, runs_between, pieces_of}
use Rattle.mmcs_engine.proofs.Runs.{HasFirstPart, first_part, is_run, run_skips}

-- the lines of the matrices
abbrev pub blocks_of : List ℕ → List (List (List ℕ))
blocks_of input = runs_between is_blank (pieces_of input)

-- one more element in front, that passes or not
split_cons : {X : Type 0} (p : X → Bool) (x : X) (xs ys : List X) (y : X) → slice_split p (xs ++ y ∷ ys)
    ≡ slice_split p xs ++ slice_split p ys → HasFirstPart p xs →
    slice_split p ((x ∷ xs) ++ y ∷ ys) ≡ slice_split p (x ∷ xs) ++ slice_split p ys
split_cons p x xs ys y rest r = by_test (p x)
  where
    by_test : (b : Bool) → cond b ([] ∷ slice_split p (xs ++ y ∷ ys)) (onto_first x (slice_split p (xs ++ y ∷ ys)))
        ≡ cond b ([] ∷ slice_split p xs) (onto_first x (slice_split p xs)) ++ slice_split p ys
    by_test true = ap (λ parts. [] ∷ parts) rest
    by_test false =
        ap (onto_first x) (rest ∙ ap (λ parts. parts ++ slice_split p ys) r.cut)
        ∙ ap (λ parts. onto_first x parts ++ slice_split p ys) (sym r.cut)

-- an element that passes cuts a list in two
pub split_apart : {X : Type 0} (p : X → Bool) (xs : List X) (y : X) (ys : List X) → p y ≡ true →
    slice_split p (xs ++ y ∷ ys) ≡ slice_split p xs ++ slice_split p ys
split_apart p [] y ys passes = ap (λ b. cond b ([] ∷ slice_split p ys) (onto_first y (slice_split p ys))) passes
split_apart p (x ∷ xs) y ys passes = split_cons p x xs ys y (split_apart p xs y ys passes) (first_part p xs)

-- and its runs
pub runs_apart : {X : Type 0} (p : X → Bool) (xs : List X) (y : X) (ys : List X) → p y ≡ true →
    runs_between p (xs ++ y ∷ ys) ≡ runs_between p xs ++ runs_between p ys
runs_apart p xs y ys passes = ap (filter is_run) (split_apart p xs y ys passes)
    ∙ filter-append is_run (slice_split p xs) (slice_split p ys)

-- elements that all pass have no run
runs_none : {X : Type 0} (p : X → Bool) (xs : List X) → All (λ x. p x ≡ true) xs → runs_between p xs ≡ []
runs_none p [] all = refl
runs_none p (x ∷ xs) all = run_skips p x xs (All-head (λ y. p y ≡ true) x xs all)
    ∙ runs_none p xs (All-tail (λ y. p y ≡ true) x xs all)

-- a line feed cuts an input in two
pieces_apart : (front back : List ℕ) → pieces_of (front ++ 10 ∷ back) ≡ pieces_of front ++ pieces_of back
pieces_apart front back =
    ap (map strip_carriage_return) (split_apart (λ b. b == 10) front 10 back refl)
    ∙ map-append strip_carriage_return (slice_split (λ b. b == 10) front) (slice_split (λ b. b == 10) back)

-- elements that all pass, in front and after
runs_behind : {X : Type 0} (p : X → Bool) (xs ys : List X) → All (λ x. p x ≡ true) xs → runs_between p (xs ++ ys)
    ≡ runs_between p ys
runs_behind p [] ys all = refl
runs_behind p (x ∷ xs) ys all = run_skips p x (xs ++ ys) (All-head (λ y. p y ≡ true) x xs all)
    ∙ runs_behind p xs ys (All-tail (λ y. p y ≡ true) x xs all)

runs_before : {X : Type 0} (p : X → Bool) (xs ys : List X) → All (λ y. p y ≡ true) ys → runs_between p (xs ++ ys)
    ≡ runs_between p xs
runs_before p xs [] all = ap (runs_between p) (append-nil xs)
runs_before p xs (y ∷ ys) all =
    runs_apart p xs y ys (All-head (λ z. p z ≡ true) y ys all)
    ∙ ap (λ rs. runs_between p xs ++ rs) (runs_none p ys (All-tail (λ z. p z ≡ true) y ys all))
    ∙ append-nil (runs_between p xs)

-- blank lines in front
pub blank_front : (blank input : List ℕ) → All (λ piece. is_blank piece ≡ true) (pieces_of blank) →
    blocks_of (blank ++ 10 ∷ input) ≡ blocks_of input
blank_front blank input all = ap (runs_between is_blank) (pieces_apart blank input)
    ∙ runs_behind is_blank (pieces_of blank) (pieces_of input) all

-- blank lines at the end
pub blank_end : (input blank : List ℕ) → All (λ piece. is_blank piece ≡ true) (pieces_of blank) →
    blocks_of (input ++ 10 ∷ blank) ≡ blocks_of input
blank_end input blank all = ap (runs_between is_blank) (pieces_apart input blank)
    ∙ runs_before is_blank (pieces_of input) (pieces_of blank) all

-- a blank line between
pub blank_between : (front back : List ℕ) → blocks_of (front ++ 10 ∷ 10 ∷ back) ≡ blocks_of front ++ blocks_of back
blank_between front back =
    ap (runs_between is_blank) (pieces_apart front (10 ∷ back)
    ∙ ap (λ ps. pieces_of front ++ ps) (pieces_apart [] back))
    ∙ runs_apart is_blank (pieces_of front) [] (pieces_of back) refl
