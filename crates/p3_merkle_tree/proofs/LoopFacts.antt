-- Loops over a slice that make a value of each item.
use Rattle.std.proofs.Common.{◌≡◌, ◌∙◌, ℕ, ◌+◌, ◌<◌, ◌≤◌, List, [], ◌∷◌, ◌++◌, ap, sym, get_or, length, map, take}
use Rattle.std.proofs.lemmas.List.{map-append, map_more, take_all}
use Rattle.std.specs.Prelude.{Ok, Err, IfOk, IsErr, Result}

-- what is made of one more item joins what is made of those before it
pub made_more : {X Y : Type 0} (f : X → Y) (xs : List X) (i : ℕ) (x : X) (y : Y) (done more : List Y) → i < length xs →
    x ≡ get_or xs i x → y ≡ f x → more ≡ done ++ y ∷ [] → done ≡ map f (take i xs) → more ≡ map f (take (i + 1) xs)
made_more f xs i x y done more inside is made pushed before = pushed ∙ (λ j. before j ++ (made ∙ ap f is) j ∷ [])
    ∙ sym (map_more f xs i x inside)

-- the same of what is shown of it
pub shown_more : {X Y Z : Type 0} (g : Y → Z) (f : X → Z) (xs : List X) (i : ℕ) (x : X) (y : Y) (done more : List Y) →
    i < length xs → x ≡ get_or xs i x → g y ≡ f x → more ≡ done ++ y ∷ [] → map g done ≡ map f (take i xs) → map g more
    ≡ map f (take (i + 1) xs)
shown_more g f xs i x y done more inside is made pushed before =
    made_more f xs i x (g y) (map g done) (map g more) inside is made (ap (map g) pushed ∙ map-append g done (y ∷ []))
    before

-- at the end it is made of all
pub made_all : {X Y : Type 0} (f : X → Y) (xs : List X) (i : ℕ) (done : List Y) → length xs ≤ i → done
    ≡ map f (take i xs) → done ≡ map f xs
made_all f xs i done end before = before ∙ ap (map f) (take_all i xs end)

-- one more where the item is a copy
pub made_next : {X Y : Type 0} (f : X → Y) (xs : List X) (i : ℕ) (d : X) (done more : List Y) → i < length xs → more
    ≡ done ++ f (get_or xs i d) ∷ [] → done ≡ map f (take i xs) → more ≡ map f (take (i + 1) xs)
made_next f xs i d done more inside pushed before = pushed ∙ ap (λ (z : List _). z ++ f (get_or xs i d) ∷ []) before
    ∙ sym (map_more f xs i d inside)

-- an error has no value
pub no_value : {A E : Type 0} (r : Result A E) (P : A → Type 0) → IsErr r → IfOk r P
no_value (Ok v) P err = absurd cc
no_value (Err e) P err = tt
