-- The first element of lists one after another.
use Rattle.std.proofs.Common.{◌≡◌, ℕ, List, [], ◌∷◌, ◌++◌, refl, get_or, slice_get, unwrap_or}
use Rattle.std.specs.Option.{option_or}

-- the first of two lists together is that of the left one, or else that of the right one
pub first_of_both : {A : Type 0} (xs ys : List A) → option_or (slice_get xs 0) (slice_get ys 0) ≡ slice_get (xs ++ ys) 0
first_of_both [] ys = refl
first_of_both (x ∷ xs) ys = refl

-- the first element of a list, or a number where it has none
pub first_or : (xs : List ℕ) (d : ℕ) → unwrap_or (slice_get xs 0) d ≡ get_or xs 0 d
first_or [] d = refl
first_or (x ∷ xs) d = refl
