-- Rows in parts, and matrices that are no wider.
use Rattle.std.proofs.Common.{◌≡◌, ◌∙◌, ◌+◌, ◌<◌, Bool, ℕ, List, [], ◌∷◌, ◌++◌, ap, append_assoc, arith, get_or}
use Rattle.std.proofs.Common.{length, refl, sym, zip}
use Rattle.std.specs.Prelude.{◌&&◌}
use Rattle.std.specs.Cmp.Lexicographic.{pointwise}
use Rattle.std.proofs.Math.Bool.{and_assoc}
use Rattle.std.proofs.lemmas.List.{append-nil, get_or-map, length-map}
use Rattle.std.proofs.lemmas.Slice.Zip.{get_or-zip, length-zip}
use Rattle.p3_support.specs.declared.matrix.Dimensions.{Dimensions}
use Rattle.p3_support.specs.Batches.{widened}
use Rattle.p3_support.specs.Rows.{rows_in_parts, whole}

-- rows in one piece are these rows
pub whole_in_parts : {T : Type 0} (rows : List (List T)) → rows_in_parts (whole rows) ≡ rows
whole_in_parts [] = refl
whole_in_parts (row ∷ rows) = λ i. append-nil row i ∷ whole_in_parts rows i

-- no more columns
pub widened_none : (dimensions : List Dimensions) → widened 0 dimensions ≡ dimensions
widened_none [] = refl
widened_none (d ∷ dimensions) =
    let same : d.width + 0 ≡ d.width = omega arith in
    λ i. record { width = same i; height = d.height } ∷ widened_none dimensions i

-- ---- rows that are compared in parts

-- what is compared part by part, where the first parts are equally long
pub pointwise-append : {T : Type 0} (eq : T → T → Bool) (xs ys us vs : List T) → length xs ≡ length us →
    pointwise eq (xs ++ ys) (us ++ vs) ≡ (pointwise eq xs us && pointwise eq ys vs)
pointwise-append eq [] ys [] vs same = refl
pointwise-append eq [] ys (u ∷ us) vs same = absurd (omega (arith, same))
pointwise-append eq (x ∷ xs) ys [] vs same = absurd (omega (arith, same))
pointwise-append eq (x ∷ xs) ys (u ∷ us) vs same =
    ap (λ b. eq x u && b) (pointwise-append eq xs ys us vs (omega (arith, same)))
    ∙ sym (and_assoc (eq x u) (pointwise eq xs us) (pointwise eq ys vs))

-- a row is compared with two lists, one after the other, where it is cut at the end of the first
pub cut_compared : {T : Type 0} (eq : T → T → Bool) (row first second front back : List T) → row ≡ front ++ back →
    length front ≡ length first →
    pointwise eq row (first ++ second) ≡ (pointwise eq front first && pointwise eq back second)
cut_compared eq row first second front back cut long =
    ap (λ r. pointwise eq r (first ++ second)) cut ∙ pointwise-append eq front back first second long

-- two rows in parts are compared, where the longer first part is cut at the end of the other
pub longer_second : {T : Type 0} (eq : T → T → Bool) (first second other rest front back : List T) →
    other ≡ front ++ back → length front ≡ length first →
    pointwise eq (first ++ second) (other ++ rest) ≡ (pointwise eq first front && pointwise eq second (back ++ rest))
longer_second eq first second other rest front back cut long =
    ap (λ o. pointwise eq (first ++ second) o) (ap (λ o. o ++ rest) cut ∙ append_assoc front back rest)
    ∙ pointwise-append eq first second front (back ++ rest) (sym long)

pub longer_first : {T : Type 0} (eq : T → T → Bool) (first second other rest front back : List T) →
    first ≡ front ++ back → length front ≡ length other →
    pointwise eq (first ++ second) (other ++ rest) ≡ (pointwise eq front other && pointwise eq (back ++ second) rest)
longer_first eq first second other rest front back cut long =
    ap (λ r. pointwise eq r (other ++ rest)) (ap (λ r. r ++ second) cut ∙ append_assoc front back second)
    ∙ pointwise-append eq front (back ++ second) other rest long

-- ---- one row of several

-- the parts of one of the rows in one piece
pub whole_within : {T : Type 0} (rows : List (List T)) (k : ℕ) → k < length (whole rows) → k < length rows
whole_within {T} rows k inside = omega (arith, inside, length-map {B = List T × List T} rows (λ row. (row, [])))

pub whole_read : {T : Type 0} (rows : List (List T)) (k : ℕ) → k < length (whole rows) →
    get_or (whole rows) k ([], []) ≡ (get_or rows k [], [])
whole_read rows k inside = get_or-map (λ row. (row, [])) rows k [] ([], []) (whole_within rows k inside)

-- the parts of one of the rows that are paired with salts
pub salted_within : {T : Type 0} (rows salts : List (List T)) (k : ℕ) → k < length (zip rows salts) →
    (k < length rows) × (k < length salts)
salted_within rows salts k inside =
    (omega (arith, inside, length-zip rows salts), omega (arith, inside, length-zip rows salts))

pub salted_read : {T : Type 0} (rows salts : List (List T)) (k : ℕ) → k < length (zip rows salts) →
    get_or (zip rows salts) k ([], []) ≡ (get_or rows k [], get_or salts k [])
salted_read rows salts k inside =
    let both = salted_within rows salts k inside in get_or-zip rows salts k ([], []) both.0 both.1
