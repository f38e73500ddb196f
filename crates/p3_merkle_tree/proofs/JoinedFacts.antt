-- Rows followed by their salts tell both.
use Rattle.std.proofs.Common.{◌≡◌, ◌∙◌, ℕ, List, [], ◌++◌, ap, drop, length, map, refl, sym, take}
use Rattle.std.proofs.Math.ListN.{get_or-map}
use Rattle.std.proofs.lemmas.List.{drop_at, ext_get_or, length-map, take_at}
use Rattle.std.specs.Prelude.{slice_index_or}
use Rattle.p3_merkle_tree.specs.Inner.SaltedCommitmentLaws.{pair_at}
use Rattle.p3_merkle_tree.specs.SaltedOpenings.{salted_rows}

-- of equal joined lists whose fronts are equally long, the fronts are equal, and the rests
pub front_same : {T : Type 0} (x y v w : List T) → length x ≡ length v → x ++ y ≡ v ++ w → x ≡ v
front_same x y v w long same = sym (take_at x y (length v) long) ∙ ap (take (length v)) same ∙ take_at v w _ refl

pub rest_same : {T : Type 0} (x y v w : List T) → length x ≡ length v → x ++ y ≡ v ++ w → y ≡ w
rest_same x y v w long same = sym (drop_at x y (length v) long) ∙ ap (drop (length v)) same ∙ drop_at v w _ refl

-- the row of a place followed by its salts
pub joined_at : {T : Type 0} (rows salts : List (List T)) (k : ℕ) → length salts ≡ length rows →
    slice_index_or (salted_rows rows salts) k [] ≡ slice_index_or rows k [] ++ slice_index_or salts k []
joined_at rows salts k a = pair_at (λ (row, salt). row ++ salt) rows salts k [] [] a

-- so the rows and the salts of a place are equal, where the rows followed by their salts are
pub parts_same : {T : Type 0} (rows salts others other_salts : List (List T)) (k : ℕ) → length salts ≡ length rows →
    length other_salts ≡ length others → map length rows ≡ map length others →
    slice_index_or (salted_rows rows salts) k [] ≡ slice_index_or (salted_rows others other_salts) k [] →
    (slice_index_or rows k [] ≡ slice_index_or others k []) ×
    (slice_index_or salts k [] ≡ slice_index_or other_salts k [])
parts_same rows salts others other_salts k a b long same =
    let joined = sym (joined_at rows salts k a) ∙ same ∙ joined_at others other_salts k b in
    let fits = sym (get_or-map length rows k []) ∙ ap (λ ns. slice_index_or ns k 0) long
    ∙ get_or-map length others k [] in
    (front_same _ _ _ _ fits joined, rest_same _ _ _ _ fits joined)

-- rows of the same lengths and their salts are equal, where the rows followed by their salts are
pub parts_alike : {T : Type 0} (rows salts others other_salts : List (List T)) → length salts ≡ length rows →
    length other_salts ≡ length others → map length rows ≡ map length others →
    salted_rows rows salts ≡ salted_rows others other_salts → (rows ≡ others) × (salts ≡ other_salts)
parts_alike rows salts others other_salts a b long same =
    let many : length rows ≡ length others =
    sym (length-map rows length) ∙ ap length long ∙ length-map others length in
    let parts = λ (k : ℕ). parts_same rows salts others other_salts k a b long (λ i. slice_index_or (same i) k []) in (
      ext_get_or [] rows others many (λ k inside. (parts k).0),
      ext_get_or [] salts other_salts (a ∙ many ∙ sym b) (λ k inside. (parts k).1),
    )
