-- Digests of 32 bytes are read off the bytes in which they stand one after another.
use Rattle.std.proofs.Common.{◌≡◌, ℕ, refl, List, [], ◌∷◌, ◌∙◌, sym, ap, length, take, drop, arith}
use Rattle.std.proofs.lemmas.List.{drop_at, take_at}
use Rattle.std.proofs.lemmas.List.Elements.{All-tail}
use Rattle.std.specs.List.{concat}
use Rattle.p3_hashes.specs.Laws.{AreDigests}

pub concat_injective : (xs ys : List (List ℕ)) → length xs ≡ length ys → AreDigests xs → AreDigests ys
    → concat xs ≡ concat ys → xs ≡ ys
concat_injective [] [] long first second same = refl
concat_injective [] (y ∷ ys) long first second same = absurd (omega (arith, long))
concat_injective (x ∷ xs) [] long first second same = absurd (omega (arith, long))
concat_injective (x ∷ xs) (y ∷ ys) long first second same =
    let of = λ (d : List ℕ). length d ≡ 32 in
    let one : length x ≡ 32 = first 0 [] (omega arith) in
    let other : length y ≡ 32 = second 0 [] (omega arith) in
    let head : x ≡ y = sym (take_at x (concat xs) 32 one) ∙ ap (take 32) same ∙ take_at y (concat ys) 32 other in
    let rest : concat xs ≡ concat ys =
    sym (drop_at x (concat xs) 32 one) ∙ ap (drop 32) same ∙ drop_at y (concat ys) 32 other in
    let tails : xs ≡ ys = concat_injective xs ys (omega (arith, long)) (All-tail of x xs first)
    (All-tail of y ys second) rest in
    ap (λ (d : List ℕ). d ∷ xs) head ∙ ap (λ (l : List (List ℕ)). y ∷ l) tails
