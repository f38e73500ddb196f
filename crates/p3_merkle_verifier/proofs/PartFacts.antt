-- The parts of rows, one after another, are the words of these rows.
use Rattle.std.proofs.Common.{◌≡◌, ℕ, List, [], ◌∷◌, ◌++◌, Bool, true, false, cond, eqb, refl, ap, sym, ◌∙◌, zip}
use Rattle.std.proofs.lemmas.List.{append_assoc}
use Rattle.std.specs.List.{filter, flat_map}
use Rattle.p3_support.specs.Rows.{rows_in_parts}
use Rattle.p3_merkle_core.specs.{Geometry.exponent, Checks.words_of_exponent}
use Rattle.p3_merkle_verifier.specs.Inner.Parts.{ahead, parts_of_exponent}

-- the words of parts
abbrev flat : {T : Type 0} → List (List T) → List T
flat parts = flat_map (λ part. part) parts

-- the words of rows with heights
abbrev words : {T : Type 0} → List (ℕ × List T) → List T
words pairs = flat_map (λ (h, row). row) pairs

-- a part without words adds none
flat_ahead : {T : Type 0} (part : List T) (others : List (List T)) → flat (ahead part others) ≡ part ++ flat others
flat_ahead [] others = refl
flat_ahead (word ∷ part) others = refl

-- one row, which is of the exponent or not
one_row : {T : Type 0} (b : Bool) (h : ℕ) (part : List T × List T) (others : List (List T)) (pairs : List
    (ℕ × List T)) →
    flat others ≡ words pairs →
    flat (cond b (part.0 ∷ ahead part.1 others) others) ≡ words (cond b ((h, part.0 ++ part.1) ∷ pairs) pairs)
one_row true h part others pairs rest =
    ap (λ more. part.0 ++ more) (flat_ahead part.1 others ∙ ap (λ more. part.1 ++ more) rest)
    ∙ sym (append_assoc part.0 part.1 (words pairs))
one_row false h part others pairs rest = rest

pub words_of_parts : {T : Type 0} (x : ℕ) (hs : List ℕ) (parts : List (List T × List T)) →
    flat (parts_of_exponent x hs parts) ≡ words_of_exponent x (zip hs (rows_in_parts parts))
unfolding parts_of_exponent
words_of_parts x [] parts = refl
words_of_parts x (h ∷ hs) [] = refl
words_of_parts x (h ∷ hs) (part ∷ parts) =
    one_row (eqb (exponent h) x) h part (parts_of_exponent x hs parts)
    (filter (λ (h, row). eqb (exponent h) x) (zip hs (rows_in_parts parts))) (words_of_parts x hs parts)
