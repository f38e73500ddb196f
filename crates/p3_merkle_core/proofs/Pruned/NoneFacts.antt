-- What it says that indices, or the widths of rows, are not refused.
use Rattle.std.proofs.Common.{◌≡◌, ℕ, ◌+◌, ◌<◌, eqb, nat_lt, List, [], ◌∷◌, map, refl}
use Rattle.std.proofs.Common.{arith, length, All, None, zip}
use Rattle.std.proofs.lemmas.Grind.{common_steps}
use Rattle.std.proofs.lemmas.Bool.{eqb-true, ltb-true}
use Rattle.std.proofs.lemmas.List.{get_or_default, length-map}
use Rattle.std.specs.List.{enumerate_from}
use Rattle.p3_support.specs.declared.matrix.Dimensions.{Dimensions}
use Rattle.p3_support.specs.Batches.{greatest, widths_of}
use Rattle.p3_merkle_core.specs.Refusals.{width_refusal, row_width_refusal, queries_refusal}
use Rattle.p3_answers.specs.Answers.{first_of, unless}
use Rattle.p3_answers.proofs.AnswerFacts.{none_parts, unless_none}
use Rattle.p3_merkle_core.specs.Refusals.{in_usize, width_fault}
use Rattle.p3_merkle_core.specs.declared.error.MerkleTreeError.TheVariants.{WrongWidth, IndexOutOfBounds}
use Rattle.p3_merkle_core.proofs.Shapes.LeastFacts.{le_tallest}

-- ---- indices, widths

pub below_from : (m : ℕ) (indices : List ℕ) → queries_refusal m indices ≡ None → All (λ i. i < m) indices
below_from m indices e k d h =
    let top = ltb-true (greatest indices) m
    (unless_none (nat_lt (greatest indices) m) (IndexOutOfBounds m (greatest indices)) e) in
    omega (arith, le_tallest indices k, get_or_default indices k d 0 h)

each_fits : {T : Type 0} (n : ℕ) (widths : List ℕ) (rows : List (List T)) → length widths ≡ length rows →
    first_of width_fault (enumerate_from n (zip widths rows)) ≡ None → map length rows ≡ widths
each_fits n [] [] same e = refl
each_fits n [] (r ∷ rows) same e = absurd (omega arith)
each_fits n (w ∷ widths) [] same e = absurd (omega arith)
each_fits n (w ∷ widths) (r ∷ rows) same e =
    let both = none_parts (unless (eqb w (length r)) (WrongWidth n w (in_usize (length r))))
    (first_of width_fault (enumerate_from (n + 1) (zip widths rows))) e in
    let here = eqb-true w (length r) (unless_none (eqb w (length r)) (WrongWidth n w (in_usize (length r))) both.0) in
    let rest = each_fits (n + 1) widths rows (omega arith) both.1 in
    rw (rest, ← here) refl

pub rows_fit_from : {T : Type 0} (widths : List ℕ) (rows : List (List T)) → length widths ≡ length rows →
    row_width_refusal widths rows ≡ None → map length rows ≡ widths
rows_fit_from widths rows = each_fits 0 widths rows

pub fit_from : {T : Type 0} (dimensions : List Dimensions) (rows : List (List T)) → width_refusal dimensions rows
    ≡ None → map length rows ≡ widths_of dimensions
fit_from dimensions rows e = grind (arith, common_steps, eqb-true, length-map, none_parts, unless_none, each_fits)
