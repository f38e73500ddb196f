-- Bytes that are cut into rows, and rows that lie one after another.
use Rattle.std.proofs.Common.{◌≡◌, ◌∙◌, ◌+◌, ◌<◌, ◌≤◌, ℕ, suc, List, [], ◌∷◌, Some, ap, arith, drop, length}
use Rattle.std.proofs.Common.{length-drop}
use Rattle.std.proofs.Common.{map, min, refl, sym, take}
use Rattle.std.specs.Prelude.{sum_by}
use Rattle.std.proofs.lemmas.Bool.{ne_eqb}
use Rattle.std.proofs.lemmas.List.{drop_all, drop_min, length-map, take_all, take_min}
use Rattle.std.proofs.lemmas.List.Sums.{sum_by-cons}
use Rattle.p3_support.specs.Batches.{widths_of}
use Rattle.p3_support.specs.Rows.{flat_rows, rows_in_parts, whole}
use Rattle.p3_support.proofs.RowFacts.{whole_in_parts}
use Rattle.p3_merkle_core.specs.Checks.{Params}
use Rattle.p3_merkle_core.specs.Openings.{Opening}
use Rattle.p3_merkle_core.specs.declared.error.MerkleTreeError.TheVariants.{WrongBatchSize}
use Rattle.fohlazu_c.specs.Openings.{cut_rows, refusal_at, size_shown}
use Rattle.fohlazu_c.specs.declared.setting.MatrixSize.{MatrixSize}

abbrev width_of : MatrixSize → ℕ
width_of size = size.width

abbrev widths : List MatrixSize → List ℕ
widths sizes = widths_of (map size_shown sizes)

-- no more bytes than all widths together lie as the rows that they are cut into
flat_is_cut : (sizes : List MatrixSize) (bytes : List ℕ) → length bytes ≤ sum_by width_of sizes →
    flat_rows (widths sizes) bytes ≡ cut_rows (widths sizes) bytes
unfolding cut_rows flat_rows
flat_is_cut [] [] fit = refl
flat_is_cut [] (b ∷ bytes) fit = absurd (omega (arith, fit))
flat_is_cut (s ∷ []) bytes fit =
    let short : length bytes ≤ s.width = omega (arith, fit, sum_by-cons width_of s []) in
    ap (λ row. row ∷ []) (take_all (length bytes) bytes (omega arith) ∙ sym (take_all s.width bytes short))
    ∙ ap (λ left. take s.width bytes ∷ cut_rows [] left) (sym (drop_all s.width bytes short))
flat_is_cut (s ∷ t ∷ sizes) bytes fit =
    let m = min s.width (length bytes) in
    ap (λ row. row ∷ flat_rows (widths (t ∷ sizes)) (drop m bytes)) (take_min s.width bytes)
    ∙ ap (λ left. take s.width bytes ∷ flat_rows (widths (t ∷ sizes)) left) (drop_min s.width bytes)
    ∙ ap (λ rows. take s.width bytes ∷ rows) (flat_is_cut (t ∷ sizes) (drop s.width bytes)
    (omega (arith, fit, length-drop s.width bytes, sum_by-cons width_of s (t ∷ sizes))))

pub rows_cut : (sizes : List MatrixSize) (bytes : List ℕ) → length bytes ≤ sum_by width_of sizes →
    rows_in_parts (whole (flat_rows (widths sizes) bytes)) ≡ cut_rows (widths sizes) bytes
rows_cut sizes bytes fit = whole_in_parts (flat_rows (widths sizes) bytes) ∙ flat_is_cut sizes bytes fit

-- of more bytes a row is too many
cut_longer : (sizes : List MatrixSize) (bytes : List ℕ) → sum_by width_of sizes < length bytes →
    length (cut_rows (widths sizes) bytes) ≡ suc (length sizes)
unfolding cut_rows
cut_longer [] [] more = absurd (omega (arith, more))
cut_longer [] (b ∷ bytes) more = refl
cut_longer (s ∷ sizes) bytes more =
    ap suc (cut_longer sizes (drop s.width bytes)
    (omega (arith, more, length-drop s.width bytes, sum_by-cons width_of s sizes)))

-- so the opening is refused
pub longer_refused : (c : Params ℕ ℕ) (roots : List (List ℕ)) (o : Opening ℕ ℕ) (sizes : List MatrixSize)
    (bytes : List ℕ) → sum_by width_of sizes < length bytes → c.shape.dimensions ≡ map size_shown sizes →
    o.rows ≡ cut_rows (widths sizes) bytes →
    refusal_at c roots o ≡ Some (WrongBatchSize (length sizes) (length sizes + 1))
longer_refused c roots o sizes bytes more dimensions rows =
    let n = length sizes in
    let wanted : length c.shape.dimensions ≡ n = ap length dimensions ∙ length-map sizes size_shown in
    let got : length o.rows ≡ n + 1 = omega (arith, ap length rows, cut_longer sizes bytes more) in
    rw (wanted, got, ne_eqb n (n + 1) (λ same. absurd (omega (arith, same)))) refl
