-- Rows that lie one after another.
use Rattle.std.proofs.Common.{◌≡◌, ℕ, suc, List, [], ◌∷◌, ap, refl, length, drop}
use Rattle.p3_support.specs.Rows.{first_len, flat_rows}

-- there is one for each width
pub length-flat_rows : {T : Type 0} (widths : List ℕ) (words : List T) →
    length (flat_rows widths words) ≡ length widths
unfolding flat_rows
length-flat_rows [] words = refl
length-flat_rows (w ∷ widths) words =
    ap suc (length-flat_rows widths (drop (first_len w widths (length words)) words))
