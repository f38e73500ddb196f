-- The piece has the rows of all lanes.
use Rattle.std.proofs.Common.{arith, ◌≡◌, ℕ, ◌+◌, ◌*◌, ◌/◌, ◌<◌, ◌≤◌, ap, length, sym}
use Rattle.std.specs.Prelude.{slice_get, Some}
use Rattle.std.proofs.lemmas.Option.{slice_get_within, get_or_from_slice_get}
use Rattle.std.proofs.Math.Nat.{le-div_iff_mul-le, mul-le-mul_right, mul_comm}
use Rattle.p3_support.specs.Inner.RowLengths.{next_start}
use Rattle.p3_support.proofs.RowReads.{stored_at}
use Rattle.p3_support.proofs.rows.stored_rows.Goals as goal

-- element c of row k of n is within n times w elements
in_piece : (k n w c len : ℕ) → k < n → c < w → w ≤ len / n → k * w + c < len
in_piece k n w c len below inside fits =
    let all : w * n ≤ len = (le-div_iff_mul-le (omega (arith, below))).0 fits in
    let next : (k + 1) * w ≤ n * w = mul-le-mul_right w (omega (arith, below)) in
    omega (arith, all, next, next_start k w, mul_comm n w, inside)

pub returns : goal.returns
returns g c =
    let ms = c.args.matrices.now in
    let m = c.in_ok-first.first.now in
    let row = g.M.Matrix.row_of m in
    let width = g.M.Matrix.width_of m in
    let piece = c.piece-piece.result.now in
    let at : slice_get ms 0 ≡ Some m = sym c.in_ok-first.ensures.value in
    let tall = rw (get_or_from_slice_get ms 0 m m at) at (c.requires 0 m (slice_get_within ms 0 m at)) in
    let width_fits : width ≤ length piece / g.P.PackedValue.WIDTH =
    omega (arith, c.width.ensures, ap (λ n. length piece / n) c.WIDTH-2.ensures, c.if-width-piece.false) in (
      omega (arith, c.WIDTH.ensures, c.if-WIDTH-eq0.false),
      rw at (λ k column below inside.
          let some = in_piece k g.P.PackedValue.WIDTH width column (length piece) below inside width_fits in (
            some,
            λ d. stored_at row width (g.M.Matrix.height_of m) c.args.row k column d piece
                (g.met.M.Matrix.length_row_of m) (omega (arith, below, tall)) inside c.piece-piece.ensures some,
          )),
    )
