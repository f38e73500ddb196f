-- Each turn writes into one row, and into no other.
use Rattle.std.proofs.Common.{arith, ◌≡◌, ◌≤◌, ℕ, ◌+◌, ◌-◌, ◌*◌, ◌++◌, ◌∙◌, List, ap, drop, inl, inr, length}
use Rattle.std.proofs.Common.{length-drop, sym, take}
use Rattle.std.proofs.lemmas.Bool.{cases_lt}
use Rattle.std.proofs.lemmas.List.{drop-take, length-take-le, take-take}
use Rattle.std.proofs.lemmas.Slice.{drop-put_mid, take-put_mid, take-put_mid_below}
use Rattle.std.proofs.Math.Nat.{mul-le-mul_right}
use Rattle.p3_support.proofs.RowReads.{joined_back}
use Rattle.p3_support.specs.Inner.RowLengths.{next_start}
use Rattle.p3_merkle_hashing.proofs.rows.write_columns.Goals as goal
use borrow.Rule.Slice.PartMut.{put_mid, same_len_mid}

-- the part that is written, once it is
part_now : {X : Type 0} (b k : ℕ) (xs ys : List X) → length ys ≡ k → b ≤ length xs → take k (drop b (put_mid b k xs ys))
    ≡ ys
part_now b k xs ys same before =
    let none : b - b ≡ 0 = omega arith in
    sym (drop-take b k (put_mid b k xs ys))
    ∙ ap (drop b) (take-put_mid b k xs ys (b + k) (omega (arith, same)) before)
    ∙ joined_back (take b xs) ys b b (length-take-le b xs before) (omega arith)
    ∙ ap (λ i. drop i ys) none

pub loop-j-preserved : goal.loop-j-preserved
loop-j-preserved g c =
    let m = c.args.matrix.now in
    let w : ℕ = g.M.Matrix.width_of m in
    let len = c.args.len in
    let start = c.args.start in
    let j = c.loop-j.j in
    let out = c.loop-j.out in
    let ys = c.write_row.new.out in
    let b : ℕ = j * len in
    let k : ℕ = (j + 1) * len - b in
    let n : ℕ = start + c.width.result - start in
    let old = take k (drop b out) in
    let zs = put_mid start n old ys in
    let fits = c.requires.fits in
    let next = next_start j len in
    let one : k ≡ len = omega (arith, next) in
    let most : (j + 1) * len ≤ c.args.count * len = mul-le-mul_right len (omega (arith, c.loop-j-test.true)) in
    let long = c.loop-j.invariant.long in
    let inside : b + len ≤ length out = omega (arith, most, next, long, c.requires.long) in
    let before : b ≤ length out = omega (arith, inside) in
    let whole : length old ≡ k = length-take-le k (drop b out) (omega (arith, one, inside, length-drop b out)) in
    let same : length ys ≡ w =
    ap length c.write_row.ensures
    ∙ g.met.M.Matrix.length_row_of m (c.args.first + j) (omega (arith, c.loop-j-test.true, c.requires.inside)) in
    let some : length (take n (drop start old)) ≡ w =
    length-take-le n (drop start old) (omega (arith, c.width.ensures, whole, one, fits, length-drop start old))
    ∙ omega (arith, c.width.ensures) in
    let made : length zs ≡ k = same_len_mid start n old ys (same ∙ sym some) ∙ whole in
    record {
      long = same_len_mid b k out zs (made ∙ sym whole) ∙ long;
      written = λ i below. elim (cases_lt i j) [
        | inl low ↦
            let past : (i + 1) * len ≤ j * len = mul-le-mul_right len (omega (arith, low)) in
            let step = next_start i len in
            sym (drop-take (i * len) (start + w) (put_mid b k out zs))
            ∙ ap (drop (i * len))
            (take-put_mid_below b k out zs (i * len + (start + w)) (omega (arith, past, step, fits)) before)
            ∙ drop-take (i * len) (start + w) out
            ∙ c.loop-j.invariant.written i low
        | inr high ↦
            let here : i ≡ j = omega (arith, high, below) in
            rw here (sym (take-take (start + w) k (drop b (put_mid b k out zs)) (omega (arith, one, fits)))
            ∙ ap (take (start + w)) (part_now b k out zs made before)
            ∙ take-put_mid start n old ys (start + w) (omega (arith, same)) (omega (arith, whole, one, fits))
            ∙ ap (λ l. l ++ ys)
            (take-take start k (drop b out) (omega (arith, one, fits))
            ∙ ap (take start) (c.loop-j.invariant.left j (omega arith)))
            ∙ ap (λ l. take start (drop b c.args.out.now) ++ l) c.write_row.ensures)
      ];
      left = λ i above.
          let past : (j + 1) * len ≤ i * len = mul-le-mul_right len above in
          drop-put_mid b k out zs (i * len) (omega (arith, past, next, one)) before made
          ∙ c.loop-j.invariant.left i (omega (arith, above));
    }
