-- All values are drawn; nothing is drawn where it fails.
use Rattle.std.proofs.Common.{rules, arith, ◌≡◌, ◌*◌, ◌^◌, ◌++◌, ◌∙◌, sym, ap, length}
use Rattle.std.proofs.lemmas.Result.{err_from_is_err_and}
use Rattle.p3_support.specs.Salts.{salts}
use Rattle.p3_support.proofs.Draws.{drawn_more, product_made, same_rows}
use Rattle.p3_support.proofs.matrix.RowMajorMatrix.rand.Goals as goal

pub new-requires : goal.new-requires
new-requires g c =
    let product = c.args.rows * c.args.cols in
    let made = product_made c.checked_mul.result product (2 ^ 64) c.in_ok-count.count c.checked_mul.ensures
    c.in_ok-count.ensures.ok_part in
    let all = drawn_more {n = product} c.draw_eights.ensures c.draw_each.ensures (omega (arith, made.1)) in
    let long : length c.draw_each.new.values.items ≡ product =
    omega (arith, c.draw_each.new.values.ok.0, all.len, c.in_ok-values.ensures.len) in
    record { divides = (c.args.rows, long) }

pub returns : goal.returns
returns g c =
    let n = c.in_ok-count.count in
    let product = c.args.rows * c.args.cols in
    let start = g.R.Rng.stream c.args.rng.now in
    let made = product_made c.checked_mul.result product (2 ^ 64) n c.checked_mul.ensures
    c.in_ok-count.ensures.ok_part in
    let all = drawn_more {n = product} c.draw_eights.ensures c.draw_each.ensures (omega (arith, made.1)) in
    let long : length c.draw_each.new.values.items ≡ product =
    omega (arith, c.draw_each.new.values.ok.0, all.len, c.in_ok-values.ensures.len) in
    record {
      values = c.new.ensures.values ∙ all.items
          ∙ ap (λ xs. xs ++ salts g.T.SaltWord.of_salt_word product start) c.in_ok-values.ensures.items;
      width = c.new.ensures.width;
      height = λ some. same_rows _ _ c.args.cols some (sym c.new.ensures.height ∙ long);
      no_width = c.new.ensures.no_width;
      generator_after = all.rest;
      too_large = λ large. absurd (omega (arith, large, made.0));
      untouched = tt;
    }

-- the product does not fit
pub returns-in_err-count : goal.returns-in_err-count
returns-in_err-count g c =
    rw (err_from_is_err_and c.from_residual.result c.from_residual.ensures.1).1 (search rules)

-- memory has run out
pub returns-in_err-values : goal.returns-in_err-values
returns-in_err-values g c =
    rw (err_from_is_err_and c.from_residual-in_err-values.result c.from_residual-in_err-values.ensures.1).1
    (search rules)
