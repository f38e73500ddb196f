-- The height is the number of values divided by the width, and the values fill as many rows.
use Rattle.std.proofs.Common.{rules, ◌≡◌, ◌*◌, ◌/◌, ◌∙◌, ap, sym, refl, length}
use Rattle.std.proofs.Math.Nat.{mul-div_cancel, mul-zero}
use Rattle.p3_support.proofs.matrix.RowMajorMatrix.new.Goals.{then-width-eq0, else-width-eq0}
use Rattle.p3_support.proofs.matrix.RowMajorMatrix.new.Goals as goal

pub invariant_of-result : goal.invariant_of-result
invariant_of-result g c =
    let n = length c.args.values.items in
    let rows = c.requires.divides in
    elim c.if-width-eq0.branch [
      | then-width-eq0 w ↦ record {
        full = rows.1 ∙ rw (w.if-width-eq0.true, w.height-is, mul-zero rows.0) refl;
        width_fits = search rules;
        no_width = λ none. w.height-is;
      }
      | else-width-eq0 w ↦
          let count : n / c.args.width ≡ rows.0 = rw rows.1 (mul-div_cancel rows.0 (search rules)) in
          let height : c.if-width-eq0.height ≡ n / c.args.width = search rules in
          record {
            full = rows.1 ∙ ap (λ v. v * c.args.width) (sym (height ∙ count));
            width_fits = search rules;
            no_width = λ none. absurd (w.if-width-eq0.false none);
          }
    ]
