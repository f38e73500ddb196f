-- A width divides a number of values exactly if dividing leaves nothing over.
use Rattle.std.proofs.Common.{rules, arith, ◌≡◌, ◌≢◌, ◌∙◌, ◌/◌, ◌%◌, ap, length}
use Rattle.std.proofs.lemmas.Nat.{div-add-mod'}
use Rattle.std.proofs.Math.Nat.{mul-mod_left}
use Rattle.p3_support.proofs.matrix.RowMajorMatrix.try_new.Goals as goal

pub returns-then-not-is_multiple_of-clause-divides : goal.returns-then-not-is_multiple_of-clause-divides
returns-then-not-is_multiple_of-clause-divides g c =
    let some_left : length c.args.values.items % c.args.width ≢ 0 = search rules in (
      λ no. search rules,
      λ rows. absurd (some_left (ap (λ n. n % c.args.width) rows.1 ∙ mul-mod_left rows.0 c.args.width)),
    )

pub new-requires : goal.new-requires
new-requires g c =
    let n = length c.args.values.items in
    let none_left : n % c.args.width ≡ 0 = search rules in
    record { divides = (n / c.args.width, omega (arith, none_left, div-add-mod' n c.args.width)) }
