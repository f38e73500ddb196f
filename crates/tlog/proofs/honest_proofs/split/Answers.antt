-- The power of two by the logarithm is the largest one below the number.
use Rattle.std.proofs.Common.{◌≡◌, ◌*◌, ◌%◌, ◌^◌, ◌∙◌, arith}
use Rattle.tlog.specs.Rfc9162.{split}
use Rattle.tlog.proofs.Splits.{split_by_power, split_is}
use Rattle.tlog.proofs.honest_proofs.split.Goals as goal

value : (c : goal.After-ilog2) → 1 * 2 ^ c.ilog2.result % 2 ^ 64 ≡ split c.args.n
value c =
    let low = c.ilog2.ensures.power_le in
    let fits : 1 * 2 ^ c.ilog2.result % 2 ^ 64 ≡ 2 ^ c.ilog2.result = omega (arith, c.ranges.n) in
    fits ∙ split_by_power c.args.n c.ilog2.result c.requires low c.ilog2.ensures.next_power_gt

pub returns-clause-value : goal.returns-clause-value
returns-clause-value c = value c

pub returns-clause-some : goal.returns-clause-some
returns-clause-some c = let e = value c in let s = (split_is c.args.n c.requires).some in omega arith

pub returns-clause-below : goal.returns-clause-below
returns-clause-below c = let e = value c in let s = (split_is c.args.n c.requires).below in omega arith
