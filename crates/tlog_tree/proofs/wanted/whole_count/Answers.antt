use Rattle.std.proofs.Common.{arith, sym, ◌^◌, ◌<◌, ◌≤◌}
use Rattle.std.proofs.Math.Nat.{div-eq_of_lt, pow-le-pow_right}
use Rattle.tlog_tree.proofs.wanted.whole_count.Goals as goal

pub returns-else-layer-lt64 : goal.returns-else-layer-lt64
returns-else-layer-lt64 c =
    let two : 0 < 2 = omega arith in
    let deep : 64 ≤ c.args.layer = omega arith in
    let high : 2 ^ 64 ≤ 2 ^ c.args.layer = pow-le-pow_right two deep in
    let below : c.args.size < 2 ^ c.args.layer = omega arith in
    sym (div-eq_of_lt below)
