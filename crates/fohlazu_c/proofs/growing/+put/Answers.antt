use Rattle.std.proofs.Common.{◌≡◌, ◌-◌, ◌<◌, ◌/◌, ◌%◌, [], arith, refl}
use Rattle.std.specs.Prelude.{count_ones, slice_index_or}
use Rattle.sha2.specs.Sha256.{sha256}
use lib.Count.{ones_step}
use Rattle.fohlazu_c.proofs.FrontierFacts.{ones_above, ones_even, put_even, put_odd}
use Rattle.fohlazu_c.proofs.growing.+put.Goals as goal

pub bounds-digests-count : goal.bounds-digests-count
bounds-digests-count t c =
    let even : c.args.size % 2 ≡ 0 = omega (arith, c.if-size-eq0.true) in
    omega (arith, ones_even c.args.size even, c.requires.after)

pub returns-then-size-eq0-clause-whole : goal.returns-then-size-eq0-clause-whole
returns-then-size-eq0-clause-whole t c = λ layer long are.
    put_even sha256 layer c.args.digests.now c.args.node.now c.args.size (omega (arith, c.if-size-eq0.true)) long
    c.requires.after are

pub overflow_sub-count : goal.overflow_sub-count
overflow_sub-count t c = omega (arith, ones_step c.args.size, c.if-size-eq0.false)

pub bounds-digests-count-2 : goal.bounds-digests-count-2
bounds-digests-count-2 t c = omega (arith, ones_step c.args.size, c.if-size-eq0.false, c.requires.before)

pub put-requires : goal.put-requires
put-requires t c =
    let odd : c.args.size % 2 ≡ 1 = omega (arith, c.if-size-eq0.false) in
    let less : c.args.size / 2 < c.args.size = omega (arith, odd) in (
      omega (arith, less, c.decreases),
      (
        omega (arith, ones_step c.args.size, c.requires.before),
        omega (arith, ones_above c.args.size odd, c.requires.after),
      ),
    )

pub returns-clause-whole : goal.returns-clause-whole
returns-clause-whole t c = λ layer long are.
    put_odd sha256 layer c.args.digests.now c.put.new.digests
    (slice_index_or c.args.digests.now (count_ones c.args.size - 1) []) c.args.node.now c.node_hash-parent.result []
    c.args.size (omega (arith, c.if-size-eq0.false)) long c.requires.before are refl c.node_hash-parent.ensures
    c.put.ensures.whole
