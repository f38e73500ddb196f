use Rattle.std.proofs.Common.{◌+◌, [], ap, arith, sym}
use Rattle.sha2.specs.Sha256.{sha256}
use Rattle.fohlazu_c.proofs.FrontierFacts.{few_ones, whole_first}
use Rattle.fohlazu_c.proofs.growing.fohlazu_log_push.Goals as goal

pub put-requires-clause-before : goal.put-requires-clause-before
put-requires-clause-before c =
    omega (arith, few_ones c.args.frontier.now.size (omega (arith, c.if-size-ge-SIZE_LIMIT.false)))

pub put-requires-clause-after : goal.put-requires-clause-after
put-requires-clause-after c =
    omega (arith, few_ones (c.args.frontier.now.size + 1) (omega (arith, c.if-size-ge-SIZE_LIMIT.false)))

pub returns-clause-first : goal.returns-clause-first
returns-clause-first c = λ none. record {
  size = ap (λ n. n + 1) none;
  nodes = c.put.ensures.whole [] (sym none)
      (whole_first sha256 c.args.frontier.now.digests c.args.frontier.now.size none);
}
