-- An input that is too long.
use Rattle.std.proofs.Common.{arith, inr}
use Rattle.fohlazu_commands.proofs.RunFacts.{read_long}
use Rattle.fohlazu_commands.proofs.inputs.read_limited.Goals as goal

pub returns-then-len-limit-clause-failed : goal.returns-then-len-limit-clause-failed
returns-then-len-limit-clause-failed g c =
    inr (read_long c.args.source (g.R.Read.remaining c.args.input.now) c.in-Ok.bytes.items c.args.limit
    c.in-Ok.ensures.read (omega (arith, c.if-len-limit.true)))
