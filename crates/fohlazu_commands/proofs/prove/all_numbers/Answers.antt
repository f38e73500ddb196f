-- The range from 1 to the size, or to 1 if that is 0: these are all numbers, and all of them are numbers of entries.
use Rattle.std.proofs.Common.{◌≡◌, ◌+◌, arith, max, subst, sym}
use Rattle.std.proofs.lemmas.Iterator.{items_from_collect, YieldsList-from_range}
use Rattle.std.proofs.lemmas.Result.{IfOk-weaker}
use Rattle.fohlazu_commands.proofs.ProveFacts.{all_are_numbers}
use Rattle.fohlazu_commands.specs.Commands.{AreNumbers}
use Rattle.fohlazu_commands.specs.Outcomes.{all_numbers}
use Rattle.fohlazu_commands.proofs.prove.all_numbers.Goals as goal

pub returns : goal.returns
returns c =
    let n = max c.args.size 1 in
    let all = all_numbers c.args.size in
    IfOk-weaker c.collect.result (λ v. v.items ≡ all) (λ v. (v.items ≡ all) × AreNumbers v.items)
    (λ v is. (is, subst AreNumbers (sym is) (all_are_numbers c.args.size)))
    (items_from_collect c.collect.result c.collect.ensures.ran
    (YieldsList-from_range 1 (n + 1) n (λ i. record { start = 1; end = c.max.ensures i + 1 }) (omega arith)))
