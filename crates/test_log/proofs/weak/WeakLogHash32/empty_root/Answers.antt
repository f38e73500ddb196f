use Rattle.std.proofs.Common.{◌∙◌, ap}
use Rattle.tlog.proofs.Accepted.{nothing}
use Rattle.test_log.specs.Weak.{weakened}
use Rattle.test_log.proofs.weak.WeakLogHash32.empty_root.Goals as goal

pub returns : goal.returns
returns c = c.weakened.ensures ∙ ap weakened nothing
