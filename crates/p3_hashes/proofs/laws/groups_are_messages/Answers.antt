use Rattle.p3_hashes.proofs.Groups.{concat_injective}
use Rattle.p3_hashes.proofs.laws.groups_are_messages.Goals as goal

pub returns : goal.returns
returns c = λ first second long one other differ same. differ (concat_injective first second long one other same)
