use Rattle.std.proofs.Common.{refl}
use Rattle.sha256_eights.proofs.Lanewise.{each_lane}
use Rattle.sha256_eights.proofs.block.initial_state.Goals as goal

pub returns : goal.returns
returns c = each_lane _ refl refl refl refl refl refl refl refl
