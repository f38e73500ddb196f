use Rattle.p3_merkle_core.proofs.Lists.ViewFacts.{dimensions_are}
use Rattle.p3_merkle_core.proofs.laws.dimensions.Goals as goal

pub returns : goal.returns
returns g c = λ ms. dimensions_are g.M.Matrix.height_of g.M.Matrix.width_of g.M.Matrix.row_of ms
