use Rattle.p3_merkle_core.proofs.Shapes.OneHeight.{cap_layer_is, leaf_is, levels_are, node_is, raw_is, step_is_arity}
use Rattle.p3_merkle_core.proofs.laws.one_height.Goals as goal

pub returns-clause-shape : goal.returns-clause-shape
returns-clause-shape g c = λ s h w some one. (
  levels_are s w h one,
  step_is_arity s w h one,
  raw_is s w h one some,
  cap_layer_is s w h one,
)

pub returns-clause-nodes : goal.returns-clause-nodes
returns-clause-nodes g c = λ f b h w some one. (leaf_is f b w h some one, node_is f b w h some one)
