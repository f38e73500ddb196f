-- What the filter lets through stands alone in the list.
use Rattle.std.proofs.Common.{◌∙◌, ◌++◌, ◌==◌, ap, map, rules, tests}
use Rattle.std.proofs.lemmas.Iterator.Adapters.{fact_from_extend}
use Rattle.std.proofs.lemmas.Iterator.Consumers.{YieldsList-at, YieldsList-from_filter}
use Rattle.std.proofs.lemmas.Iterator.{YieldsList-from_slice}
use Rattle.std.specs.Slice.Iter.{iter_steps}
use Rattle.std.specs.Iterator.Adapters.{filter_steps}
use Rattle.p3_merkle_prover.proofs.layers.pick_matrices.Goals as goal

pub returns : goal.returns
returns g c =
    fact_from_extend {steps = filter_steps iter_steps _} (λ m. m.now) c.extend.result c.extend.ensures.ran
    (λ it b. YieldsList-at b (YieldsList-from_filter _ (λ m. g.M.Matrix.height_of m == c.args.height)
    (YieldsList-at c.filter.ensures.source (YieldsList-from_slice c.args.matrices.now c.iter.ensures.rest))
    c.filter.ensures.closure (λ x r q k. search (rules, tests))))
    (λ xs e h. ap (map (λ m. m.now)) (h.0 ∙ ap (λ ys. ys ++ xs) c.clear.ensures.items) ∙ e)
