-- Each clause is a lemma: on what the definition answers to two openings, on the rows that they bind, and on the inputs
-- of a check.
use Rattle.p3_merkle_core.specs.Caps.{cap_layer}
use Rattle.p3_merkle_core.specs.Checks.{shared_inputs, params}
use Rattle.p3_merkle_core.specs.Presented.{presented, presented_pruned}
use Rattle.p3_merkle_core.proofs.Collisions.Extracted.{differs}
use Rattle.p3_merkle_core.proofs.Collisions.Extraction.{collides}
use Rattle.p3_merkle_core.proofs.Collisions.ExtractionFacts.{all_authenticated, answer_is_extraction, pruned_presented}
use Rattle.p3_merkle_core.proofs.Collisions.ExtractionFacts.{single_presented, alike_at_one_index}
use Rattle.p3_merkle_core.proofs.Checks.InputFacts.{at_one_place, inputs_full}
use Rattle.p3_merkle_core.proofs.Checks.SameIndex.{authenticated_bound}
use Rattle.p3_merkle_core.proofs.Checks.{CheckFacts.last_is, CheckFacts.walk_reaches}
use Rattle.p3_merkle_core.proofs.laws.extraction.Goals as goal

pub returns-clause-collision : goal.returns-clause-collision
returns-clause-collision g x = λ c cap o u w a b x y last.
    let f = c.functions in
    let s = c.shape in
    let t = c.layer in (
      at_one_place f s t o u x y last,
      differs (shared_inputs c o.index u.index o) (shared_inputs c o.index u.index u) x
          y last,
      collides f s t cap o u w a b x y last,
    )

pub returns-clause-single : goal.returns-clause-single
returns-clause-single g x = λ row_eq digest_eq f s rule cap_height cap o u dec dec_w w.
    let c = params f s (cap_layer s rule cap_height) in
    answer_is_extraction row_eq digest_eq rule c cap (presented digest_eq c cap o) (presented digest_eq c cap u) dec
    dec_w w (all_authenticated s rule cap_height w) (single_presented digest_eq c cap o dec_w)
    (single_presented digest_eq c cap u dec_w)

pub returns-clause-pruned : goal.returns-clause-pruned
returns-clause-pruned g x = λ row_eq digest_eq f s rule cap_height cap p r dec dec_w w.
    let c = params f s (cap_layer s rule cap_height) in
    answer_is_extraction row_eq digest_eq rule c cap (presented_pruned row_eq digest_eq c cap p)
    (presented_pruned row_eq digest_eq c cap r) dec dec_w w (all_authenticated s rule cap_height w)
    (pruned_presented row_eq digest_eq c cap p dec dec_w w) (pruned_presented row_eq digest_eq c cap r dec dec_w w)

pub returns-clause-rows : goal.returns-clause-rows
returns-clause-rows g x = λ c. authenticated_bound c.functions c.shape c.layer

pub returns-clause-one_index : goal.returns-clause-one_index
returns-clause-one_index g x = alike_at_one_index

pub returns-clause-full : goal.returns-clause-full
returns-clause-full g x = λ c cap o w a. inputs_full c.functions c.shape c.layer o w a.count

pub returns-clause-last : goal.returns-clause-last
returns-clause-last g x = λ c o. (walk_reaches c.functions c.shape c.layer o, last_is c.functions c.shape c.layer o)
