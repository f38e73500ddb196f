-- What the answer means of the queries of both openings.
use Rattle.std.proofs.Common.{length, subst}
use Rattle.std.specs.Prelude.{IfOk}
use Rattle.std.specs.Option.{option_or}
use Rattle.p3_merkle_core.specs.Extraction.{difference_of, first_pair}
use Rattle.p3_merkle_core.specs.Geometry.{shape_of}
use Rattle.p3_merkle_core.specs.Pruning.{opening_at}
use Rattle.p3_merkle_core.specs.Refusals.{AnswersUnlessMemory, Refuses, pruned_early, pruned_refusal_under}
use Rattle.p3_merkle_core.proofs.Collisions.ExtractionFacts.{all_authenticated, extracted_pair}
use Rattle.p3_merkle_verifier.specs.Inner.QueryPairs.{ShowsPair}
use Rattle.p3_merkle_verifier.specs.Inner.RestoredLevels.{pruned_in}
use Rattle.p3_merkle_tree.specs.Schemes.{params_of}
use Rattle.p3_merkle_tree.proofs.extract.MerkleTreeMmcs+P+PW+H+C+N+D.pruned_extraction.Goals as goal

pub returns-clause-extraction : goal.returns-clause-extraction
returns-clause-extraction g c =
    let scheme = c.args.self.now in
    let eq = g.P.Value.PartialEq.eq in
    let same = g.PW.Value.PartialEq.eq in
    let s = shape_of g.row.N c.args.dimensions.now in
    let alike = c.checker.ensures in
    let roots = c.args.roots.now in
    let first = pruned_in c.args.first in
    let second = pruned_in c.args.second in
    let answer = subst (AnswersUnlessMemory c.pruned_extraction.result)
    (λ i. option_or (pruned_refusal_under eq same (alike i) roots first)
    (pruned_refusal_under eq same (alike i) roots second)) c.pruned_extraction.ensures.answer in
    let found = subst (λ d. IfOk c.pruned_extraction.result (λ found. ShowsPair found d))
    (λ i. first_pair
    (λ a b. difference_of eq same (alike i) (opening_at (alike i) first a) (opening_at (alike i) second b))
    (length first.indices) (length second.indices)) c.pruned_extraction.ensures.found in
    extracted_pair eq same scheme.cap_rule (params_of scheme s) roots first second g.met.P.PackedValue.eq_is_equality
    g.met.PW.PackedValue.eq_is_equality scheme.arity
    (all_authenticated s scheme.cap_rule scheme.cap_height scheme.arity) c.pruned_extraction.result answer found

pub returns-clause-checked : goal.returns-clause-checked
returns-clause-checked g c =
    subst (Refuses c.pruned_extraction.result)
    (λ i. pruned_early (c.checker.ensures i).shape (pruned_in c.args.first)) c.pruned_extraction.ensures.checked
