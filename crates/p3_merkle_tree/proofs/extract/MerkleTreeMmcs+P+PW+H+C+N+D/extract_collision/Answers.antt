-- What the answer means of the openings.
use Rattle.std.proofs.Common.{◌∙◌, refl, subst}
use Rattle.std.specs.Prelude.{IfOk}
use Rattle.std.specs.Option.{option_or}
use Rattle.p3_support.specs.Shown.{roots_of}
use Rattle.p3_merkle_core.specs.Extraction.{difference_of}
use Rattle.p3_merkle_core.specs.Geometry.{shape_of}
use Rattle.p3_merkle_core.specs.Presented.{presented}
use Rattle.p3_merkle_core.specs.Refusals.{AnswersUnlessMemory, Refuses, refusal_under}
use Rattle.p3_merkle_core.specs.Views.{opening_borrowed}
use Rattle.p3_merkle_core.proofs.Collisions.ExtractionFacts.{all_authenticated, exact_alone, extracted_alone}
use Rattle.p3_merkle_core.proofs.Collisions.ExtractionFacts.{single_presented}
use Rattle.p3_merkle_verifier.specs.Inner.Collisions.{Shows}
use Rattle.p3_merkle_tree.specs.Schemes.{params_of}
use Rattle.p3_merkle_tree.proofs.extract.MerkleTreeMmcs+P+PW+H+C+N+D.extract_collision.Goals as goal

pub returns-clause-extraction : goal.returns-clause-extraction
returns-clause-extraction g c =
    let scheme = c.args.self.now in
    let eq = g.P.Value.PartialEq.eq in
    let same = g.PW.Value.PartialEq.eq in
    let s = shape_of g.row.N c.args.dimensions.now in
    let alike = c.checker.ensures in
    let first = c.new-first.ensures in
    let second = c.new-second.ensures in
    let answer = subst (AnswersUnlessMemory c.extraction.result)
    (λ i. option_or (refusal_under same (alike i) (c.roots.ensures i) (first i))
    (refusal_under same (alike i) (c.roots.ensures i) (second i))) c.extraction.ensures.answer in
    let found = subst (λ d. IfOk c.extraction.result (λ found. Shows found d))
    (λ i. difference_of eq same (alike i) (first i) (second i)) c.extraction.ensures.found in
    extracted_alone eq same scheme.cap_rule (params_of scheme s) (roots_of c.args.commit.now)
    (opening_borrowed c.args.index1 c.args.first) (opening_borrowed c.args.index2 c.args.second)
    g.met.P.PackedValue.eq_is_equality g.met.PW.PackedValue.eq_is_equality scheme.arity
    (all_authenticated s scheme.cap_rule scheme.cap_height scheme.arity) c.extraction.result answer found

pub returns-clause-exact : goal.returns-clause-exact
returns-clause-exact g c =
    let scheme = c.args.self.now in
    let eq = g.P.Value.PartialEq.eq in
    let same = g.PW.Value.PartialEq.eq in
    let k = params_of scheme (shape_of g.row.N c.args.dimensions.now) in
    let cap = roots_of c.args.commit.now in
    let o = opening_borrowed c.args.index1 c.args.first in
    let u = opening_borrowed c.args.index2 c.args.second in
    let r = c.extraction.result in
    let alike = c.checker.ensures in
    let first = c.new-first.ensures in
    let second = c.new-second.ensures in
    let dec_w = g.met.PW.PackedValue.eq_is_equality in
    exact_alone eq same k (presented same k cap o) (presented same k cap u) o u g.met.P.PackedValue.eq_is_equality dec_w
    refl refl refl refl (single_presented same k cap o dec_w).decided.1
    (single_presented same k cap u dec_w).decided.1 r
    (subst (Refuses r) (λ i. option_or (refusal_under same (alike i) (c.roots.ensures i) (first i))
    (refusal_under same (alike i) (c.roots.ensures i) (second i))) c.extraction.ensures.checked)
    (λ unrefused agree. c.extraction.ensures.agreed
    ((λ i. option_or (refusal_under same (alike i) (c.roots.ensures i) (first i))
    (refusal_under same (alike i) (c.roots.ensures i) (second i))) ∙ unrefused)
    ((λ i. difference_of eq same (alike i) (first i) (second i)) ∙ agree))
