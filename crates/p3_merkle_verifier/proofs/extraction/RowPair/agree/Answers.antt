-- The words of both openings are read side by side.
use Rattle.std.proofs.Common.{◌≡◌, ◌∙◌, ap, refl}
use Rattle.std.proofs.lemmas.Iterator.Consumers.{YieldsList-from_first}
use Rattle.p3_merkle_verifier.specs.Inner.Collisions.{first_words, second_words}
use Rattle.p3_merkle_verifier.specs.Inner.Parts.{words_left}
use Rattle.p3_merkle_verifier.proofs.EqualRuns.{eq_from_yields_List}
use Rattle.p3_merkle_verifier.proofs.extraction.RowPair.agree.Goals as goal

pub returns : goal.returns
returns g c =
    eq_from_yields_List (λ x y. y ≡ x) _ g.T.PartialEq.eq _ c.eq.ensures.ran
    (YieldsList-from_first (λ word. word.now) words_left (first_words c.args.self.now) c.new-first.ensures)
    (λ it e. YieldsList-from_first (λ word. word.now) words_left (second_words c.args.self.now)
    (ap words_left e ∙ c.new-second.ensures)) (λ x y. refl)
