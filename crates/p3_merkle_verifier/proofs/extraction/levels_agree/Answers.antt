-- Where both checks share the level, groups and rows are compared.
use Rattle.std.proofs.Common.{◌≡◌, ◌∙◌, Option, None, Some, ap, false, inl, inr, not, refl, sym}
use Rattle.std.specs.Option.{is_some}
use Rattle.std.proofs.lemmas.Bool.{true≢false}
use Rattle.p3_merkle_verifier.proofs.AgreeFacts.{levels_same}
use Rattle.p3_merkle_verifier.proofs.extraction.levels_agree.Goals as goal

is_absent : {A : Type 0} (o : Option A) → is_some o ≡ false → o ≡ None
is_absent None e = refl
is_absent (Some x) e = absurd (true≢false e)

pub returns-then-is_none : goal.returns-then-is_none
returns-then-is_none g c =
    λ dec dec_w t. levels_same g.T.PartialEq.eq g.W.PartialEq.eq dec dec_w c.args.rows.now c.args.first.now
    c.args.second.now (sym c.eq.ensures ∙ c.if-eq.true)
    (inl (is_absent c.args.first.now.pair (c.is_none.ensures ∙ ap not c.if-is_none.true)))

pub returns-else-is_none : goal.returns-else-is_none
returns-else-is_none g c =
    λ dec dec_w t. levels_same g.T.PartialEq.eq g.W.PartialEq.eq dec dec_w c.args.rows.now c.args.first.now
    c.args.second.now (sym c.eq.ensures ∙ c.if-eq.true) (inr (sym c.agree.ensures ∙ t))
