-- Where both checks stand at one node above the level, its inputs are compared from the last on.
use Rattle.std.proofs.Common.{◌≡◌, ◌∙◌, Bool, List, ◌∷◌, Option, None, Some, ap, refl, sym, true}
use Rattle.std.proofs.lemmas.Bool.{eq-eqb}
use Rattle.std.proofs.lemmas.Result.{IfOk-weaker}
use Rattle.std.specs.Prelude.{◌&&◌}
use Rattle.std.specs.Cmp.Lexicographic.{pointwise}
use Rattle.p3_merkle_core.specs.Extraction.{last_difference, input_eq}
use Rattle.p3_merkle_core.specs.Checks.{Input, digests_at}
use Rattle.p3_merkle_core.specs.declared.collision.InputPair.{InputPair}
use Rattle.p3_merkle_core.specs.declared.collision.Place.TheVariants.{Group}
use Rattle.p3_answers.specs.Answers.{unless}
use Rattle.p3_answers.proofs.AnswerFacts.{none_parts, unless_none}
use Rattle.p3_merkle_verifier.specs.Inner.Collisions.{first_words, inputs_above, second_words, IsDifference, Shows}
use Rattle.p3_merkle_verifier.proofs.WalkFacts.{found_here}
use Rattle.p3_merkle_verifier.proofs.extraction.level_difference.Goals as goal

last_is_above : {T W : Type 0} (eq : Input T W → Input T W → Bool) (x y : Input T W) (xs ys : List (Input T W))
    (found : InputPair T (List W)) → Shows (Some found) (last_difference eq xs ys) →
    Shows (Some found) (last_difference eq (x ∷ xs) (y ∷ ys))
last_is_above eq x y xs ys found above = rw (← above) refl

last_is_group : {T W : Type 0} (eq : Input T W → Input T W → Bool) {same : Bool} (x y : Input T W)
    (xs ys : List (Input T W)) (found : Option (InputPair T (List W))) →
    eq x y ≡ same → Shows None (last_difference eq xs ys) → IsDifference found same (x, y) →
    Shows found (last_difference eq (x ∷ xs) (y ∷ ys))
last_is_group eq x y xs ys found test none here = rw (← none, test) here

pub returns-in-Some-clause-found : goal.returns-in-Some-clause-found
returns-in-Some-clause-found g c =
    let l = c.args.first.now.level in
    let eq = input_eq g.T.PartialEq.eq g.W.PartialEq.eq in
    let rows = c.args.rows.now in
    let shown = last_is_above eq (digests_at (Group l) c.args.first.now.group)
    (digests_at (Group l) c.args.second.now.group) (inputs_above l (first_words rows) c.args.first.now.pair)
    (inputs_above l (second_words rows) c.args.second.now.pair) c.in-Some.above
    (rw c.in-Some.is at c.in_ok-above.ensures.found) in
    λ f s l o u m n a b. found_here eq (Some c.in-Some.above) m n a b c.if-first-second.false shown

pub returns-in-None-clause-found : goal.returns-in-None-clause-found
returns-in-None-clause-found g c =
    let first = c.args.first.now in
    let second = c.args.second.now in
    let rows = c.args.rows.now in
    let l = first.level in
    let eq = input_eq g.T.PartialEq.eq g.W.PartialEq.eq in
    let same = pointwise (pointwise g.W.PartialEq.eq) first.group second.group in
    let test : eq (digests_at (Group l) first.group) (digests_at (Group l) second.group)
    ≡ same = ap (λ at_one. at_one && same) (eq-eqb l l refl) in
    IfOk-weaker c.differing_digests.result _ _
    (λ found here f s k o u m n a b. found_here eq found m n a b c.if-first-second.false
    (last_is_group eq (digests_at (Group l) first.group) (digests_at (Group l) second.group)
    (inputs_above l (first_words rows) first.pair) (inputs_above l (second_words rows) second.pair) found test
    (rw c.in-None.is at c.in_ok-above.ensures.found) here)) c.differing_digests.ensures.found

-- what differs nowhere is neither above the group nor in it
none_above : {T W : Type 0} (eq : Input T W → Input T W → Bool) (x y : Input T W) (xs ys : List (Input T W)) →
    last_difference eq (x ∷ xs) (y ∷ ys) ≡ None → (last_difference eq xs ys ≡ None) × (eq x y ≡ true)
none_above eq x y xs ys none =
    let both = none_parts (last_difference eq xs ys) (unless (eq x y) (x, y)) none in
    (both.0, unless_none (eq x y) (x, y) both.1)

pub returns-in_err-above-clause-agreed : goal.returns-in_err-above-clause-agreed
returns-in_err-above-clause-agreed g c = λ agree.
    let l = c.args.first.now.level in
    let eq = input_eq g.T.PartialEq.eq g.W.PartialEq.eq in
    let rows = c.args.rows.now in
    let ok = c.in_err-above.ensures.agreed (none_above eq (digests_at (Group l) c.args.first.now.group)
    (digests_at (Group l) c.args.second.now.group) (inputs_above l (first_words rows) c.args.first.now.pair)
    (inputs_above l (second_words rows) c.args.second.now.pair) (agree c.if-first-second.false)).0 in
    absurd cc

pub returns-in-None-clause-agreed : goal.returns-in-None-clause-agreed
returns-in-None-clause-agreed g c = λ agree.
    let first = c.args.first.now in
    let second = c.args.second.now in
    let rows = c.args.rows.now in
    let l = first.level in
    let eq = input_eq g.T.PartialEq.eq g.W.PartialEq.eq in
    let same = pointwise (pointwise g.W.PartialEq.eq) first.group second.group in
    let test : eq (digests_at (Group l) first.group) (digests_at (Group l) second.group)
    ≡ same = ap (λ at_one. at_one && same) (eq-eqb l l refl) in
    c.differing_digests.ensures.agreed (sym test ∙ (none_above eq (digests_at (Group l) first.group)
    (digests_at (Group l) second.group) (inputs_above l (first_words rows) first.pair)
    (inputs_above l (second_words rows) second.pair) (agree c.if-first-second.false)).1)
