-- An action may precede no arguments, or numbers.
use Rattle.std.proofs.Common.{◌<◌, Bool, true, false, MatchBool, Decides, ℕ, List, [], ◌∷◌, length, String, refl}
use Rattle.std.proofs.Common.{string_bytes, ⊎_elim, arith, rules, tests}
use Rattle.std.proofs.lemmas.Bool.{false≢true}
use Rattle.std.proofs.lemmas.Iterator.{cases_from_all, YieldsList-from_slice}
use Rattle.std.proofs.lemmas.List.Elements.{All-map, All-from_all_within, All-get_or}
use Rattle.std.specs.Prelude.{All}
use Rattle.std.specs.List.{AllWithin, HoldsAt}
use Rattle.mmcs_engine.specs.Args.{texts_of, IsNumberArg}
use Rattle.mmcs_engine.proofs.BlockFacts.{all_from_map}
use Rattle.mmcs_engine.proofs.command.Action.may_precede.Goals as goal

-- whether each argument is a number
decided : {A : Type 0} (r : Bool) (args : List (String A)) → MatchBool r
    (AllWithin (λ w. IsNumberArg (string_bytes w)) args 0 (length args))
    ((k : ℕ) × (k < length args) × HoldsAt (λ w. (IsNumberArg (string_bytes w) → ⊥)) args k) →
    Decides r (All IsNumberArg (texts_of args))
decided true args said = (
  λ is. All-map IsNumberArg string_bytes args
      (All-from_all_within (λ w. IsNumberArg (string_bytes w)) args said),
  λ each. refl,
)
decided false [] said = absurd (omega (arith, said.1))
decided false (w ∷ args) said = (
  λ is. absurd (false≢true is),
  λ each. absurd (said.2 w (All-get_or (λ x. IsNumberArg (string_bytes x)) (w ∷ args) said.0 w said.1
      (all_from_map IsNumberArg string_bytes (w ∷ args) each))),
)

pub returns-in-Open : goal.returns-in-Open
returns-in-Open c =
    let each = decided c.all.result c.args.index_args.now
    (cases_from_all _ _ _ (λ w. IsNumberArg (string_bytes w)) (λ w. (IsNumberArg (string_bytes w) → ⊥))
    c.all.ensures.ran (YieldsList-from_slice c.args.index_args.now c.iter.ensures.rest) (λ x q k. search (rules, tests))
    (λ x q k. search (rules, tests))) in (
      λ passed. (each.0 passed, λ is. ⊎_elim (λ opens. absurd cc) (λ checks. absurd cc) c.in-Open.is),
      λ follows.
          each.1 follows.0,
    )
