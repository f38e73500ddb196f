-- With an `f` at its end an argument is a cap of the fixed rule, without it one of the lowered rule.
use Rattle.std.proofs.Common.{◌∷◌, [], Some}
use Rattle.std.proofs.lemmas.Bool.Decides.{Decides-eqb}
use Rattle.std.proofs.lemmas.Slice.Eq.{strip_suffix_is}
use Rattle.p3_merkle_core.specs.declared.cap.CapRule.TheVariants.{Fixed}
use Rattle.mmcs_engine.proofs.ArgFacts.{only_cap}
use Rattle.mmcs_engine.proofs.command.CapChoice.parse.Goals as goal

pub returns-in_err-height-clause-none : goal.returns-in_err-height-clause-none
returns-in_err-height-clause-none c =
    let cut = strip_suffix_is Decides-eqb c.args.arg.now (102 ∷ []) (Some c.in-Some.digits) c.in-Some.ensures.cases in
    rw c.from_residual.ensures (λ cap spelled. c.in_err-height.ensures
    (only_cap c.args.arg.now c.in-Some.digits.now Fixed (record { cut = cut; unmarked = λ apart. absurd cc }) cap
    spelled).1)

pub returns-in-Some-clause-found : goal.returns-in-Some-clause-found
returns-in-Some-clause-found c = (
  c.in-Some.digits.now,
  strip_suffix_is Decides-eqb c.args.arg.now (102 ∷ []) (Some c.in-Some.digits) c.in-Some.ensures.cases,
  c.in_ok-height.ensures.0,
  c.in_ok-height.ensures.1,
)
