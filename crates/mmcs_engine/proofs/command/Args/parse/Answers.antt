-- The indices are those of the arguments so far, each of which is a number, since the command was found.
use Rattle.std.proofs.Common.{◌++◌, ◌∷◌, ◌∙◌, [], List, ℕ, string_bytes, map, refl, sym, ap, subst, inr}
use Rattle.std.proofs.lemmas.List.{map_more, take_all}
use Rattle.std.proofs.lemmas.List.Elements.{All-get_or}
use Rattle.std.proofs.lemmas.Result.{err_from_is_err_and}
use Rattle.std.proofs.lemmas.Simd.{map-map}
use Rattle.std.specs.Str.Parse.{digits_value}
use Rattle.mmcs_engine.specs.Args.{AreArgs, IsNumberArg}
use Rattle.mmcs_engine.proofs.BlockFacts.{all_from_map}
use Rattle.mmcs_engine.proofs.command.Args.parse.Goals.{in-Some+in_ok-push, in_default}
use Rattle.mmcs_engine.proofs.command.Args.parse.Goals as goal

-- the arguments were a command before memory was asked for
pub returns-in_err-indices-clause-fault : goal.returns-in_err-indices-clause-fault
returns-in_err-indices-clause-fault c =
    let left = err_from_is_err_and c.from_residual-in_err-indices.result c.from_residual-in_err-indices.ensures.1 in
    let found = rw c.in_ok-command.ensures.ok_part at c.parse.ensures.found in
    rw (left.1, left.2) (inr (refl, λ none. none _ _ found.1))

pub returns-in_err-push-clause-fault : goal.returns-in_err-push-clause-fault
returns-in_err-push-clause-fault c =
    let left = err_from_is_err_and c.from_residual-in_err-push.result c.from_residual-in_err-push.ensures.1 in
    let found = rw c.in_ok-command.ensures.ok_part at c.parse.ensures.found in
    rw (left.1, left.2) (inr (refl, λ none. none _ _ found.1))

pub loop-arg-preserved : goal.loop-arg-preserved
loop-arg-preserved c =
    let arg = c.arg-item.result in
    let args = c.in_ok-command.index_args.now in
    let n = c.loop-arg.arg-index in
    let found = rw c.in_ok-command.ensures.ok_part at c.parse.ensures.found in
    let number = All-get_or (λ w. IsNumberArg (string_bytes w)) args n arg c.loop-arg-test.true
    (all_from_map IsNumberArg string_bytes args found.0) in
    elim c.match-parse_number.branch [
      | in-Some+in_ok-push w ↦
          let read = rw w.in-Some.is at c.parse_number.ensures in
          ap (λ v. v.items) w.indices-is ∙ w.in_ok-push.ensures.items
          ∙ (λ i. c.loop-arg.invariant i ++ (read.1 ∙ ap (digits_value 10) c.as_bytes.ensures.value
          ∙ ap (λ w. digits_value 10 (string_bytes w)) c.arg-item.is) i ∷ [])
          ∙ sym (map_more (λ w. digits_value 10 (string_bytes w)) args n arg c.loop-arg-test.true)
      | in_default w ↦
          let missed = rw w.in_default.is at c.parse_number.ensures in
          absurd (missed (subst (λ (ds : List ℕ). IsNumberArg ds) (ap string_bytes (sym c.arg-item.is)
          ∙ sym c.as_bytes.ensures.value) number))
    ]

pub returns-clause-parsed : goal.returns-clause-parsed
returns-clause-parsed c =
    let found = rw c.in_ok-command.ensures.ok_part at c.parse.ensures.found in
    subst (AreArgs _ c.in_ok-command.command) (sym (c.loop-arg.invariant
    ∙ ap (map (λ w. digits_value 10 (string_bytes w))) (take_all c.loop-arg.arg-index c.in_ok-command.index_args.now
    c.loop-arg-test.false)
    ∙ sym (map-map (digits_value 10) string_bytes c.in_ok-command.index_args.now))) found.1
