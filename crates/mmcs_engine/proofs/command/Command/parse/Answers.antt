-- Arguments are a command if the first four are, and those after them may follow the action.
use Rattle.std.proofs.Common.{◌≡◌, ◌≤◌, ◌-◌, List, [], ◌∷◌, ℕ, length, get_or, take, drop, map, string_bytes, refl, sym}
use Rattle.std.proofs.Common.{ap, ◌∙◌, subst, arith}
use Rattle.std.proofs.lemmas.Bool.{false≢true}
use Rattle.std.proofs.lemmas.List.{take_all}
use Rattle.mmcs_engine.specs.declared.command.Action.{Action}
use Rattle.mmcs_engine.specs.Args.{texts_of, IsCapArg, MayFollow}
use Rattle.mmcs_engine.proofs.ArgFacts.{action_of, same_action}
use Rattle.mmcs_engine.proofs.command.Command.parse.Goals as goal

-- a list that begins with four elements
four : {A : Type 0} (f : A → List ℕ) (xs : List A) (x y z u : A) → 4 ≤ length xs → x ≡ get_or xs 0 x →
    y ≡ get_or xs 1 y → z ≡ get_or xs 2 z → u ≡ get_or xs 3 u →
    map f xs ≡ f x ∷ f y ∷ f z ∷ f u ∷ map f (take (length xs - 4) (drop 4 xs))
four f [] x y z u long x_is y_is z_is u_is = absurd (omega (arith, long))
four f (a ∷ []) x y z u long x_is y_is z_is u_is = absurd (omega (arith, long))
four f (a ∷ b ∷ []) x y z u long x_is y_is z_is u_is = absurd (omega (arith, long))
four f (a ∷ b ∷ c ∷ []) x y z u long x_is y_is z_is u_is = absurd (omega (arith, long))
four f (a ∷ b ∷ c ∷ d ∷ xs) x y z u long x_is y_is z_is u_is =
    let rest : xs ≡ take (length (a ∷ b ∷ c ∷ d ∷ xs) - 4) xs =
    sym (take_all (length (a ∷ b ∷ c ∷ d ∷ xs) - 4) xs (omega arith)) in
    λ i. f (sym x_is i) ∷ f (sym y_is i) ∷ f (sym z_is i) ∷ f (sym u_is i) ∷ map f (rest i)

pub returns-in_err-parse-3-clause-none : goal.returns-in_err-parse-3-clause-none
returns-in_err-parse-3-clause-none c =
    let parts = four string_bytes c.args.args.now c.hash-item.result c.arity-item.result c.cap-item.result
    c.action-item.result c.in-len4-up.len_at_least c.hash-item.is c.arity-item.is c.cap-item.is c.action-item.is in
    rw c.from_residual-in_err-parse-3.ensures
    (λ command indices are. c.in_err-parse-3.ensures.none command.cap
    (subst (λ (w : List ℕ). IsCapArg w command.cap) (sym c.as_bytes.ensures.value)
    (subst (λ (ws : List (List ℕ)). IsCapArg (get_or ws 2 []) command.cap) (sym are.spelling ∙ parts) are.cap_arg)))

pub returns-then-not-may_precede-clause-none : goal.returns-then-not-may_precede-clause-none
returns-then-not-may_precede-clause-none c =
    let parts = four string_bytes c.args.args.now c.hash-item.result c.arity-item.result c.cap-item.result
    c.action-item.result c.in-len4-up.len_at_least c.hash-item.is c.arity-item.is c.cap-item.is c.action-item.is in
    let rest = texts_of (take (length c.args.args.now - 4) (drop 4 c.args.args.now)) in
    λ command indices are.
    let follows = subst (λ (ws : List (List ℕ)). MayFollow command.action (drop 4 ws)) (sym are.spelling ∙ parts)
    are.may_follow in
    let same = same_action command.action ∙ ap (λ ws. action_of (get_or ws 3 [])) (sym are.spelling ∙ parts)
    ∙ ap action_of (sym c.as_str-3.ensures.value ∙ c.in_ok-parse-4.ensures.found)
    ∙ sym (same_action c.in_ok-parse-4.field-0) in
    absurd (false≢true (sym c.if-not-may_precede.true ∙ c.may_precede.ensures.1
    (subst (λ (action : Action). MayFollow action rest) same follows)))

pub returns-clause-found : goal.returns-clause-found
returns-clause-found c =
    let parts = four string_bytes c.args.args.now c.hash-item.result c.arity-item.result c.cap-item.result
    c.action-item.result c.in-len4-up.len_at_least c.hash-item.is c.arity-item.is c.cap-item.is c.action-item.is in
    let rest = texts_of (take (length c.args.args.now - 4) (drop 4 c.args.args.now)) in
    let follows = c.may_precede.ensures.0 c.if-not-may_precede.false in (
      follows.0,
      record {
        cap = string_bytes c.cap-item.result;
        index_args = rest;
        spelling =
            parts ∙ (λ i. (sym c.as_str.ensures.value ∙ c.in_ok-parse.ensures.found) i
            ∷ (sym c.as_str-2.ensures.value ∙ c.in_ok-parse-2.ensures.found) i ∷ string_bytes c.cap-item.result
            ∷ (sym c.as_str-3.ensures.value ∙ c.in_ok-parse-4.ensures.found) i
            ∷ rest);
        cap_arg = subst (λ (w : List ℕ). IsCapArg w c.in_ok-parse-3.field-0) c.as_bytes.ensures.value
            c.in_ok-parse-3.ensures.found;
        may_follow = follows;
        indices_are = refl;
      },
    )
