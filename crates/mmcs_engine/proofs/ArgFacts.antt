-- What arguments can be: those of one command with its indices, or of none.
use Rattle.std.proofs.Common.{◌≡◌, ◌≢◌, ◌-◌, ◌^◌, ◌==◌, ◌⊎◌, ⊎_elim, inl, inr, Bool, true, false, cond, Decides, ℕ}
use Rattle.std.proofs.Common.{List, [], ◌∷◌, ◌++◌, length, get_or, take, drop, map, sym, refl, ap, ◌∙◌, subst, arith}
use Rattle.std.proofs.Common.{append-nil}
use Rattle.std.proofs.lemmas.Bool.{false≢true}
use Rattle.std.proofs.lemmas.Bool.Decides.{Decides-eqb, Decides-ltb}
use Rattle.std.proofs.lemmas.Slice.Eq.{bytes_eq-Decides, ends_is, slice_eq-Decides}
use Rattle.std.proofs.lemmas.Str.Parse.{digit_at}
use Rattle.std.proofs.lemmas.List.{append_cancel_right, get_or_push, length_push}
use Rattle.std.proofs.lemmas.List.Elements.{All-nil, All-cons, All-head, All-tail}
use Rattle.std.specs.Prelude.{All}
use Rattle.std.specs.Str.{bytes_eq}
use Rattle.std.specs.Str.Parse.{AllDigits, digits_value}
use Rattle.std.specs.Char.{digit_value}
use Rattle.p3_merkle_core.specs.declared.cap.CapRule.{CapRule}
use Rattle.p3_merkle_core.specs.declared.cap.CapRule.TheVariants.{Lowered, Fixed}
use Rattle.mmcs_engine.specs.declared.command.Action.{Action}
use Rattle.mmcs_engine.specs.declared.command.Action.TheVariants.{Commit, Open, Check}
use Rattle.mmcs_engine.specs.declared.command.Arity.{Arity}
use Rattle.mmcs_engine.specs.declared.command.Arity.TheVariants.{Two, Four, Eight}
use Rattle.mmcs_engine.specs.declared.command.CapChoice.{CapChoice}
use Rattle.mmcs_engine.specs.declared.command.Command.{Command}
use Rattle.mmcs_engine.specs.declared.command.HashName.{HashName}
use Rattle.mmcs_engine.specs.declared.command.HashName.TheVariants.{Fold, Sha256}
use Rattle.mmcs_engine.specs.Numbers.{IsNumberBelow}
use Rattle.mmcs_engine.specs.Args.{action_arg}
use Rattle.mmcs_engine.specs.Args.{arity_arg, hash_arg, rule_mark, AreArgs, IsCapArg, IsNumberArg, MayFollow}

-- ---- facts that hold or do not

-- a fact holds or does not
abbrev pub IsSettled : Type 0 → Type 0
IsSettled P = P ⊎ (P → ⊥)

-- a fact that holds where another does
settled_as : {P Q : Type 0} → (P → Q) → (Q → P) → IsSettled P → IsSettled Q
settled_as there back settled = ⊎_elim (λ p. inl (there p)) (λ no. inr (λ q. no (back q))) settled

-- two facts, and one of each element
settled_both : {P Q : Type 0} → IsSettled P → IsSettled Q → IsSettled (P × Q)
settled_both p q =
    ⊎_elim (λ first. ⊎_elim (λ second. inl (first, second)) (λ no. inr (λ both. no both.1)) q)
    (λ no. inr (λ both. no both.0)) p

pub settled_each : {X : Type 0} (P : X → Type 0) → ((x : X) → IsSettled (P x)) → (xs : List X) → IsSettled (All P xs)
settled_each P settled [] = inl (All-nil P)
settled_each P settled (x ∷ xs) =
    settled_as (λ both. All-cons P x xs both.0 both.1) (λ each. (All-head P x xs each, All-tail P x xs each))
    (settled_both (settled x) (settled_each P settled xs))

-- a fact that a test decides
settled_by : {P : Type 0} (b : Bool) → Decides b P → IsSettled P
settled_by true test = inl (test.0 refl)
settled_by false test = inr (λ p. absurd (false≢true (test.1 p)))

settled_digits : (ds : List ℕ) → IsSettled (AllDigits 10 ds)
settled_digits [] = inl tt
settled_digits (d ∷ ds) = settled_both (settled_by _ (Decides-ltb (digit_value d) 10)) (settled_digits ds)

pub settled_number : (limit : ℕ) (digits : List ℕ) → IsSettled (IsNumberBelow limit digits)
settled_number limit digits =
    settled_as (λ parts. record { numeral = parts.0; below = parts.1 }) (λ number. (number.numeral, number.below))
    (settled_both (settled_both (settled_by _ (Decides-ltb 0 (length digits))) (settled_digits digits))
    (settled_by _ (Decides-ltb (digits_value 10 digits) limit)))

-- ---- caps

-- digits ahead of the mark of a rule; it is the rule `Lowered` only where the mark of the other is not there
pub record IsSplit (arg digits : List ℕ) (rule : CapRule) : Type 0 where
  pub cut : arg ≡ digits ++ rule_mark rule
  pub unmarked : rule ≡ Lowered → (front : List ℕ) → arg ≢ front ++ 102 ∷ []

split_of : (arg : List ℕ) → (digits : List ℕ) × (rule : CapRule) × IsSplit arg digits rule
split_of arg = by_test (bytes_eq (102 ∷ []) (drop (length arg - 1) arg)) refl
  where
    by_test : (b : Bool) → bytes_eq (102 ∷ []) (drop (length arg - 1) arg) ≡ b →
        (digits : List ℕ) × (rule : CapRule) × IsSplit arg digits rule
    by_test true is = (
      take (length arg - 1) arg,
      Fixed,
      record {
        cut = (ends_is Decides-eqb arg (102 ∷ []) true (sym is)).0 refl;
        unmarked = λ apart. absurd cc;
      },
    )
    by_test false is = (
      arg,
      Lowered,
      record {
        cut = sym (append-nil arg);
        unmarked = λ same front cut. false≢true ((ends_is Decides-eqb arg (102 ∷ []) false (sym is)).1 front cut);
      },
    )

-- no other digits stand ahead of a mark
same_split : (arg ds es : List ℕ) (r q : CapRule) → AllDigits 10 ds → arg ≡ ds ++ rule_mark r → IsSplit arg es q →
    (r ≡ q) × (ds ≡ es)
same_split arg ds es Fixed Fixed all is split = (refl, append_cancel_right ds es (102 ∷ []) (sym is ∙ split.cut))
same_split arg ds es Lowered Lowered all is split =
    (refl, sym (append-nil ds) ∙ sym is ∙ split.cut ∙ append-nil es)
same_split arg ds es Fixed Lowered all is split = absurd (split.unmarked refl ds is)
same_split arg ds es Lowered Fixed all is split =
    let cut : ds ≡ es ++ 102 ∷ [] = sym (append-nil ds) ∙ sym is ∙ split.cut in
    let last = ap (λ w. get_or w (length es) 0) cut ∙ get_or_push es 102 0 (length es) refl in
    let digit = digit_at ds (length es) all (omega (arith, ap length cut, length_push es 102)) in
    absurd (omega (arith, last, digit.1))

pub only_cap : (arg digits : List ℕ) (rule : CapRule) → IsSplit arg digits rule → (cap : CapChoice) →
    IsCapArg arg cap → (cap ≡ record { height = digits_value 10 digits; rule = rule }) × IsNumberArg digits
only_cap arg digits rule split cap spelled =
    let same = same_split arg spelled.0 digits cap.rule rule spelled.2.numeral.1 spelled.1 split in (
      λ i. record { height = (spelled.3 ∙ ap (digits_value 10) same.1) i; rule = same.0 i },
      subst (λ (ds : List ℕ). IsNumberArg ds) same.1 spelled.2,
    )

-- ---- commands

-- which name an argument can be, and that it is the one
abbrev hash_of : List ℕ → HashName
hash_of arg = cond (length arg == 4) Fold Sha256

abbrev arity_of : List ℕ → Arity
arity_of arg = cond (get_or arg 0 0 == 50) Two (cond (get_or arg 0 0 == 52) Four Eight)

abbrev pub action_of : List ℕ → Action
action_of arg = cond (length arg == 6) Commit (cond (length arg == 4) Open Check)

same_hash : (hash : HashName) → hash ≡ hash_of (hash_arg hash)
same_hash Fold = refl
same_hash Sha256 = refl

same_arity : (arity : Arity) → arity ≡ arity_of (arity_arg arity)
same_arity Two = refl
same_arity Four = refl
same_arity Eight = refl

pub same_action : (action : Action) → action ≡ action_of (action_arg action)
same_action Commit = refl
same_action Open = refl
same_action Check = refl

settled_follow : (action : Action) (index_args : List (List ℕ)) → IsSettled (MayFollow action index_args)
settled_follow action index_args = settled_both (settled_each IsNumberArg (settled_number (2 ^ 64)) index_args)
    (none_after action index_args)
  where
    none_after : (action : Action) (index_args : List (List ℕ)) → IsSettled (action ≡ Commit → index_args ≡ [])
    none_after action [] = inl (λ is. refl)
    none_after Commit (arg ∷ index_args) = inr (λ none. absurd (let apart = none refl in cc))
    none_after Open (arg ∷ index_args) = inl (λ is. absurd cc)
    none_after Check (arg ∷ index_args) = inl (λ is. absurd cc)

module _ (args : List (List ℕ)) where
  -- the arguments of some command and its indices
  abbrev pub AreSomeCommand : Type 0
  AreSomeCommand = (command : Command) × (indices : List ℕ) × AreArgs args command indices

  -- the command that the arguments can be, and its indices
  abbrev digits : List ℕ
  digits = (split_of (get_or args 2 [])).0

  abbrev own : Command
  own = record {
    hash = hash_of (get_or args 0 []);
    arity = arity_of (get_or args 1 []);
    cap = record { height = digits_value 10 digits; rule = (split_of (get_or args 2 [])).1 };
    action = action_of (get_or args 3 []);
  }

  abbrev indices_in : List ℕ
  indices_in = map (digits_value 10) (drop 4 args)

  -- and that they are
  abbrev IsOwn : Type 0
  IsOwn =
      (args ≡ hash_arg own.hash ∷ arity_arg own.arity ∷ get_or args 2 [] ∷ action_arg own.action ∷ drop 4 args)
      × (IsNumberArg digits × MayFollow own.action (drop 4 args))

  own_command : IsOwn → AreSomeCommand
  own_command is = (
    own,
    indices_in,
    record {
      cap = get_or args 2 [];
      index_args = drop 4 args;
      spelling = is.0;
      cap_arg = (digits, (split_of (get_or args 2 [])).2.cut, is.1.0, refl);
      may_follow = is.1.1;
      indices_are = refl;
    },
  )

-- arguments of a command are those of no other
only_command : (args : List (List ℕ)) (command : Command) (indices : List ℕ) → AreArgs args command indices →
    ((command ≡ own args) × (indices ≡ indices_in args)) × IsOwn args
only_command args command indices are =
    let hash_is = same_hash command.hash in
    let arity_is = same_arity command.arity in
    let action_is = same_action command.action in
    let cap_is = only_cap are.cap _ _ (split_of are.cap).2 command.cap are.cap_arg in
    subst (λ (ws : List (List ℕ)). ((command ≡ own ws) × (indices ≡ indices_in ws)) × IsOwn ws) (sym are.spelling) (
      (
        λ i. record { hash = hash_is i; arity = arity_is i; cap = cap_is.0 i; action = action_is i },
        are.indices_are,
      ),
      (
        λ i. hash_arg (hash_is i) ∷ arity_arg (arity_is i) ∷ are.cap ∷ action_arg (action_is i) ∷ are.index_args,
        (cap_is.1, subst (λ (action : Action). MayFollow action are.index_args) action_is are.may_follow),
      ),
    )

pub same_command : (args : List (List ℕ)) (c d : Command) (is js : List ℕ) → AreArgs args c is →
    AreArgs args d js → (c ≡ d) × (is ≡ js)
same_command args c d is js u v =
    let one = (only_command args c is u).0 in
    let other = (only_command args d js v).0 in (one.0 ∙ sym other.0, one.1 ∙ sym other.1)

pub settled_command : (args : List (List ℕ)) → IsSettled (AreSomeCommand args)
settled_command args =
    settled_as (own_command args) (λ some. (only_command args some.0 some.1 some.2).1)
    (settled_both (settled_by _ (slice_eq-Decides bytes_eq-Decides args _ _ refl))
    (settled_both (settled_number (2 ^ 64) (digits args)) (settled_follow (own args).action (drop 4 args))))
