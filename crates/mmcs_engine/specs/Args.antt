-- The arguments of a command.
use Rattle.std.specs.Prelude.{◌≡◌, ℕ, ◌-◌, ◌^◌, List, [], ◌∷◌, ◌++◌, All, codes, String, string_bytes, map}
use Rattle.std.specs.Str.Parse.{digits_value}
use Rattle.p3_merkle_core.specs.declared.cap.CapRule.{CapRule}
use Rattle.p3_merkle_core.specs.declared.cap.CapRule.TheVariants.{Lowered, Fixed}
use Rattle.mmcs_engine.specs.Numbers.{IsNumberBelow}
use Rattle.mmcs_engine.specs.declared.command.Action.{Action}
use Rattle.mmcs_engine.specs.declared.command.Action.TheVariants.{Commit, Open, Check}
use Rattle.mmcs_engine.specs.declared.command.Arity.{Arity}
use Rattle.mmcs_engine.specs.declared.command.Arity.TheVariants.{Two, Four, Eight}
use Rattle.mmcs_engine.specs.declared.command.CapChoice.{CapChoice}
use Rattle.mmcs_engine.specs.declared.command.Command.{Command}
use Rattle.mmcs_engine.specs.declared.command.HashName.{HashName}
use Rattle.mmcs_engine.specs.declared.command.HashName.TheVariants.{Fold, Sha256}

-- the texts of some arguments
abbrev pub texts_of : {A : Type 0} → List (String A) → List (List ℕ)
texts_of args = map string_bytes args

-- the argument of a hash
abbrev pub hash_arg : HashName → List ℕ
hash_arg Fold = codes "fold"
hash_arg Sha256 = codes "sha256"

-- the greatest word of a row
abbrev pub max_word : HashName → ℕ
max_word Fold = 2 ^ 32 - 1
max_word Sha256 = 2 ^ 8 - 1

-- how many children a node may have
abbrev pub arity_number : Arity → ℕ
arity_number Two = 2
arity_number Four = 4
arity_number Eight = 8

-- the argument of an arity
abbrev pub arity_arg : Arity → List ℕ
arity_arg Two = codes "2"
arity_arg Four = codes "4"
arity_arg Eight = codes "8"

-- the digits of a number that fits usize
abbrev pub IsNumberArg : List ℕ → Type 0
IsNumberArg digits = IsNumberBelow (2 ^ 64) digits

-- what follows the digits of a cap height: `f` for the fixed rule
abbrev pub rule_mark : CapRule → List ℕ
rule_mark Lowered = []
rule_mark Fixed = codes "f"

-- the argument of a cap height and a rule
abbrev pub IsCapArg : List ℕ → CapChoice → Type 0
IsCapArg arg cap =
    (digits : List ℕ) × (arg ≡ digits ++ rule_mark cap.rule) × IsNumberArg digits ×
    (cap.height ≡ digits_value 10 digits)

-- the argument of an action
abbrev pub action_arg : Action → List ℕ
action_arg Commit = codes "commit"
action_arg Open = codes "open"
action_arg Check = codes "check"

-- arguments that may follow an action: those of numbers, and after `commit` none
abbrev pub MayFollow : Action → List (List ℕ) → Type 0
MayFollow action index_args = All IsNumberArg index_args × (action ≡ Commit → index_args ≡ [])

-- the arguments of a command and its indices: a hash, an arity, a cap, an action, and the indices
pub record AreArgs (args : List (List ℕ)) (command : Command) (indices : List ℕ) : Type 0 where
  pub cap : List ℕ
  pub index_args : List (List ℕ)
  pub spelling : args ≡ hash_arg command.hash ∷ arity_arg command.arity ∷ cap ∷ action_arg command.action ∷ index_args
  pub cap_arg : IsCapArg cap command.cap
  pub may_follow : MayFollow command.action index_args
  pub indices_are : indices ≡ map (digits_value 10) index_args

-- arguments that are no command
abbrev pub AreNoCommand : List (List ℕ) → Type 0
AreNoCommand args = (command : Command) (indices : List ℕ) → AreArgs args command indices → ⊥
