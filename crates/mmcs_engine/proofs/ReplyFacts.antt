-- What is said of a batch is said of the input's matrices, and what is told of them is the outcome.
use Rattle.std.proofs.Common.{◌≡◌, ◌⊎◌, ⊎_elim, inl, inr, ℕ, ◌+◌, List, Option, Some, None, Result, Ok, Err, sym, refl}
use Rattle.std.proofs.Common.{ap, ◌∙◌, subst, true}
use Rattle.std.specs.Prelude.{[], ◌↔◌, ◌<◌, All, IfErr, IfSome}
use Rattle.std.specs.Result.{is_err}
use Rattle.std.specs.Io.KnownBytes.{Appends}
use Rattle.whole_writes.specs.Prefixes.{AppendsPrefix}
use Rattle.p3_merkle_core.specs.Geometry.{IsLawful, Shape}
use Rattle.p3_merkle_core.specs.Refusals.{pruned_len_refusal}
use Rattle.p3_merkle_core.specs.Checks.{Params}
use Rattle.p3_merkle_core.specs.Nodes.{shape, Batch}
use Rattle.p3_merkle_core.specs.Pruning.{IsPrunedAccepted, PrunedOpening}
use Rattle.p3_merkle_core.specs.declared.error.MerkleTreeError.{MerkleTreeError}
use Rattle.p3_merkle_core.specs.declared.error.MerkleTreeError.TheVariants.{OutOfMemory}
use Rattle.p3_support.specs.Batches.{greatest}
use Rattle.mmcs_engine.specs.declared.command.Command.{Command}
use Rattle.mmcs_engine.specs.declared.fault.Fault.{Fault}
use Rattle.mmcs_engine.specs.declared.fault.Fault.TheVariants.{Usage, Tree, Write}
use Rattle.mmcs_engine.specs.Input.{StandsFor}
use Rattle.mmcs_engine.specs.Matrices.{batch_of_rows}
use Rattle.mmcs_engine.specs.Args.{arity_number, max_word, AreNoCommand}
use Rattle.mmcs_engine.specs.Program.{batch_of_command}
use Rattle.mmcs_engine.specs.Program.{layer_of_cap, refusal_of, text_of, IsAnswer, IsReply, IsReported, Prints}
use Rattle.mmcs_engine.proofs.GateFacts.{heights_are, taken_from_none}
use Rattle.mmcs_engine.proofs.Outcomes.{ends_in}

-- a batch of numbers is that of the matrices that an input stands for
module _ (command : Command) (indices input : List ℕ) (max n : ℕ) (max_is : max ≡ max_word command.hash)
    (n_is : n ≡ arity_number command.arity) (matrices : List (List (List ℕ)))
    (read : StandsFor (max + 1) input matrices)
    (b : Batch ℕ) (b_is : b ≡ batch_of_rows n matrices) (s : Shape) (s_is : s ≡ shape b) where
  stands : StandsFor (max_word command.hash + 1) input matrices
  stands = subst (λ (m : ℕ). StandsFor (m + 1) input matrices) max_is read

  batch_is : b ≡ batch_of_command command matrices
  batch_is = b_is ∙ ap (λ a. batch_of_rows a matrices) n_is

  refusal_is : pruned_len_refusal s indices ≡ refusal_of command indices matrices
  refusal_is = ap (λ (t : Shape). pruned_len_refusal t indices) (s_is ∙ ap shape batch_is)

  pub reply_text : (text : List ℕ) → pruned_len_refusal s indices ≡ None → text
      ≡ text_of command.hash command.action indices b (layer_of_cap command.cap (shape b)) →
      IsReply command indices input (Ok text)
  reply_text text none text_is =
      let there = taken_from_none (shape (batch_of_command command matrices)) indices (sym refusal_is ∙ none) in (
        matrices,
        stands,
        subst (λ (hs : List ℕ). IsLawful hs × All (λ i. i < greatest hs) indices)
            (heights_are matrices (arity_number command.arity)) there,
        text_is ∙ (λ i. text_of command.hash command.action indices (batch_is i)
            (layer_of_cap command.cap (shape (batch_is i)))),
      )

  pub reply_fault : (e : MerkleTreeError) → (e ≡ OutOfMemory) ⊎ (pruned_len_refusal s indices ≡ Some e) →
      (Tree e ≡ Tree OutOfMemory) ⊎ IsReply command indices input (Err (Tree e))
  reply_fault e told =
      ⊎_elim (λ memory. inl (ap Tree memory)) (λ due. inr (matrices, stands, sym refusal_is ∙ due)) told

-- ---- the outcome

-- the usage is told of no command alone
pub usage_told : {V : Type 0} (args : List (List ℕ)) (fault : Fault) → ((fault ≡ Usage) × AreNoCommand args) ⊎
    ((fault ≡ Tree OutOfMemory) × (AreNoCommand args → ⊥)) →
    (◌≡◌ {A = Result V Fault} (Err fault) (Err Usage)) ↔ AreNoCommand args
usage_told args fault told = (
  λ is. ⊎_elim (λ usage. usage.1)
      (λ memory. absurd (let same : fault ≡ Usage = cc in let apart = sym same ∙ memory.0 in cc)) told,
  λ none. ⊎_elim (λ usage. ap Err usage.0) (λ memory. absurd (memory.1 none)) told,
)

-- bytes that may be read
some_input : (known : Option (List ℕ)) → (input : List ℕ) × IfSome known (λ all. input ≡ all)
some_input None = ([], tt)
some_input (Some all) = (all, refl)

-- so it is reported, whatever would be read
pub usage_reported : (args : List (List ℕ)) (known : Option (List ℕ)) (fault : Fault) →
    ((fault ≡ Usage) × AreNoCommand args) ⊎ ((fault ≡ Tree OutOfMemory) × (AreNoCommand args → ⊥)) →
    (fault ≡ Write → ⊥) × IsReported args known fault
usage_reported args known fault (inl (is, none)) =
    let input = some_input known in (
      λ write. let apart : Usage ≡ Write = sym is ∙ write in cc,
      subst (IsReported args known) (sym is) (input.0, input.1, none),
    )
usage_reported args known fault (inr (is, some)) = (
  λ write. let apart : Tree OutOfMemory ≡ Write = sym is ∙ write in cc,
  subst (IsReported args known) (sym is) (inl refl),
)

module _ {S D V : Type 0} (remaining : S → Option (List ℕ)) (contents : D → Option (List ℕ)) (args : List (List ℕ))
    (input input_left : S) (output : D) (answer : Result V Fault)
    (usage : (answer ≡ Err Usage) ↔ AreNoCommand args) (unread : answer ≡ Err Usage → input_left ≡ input) where
  -- a fault before anything is written
  pub failed : (fault : Fault) → answer ≡ Err fault → (fault ≡ Write → ⊥) × IsReported args (remaining input) fault →
      IsAnswer remaining contents args input input_left output output (Err fault)
  failed fault answer_is told =
      let is_usage : ◌≡◌ {A = Result (Unit {0}) Fault} (Err fault) (Err Usage) → answer ≡ Err Usage = λ is. answer_is
      ∙ ap Err (let same : fault ≡ Usage = cc in same) in
      let told_usage : ◌≡◌ {A = Result (Unit {0}) Fault} (Err fault) (Err Usage) →
      AreNoCommand args = λ is. usage.0 (is_usage is) in
      let last : ◌≡◌ {A = Result (Unit {0}) Fault} (Err fault) (Err Write) →
      Prints args (remaining input) (λ text. AppendsPrefix (contents output) (contents output) text) =
      λ is. absurd (told.0 (let same : fault ≡ Write = cc in same)) in
      record {
        usage = (
          told_usage,
          λ none. ap Err (let same = sym answer_is ∙ usage.1 none in let faults : fault
              ≡ Usage = cc in faults),
        );
        unread = λ is. unread (is_usage is);
        silent = inr refl;
        ok = tt;
        last = last;
        fault = told.1;
        ends = λ bytes outcome known outcome_is. ends_in args (remaining input) (contents output) (contents output)
            bytes known outcome outcome_is (Err fault) told_usage tt last told.1;
      }

  -- a text that is written
  module _ (output_left : D) (value : V) (text : List ℕ) (answer_is : answer ≡ Ok value)
      (prints : Prints args (remaining input) (λ t. text ≡ t)) where
    no_usage : (result : Result (Unit {0}) Fault) → (result ≡ Err Usage → ⊥) → (result ≡ Err Usage) ↔ AreNoCommand args
    no_usage result never = (λ is. absurd (never is), λ none. absurd (let same = sym answer_is ∙ usage.1 none in cc))

    -- what is printed has each property that follows from being this text
    printed : (known : Option (List ℕ)) (H : List ℕ → Type 0) → (((t : List ℕ) → text ≡ t → H t)) →
        Prints args known (λ t. text ≡ t) → Prints args known H
    printed known H holds (bytes, is, (t, told, same)) = (bytes, is, (t, told, holds t same))

    pub written : Appends (contents output) (contents output_left) text →
        IsAnswer remaining contents args input input_left output output_left (Ok tt)
    written wrote =
        let told = printed (remaining input) (λ t. Appends (contents output) (contents output_left) t)
        (λ t same. subst (λ (s : List ℕ). Appends (contents output) (contents output_left) s) same wrote) prints in
        let never : ◌≡◌ {A = Result (Unit {0}) Fault} (Ok tt) (Err Usage) → ⊥ = λ is. cc in
        record {
          usage = no_usage (Ok tt) never;
          unread = λ is. absurd (never is);
          silent = tt;
          ok = told;
          last = λ is. absurd cc;
          fault = tt;
          ends = λ bytes outcome known outcome_is. ends_in args (remaining input) (contents output)
              (contents output_left) bytes known outcome outcome_is (Ok tt) (λ is. absurd (never is)) told
              (λ is. absurd cc) tt;
        }

    pub unwritten : AppendsPrefix (contents output) (contents output_left) text →
        IsAnswer remaining contents args input input_left output output_left (Err Write)
    unwritten wrote =
        let told : Prints args (remaining input) (λ t. AppendsPrefix (contents output) (contents output_left) t) =
        printed (remaining input) (λ t. AppendsPrefix (contents output) (contents output_left) t)
        (λ t same. subst (λ (s : List ℕ). AppendsPrefix (contents output) (contents output_left) s) same wrote)
        prints in
        let never : ◌≡◌ {A = Result (Unit {0}) Fault} (Err Write) (Err Usage) → ⊥ = λ is. cc in
        record {
          usage = no_usage (Err Write) never;
          unread = λ is. absurd (never is);
          silent = inl refl;
          ok = tt;
          last = λ is. told;
          fault = tt;
          ends = λ bytes outcome known outcome_is. ends_in args (remaining input) (contents output)
              (contents output_left) bytes known outcome outcome_is (Err Write) (λ is. absurd (never is)) tt
              (λ is. told) tt;
        }

-- an opening that is accepted is accepted in other words
pub accepted_lent : {T W : Type 0} (params : Shape → Params T W) (s t : Shape) (roots cap : List (List W))
    (p q : PrunedOpening T W) → s ≡ t → roots ≡ cap → p ≡ q → IsPrunedAccepted (params t) cap q →
    IsPrunedAccepted (params s) roots p
accepted_lent params s t roots cap p q shapes caps same accepted = rw (shapes, caps, same) accepted

-- what holds of an error, whatever it is
pub of_error : {T E P : Type 0} (r : Result T E) → is_err r ≡ true → IfErr r (λ e. P) → P
of_error (Ok v) is holds = absurd cc
of_error (Err e) is holds = holds
