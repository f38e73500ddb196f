-- There is one outcome by definition.
use Rattle.std.proofs.Common.{◌≡◌, ◌⊎◌, ⊎_elim, inl, inr, ℕ, ◌+◌, List, [], ◌∷◌, Option, Some, None, Result, Ok, Err}
use Rattle.std.proofs.Common.{sym, refl, ap, ◌∙◌, subst}
use Rattle.std.specs.Prelude.{◌<◌, All, IfSome, IfErr, OnOk}
use Rattle.std.specs.Io.KnownBytes.{Appends}
use Rattle.std.specs.List.{AllZip}
use Rattle.p3_merkle_core.specs.Geometry.{IsLawful}
use Rattle.p3_merkle_core.specs.Nodes.{shape}
use Rattle.p3_merkle_core.specs.declared.error.MerkleTreeError.{MerkleTreeError}
use Rattle.p3_merkle_core.specs.declared.error.MerkleTreeError.TheVariants.{OutOfMemory}
use Rattle.p3_support.specs.Batches.{greatest}
use Rattle.mmcs_engine.specs.declared.command.Command.{Command}
use Rattle.mmcs_engine.specs.declared.fault.Fault.{Fault}
use Rattle.mmcs_engine.specs.declared.fault.Fault.TheVariants.{Usage, Read, Number, Count, Tree, Write}
use Rattle.mmcs_engine.specs.Input.{pieces_of, runs_between, is_blank, IsFirstFault, IsMatrix, StandsFor}
use Rattle.mmcs_engine.specs.Args.{max_word, AreNoCommand, AreArgs, arity_number}
use Rattle.mmcs_engine.specs.Program.{batch_of_command, output_of, refusal_of, AreTaken, EndsIn, IsOutcome, IsReply}
use Rattle.mmcs_engine.specs.Program.{HoldsOfInput, IsReported, Prints}
use Rattle.whole_writes.specs.Prefixes.{AppendsPrefix}
use Rattle.mmcs_engine.proofs.ArgFacts.{same_command}
use Rattle.mmcs_engine.proofs.FaultFacts.{fault_excludes, one_first_fault}
use Rattle.mmcs_engine.proofs.GateFacts.{heights_are, taken_unrefused}

-- blocks are of one list of matrices
same_zipped : (limit : ℕ) (blocks : List (List (List ℕ))) (ms ns : List (List (List ℕ))) →
    AllZip (IsMatrix limit) blocks ms → AllZip (IsMatrix limit) blocks ns → ms ≡ ns
same_zipped limit [] [] [] u v = refl
same_zipped limit [] (m ∷ ms) ns u v = absurd u
same_zipped limit [] [] (n ∷ ns) u v = absurd v
same_zipped limit (b ∷ blocks) [] ns u v = absurd u
same_zipped limit (b ∷ blocks) (m ∷ ms) [] u v = absurd v
same_zipped limit (b ∷ blocks) (m ∷ ms) (n ∷ ns) u v = λ i. (u.0.rows_are ∙ sym v.0.rows_are) i
    ∷ same_zipped limit blocks ms ns u.1 v.1 i

pub same_matrices : (limit : ℕ) (input : List ℕ) (ms ns : List (List (List ℕ))) → StandsFor limit input ms →
    StandsFor limit input ns → ms ≡ ns
same_matrices limit input ms ns u v = same_zipped limit (runs_between is_blank (pieces_of input)) ms ns u v

module _ (command : Command) (indices input : List ℕ) where
  abbrev limit : ℕ
  limit = max_word command.hash + 1

  -- what is taken is not refused
  pub unrefused : (matrices : List (List (List ℕ))) → AreTaken indices matrices → refusal_of command indices matrices
      ≡ None
  unrefused matrices taken =
      let there = subst (λ (hs : List ℕ). IsLawful hs × All (λ i. i < greatest hs) indices)
      (sym (heights_are matrices (arity_number command.arity))) taken in
      taken_unrefused (shape (batch_of_command command matrices)) indices there.0 there.1

  -- a fault is of the tree, or of a line
  fault_parts : (fault : Fault) → IsReply command indices input (Err fault) →
      ((e : MerkleTreeError) × (fault ≡ Tree e) × IsReply command indices input (Err (Tree e))) ⊎
      IsFirstFault limit (pieces_of input) fault
  fault_parts Usage told = inr told
  fault_parts Read told = inr told
  fault_parts (Number n m) told = inr told
  fault_parts (Count n e g) told = inr told
  fault_parts (Tree e) told = inl (e, refl, told)
  fault_parts Write told = inr told

  -- a text comes with no fault
  not_both : (text : List ℕ) (fault : Fault) → IsReply command indices input (Ok text) →
      IsReply command indices input (Err fault) → ⊥
  not_both text fault ok told =
      ⊎_elim
      (λ tree.
      let same = same_matrices limit input ok.0 tree.2.0 ok.1 tree.2.1 in
      let none = sym (unrefused ok.0 ok.2) ∙ ap (refusal_of command indices) same ∙ tree.2.2 in cc)
      (λ line. fault_excludes limit (pieces_of input) fault ok.0 line ok.1)
      (fault_parts fault told)

  one_fault_told : (f g : Fault) → IsReply command indices input (Err f) → IsReply command indices input (Err g) → f ≡ g
  one_fault_told f g u v =
      ⊎_elim
      (λ a. ⊎_elim
      (λ b.
      let same = same_matrices limit input a.2.0 b.2.0 a.2.1 b.2.1 in
      let errors = sym a.2.2 ∙ ap (refusal_of command indices) same ∙ b.2.2 in
      let error : a.0 ≡ b.0 = cc in
      a.1 ∙ ap Tree error ∙ sym b.1)
      (λ b. absurd (fault_excludes limit (pieces_of input) g a.2.0 b a.2.1))
      (fault_parts g v))
      (λ a. ⊎_elim
      (λ b. absurd (fault_excludes limit (pieces_of input) f b.2.0 a b.2.1))
      (λ b. one_first_fault limit (pieces_of input) f g a b)
      (fault_parts g v))
      (fault_parts f u)

  one_reply : (o p : Result (List ℕ) Fault) → IsReply command indices input o → IsReply command indices input p → o ≡ p
  one_reply (Ok t) (Ok s) u v =
      let same = same_matrices limit input u.0 v.0 u.1 v.1 in
      ap Ok (u.3 ∙ ap (output_of command indices) same ∙ sym v.3)
  one_reply (Ok t) (Err g) u v = absurd (not_both t g u v)
  one_reply (Err f) (Ok s) u v = absurd (not_both s f v u)
  one_reply (Err f) (Err g) u v = ap Err (one_fault_told f g u v)

-- the usage of arguments that are no command, or what a command is answered
outcome_parts : (args : List (List ℕ)) (input : List ℕ) (o : Result (List ℕ) Fault) → IsOutcome args input o →
    ((o ≡ Err Usage) × AreNoCommand args) ⊎
    ((command : Command) × (indices : List ℕ) × AreArgs args command indices × IsReply command indices input o)
outcome_parts args input (Ok t) told = inr told
outcome_parts args input (Err Usage) told = inl (refl, told)
outcome_parts args input (Err Read) told = inr told
outcome_parts args input (Err (Number n m)) told = inr told
outcome_parts args input (Err (Count n e g)) told = inr told
outcome_parts args input (Err (Tree e)) told = inr told
outcome_parts args input (Err Write) told = inr told

pub one_outcome : (args : List (List ℕ)) (input : List ℕ) (o p : Result (List ℕ) Fault) → IsOutcome args input o →
    IsOutcome args input p → o ≡ p
one_outcome args input o p u v =
    ⊎_elim
    (λ a. ⊎_elim (λ b. a.0 ∙ sym b.0) (λ b. absurd (a.1 b.0 b.1 b.2)) (outcome_parts args input p v))
    (λ a. ⊎_elim (λ b. absurd (b.1 a.0 a.1 a.2))
    (λ b.
    let same = same_command args a.0 b.0 a.1 b.1 a.2 b.2 in
    one_reply b.0 b.1 input o p
    (subst (λ (is : List ℕ). IsReply b.0 is input o) same.1 (subst (λ (c : Command). IsReply c a.1 input o) same.0 a.3))
    b.3)
    (outcome_parts args input p v))
    (outcome_parts args input o u)

-- ---- and it is what is answered

after_read : (outcome : Result (List ℕ) Fault) → EndsIn outcome (Err Read)
after_read (Ok text) = inr (inr (inl refl))
after_read (Err fault) = inr (inl refl)

after_memory : (outcome : Result (List ℕ) Fault) → EndsIn outcome (Err (Tree OutOfMemory))
after_memory (Ok text) = inr (inr (inr refl))
after_memory (Err fault) = inr (inr refl)

module _ (args : List (List ℕ)) (known old new : Option (List ℕ)) (input : List ℕ) (known_is : known ≡ Some input)
    (outcome : Result (List ℕ) Fault) (told : IsOutcome args input outcome) where
  -- a fault that is the outcome
  same_fault : (fault : Fault) → HoldsOfInput known (λ bytes. IsOutcome args bytes (Err fault)) →
      EndsIn outcome (Err fault)
  same_fault fault (bytes, is, there) =
      let same : bytes ≡ input = subst (λ (k : Option (List ℕ)). IfSome k (λ all. bytes ≡ all)) known_is is in
      let known_told = subst (λ (read : List ℕ). IsOutcome args read (Err fault)) same there in
      subst (λ (o : Result (List ℕ) Fault). EndsIn o (Err fault))
      (one_outcome args input (Err fault) outcome known_told told) (inl refl)

  -- a text that is the outcome
  same_text : (H : List ℕ → Type 0) (result : Result (Unit {0}) Fault) → Prints args known H →
      ((text : List ℕ) → EndsIn (Ok text) result) → EndsIn outcome result
  same_text H result (bytes, is, (text, there, holds)) ends =
      let same : bytes ≡ input = subst (λ (k : Option (List ℕ)). IfSome k (λ all. bytes ≡ all)) known_is is in
      let known_told = subst (λ (read : List ℕ). IsOutcome args read (Ok text)) same there in
      subst (λ (o : Result (List ℕ) Fault). EndsIn o result)
      (one_outcome args input (Ok text) outcome known_told told) (ends text)

  pub ends_in : (result : Result (Unit {0}) Fault) → (result ≡ Err Usage → AreNoCommand args) →
      OnOk result (Prints args known (λ text. Appends old new text)) →
      (result ≡ Err Write → Prints args known (λ text. AppendsPrefix old new text)) →
      IfErr result (IsReported args known) → EndsIn outcome result
  ends_in (Ok tt) usage ok last fault = same_text (λ text. Appends old new text) (Ok tt) ok (λ text. inr (inl refl))
  ends_in (Err Usage) usage ok last fault = subst (λ (o : Result (List ℕ) Fault). EndsIn o (Err Usage))
      (one_outcome args input (Err Usage) outcome (usage refl) told) (inl refl)
  ends_in (Err Read) usage ok last fault = after_read outcome
  ends_in (Err (Number n m)) usage ok last fault = same_fault (Number n m) fault
  ends_in (Err (Count n e g)) usage ok last fault = same_fault (Count n e g) fault
  ends_in (Err (Tree e)) usage ok last fault =
      ⊎_elim (λ memory. subst (λ (d : MerkleTreeError). EndsIn outcome (Err (Tree d))) (sym memory)
      (after_memory outcome)) (λ there. same_fault (Tree e) there) fault
  ends_in (Err Write) usage ok last fault =
      same_text (λ text. AppendsPrefix old new text) (Err Write) (last refl) (λ text. inl refl)
