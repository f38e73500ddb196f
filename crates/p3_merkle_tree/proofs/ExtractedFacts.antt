-- What a scheme answers to salted openings: before rows are joined with their salts, and as the plain scheme answers.
use Rattle.std.proofs.Common.{◌≡◌, ◌↔◌, ◌∙◌, ◌⊎◌, ℕ, Bool, List, ap, inl, inr, refl, subst, sym, None, Some}
use Rattle.std.proofs.Common.{false, true}
use Rattle.std.specs.Prelude.{Ok, Err, IfOk, IsErr, IsOk, Option, Result}
use Rattle.std.specs.Option.{option_map, option_or, unwrap_or}
use Rattle.std.specs.Result.{result_err, result_map_both}
use Rattle.std.specs.declared.default.Default as default
use Rattle.std.specs.declared.cmp.PartialEq as equality
use Rattle.p3_support.specs.Batches.{widened}
use Rattle.p3_support.specs.declared.compress.PseudoCompressionFunction as compressor
use Rattle.p3_support.specs.declared.hasher.CryptographicHasher as hasher
use Rattle.p3_support.specs.declared.packed.PackedValue as packed
use Rattle.p3_support.specs.declared.matrix.Dimensions.{Dimensions}
use Rattle.p3_merkle_core.specs.Checks.{Input, Params}
use Rattle.p3_merkle_core.specs.Extraction.{IsExactExtraction, IsExtraction, difference_of, first_difference}
use Rattle.p3_merkle_core.specs.Views.{inputs_in}
use Rattle.p3_merkle_core.specs.declared.collision.InputPair.{InputPair}
use Rattle.p3_merkle_core.specs.Geometry.{shape_of}
use Rattle.p3_merkle_core.specs.Pruning.{PrunedOpening}
use Rattle.p3_merkle_core.specs.Presented.{Presented, IsVerdict, presented_pruned}
use Rattle.p3_merkle_core.specs.Refusals.{AnswersUnlessMemory, IsEquality, Refuses}
use Rattle.p3_merkle_core.specs.declared.cap.CapRule.{CapRule}
use Rattle.p3_merkle_core.specs.declared.error.MerkleTreeError.{MerkleTreeError}
use Rattle.p3_merkle_core.specs.declared.error.MerkleTreeError.TheVariants.{OutOfMemory}
use Rattle.p3_merkle_core.proofs.Collisions.ExtractionFacts.{IsPresentation, all_authenticated, extracted}
use Rattle.p3_merkle_core.proofs.Collisions.ExtractionFacts.{exact_alone, extracted_one}
use Rattle.p3_merkle_tree.specs.Schemes.{cap_height_of, cap_rule_of, params_of}
use Rattle.p3_merkle_tree.proofs.VerdictFacts.{verdict_by}
use Rattle.p3_merkle_tree.specs.HidingSchemes.{plain_of, salted_params_of}
use Rattle.p3_merkle_tree.specs.SaltedOpenings.{IsSaltedPrunedAccepted, SaltedOpening}
use Rattle.p3_merkle_tree.specs.SaltedOpenings.{SaltedPruned, joined, joined_sets}
use Rattle.p3_merkle_tree.specs.SaltRefusals.{salted_refusal_under, salted_sets_refusal}
use Rattle.p3_merkle_tree.specs.SaltedExtraction.{IsOnlySaltedOpening, IsSaltedExtraction, IsSaltedPrunedExtraction}
use Rattle.p3_merkle_tree.specs.SaltedPresented.{presented_salted}
use Rattle.p3_merkle_tree.proofs.SaltedExtractionFacts.{only_salted, salted_told}
use Rattle.p3_merkle_tree.specs.declared.hiding_mmcs.HidingScheme.{HidingScheme}
use Rattle.p3_merkle_tree.proofs.SaltedAnswers.{salted_presentation, salted_pruned_presentation}

-- what is refused before rows and salts are joined is the refusal
pub refused_before : {V : Type 0} (r : Result V MerkleTreeError) (first after : Option MerkleTreeError) → IsErr r →
    AnswersUnlessMemory r first → AnswersUnlessMemory r (option_or first after)
refused_before (Ok v) first after err a = absurd cc
refused_before (Err x) first after err (inl m) = inl m
refused_before (Err x) first after err (inr is) = inr (ap (λ (z : Option MerkleTreeError). option_or z after) is)

-- an error that is the refusal, or says that memory ran out
pub answer_of : {V : Type 0} (r : Result V MerkleTreeError) (x : MerkleTreeError) (refusal : Option MerkleTreeError) →
    r ≡ Err x → (x ≡ OutOfMemory) ⊎ (refusal ≡ Some x) → AnswersUnlessMemory r refusal
answer_of r x refusal is answer = subst (λ z. AnswersUnlessMemory z refusal) (sym is) answer

-- the first opening's refusal, else that of the second before it is joined: the refusal of both
error_of_both : {U : Type 0} (checked : Result U MerkleTreeError) (y x : MerkleTreeError)
    (first before after : Option MerkleTreeError) → AnswersUnlessMemory checked first → (y ≡ OutOfMemory) ⊎
    (before ≡ Some y) → x ≡ unwrap_or (result_err checked) y →
    (x ≡ OutOfMemory) ⊎ (option_or first (option_or before after) ≡ Some x)
error_of_both (Ok v) y x first before after passed (inl m) is = inl (is ∙ m)
error_of_both (Ok v) y x first before after passed (inr refused) is =
    let second : before ≡ Some x = refused ∙ ap (λ (z : MerkleTreeError). Some z) (sym is) in
    inr (λ i. option_or (passed i) (option_or (second i) after))
error_of_both (Err z) y x first before after (inl m) b is = inl (is ∙ m)
error_of_both (Err z) y x first before after (inr refused) b is =
    let plain : first ≡ Some x = refused ∙ ap (λ (z : MerkleTreeError). Some z) (sym is) in
    inr (λ i. option_or (plain i) (option_or before after))

-- an opening that is refused for `before`, else as the plain opening that it is joined to
abbrev salted : {T W : Type 0} → Option MerkleTreeError → Type 0 → Presented T W → Presented T W
salted before accepted p = record p { is_accepted = accepted; refusal = option_or before p.refusal }

-- openings of one index, or of several, and how the plain scheme is presented with what they are joined to, over
-- matrices of some dimensions; these are so the salted ones, over wider matrices
pub record Kind {T W : Type 0} (eq : T → T → Bool) (same : W → W → Bool) (rule : CapRule)
    (over : List Dimensions → Params T W) (wide : List Dimensions) : Type 1 where
  pub O : Type 0
  pub A : Type 0
  pub join : O → A
  pub before : O → Option MerkleTreeError
  pub accepted : O → Type 0
  pub plain : List Dimensions → A → Presented T W
  pub decided : (o : O) → (option_or (before o) (plain wide (join o)).refusal ≡ None) ↔ accepted o
  pub extracts : (o u : O) → let first = salted (before o) (accepted o) (plain wide (join o)) in
      let second = salted (before u) (accepted u) (plain wide (join u)) in
      (r : Result (Option (ℕ × ℕ × (Input T W × Input T W))) MerkleTreeError) →
      AnswersUnlessMemory r (option_or first.refusal second.refusal) →
      IfOk r (λ found. found ≡ first_difference eq same (over wide) first second) →
      IsExtraction eq same rule (over wide) first second r

module _ {T W : Type 0} {eq : T → T → Bool} {same : W → W → Bool} {rule : CapRule}
    {over : List Dimensions → Params T W} {wide : List Dimensions} (k : Kind eq same rule over wide) where
  -- an opening as it is presented
  abbrev shown : k.O → Presented T W
  shown o = salted (k.before o) (k.accepted o) (k.plain wide (k.join o))

  -- an opening is not refused before it is joined to a plain one
  pub record IsJoined (o : k.O) (given : List Dimensions) (a : k.A) : Type 0 where
    pub none : k.before o ≡ None
    pub is_wide : given ≡ wide
    pub is : a ≡ k.join o

  -- so it is answered as the plain one
  answer_joined : {Z : Type 0} (o : k.O) (given : List Dimensions) (a : k.A) → IsJoined o given a →
      (r : Result Z MerkleTreeError) → AnswersUnlessMemory r (k.plain given a).refusal →
      AnswersUnlessMemory r (shown o).refusal
  answer_joined o given a j r answer =
      subst (AnswersUnlessMemory r) (λ i. option_or (sym j.none i) (k.plain (j.is_wide i) (j.is i)).refusal) answer

  pub verdict_joined : {Z : Type 0} (o : k.O) (given : List Dimensions) (a : k.A) → IsJoined o given a →
      (r : Result Z MerkleTreeError) → AnswersUnlessMemory r (k.plain given a).refusal → IsVerdict (shown o) r
  verdict_joined o given a j r answer = verdict_by (shown o) (k.decided o) r (answer_joined o given a j r answer)

  pub verdict_refused : {Z : Type 0} (o : k.O) (r : Result Z MerkleTreeError) → IsErr r →
      AnswersUnlessMemory r (k.before o) → IsVerdict (shown o) r
  verdict_refused o r err before =
      verdict_by (shown o) (k.decided o) r
      (refused_before r (k.before o) (k.plain wide (k.join o)).refusal err before)

  module _ (o u : k.O) where
    pub both_joined : (given : List Dimensions) (a b : k.A) → IsJoined o given a → IsJoined u given b →
        (r : Result (Option (ℕ × ℕ × (Input T W × Input T W))) MerkleTreeError) →
        IsExtraction eq same rule (over given) (k.plain given a) (k.plain given b) r →
        IsExtraction eq same rule (over wide) (shown o) (shown u) r
    both_joined given a b j l r e =
        k.extracts o u r
        (subst (AnswersUnlessMemory r)
        (λ i. option_or (option_or (sym j.none i) (k.plain (j.is_wide i) (j.is i)).refusal)
        (option_or (sym l.none i) (k.plain (j.is_wide i) (l.is i)).refusal)) e.answer)
        (subst (λ d. IfOk r (λ found. found ≡ d))
        (λ i. first_difference eq same (over (j.is_wide i)) (k.plain (j.is_wide i) (j.is i))
        (k.plain (j.is_wide i) (l.is i))) e.found)

    -- the first is refused before it is joined
    pub first_refused : {Z : Type 0} (view : Z → ℕ × ℕ × (Input T W × Input T W))
        (r : Result (Option Z) MerkleTreeError) → IsErr r → AnswersUnlessMemory r (k.before o) →
        IsExtraction eq same rule (over wide) (shown o) (shown u)
        (result_map_both (λ found. option_map view found) (λ e. e) r)
    first_refused view (Ok v) err before = absurd cc
    first_refused {Z = Z} view (Err x) err before =
        k.extracts o u (Err x)
        (refused_before {V = Z} (Err x) (shown o).refusal (shown u).refusal refl
        (refused_before {V = Z} (Err x) (k.before o) (k.plain wide (k.join o)).refusal refl before)) tt

    -- the second is, and the first is checked
    pub second_refused : (given : List Dimensions) (a : k.A) → IsJoined o given a →
        (checked : Result (Unit {0}) MerkleTreeError) (y x : MerkleTreeError) →
        AnswersUnlessMemory checked (k.plain given a).refusal → (y ≡ OutOfMemory) ⊎ (k.before u ≡ Some y) →
        x ≡ unwrap_or (result_err checked) y → IsExtraction eq same rule (over wide) (shown o) (shown u) (Err x)
    second_refused given a j checked y x answer before is =
        k.extracts o u (Err x)
        (error_of_both checked y x (shown o).refusal (k.before u) (k.plain wide (k.join u)).refusal
        (answer_joined o given a j checked answer) before is) tt

module _ {P PW H C R X G V W : Type 0} {N D E : ℕ} {p : packed.Ghosts P V} {pd : default.Ghosts V}
    {pe : equality.Ghosts V} {q : packed.Ghosts PW W} {qd : default.Ghosts W} {qe : equality.Ghosts W}
    {h : hasher.Ghosts H P PW D V W} {c : compressor.Ghosts C PW N D W}
    (s : HidingScheme P PW H C R X G N D E V W p pd pe q qd qe h c) (ds : List Dimensions) (cap : List (List W))
    (dec : IsEquality pe.eq) (dec_w : IsEquality qe.eq) where
  abbrev over : List Dimensions → Params V W
  over given = params_of (plain_of s) (shape_of N given)

  -- the definition's answer to two openings is an extraction
  pub by_answer : (first second : Presented V W) → IsPresentation (over (widened E ds)) cap first →
      IsPresentation (over (widened E ds)) cap second →
      (r : Result (Option (ℕ × ℕ × (Input V W × Input V W))) MerkleTreeError) →
      AnswersUnlessMemory r (option_or first.refusal second.refusal) →
      IfOk r (λ found. found ≡ first_difference pe.eq qe.eq (over (widened E ds)) first second) →
      IsExtraction pe.eq qe.eq (cap_rule_of (plain_of s)) (over (widened E ds)) first second r
  by_answer first second =
      extracted pe.eq qe.eq (cap_rule_of (plain_of s)) (over (widened E ds)) cap first second dec dec_w
      (plain_of s).arity (all_authenticated (shape_of N (widened E ds)) (cap_rule_of (plain_of s))
      (cap_height_of (plain_of s)) (plain_of s).arity)

  -- so it is to two openings of one index each
  pub one_answer : (o u : SaltedOpening V W) (r : Result (Option (InputPair V (List W))) MerkleTreeError) →
      let c = over (widened E ds) in
      AnswersUnlessMemory r (option_or (salted_refusal_under qe.eq E ds c cap o)
      (salted_refusal_under qe.eq E ds c cap u)) →
      IfOk r (λ found. option_map inputs_in found ≡ difference_of pe.eq qe.eq c (joined o) (joined u)) →
      IsSaltedExtraction pe.eq qe.eq (cap_rule_of (plain_of s)) E ds c cap o u r
  one_answer o u r answer found =
      let c = over (widened E ds) in
      let is = salted_presentation qe.eq E ds c cap dec_w in
      salted_told pe.eq qe.eq (cap_rule_of (plain_of s)) E ds c cap o u r
      (extracted_one pe.eq qe.eq (cap_rule_of (plain_of s)) c cap (presented_salted qe.eq E ds c cap o)
      (presented_salted qe.eq E ds c cap u) (joined o) (joined u) dec dec_w (plain_of s).arity
      (all_authenticated (shape_of N (widened E ds)) (cap_rule_of (plain_of s)) (cap_height_of (plain_of s))
      (plain_of s).arity) (is o) (is u) refl refl refl refl r answer found)

  -- and it is exact but for memory where it is refused by the definition, and Ok where there is no difference
  pub one_exact : (o u : SaltedOpening V W) (r : Result (Option (InputPair V (List W))) MerkleTreeError) →
      let c = over (widened E ds) in
      let refusal = option_or (salted_refusal_under qe.eq E ds c cap o) (salted_refusal_under qe.eq E ds c cap u) in
      Refuses r refusal →
      (refusal ≡ None → difference_of pe.eq qe.eq c (joined o) (joined u) ≡ None → IsOk r) →
      IsExactExtraction c (presented_salted qe.eq E ds c cap o) (presented_salted qe.eq E ds c cap u) r
  one_exact o u r refused agreed =
      let c = over (widened E ds) in
      let is = salted_presentation qe.eq E ds c cap dec_w in
      exact_alone pe.eq qe.eq c (presented_salted qe.eq E ds c cap o) (presented_salted qe.eq E ds c cap u) (joined o)
      (joined u) dec dec_w refl refl refl refl (is o).decided.1 (is u).decided.1 r refused agreed

  abbrev pub several : Kind pe.eq qe.eq (cap_rule_of (plain_of s)) over (widened E ds)
  several =
      let is = salted_pruned_presentation qe.eq E ds (over (widened E ds)) cap dec_w pe.eq dec (plain_of s).arity in
      record {
        O = SaltedPruned V W;
        A = PrunedOpening V W;
        join = joined_sets;
        before = λ o. salted_sets_refusal E ds o.rows o.salts;
        accepted = λ o. IsSaltedPrunedAccepted E ds (over (widened E ds)) cap o;
        plain = λ given a. presented_pruned pe.eq qe.eq (over given) cap a;
        decided = λ o. (is o).decided;
        extracts = λ o u. by_answer _ _ (is o) (is u);
      }

module _ {P PW H C R X G V W : Type 0} {N D E : ℕ} {p : packed.Ghosts P V} {pd : default.Ghosts V}
    {pe : equality.Ghosts V} {q : packed.Ghosts PW W} {qd : default.Ghosts W} {qe : equality.Ghosts W}
    {h : hasher.Ghosts H P PW D V W} {c : compressor.Ghosts C PW N D W}
    (s : HidingScheme P PW H C R X G N D E V W p pd pe q qd qe h c) (ds : List Dimensions) (cap : List (List W)) where
  -- what a scheme's extraction from openings of one list of indices says
  pub only_of : (o u : SaltedPruned V W) (r : Result (Option (ℕ × ℕ × InputPair V (List W))) MerkleTreeError) →
      let c = salted_params_of s ds in
      IsSaltedPrunedExtraction pe.eq qe.eq (cap_rule_of (plain_of s)) E ds c cap o u r →
      IsOnlySaltedOpening (cap_rule_of (plain_of s)) c o u r
  only_of o u r told =
      only_salted pe.eq qe.eq (cap_rule_of (plain_of s)) E ds (salted_params_of s ds) cap (plain_of s).arity
      (all_authenticated (shape_of N (widened E ds)) (cap_rule_of (plain_of s)) (cap_height_of (plain_of s))
      (plain_of s).arity) o u r told

-- false is not true
pub false_not_true : {A : Type 0} → false ≡ true → A
false_not_true ok = absurd cc
