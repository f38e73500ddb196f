-- The definition's answer to two openings of one cap, and what it means.
use Rattle.std.proofs.Common.{◌≡◌, ◌↔◌, ℕ, ◌<◌, Bool, List, [], refl, ap, sym, subst, ◌∙◌, arith, inr, length}
use Rattle.std.proofs.Common.{Option, Some, None}
use Rattle.std.proofs.lemmas.List.{ext_get_or, length-map}
use Rattle.std.proofs.lemmas.Grind.{common_steps}
use Rattle.std.specs.Prelude.{Ok, Err, Result, IfOk, IsOk, IsTrue}
use Rattle.std.specs.Option.{option_map, option_or}
use Rattle.std.specs.Result.{result_map_both}
use Rattle.p3_merkle_core.specs.Caps.{cap_layer}
use Rattle.p3_merkle_core.specs.Geometry.{Shape, IsArity, heights}
use Rattle.p3_merkle_core.specs.Openings.{Opening}
use Rattle.p3_merkle_core.specs.Checks.{AgreeWhereShared, Input, IsAccepted, Params, is_authenticated, shared_inputs}
use Rattle.p3_merkle_core.specs.Pruning.{PrunedOpening, opening_at}
use Rattle.p3_merkle_core.specs.Refusals.{AnswersUnlessMemory, Refuses}
use Rattle.p3_merkle_core.specs.Refusals.{IsEquality, pruned_refusal_under, refusal_under}
use Rattle.p3_answers.specs.Answers.{ok_unless}
use Rattle.p3_merkle_core.specs.Extraction.{RowsAgreeWhereAuthenticated, RowsConflictWhereAuthenticated, EachPair}
use Rattle.p3_merkle_core.specs.Extraction.{IsExtraction, IsFirstCollision, difference_of, extraction, first_difference}
use Rattle.p3_merkle_core.specs.Extraction.{first_pair, IsExactExtraction}
use Rattle.p3_merkle_core.specs.Presented.{Presented, presented, presented_pruned}
use Rattle.p3_merkle_core.specs.Views.{found_alone, found_pair, inputs_in}
use Rattle.p3_merkle_core.specs.declared.collision.InputPair.{InputPair}
use Rattle.p3_merkle_core.specs.declared.cap.CapRule.{CapRule}
use Rattle.p3_merkle_core.specs.declared.cap.CapRule.TheVariants.{Lowered}
use Rattle.p3_merkle_core.specs.declared.error.MerkleTreeError.{MerkleTreeError}
use Rattle.p3_merkle_core.proofs.Checks.SameIndex.{authenticated_at_one_index, authenticated_bound}
use Rattle.p3_merkle_core.proofs.Checks.Verdicts.{accepted_answer, accepted_from, pruned_accepted}
use Rattle.p3_merkle_core.proofs.Collisions.Extracted.{difference_collides, no_difference, no_pair, one_pair}
use Rattle.p3_answers.proofs.AnswerFacts.{none_parts, verdict_ok}
use Rattle.p3_merkle_core.proofs.Shapes.CapFacts.{none_out}
use Rattle.p3_merkle_core.proofs.Shapes.LeastFacts.{widths_in_pairs}

-- ---- what is presented

-- nothing is refused exactly where the opening is accepted, and then so is each query
pub record IsPresentation {T W : Type 0} (c : Params T W) (cap : List (List W)) (p : Presented T W) : Type 0 where
  pub decided : (p.refusal ≡ None) ↔ p.is_accepted
  pub each : p.is_accepted → (k : ℕ) → k < p.queries → IsAccepted c cap (p.query k)

pub single_presented : {T W : Type 0} (digest_eq : W → W → Bool) (c : Params T W) (cap : List (List W))
    (o : Opening T W) → IsEquality digest_eq → IsPresentation c cap (presented digest_eq c cap o)
single_presented digest_eq c cap o dec =
    record {
      decided = (
        λ none. accepted_from digest_eq c.functions c.shape c.layer cap o dec
            (ap (λ refusal. ok_unless refusal (tt {0})) none),
        λ a. verdict_ok (refusal_under digest_eq c cap o)
            (accepted_answer digest_eq c.functions c.shape c.layer cap o dec a),
      );
      each = λ a k inside. a;
    }

pub pruned_presented : {T W : Type 0} (row_eq : T → T → Bool) (digest_eq : W → W → Bool) (c : Params T W)
    (cap : List (List W)) (p : PrunedOpening T W) → IsEquality row_eq → IsEquality digest_eq → IsArity c.shape.arity →
    IsPresentation c cap (presented_pruned row_eq digest_eq c cap p)
pruned_presented row_eq digest_eq c cap p dec dec_w w =
    let accept = pruned_accepted row_eq digest_eq c.functions c.shape c.layer cap p dec dec_w w in
    record {
      decided = (
        λ none. accept.0 (ap (λ refusal. ok_unless refusal (tt {0})) none),
        λ a. verdict_ok (pruned_refusal_under row_eq digest_eq c cap p) (accept.1 a),
      );
      each = λ a. a.each_accepted;
    }

-- ---- authenticated matrices

-- every matrix's rows lead to this layer
abbrev pub AllAuthenticated : Shape → ℕ → Type 0
AllAuthenticated s t = (k : ℕ) → k < length (heights s) → IsTrue (is_authenticated s t k)

-- under the lowered rule that is so
pub all_authenticated : (s : Shape) (rule : CapRule) (cap_height : ℕ) → IsArity s.arity → rule ≡ Lowered →
    AllAuthenticated s (cap_layer s rule cap_height)
all_authenticated s rule cap_height w is k inside =
    subst (λ (r : CapRule). IsTrue (is_authenticated s (cap_layer s r cap_height) k)) (sym is)
    (none_out s cap_height k w inside)

-- ---- two accepted openings

module _ {T W : Type 0} (c : Params T W) (cap : List (List W)) (o u : Opening T W) (w : IsArity c.shape.arity)
    (a : IsAccepted c cap o) (b : IsAccepted c cap u) where
  -- at one index they agree exactly where siblings and authenticated rows do
  pub alike_at_one_index : o.index ≡ u.index → AgreeWhereShared c o u ↔ RowsAgreeWhereAuthenticated c o u
  alike_at_one_index one = grind (arith, common_steps, authenticated_at_one_index)

  -- an opening that is accepted has a row for each matrix
  as_many_rows : (p : Opening T W) → IsAccepted c cap p → length p.rows ≡ length (heights c.shape)
  as_many_rows p accepted = sym (length-map p.rows length) ∙ ap length accepted.rows_fit ∙ widths_in_pairs c.shape

  -- where each matrix is authenticated, openings of one index that answer alike are one
  pub one_opening : o.index ≡ u.index → AllAuthenticated c.shape c.layer → RowsAgreeWhereAuthenticated c o u → o ≡ u
  one_opening one all alike =
      let first = as_many_rows o a in
      let second = as_many_rows u b in
      let rows : o.rows ≡ u.rows =
      ext_get_or [] o.rows u.rows (first ∙ sym second) (λ k inside. let there : k < length (heights c.shape) =
      omega (arith, first) in alike.rows k there (all k there)) in
      λ i. record { index = one i; rows = rows i; siblings = alike.siblings i }

  -- where they agree, no authenticated row is answered in two ways
  pub never_twice : AgreeWhereShared c o u → RowsConflictWhereAuthenticated c o u → ⊥
  never_twice agree twice =
      twice.2.two_ways (authenticated_bound c.functions c.shape c.layer cap o u w a b agree twice.0 twice.2.exists
      twice.1 twice.2.one_row)

-- one opening agrees with itself
same_agree : {T W : Type 0} (c : Params T W) (o u : Opening T W) → o ≡ u → AgreeWhereShared c o u
same_agree c o u e = ap (λ z. shared_inputs c o.index u.index z) e

-- ---- the answer

module _ {T W : Type 0} (row_eq : T → T → Bool) (digest_eq : W → W → Bool) (rule : CapRule) (c : Params T W)
    (cap : List (List W)) (first second : Presented T W) (dec : IsEquality row_eq) (dec_w : IsEquality digest_eq)
    (w : IsArity c.shape.arity)
    (all : rule ≡ Lowered → AllAuthenticated c.shape c.layer) (p : IsPresentation c cap first)
    (q : IsPresentation c cap second) where
  -- the difference of two queries
  abbrev difference : ℕ → ℕ → Option (Input T W × Input T W)
  difference a b = difference_of row_eq digest_eq c (first.query a) (second.query b)

  -- no difference is found exactly where all checks agree
  none_is : (first_difference row_eq digest_eq c first second ≡ None) ↔ EachPair first second (AgreeWhereShared c)
  none_is = grind (arith, common_steps, no_difference, no_pair)

  -- the first difference of accepted openings is a collision, and all before it agree
  some_is : first.is_accepted → second.is_accepted → (found : ℕ × ℕ × (Input T W × Input T W)) →
      first_difference row_eq digest_eq c first second ≡ Some found → IsFirstCollision c first second found
  some_is a b found e =
      let one = one_pair difference first.queries second.queries found.0 found.1 found.2 e in
      record {
        first_query = one.0;
        second_query = one.1;
        collision = difference_collides row_eq digest_eq c cap (first.query found.0) (second.query found.1) dec dec_w w
            (p.each a found.0 one.0) (q.each b found.1 one.1) found.2 one.2;
        agree_before = λ i j before inside.
            (no_difference row_eq digest_eq c (first.query i) (second.query j) dec dec_w).0 (one.3 i j before inside);
      }

  -- a result that is the definition's answer, want of memory aside, is an extraction
  pub extracted : (result : Result (Option (ℕ × ℕ × (Input T W × Input T W))) MerkleTreeError) →
      AnswersUnlessMemory result (option_or first.refusal second.refusal) →
      IfOk result (λ found. found ≡ first_difference row_eq digest_eq c first second) →
      IsExtraction row_eq digest_eq rule c first second result
  extracted (Ok None) answer is =
      let refused = none_parts first.refusal second.refusal answer in
      let a = p.decided.0 refused.0 in
      let b = q.decided.0 refused.1 in
      let agree = none_is.0 (sym is) in
      let alike = λ (i j : ℕ) (h : i < first.queries) (g : j < second.queries).
      alike_at_one_index c cap (first.query i) (second.query j) w (p.each a i h) (q.each b j g) in
      let never = λ (i j : ℕ) (h : i < first.queries) (g : j < second.queries).
      never_twice c cap (first.query i) (second.query j) w (p.each a i h) (q.each b j g) (agree i j h g) in
      record {
        answer = answer;
        found = is;
        both_accepted = (a, b);
        answered = λ x y. refl;
        none = (λ n. agree, λ each. refl);
        collision = tt;
        one_index = λ one. (λ n i j h g. (alike i j h g (one i j h g)).0 (agree i j h g), λ each. refl);
        two_ways = λ twice. absurd (never twice.0 twice.1 twice.2 twice.3 twice.4);
        lowered_one_index = λ lowered one. (
          λ n i j h g. one_opening c cap (first.query i) (second.query j) w (p.each a i h) (q.each b j g)
              (one i j h g) (all lowered) ((alike i j h g (one i j h g)).0 (agree i j h g)),
          λ each. refl,
        );
        lowered_two_ways = λ lowered twice.
            let row = twice.4 in
            absurd (never twice.0 twice.1 twice.2 twice.3 (row.0, all lowered row.0 row.1.exists, row.1));
      }
  extracted (Ok (Some found)) answer is =
      let refused = none_parts first.refusal second.refusal answer in
      let a = p.decided.0 refused.0 in
      let b = q.decided.0 refused.1 in
      let differ = λ (each : EachPair first second (AgreeWhereShared c)). let none = none_is.1 each in let c = is in
      let no : ⊥ = absurd cc in no in
      let alike = λ (i j : ℕ) (h : i < first.queries) (g : j < second.queries).
      alike_at_one_index c cap (first.query i) (second.query j) w (p.each a i h) (q.each b j g) in
      record {
        answer = answer;
        found = is;
        both_accepted = (a, b);
        answered = λ x y. refl;
        none = (λ n. absurd cc, λ each. absurd (differ each));
        collision = some_is a b found (sym is);
        one_index = λ one.
            (λ n. absurd cc, λ each. absurd (differ (λ i j h g. (alike i j h g (one i j h g)).1 (each i j h g))));
        two_ways = λ twice. refl;
        lowered_one_index = λ lowered one. (
          λ n. absurd cc,
          λ each. absurd (differ (λ i j h g. same_agree c (first.query i) (second.query j) (each i j h g))),
        );
        lowered_two_ways = λ lowered twice. refl;
      }
  extracted (Err e) answer is = grind (arith, common_steps)

  -- so is the definition's own answer
  own_answer : (refusal : Option MerkleTreeError) (v : Option (ℕ × ℕ × (Input T W × Input T W))) →
      AnswersUnlessMemory (ok_unless refusal v) refusal
  own_answer None v = refl
  own_answer (Some e) v = inr refl

  own_found : (refusal : Option MerkleTreeError) (v : Option (ℕ × ℕ × (Input T W × Input T W))) →
      IfOk (ok_unless refusal v) (λ found. found ≡ v)
  own_found None v = refl
  own_found (Some e) v = tt

  pub answer_is_extraction :
      IsExtraction row_eq digest_eq rule c first second (extraction row_eq digest_eq c first second)
  answer_is_extraction =
      let refusal = option_or first.refusal second.refusal in
      let v = first_difference row_eq digest_eq c first second in
      extracted (extraction row_eq digest_eq c first second) (own_answer refusal v) (own_found refusal v)

-- ---- the answer of a call

-- a collision of two openings of one index each, or none, is the first difference of their only queries
found_one : {T W : Type 0} (found : Option (InputPair T (List W))) (d : ℕ → ℕ → Option (Input T W × Input T W)) →
    option_map inputs_in found ≡ d 0 0 → option_map (λ pair. (0, 0, inputs_in pair)) found ≡ first_pair d 1 1
found_one None d e = rw (← e) refl
found_one (Some pair) d e = rw (← e) refl

-- a result of another kind is answered alike
answers_alike : {V U : Type 0} (r : Result V MerkleTreeError) (view : V → U) (refusal : Option MerkleTreeError) →
    AnswersUnlessMemory r refusal → AnswersUnlessMemory (result_map_both view (λ e. e) r) refusal
answers_alike (Ok v) view refusal a = a
answers_alike (Err e) view refusal a = a

-- so is what is found
found_alike : {V U : Type 0} (r : Result V MerkleTreeError) (view : V → U) (answer : U) →
    IfOk r (λ v. view v ≡ answer) → IfOk (result_map_both view (λ e. e) r) (λ u. u ≡ answer)
found_alike (Ok v) view answer a = a
found_alike (Err e) view answer a = tt

module _ {T W : Type 0} (row_eq : T → T → Bool) (digest_eq : W → W → Bool) (rule : CapRule) (c : Params T W)
    (cap : List (List W)) where
  one_alike : (r : Result (Option (InputPair T (List W))) MerkleTreeError) (d : ℕ → ℕ →
      Option (Input T W × Input T W)) → IfOk r (λ found. option_map inputs_in found ≡ d 0 0) →
      IfOk r (λ found. option_map (λ pair. (0, 0, inputs_in pair)) found ≡ first_pair d 1 1)
  one_alike (Ok found) d e = found_one found d e
  one_alike (Err e) d is = tt

  -- the answer to two openings of one index each is an extraction
  pub extracted_one : (first second : Presented T W) (o u : Opening T W) → IsEquality row_eq → IsEquality digest_eq →
      IsArity c.shape.arity → (rule ≡ Lowered → AllAuthenticated c.shape c.layer) → IsPresentation c cap first →
      IsPresentation c cap second → first.queries ≡ 1 → second.queries ≡ 1 → first.query 0 ≡ o → second.query 0 ≡ u →
      (r : Result (Option (InputPair T (List W))) MerkleTreeError) →
      AnswersUnlessMemory r (option_or first.refusal second.refusal) →
      IfOk r (λ found. option_map inputs_in found ≡ difference_of row_eq digest_eq c o u) →
      IsExtraction row_eq digest_eq rule c first second (found_alone r)
  extracted_one first second o u dec dec_w w all p q n m is_o is_u r answer found =
      let d : ℕ → ℕ → Option (Input T W × Input T W) =
      λ a b. difference_of row_eq digest_eq c (first.query a) (second.query b) in
      let here = subst (λ z. IfOk r (λ found. option_map inputs_in found ≡ z))
      (λ i. difference_of row_eq digest_eq c (sym is_o i) (sym is_u i)) found in
      let first_found = subst (λ z. IfOk r (λ found. option_map (λ pair. (0, 0, inputs_in pair)) found ≡ z))
      (λ i. first_pair d (sym n i) (sym m i)) (one_alike r d here) in
      extracted row_eq digest_eq rule c cap first second dec dec_w w all p q (found_alone r)
      (answers_alike r (λ found. option_map (λ pair. (0, 0, inputs_in pair)) found)
      (option_or first.refusal second.refusal) answer)
      (found_alike r (λ found. option_map (λ pair. (0, 0, inputs_in pair)) found)
      (first_difference row_eq digest_eq c first second) first_found)

  pub extracted_alone : (o u : Opening T W) → IsEquality row_eq → IsEquality digest_eq → IsArity c.shape.arity →
      (rule ≡ Lowered → AllAuthenticated c.shape c.layer) →
      (r : Result (Option (InputPair T (List W))) MerkleTreeError) →
      AnswersUnlessMemory r (option_or (refusal_under digest_eq c cap o) (refusal_under digest_eq c cap u)) →
      IfOk r (λ found. option_map inputs_in found ≡ difference_of row_eq digest_eq c o u) →
      IsExtraction row_eq digest_eq rule c (presented digest_eq c cap o) (presented digest_eq c cap u) (found_alone r)
  extracted_alone o u dec dec_w w all r answer found =
      extracted_one (presented digest_eq c cap o) (presented digest_eq c cap u) o u dec dec_w w all
      (single_presented digest_eq c cap o dec_w) (single_presented digest_eq c cap u dec_w) refl refl refl refl r
      answer found

  -- the answer to two openings of several indices is one
  pub extracted_two : (first second : Presented T W) → IsEquality row_eq → IsEquality digest_eq →
      IsArity c.shape.arity → (rule ≡ Lowered → AllAuthenticated c.shape c.layer) → IsPresentation c cap first →
      IsPresentation c cap second →
      (r : Result (Option (ℕ × ℕ × InputPair T (List W))) MerkleTreeError) →
      AnswersUnlessMemory r (option_or first.refusal second.refusal) →
      IfOk r (λ found. option_map (λ (a, b, pair). (a, b, inputs_in pair)) found
      ≡ first_difference row_eq digest_eq c first second) →
      IsExtraction row_eq digest_eq rule c first second (found_pair r)
  extracted_two first second dec dec_w w all p q r answer found =
      extracted row_eq digest_eq rule c cap first second dec dec_w w all p q (found_pair r)
      (answers_alike r (λ found. option_map (λ (a, b, pair). (a, b, inputs_in pair)) found)
      (option_or first.refusal second.refusal) answer)
      (found_alike r (λ found. option_map (λ (a, b, pair). (a, b, inputs_in pair)) found)
      (first_difference row_eq digest_eq c first second) found)

  pub extracted_pair : (p r : PrunedOpening T W) → IsEquality row_eq → IsEquality digest_eq → IsArity c.shape.arity →
      (rule ≡ Lowered → AllAuthenticated c.shape c.layer) →
      (result : Result (Option (ℕ × ℕ × InputPair T (List W))) MerkleTreeError) →
      AnswersUnlessMemory result
      (option_or (pruned_refusal_under row_eq digest_eq c cap p) (pruned_refusal_under row_eq digest_eq c cap r)) →
      IfOk result (λ found. option_map (λ (a, b, pair). (a, b, inputs_in pair)) found
      ≡ first_pair (λ a b. difference_of row_eq digest_eq c (opening_at c p a) (opening_at c r b))
      (length p.indices) (length r.indices)) →
      IsExtraction row_eq digest_eq rule c (presented_pruned row_eq digest_eq c cap p)
      (presented_pruned row_eq digest_eq c cap r) (found_pair result)
  extracted_pair p r dec dec_w w all result answer found =
      extracted_two (presented_pruned row_eq digest_eq c cap p) (presented_pruned row_eq digest_eq c cap r) dec dec_w w
      all (pruned_presented row_eq digest_eq c cap p dec dec_w w)
      (pruned_presented row_eq digest_eq c cap r dec dec_w w) result answer found

-- ---- the answer of a call whose checks take no memory

-- the answer to two openings of one index each is exact but for memory, which runs out only where there is a difference
pub exact_alone : {T W Found : Type 0} (row_eq : T → T → Bool) (digest_eq : W → W → Bool) (c : Params T W)
    (first second : Presented T W) (o u : Opening T W) → IsEquality row_eq → IsEquality digest_eq →
    first.queries ≡ 1 → second.queries ≡ 1 → first.query 0 ≡ o → second.query 0 ≡ u →
    (first.is_accepted → first.refusal ≡ None) → (second.is_accepted → second.refusal ≡ None) →
    (r : Result (Option Found) MerkleTreeError) → Refuses r (option_or first.refusal second.refusal) →
    (option_or first.refusal second.refusal ≡ None → difference_of row_eq digest_eq c o u ≡ None → IsOk r) →
    IsExactExtraction c first second r
exact_alone row_eq digest_eq c first second o u dec dec_w n m is_o is_u p q r refused agreed =
    record {
      checked = refused;
      agreed = λ a b each.
          let none : option_or first.refusal second.refusal ≡ None = rw (p a, q b) refl in
          let alike : AgreeWhereShared c o u =
          subst (λ (both : Opening _ _ × Opening _ _). AgreeWhereShared c both.0 both.1) (λ i. (is_o i, is_u i))
          (each 0 0 (omega (arith, n)) (omega (arith, m))) in
          agreed none ((no_difference row_eq digest_eq c o u dec dec_w).1 alike);
    }
