-- What a claimed opening and the honest one lead to.
use Rattle.std.proofs.Common.{lit<, ◌∙◌, ◌≡◌, ◌<◌, ℕ, Bool, List, Option, Some, None, ap, inl, refl, subst, sym}
use Rattle.std.specs.Prelude.{◌↔◌, ◌⊎◌, Err, Ok, IfSome, IsNone, IsSome, Result, length, slice_index}
use Rattle.p3_support.specs.Batches.{greatest}
use Rattle.p3_support.specs.declared.matrix.Dimensions.{Dimensions}
use Rattle.p3_merkle_tree.specs.CapRule.{CapRule}
use Rattle.p3_merkle_tree.specs.CapRule.TheVariants.{Lowered}
use Rattle.p3_merkle_tree.specs.Checks.{AgreeWhereShared, IsAccepted, Params}
use Rattle.p3_merkle_tree.specs.Extraction.{EachPair, RowsConflictSomewhere, RowsConflictWhereAuthenticated, SomePair}
use Rattle.p3_merkle_tree.specs.Extraction.{IsCollision, IsExtraction, IsFirstCollision, IsOnlyOpening}
use Rattle.p3_merkle_tree.specs.Extraction.{RowsAgreeWhereAuthenticated}
use Rattle.p3_merkle_tree.specs.Geometry.{halved_index, heights, IsArity}
use Rattle.p3_merkle_tree.specs.InputPair.{InputPair}
use Rattle.p3_merkle_tree.specs.Laws.{OneIndexIsBound}
use Rattle.p3_merkle_tree.specs.MerkleTreeError.{MerkleTreeError}
use Rattle.p3_merkle_tree.specs.MerkleTreeError.TheVariants.{OutOfMemory}
use Rattle.p3_merkle_tree.specs.Openings.{Opening}
use Rattle.p3_merkle_tree.specs.Presented.{Presented, presented, presented_pruned}
use Rattle.p3_merkle_tree.specs.Pruning.{IsPrunedAccepted, PrunedOpening, opening_at}
use Rattle.p3_merkle_tree.specs.Refusals.{AnswersUnlessMemory, pruned_refusal_under, refusal_under}
use Rattle.p3_merkle_tree.specs.SaltedExtraction.{ConflictWhereAuthenticated, IsOnlySaltedOpening, IsSaltedExtraction}
use Rattle.p3_merkle_tree.specs.SaltedExtraction.{IsSaltedPrunedExtraction, SomeSaltedPair, salted_opening_at}
use Rattle.p3_merkle_tree.specs.SaltedOpenings.{IsSaltedAccepted, IsSaltedPrunedAccepted, SaltedOpening, SaltedPruned}
use Rattle.p3_merkle_tree.specs.SaltedOpenings.{joined_sets}
use Rattle.p3_merkle_tree.specs.SaltedPresented.{presented_salted, presented_salted_pruned}
use Rattle.p3_merkle_tree.specs.Views.{found_alone, found_pair, inputs_in}
use Rattle.end_to_end.specs.Comparisons.{ClaimsAnotherRow, ClaimsAnotherRowSet, IsComparison, IsPrunedComparison}
use Rattle.end_to_end.specs.Comparisons.{IsSaltedComparison, IsSaltedPrunedComparison}
use Rattle.end_to_end.proofs.RefusalFacts.{beside_none, memory_alone}

-- ---- any two openings

module _ {T W : Type 0} (row_eq : T → T → Bool) (digest_eq : W → W → Bool) (rule : CapRule) (c : Params T W)
    (first second : Presented T W) (unrefused : second.refusal ≡ None) where
  -- what is answered is the first one's refusal
  pub answer_alone : (r : Result (Option (InputPair T (List W))) MerkleTreeError) →
      IsExtraction row_eq digest_eq rule c first second (found_alone r) → AnswersUnlessMemory r first.refusal
  answer_alone (Ok found) is = sym (beside_none first.refusal second.refusal unrefused) ∙ is.answer
  answer_alone (Err e) is =
      subst (λ (z : Option MerkleTreeError). (e ≡ OutOfMemory) ⊎ (z ≡ Some e))
      (beside_none first.refusal second.refusal unrefused) is.answer

  -- the same of several queries
  pub answer_pair : (r : Result (Option (ℕ × ℕ × InputPair T (List W))) MerkleTreeError) →
      IsExtraction row_eq digest_eq rule c first second (found_pair r) → AnswersUnlessMemory r first.refusal
  answer_pair (Ok found) is = sym (beside_none first.refusal second.refusal unrefused) ∙ is.answer
  answer_pair (Err e) is =
      subst (λ (z : Option MerkleTreeError). (e ≡ OutOfMemory) ⊎ (z ≡ Some e))
      (beside_none first.refusal second.refusal unrefused) is.answer

  -- what is found is a collision
  pub collision_alone : (found : Option (InputPair T (List W))) →
      IsExtraction row_eq digest_eq rule c first second (found_alone (Ok found)) →
      IfSome found (λ pair. IsCollision c (first.query 0) (second.query 0) (inputs_in pair))
  collision_alone None is = tt
  collision_alone (Some pair) is = is.collision.collision

  -- the same of several queries: it is the first collision among them
  pub collision_pair : (found : Option (ℕ × ℕ × InputPair T (List W))) →
      IsExtraction row_eq digest_eq rule c first second (found_pair (Ok found)) →
      IfSome found (λ (i, j, pair). IsFirstCollision c first second (i, j, inputs_in pair))
  collision_pair None is = tt
  collision_pair (Some (i, j, pair)) is = is.collision

  -- nothing is found exactly where all queries agree
  pub none_pair : (found : Option (ℕ × ℕ × InputPair T (List W))) →
      IsExtraction row_eq digest_eq rule c first second (found_pair (Ok found)) →
      IsNone found ↔ EachPair first second (AgreeWhereShared c)
  none_pair None is = (λ none. is.none.0 none, λ agree. refl)
  none_pair (Some (i, j, pair)) is = (λ none. absurd cc, λ agree. is.none.1 agree)

  -- something is found where two queries conflict
  pub some_pair : (found : Option (ℕ × ℕ × InputPair T (List W))) →
      IsExtraction row_eq digest_eq rule c first second (found_pair (Ok found)) →
      SomePair first second (RowsConflictWhereAuthenticated c) → IsSome found
  some_pair None is conflicting = let some = is.two_ways conflicting in absurd cc
  some_pair (Some found) is conflicting = refl

  -- under the lowered rule, something is found where two queries conflict in any matrix
  pub lowered_pair : (found : Option (ℕ × ℕ × InputPair T (List W))) →
      IsExtraction row_eq digest_eq rule c first second (found_pair (Ok found)) → rule ≡ Lowered →
      SomePair first second (RowsConflictSomewhere c) → IsSome found
  lowered_pair None is lowered conflicting = let some = is.lowered_two_ways lowered conflicting in absurd cc
  lowered_pair (Some found) is lowered conflicting = refl

-- ---- openings of one index

module _ {T W : Type 0} (row_eq : T → T → Bool) (digest_eq : W → W → Bool) (rule : CapRule) (c : Params T W)
    (cap : List (List W)) (o u : Opening T W) (one_index : o.index ≡ u.index) where
  abbrev Is : Result (Option (InputPair T (List W))) MerkleTreeError → Type 0
  Is r =
      IsExtraction row_eq digest_eq rule c (presented digest_eq c cap o) (presented digest_eq c cap u) (found_alone r)

  -- nothing is found exactly where both agree
  found_none : (found : Option (InputPair T (List W))) → Is (Ok found) →
      IsNone found ↔ RowsAgreeWhereAuthenticated c o u
  found_none None is =
      let both = is.one_index (λ a b first second. one_index) in
      (λ none. both.0 none 0 0 (lit< tt) (lit< tt), λ agree. refl)
  found_none (Some pair) is =
      let both = is.one_index (λ a b first second. one_index) in
      (λ none. absurd cc, λ agree. both.1 (λ a b first second. agree))

  -- something is found where one claims another row than the other has
  found_some : (found : Option (InputPair T (List W))) → Is (Ok found) → ClaimsAnotherRow c o.rows u.rows → IsSome found
  found_some None is (k, exists, authenticated, differ) =
      let row : ℕ → ℕ = halved_index (greatest (heights c.shape)) (slice_index (heights c.shape) k) in
      let some = is.two_ways (
        0,
        0,
        lit< tt,
        lit< tt,
        (
          k,
          authenticated,
          record { exists = exists; one_row = ap row one_index; two_ways = differ },
        ),
      ) in
      absurd cc
  found_some (Some pair) is another = refl

  -- under the lowered rule, something is found where both conflict in any matrix
  found_lowered : (found : Option (InputPair T (List W))) → Is (Ok found) → rule ≡ Lowered →
      RowsConflictSomewhere c o u → IsSome found
  found_lowered None is lowered conflicting =
      let some = is.lowered_two_ways lowered (0, 0, lit< tt, lit< tt, conflicting) in absurd cc
  found_lowered (Some pair) is lowered conflicting = refl

  -- the answer to a claimed opening beside an accepted one is their comparison
  pub compared : refusal_under digest_eq c cap u ≡ None → IsAccepted c cap u →
      (r : Result (Option (InputPair T (List W))) MerkleTreeError) → Is r → IsComparison digest_eq rule c cap o u r
  compared unrefused honest (Ok found) is =
      let first = presented digest_eq c cap o in
      let second = presented digest_eq c cap u in
      record {
        answer = answer_alone row_eq digest_eq rule c first second unrefused (Ok found) is;
        accepted = is.both_accepted.0;
        answered = λ accepted. is.answered accepted honest;
        collision = collision_alone row_eq digest_eq rule c first second unrefused found is;
        none = found_none found is;
        bound = λ accepted another. found_some found is another;
        lowered = λ lowered accepted conflicting. found_lowered found is lowered conflicting;
      }
  compared unrefused honest (Err e) is =
      let first = presented digest_eq c cap o in
      let second = presented digest_eq c cap u in
      record {
        answer = answer_alone row_eq digest_eq rule c first second unrefused (Err e) is;
        accepted = tt;
        answered = λ accepted. is.answered accepted honest;
        collision = tt;
        none = tt;
        bound = λ accepted another. memory_alone e None refl (is.answered accepted honest);
        lowered = λ lowered accepted conflicting. memory_alone e None refl (is.answered accepted honest);
      }

-- ---- openings of several indices

module _ {T W : Type 0} (row_eq : T → T → Bool) (digest_eq : W → W → Bool) (rule : CapRule) (c : Params T W)
    (cap : List (List W)) (p q : PrunedOpening T W) (one_list : p.indices ≡ q.indices) where
  abbrev ArePruned : Result (Option (ℕ × ℕ × InputPair T (List W))) MerkleTreeError → Type 0
  ArePruned r =
      IsExtraction row_eq digest_eq rule c (presented_pruned row_eq digest_eq c cap p)
      (presented_pruned row_eq digest_eq c cap q) (found_pair r)

  -- a place of the one list is a place of the other
  same_place : (i : ℕ) → i < length p.indices → i < length q.indices
  same_place i below = subst (λ (indices : List ℕ). i < length indices) one_list below

  -- it has one index
  same_index : (i : ℕ) → slice_index p.indices i ≡ slice_index q.indices i
  same_index i = ap (λ (indices : List ℕ). slice_index indices i) one_list

  -- queries conflict where one claims another row than the same query of the other has
  conflict : ClaimsAnotherRowSet c (length p.indices) p.rows q.rows →
      SomePair (presented_pruned row_eq digest_eq c cap p) (presented_pruned row_eq digest_eq c cap q)
      (RowsConflictWhereAuthenticated c)
  conflict (i, below, (k, exists, authenticated, differ)) =
      let row : ℕ → ℕ = halved_index (greatest (heights c.shape)) (slice_index (heights c.shape) k) in (
        i,
        i,
        below,
        same_place i below,
        (k, authenticated, record { exists = exists; one_row = ap row (same_index i); two_ways = differ }),
      )

  -- the answer to a claimed pruned opening beside an accepted one is their comparison
  pub compared_pruned : OneIndexIsBound T W → IsArity c.shape.arity →
      pruned_refusal_under row_eq digest_eq c cap q ≡ None → IsPrunedAccepted c cap q →
      (r : Result (Option (ℕ × ℕ × InputPair T (List W))) MerkleTreeError) → ArePruned r →
      IsOnlyOpening rule c p q r → IsPrunedComparison row_eq digest_eq rule c cap p q r
  compared_pruned bound arity unrefused honest (Ok found) is one =
      let first = presented_pruned row_eq digest_eq c cap p in
      let second = presented_pruned row_eq digest_eq c cap q in
      let both = none_pair row_eq digest_eq rule c first second unrefused found is in
      record {
        answer = answer_pair row_eq digest_eq rule c first second unrefused (Ok found) is;
        accepted = is.both_accepted.0;
        answered = λ accepted. is.answered accepted honest;
        collision = collision_pair row_eq digest_eq rule c first second unrefused found is;
        none = both;
        agree = λ none i below. (bound c cap (opening_at c p i) (opening_at c q i) arity
            (is.both_accepted.0.each_accepted i below) (honest.each_accepted i (same_place i below))
            (same_index i)).0 (both.0 none i i below (same_place i below));
        only = one.one_list one_list;
        lowered_only = λ lowered. one.lowered_one_list lowered one_list;
        bound = λ accepted another.
            some_pair row_eq digest_eq rule c first second unrefused found is (conflict another);
        lowered = λ lowered accepted conflicting.
            lowered_pair row_eq digest_eq rule c first second unrefused found is lowered conflicting;
      }
  compared_pruned bound arity unrefused honest (Err e) is one =
      let first = presented_pruned row_eq digest_eq c cap p in
      let second = presented_pruned row_eq digest_eq c cap q in
      record {
        answer = answer_pair row_eq digest_eq rule c first second unrefused (Err e) is;
        accepted = tt;
        answered = λ accepted. is.answered accepted honest;
        collision = tt;
        none = tt;
        agree = tt;
        only = tt;
        lowered_only = λ lowered. tt;
        bound = λ accepted another. memory_alone e None refl (is.answered accepted honest);
        lowered = λ lowered accepted conflicting. memory_alone e None refl (is.answered accepted honest);
      }

-- ---- salted openings of one index

module _ {T W : Type 0} (row_eq : T → T → Bool) (digest_eq : W → W → Bool) (rule : CapRule) (e : ℕ)
    (ds : List Dimensions) (c : Params T W) (cap : List (List W)) where
  module _ (o u : SaltedOpening T W) (one_index : o.index ≡ u.index) where
    -- openings conflict where one claims another row than the other has
    salted_conflict : ClaimsAnotherRow c o.rows u.rows → ConflictWhereAuthenticated c o u
    salted_conflict (k, exists, authenticated, differ) =
        let row : ℕ → ℕ = halved_index (greatest (heights c.shape)) (slice_index (heights c.shape) k) in
        (k, authenticated, record { exists = exists; one_row = ap row one_index; two_ways = inl differ })

    -- the answer to a claimed salted opening beside an accepted one is their comparison
    pub compared_salted : (presented_salted digest_eq e ds c cap u).refusal ≡ None → IsSaltedAccepted e ds c cap u →
        (r : Result (Option (InputPair T (List W))) MerkleTreeError) →
        IsSaltedExtraction row_eq digest_eq rule e ds c cap o u r → IsSaltedComparison digest_eq rule e ds c cap o u r
    compared_salted unrefused honest (Ok found) of_salts =
        let is = of_salts.extraction in
        let first = presented_salted digest_eq e ds c cap o in
        let second = presented_salted digest_eq e ds c cap u in
        record {
          answer = answer_alone row_eq digest_eq rule c first second unrefused (Ok found) is;
          accepted = is.both_accepted.0;
          answered = λ accepted. is.answered accepted honest;
          collision = collision_alone row_eq digest_eq rule c first second unrefused found is;
          none = of_salts.one_index one_index;
          bound = λ accepted another. of_salts.two_ways (salted_conflict another);
          lowered = λ lowered accepted conflicting. of_salts.lowered_two_ways lowered conflicting;
        }
    compared_salted unrefused honest (Err x) of_salts =
        let is = of_salts.extraction in
        let first = presented_salted digest_eq e ds c cap o in
        let second = presented_salted digest_eq e ds c cap u in
        record {
          answer = answer_alone row_eq digest_eq rule c first second unrefused (Err x) is;
          accepted = tt;
          answered = λ accepted. is.answered accepted honest;
          collision = tt;
          none = tt;
          bound = λ accepted another. memory_alone x None refl (is.answered accepted honest);
          lowered = λ lowered accepted conflicting. memory_alone x None refl (is.answered accepted honest);
        }

  module _ (p q : SaltedPruned T W) (one_list : p.indices ≡ q.indices) where
    -- a place of the one list is a place of the other
    same_salted_place : (i : ℕ) → i < length p.indices → i < length q.indices
    same_salted_place i below = subst (λ (indices : List ℕ). i < length indices) one_list below

    -- it has one index
    same_salted_index : (i : ℕ) → slice_index p.indices i ≡ slice_index q.indices i
    same_salted_index i = ap (λ (indices : List ℕ). slice_index indices i) one_list

    -- queries conflict where one claims another row than the same query of the other has
    salted_conflict_set : ClaimsAnotherRowSet c (length p.indices) p.rows q.rows →
        SomeSaltedPair c p q (ConflictWhereAuthenticated c)
    salted_conflict_set (i, below, another) = (
      i,
      i,
      below,
      same_salted_place i below,
      salted_conflict (salted_opening_at c p i) (salted_opening_at c q i) (same_salted_index i) another,
    )

    -- the answer to a claimed salted pruned opening beside an accepted one is their comparison
    pub compared_salted_pruned : OneIndexIsBound T W → IsArity c.shape.arity →
        (presented_salted_pruned row_eq digest_eq e ds c cap q).refusal ≡ None →
        IsSaltedPrunedAccepted e ds c cap q →
        (r : Result (Option (ℕ × ℕ × InputPair T (List W))) MerkleTreeError) →
        IsSaltedPrunedExtraction row_eq digest_eq rule e ds c cap p q r → IsOnlySaltedOpening rule c p q r →
        IsSaltedPrunedComparison row_eq digest_eq rule e ds c cap p q r
    compared_salted_pruned bound arity unrefused honest (Ok found) of_salts one =
        let is = of_salts.extraction in
        let first = presented_salted_pruned row_eq digest_eq e ds c cap p in
        let second = presented_salted_pruned row_eq digest_eq e ds c cap q in
        let both = none_pair row_eq digest_eq rule c first second unrefused found is in
        record {
          answer = answer_pair row_eq digest_eq rule c first second unrefused (Ok found) is;
          accepted = is.both_accepted.0;
          answered = λ accepted. is.answered accepted honest;
          collision = collision_pair row_eq digest_eq rule c first second unrefused found is;
          none = both;
          agree = λ none i below. (bound c cap (opening_at c (joined_sets p) i) (opening_at c (joined_sets q) i) arity
              (is.both_accepted.0.accepted.each_accepted i below)
              (honest.accepted.each_accepted i (same_salted_place i below)) (same_salted_index i)).0
              (both.0 none i i below (same_salted_place i below));
          only = one.one_list one_list;
          lowered_only = λ lowered. one.lowered_one_list lowered one_list;
          bound = λ accepted another. of_salts.two_ways (salted_conflict_set another);
          lowered = λ lowered accepted conflicting. of_salts.lowered_two_ways lowered conflicting;
        }
    compared_salted_pruned bound arity unrefused honest (Err x) of_salts one =
        let is = of_salts.extraction in
        let first = presented_salted_pruned row_eq digest_eq e ds c cap p in
        let second = presented_salted_pruned row_eq digest_eq e ds c cap q in
        record {
          answer = answer_pair row_eq digest_eq rule c first second unrefused (Err x) is;
          accepted = tt;
          answered = λ accepted. is.answered accepted honest;
          collision = tt;
          none = tt;
          agree = tt;
          only = tt;
          lowered_only = λ lowered. tt;
          bound = λ accepted another. memory_alone x None refl (is.answered accepted honest);
          lowered = λ lowered accepted conflicting. memory_alone x None refl (is.answered accepted honest);
        }
