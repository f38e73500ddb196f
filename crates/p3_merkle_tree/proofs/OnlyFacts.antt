-- What is found in two accepted pruned openings of one list of indices.
use Rattle.std.proofs.Common.{◌≡◌, ◌↔◌, ℕ, ◌<◌, Bool, List, None, Some, Option, Result, length}
use Rattle.std.specs.Prelude.{Ok, Err, IsNone}
use Rattle.std.specs.Option.{option_map}
use Rattle.p3_merkle_core.specs.Checks.{AgreeWhereShared, Input, Params}
use Rattle.p3_merkle_core.specs.Extraction.{IsExtraction, IsOnlyOpening}
use Rattle.p3_merkle_core.specs.Geometry.{IsArity}
use Rattle.p3_merkle_core.specs.Presented.{presented_pruned}
use Rattle.p3_merkle_core.specs.Pruning.{IsPrunedAccepted, PrunedOpening, opening_at}
use Rattle.p3_merkle_core.specs.Views.{found_pair, inputs_in}
use Rattle.p3_merkle_core.specs.declared.cap.CapRule.{CapRule}
use Rattle.p3_merkle_core.specs.declared.cap.CapRule.TheVariants.{Lowered}
use Rattle.p3_merkle_core.specs.declared.collision.InputPair.{InputPair}
use Rattle.p3_merkle_core.specs.declared.error.MerkleTreeError.{MerkleTreeError}
use Rattle.p3_merkle_core.proofs.Collisions.ExtractionFacts.{AllAuthenticated}
use Rattle.p3_merkle_verifier.proofs.OnlyFacts.{agree_both_ways, one_opening, same_opening}

-- nothing is in what is found exactly if nothing is in how it is shown
none_alike : {V U : Type 0} (view : V → U) (found : Option V) → IsNone (option_map view found) ↔ IsNone found
none_alike view None = (λ none. none, λ none. none)
none_alike view (Some v) = (λ none. none, λ none. none)

-- two queries and their inputs, as definitions see them
abbrev shown_pair : {T W : Type 0} → ℕ × ℕ × InputPair T (List W) → ℕ × ℕ × (Input T W × Input T W)
shown_pair (a, b, pair) = (a, b, inputs_in pair)

module _ {T W : Type 0} (rule : CapRule) (c : Params T W) (cap : List (List W)) (w : IsArity c.shape.arity)
    (all : rule ≡ Lowered → AllAuthenticated c.shape c.layer) where
  -- each check of the one agrees with each check of the other
  abbrev AllAgree : PrunedOpening T W → PrunedOpening T W → Type 0
  AllAgree p q =
      (x y : ℕ) → x < length p.indices → y < length q.indices →
      AgreeWhereShared c (opening_at c p x) (opening_at c q y)

  pub only_openings : (p q : PrunedOpening T W) → IsPrunedAccepted c cap p → IsPrunedAccepted c cap q →
      (found : Option (ℕ × ℕ × InputPair T (List W))) →
      IsNone (option_map shown_pair found) ↔ AllAgree p q →
      IsOnlyOpening rule c p q (Ok found)
  only_openings p q a b found meant =
      let alike = none_alike shown_pair found in
      record {
        one_list = λ one.
            let agree = agree_both_ways c.functions c.shape c.layer cap w p q a b one in (
              λ none. agree.0 (meant.0 (alike.1 none)),
              λ proofs. alike.0 (meant.1 (agree.1 proofs)),
            );
        lowered_one_list = λ lowered one.
            let agree = agree_both_ways c.functions c.shape c.layer cap w p q a b one in (
              λ none. one_opening c.functions c.shape c.layer cap w p q a b one (all lowered)
                  (agree.0 (meant.0 (alike.1 none))),
              λ same. alike.0 (meant.1
                  (agree.1 (same_opening c.functions c.shape c.layer cap w p q a b one same))),
            );
      }

  -- the same of what a call returns
  pub only_told : (eq : T → T → Bool) (same : W → W → Bool) (p q : PrunedOpening T W)
      (r : Result (Option (ℕ × ℕ × InputPair T (List W))) MerkleTreeError) →
      IsExtraction eq same rule c (presented_pruned eq same c cap p) (presented_pruned eq same c cap q)
      (found_pair r) → IsOnlyOpening rule c p q r
  only_told eq same p q (Ok found) is = only_openings p q is.both_accepted.0 is.both_accepted.1 found is.none
  only_told eq same p q (Err e) is = record { one_list = λ one. tt; lowered_one_list = λ lowered one. tt }
