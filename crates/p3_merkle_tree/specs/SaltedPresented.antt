-- A salted opening as a verifier takes it.
use Rattle.std.specs.Prelude.{ℕ, Bool, List, [], length}
use Rattle.p3_support.specs.declared.matrix.Dimensions.{Dimensions}
use Rattle.p3_merkle_core.specs.Checks.{Params}
use Rattle.p3_merkle_core.specs.Geometry.{Shape}
use Rattle.p3_merkle_core.specs.Openings.{opening_of}
use Rattle.p3_merkle_core.specs.Presented.{Presented}
use Rattle.p3_merkle_core.specs.Pruning.{opening_at}
use Rattle.p3_merkle_tree.specs.SaltRefusals.{salted_pruned_refusal, salted_pruned_refusal_under, salted_refusal_under}
use Rattle.p3_merkle_tree.specs.SaltedOpenings.{IsSaltedAccepted, IsSaltedPrunedAccepted, IsSaltedRestorable}
use Rattle.p3_merkle_tree.specs.SaltedOpenings.{SaltedOpening, SaltedPruned, joined, joined_sets}

-- a salted opening of one index, under a cap: its only query is the rows followed by their salts
abbrev pub presented_salted : {T W : Type 0} → (W → W → Bool) → ℕ → List Dimensions → Params T W → List (List W) →
    SaltedOpening T W → Presented T W
presented_salted digest_eq e dimensions c cap o =
    record {
      is_accepted = IsSaltedAccepted e dimensions c cap o;
      refusal = salted_refusal_under digest_eq e dimensions c cap o;
      queries = 1;
      query = λ k. joined o;
    }

-- a salted pruned opening, under a cap: the queries of the rows followed by their salts
abbrev pub presented_salted_pruned : {T W : Type 0} → (T → T → Bool) → (W → W → Bool) → ℕ → List Dimensions →
    Params T W → List (List W) → SaltedPruned T W → Presented T W
presented_salted_pruned row_eq digest_eq e dimensions c cap p =
    record {
      is_accepted = IsSaltedPrunedAccepted e dimensions c cap p;
      refusal = salted_pruned_refusal_under row_eq digest_eq e dimensions c cap p;
      queries = length p.indices;
      query = opening_at c (joined_sets p);
    }

-- a salted pruned opening whose paths are restored, whatever the cap, which is layer t: here accepted means that it
-- restores, and no query is checked
abbrev pub presented_salted_to_restore : {T W : Type 0} → (T → T → Bool) → ℕ → List Dimensions → Shape → ℕ →
    SaltedPruned T W → Presented T W
presented_salted_to_restore row_eq e dimensions s t p =
    record {
      is_accepted = IsSaltedRestorable e dimensions s t p;
      refusal = salted_pruned_refusal row_eq e dimensions s t p;
      queries = 0;
      query = λ k. opening_of 0 [] [];
    }
