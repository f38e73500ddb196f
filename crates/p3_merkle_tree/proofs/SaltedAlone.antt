-- A salted pruned opening of one index: it is accepted exactly if the opening of the index with its digests is.
use Rattle.std.proofs.Common.{◌≡◌, ◌↔◌, ℕ, ◌≤◌, List, [], ◌∷◌, arith, length, map, refl}
use Rattle.std.specs.Prelude.{Bool, Result, slice_index, slice_index_or}
use Rattle.p3_support.specs.declared.matrix.Dimensions.{Dimensions}
use Rattle.p3_merkle_core.specs.Checks.{params}
use Rattle.p3_merkle_core.specs.Geometry.{IsArity, Shape, levels}
use Rattle.p3_merkle_core.specs.Nodes.{Functions}
use Rattle.p3_merkle_core.specs.Presented.{IsAcceptedAs, IsVerdict}
use Rattle.p3_merkle_core.specs.Pruning.{pruned_of}
use Rattle.p3_merkle_core.specs.declared.error.MerkleTreeError.{MerkleTreeError}
use Rattle.p3_merkle_core.proofs.Covered.Alone.{accepted_alone}
use Rattle.p3_merkle_tree.specs.SaltedOpenings.{IsSaltedAccepted, IsSaltedPrunedAccepted, SaltedPruned}
use Rattle.p3_merkle_tree.specs.SaltedOpenings.{salted_as_single, salted_pruned_of, salted_rows}
use Rattle.p3_merkle_tree.specs.SaltedPresented.{presented_salted, presented_salted_pruned}

-- of a list of one number, the first value
pub first_at : {X : Type 0} (f : ℕ → List X) (is : List ℕ) → length is ≡ 1 →
    slice_index_or (map f is) 0 [] ≡ f (slice_index is 0)
first_at f [] one = absurd (omega arith)
first_at f (i ∷ []) one = refl
first_at f (i ∷ j ∷ is) one = absurd (omega arith)

module _ {T W : Type 0} (f : Functions T W) (s : Shape) (t : ℕ) (cap : List (List W)) (w : IsArity s.arity)
    (in_tree : t ≤ levels s) (e : ℕ) (ds : List Dimensions) where
  alone : (indices : List ℕ) (sets salts : List (List (List T))) (digests : List (List W)) → length indices ≡ 1 →
      length sets ≡ 1 → length salts ≡ 1 → let p = salted_pruned_of indices sets salts digests in
      IsSaltedPrunedAccepted e ds (params f s t) cap p ↔ IsSaltedAccepted e ds (params f s t) cap (salted_as_single p)
  alone indices [] salts digests one many too = absurd (omega arith)
  alone indices (rows ∷ others ∷ sets) salts digests one many too = absurd (omega arith)
  alone indices (rows ∷ []) [] digests one many too = absurd (omega arith)
  alone indices (rows ∷ []) (salt ∷ others ∷ salts) digests one many too = absurd (omega arith)
  alone indices (rows ∷ []) (salt ∷ []) digests one many too =
      let p = pruned_of indices (salted_rows rows salt ∷ []) digests in
      let plain = accepted_alone f s t cap w in_tree p one refl in (
        λ a. record { salted = a.salted.0; can_widen = a.can_widen; accepted = plain.0 a.accepted },
        λ a. record {
          in_pairs = refl;
          salted = (a.salted, tt);
          can_widen = a.can_widen;
          accepted = plain.1 a.accepted;
        },
      )

  -- so the verdict on the one is a verdict on the other
  pub verdict_alone : {V : Type 0} (row_eq : T → T → Bool) (digest_eq : W → W → Bool) (p : SaltedPruned T W)
      (r : Result V MerkleTreeError) → length p.indices ≡ 1 → length p.rows ≡ 1 → length p.salts ≡ 1 →
      IsVerdict (presented_salted_pruned row_eq digest_eq e ds (params f s t) cap p) r →
      IsAcceptedAs (presented_salted digest_eq e ds (params f s t) cap (salted_as_single p)) r
  verdict_alone row_eq digest_eq p r one many too verdict =
      let meant = alone p.indices p.rows p.salts p.digests one many too in
      record {
        ok_is_accepted = λ ok. meant.0 (verdict.ok_is_accepted ok);
        accepted_is_ok = λ accepted. verdict.accepted_is_ok (meant.1 accepted);
      }
