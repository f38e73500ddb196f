-- Each row of a matrix belongs to some leaf, so openings of all leaves tell all rows.
use Rattle.std.proofs.Common.{◌≡◌, ◌∙◌, ℕ, zero, suc, ◌+◌, ◌-◌, ◌*◌, ◌/◌, ◌^◌, ◌<◌, List, [], ◌∷◌, ap, arith, get_or}
use Rattle.std.proofs.Common.{Bool, None, Option, Result, Some, add-zero, inl, inr, length, lit<, map, refl, subst}
use Rattle.std.proofs.Common.{sym, ◌≤◌}
use Rattle.std.proofs.Math.Nat.{mul_comm, mul-le-mul_left}
use Rattle.std.proofs.lemmas.Nat.{div-add-mod', div-mul-add, pow_pos}
use Rattle.std.specs.Prelude.{Err, Ok, slice_index, slice_index_or}
use Rattle.p3_support.specs.Batches.{greatest, heights_of}
use Rattle.p3_merkle_core.specs.Checks.{IsAccepted, Params}
use Rattle.p3_merkle_core.specs.Commitments.{IsCommitment}
use Rattle.p3_merkle_core.specs.Extraction.{IsExtraction}
use Rattle.p3_merkle_core.specs.Geometry.{IsLawful, Shape, bits_reduced, halved_index, heights}
use Rattle.p3_merkle_core.specs.Nodes.{Batch, Matrix, dimensions_of, shape}
use Rattle.p3_merkle_core.specs.Openings.{honest_rows, opening_in_layers}
use Rattle.p3_merkle_core.specs.Presented.{presented}
use Rattle.p3_merkle_core.specs.Refusals.{AnswersUnlessMemory}
use Rattle.p3_merkle_core.specs.Views.{found_alone}
use Rattle.p3_merkle_core.specs.declared.cap.CapRule.{CapRule}
use Rattle.p3_merkle_core.specs.declared.cap.CapRule.TheVariants.{Lowered}
use Rattle.p3_merkle_core.specs.declared.collision.InputPair.{InputPair}
use Rattle.p3_merkle_core.specs.declared.error.MerkleTreeError.{MerkleTreeError}
use Rattle.p3_merkle_core.proofs.Collisions.ExtractionFacts.{AllAuthenticated}
use Rattle.p3_merkle_tree.specs.Binding.{AreCommitments, HaveSameAuthenticated, IsBinding, row_at}
use Rattle.p3_merkle_tree.specs.Inner.IndexBinding.{AgreeAt, IsFoundAt}

-- row j of a matrix of a lawful height h belongs to a leaf below the greatest height m
leaf_below : (m h j q : ℕ) → 0 < m → 0 < q → h ≡ (m - 1) / q + 1 → j < h → j * q < m
leaf_below m h j q some width is below =
    let most : q * j ≤ q * ((m - 1) / q) = mul-le-mul_left q (omega (arith, is, below)) in
    omega (arith, most, mul_comm q j, mul_comm q ((m - 1) / q), div-add-mod' (m - 1) q)

leaf_row : (j q : ℕ) → 0 < q → j * q / q ≡ j
leaf_row j q width = rw (add-zero (j * q)) at (div-mul-add j q 0 width)

-- so it belongs to one of matrix k
record HasLeaf (s : Shape) (k j : ℕ) : Type 0 where
  leaf : ℕ
  in_range : leaf < greatest (heights s)
  belongs : halved_index (greatest (heights s)) (slice_index (heights s) k) leaf ≡ j

has_leaf : (s : Shape) (k j : ℕ) → IsLawful (heights s) → k < length (heights s) → j < slice_index (heights s) k →
    HasLeaf s k j
has_leaf s k j w inside below =
    let m = greatest (heights s) in
    let h = slice_index (heights s) k in
    let q = 2 ^ bits_reduced m h in
    let width : 0 < q = pow_pos (bits_reduced m h) in
    record {
      leaf = j * q;
      in_range = leaf_below m h j q w.some_above_0 width (w.on_ladder k 0 inside) below;
      belongs = leaf_row j q width;
    }

-- the row of matrix k that an opening of leaf i has
picked_at : {T : Type 0} (pick : ℕ → ℕ) (ms : List (Matrix T)) (k : ℕ) →
    get_or (map (λ m. m.row (pick m.height)) ms) k []
    ≡ get_or (map (λ m. m.row (pick (get_or (heights_of (dimensions_of ms)) k 0))) ms) k []
picked_at pick [] k = refl
picked_at pick (m ∷ ms) zero = refl
picked_at pick (m ∷ ms) (suc k) = picked_at pick ms k

pub opened_at : {T : Type 0} (b : Batch T) (k i : ℕ) →
    slice_index_or (honest_rows b i) k []
    ≡ row_at b k (halved_index (greatest (heights (shape b))) (slice_index (heights (shape b)) k) i)
opened_at b k i = picked_at (λ h. halved_index (greatest (heights (shape b))) h i) b.matrices k

module _ {T W : Type 0} (c : Params T W) (a : Batch T) (a_layers : List (List (List W))) (b : Batch T)
    (b_layers : List (List (List W))) (one_shape : shape a ≡ shape b) (is : c.shape ≡ shape a)
    (lawful : IsLawful (heights (shape a))) where
  -- where the openings of all leaves agree, authenticated matrices have the same rows
  pub all_rows : ((i : ℕ) → i < greatest (heights (shape a)) → AgreeAt c a a_layers b b_layers i) →
      HaveSameAuthenticated c a b
  all_rows agree k inside there j below =
      let here : j < slice_index (heights (shape a)) k = subst (λ s. j < slice_index (heights s) k) is below in
      let known : k < length (heights (shape a)) = subst (λ s. k < length (heights s)) is inside in
      let found = has_leaf (shape a) k j lawful known here in
      let i = found.leaf in
      let rows : slice_index_or (honest_rows a i) k [] ≡ slice_index_or (honest_rows b i) k [] =
      (agree i found.in_range).rows k inside there in
      let other : halved_index (greatest (heights (shape b))) (slice_index (heights (shape b)) k) i ≡ j =
      subst (λ s. halved_index (greatest (heights s)) (slice_index (heights s) k) i ≡ j) one_shape found.belongs in
      ap (row_at a k) (sym found.belongs) ∙ sym (opened_at a k i) ∙ rows ∙ opened_at b k i ∙ ap (row_at b k) other

-- ---- what is returned

module _ {T W : Type 0} (c : Params T W) (cap : List (List W)) (a : Batch T) (a_layers : List (List (List W)))
    (b : Batch T) (b_layers : List (List (List W))) where
  -- an error for want of memory
  pub no_memory : (i : ℕ) (r : Result (Option (InputPair T (List W))) MerkleTreeError)
      (x e : MerkleTreeError) → r ≡ Err x → x ≡ e → AnswersUnlessMemory {V = Unit {0}} (Err e) None →
      IsFoundAt c cap a a_layers b b_layers i r
  no_memory i r x e is same (inl memory) =
      subst (IsFoundAt c cap a a_layers b b_layers i) (sym is)
      (record { answered = λ both. inl (same ∙ memory); collision = tt; agree = tt; none = λ agree. tt })
  no_memory i r x e is same (inr refused) = absurd cc

  -- what is extracted from both openings of an index
  pub found_at : (row_eq : T → T → Bool) (digest_eq : W → W → Bool) (rule : CapRule) (i : ℕ)
      (r : Result (Option (InputPair T (List W))) MerkleTreeError) →
      let o = opening_in_layers a a_layers c.layer i in
      let u = opening_in_layers b b_layers c.layer i in
      (IsCommitment c cap a a_layers → IsAccepted c cap o) → (IsCommitment c cap b b_layers → IsAccepted c cap u) →
      IsExtraction row_eq digest_eq rule c (presented digest_eq c cap o) (presented digest_eq c cap u) (found_alone r) →
      IsFoundAt c cap a a_layers b b_layers i r
  found_at row_eq digest_eq rule i (Ok None) first second is =
      record {
        answered = λ both. refl;
        collision = tt;
        agree = λ none. (is.one_index (λ x y h g. refl)).0 refl 0 0 (lit< tt) (lit< tt);
        none = λ agree. refl;
      }
  found_at row_eq digest_eq rule i (Ok (Some pair)) first second is =
      record {
        answered = λ both. refl;
        collision = is.collision.collision;
        agree = λ none. absurd cc;
        none = λ agree. (is.one_index (λ x y h g. refl)).1 (λ x y h g. agree);
      }
  found_at row_eq digest_eq rule i (Err e) first second is =
      record {
        answered = λ both. is.answered (first both.first) (second both.second);
        collision = tt;
        agree = tt;
        none = λ agree. tt;
      }

  module _ (rule : CapRule) where
    -- an index gives a collision
    pub binds_some : (i : ℕ) (pair : InputPair T (List W)) → i < greatest (heights c.shape) →
        (AreCommitments c cap a a_layers b b_layers → HaveSameAuthenticated c a b → AgreeAt c a a_layers b b_layers i) →
        IsFoundAt c cap a a_layers b b_layers i (Ok (Some pair)) →
        IsBinding c cap a a_layers b b_layers rule (Ok (Some (i, pair)))
    binds_some i pair below agree found =
        record {
          answered = λ both. refl;
          collision = (below, found.collision);
          bound = λ none. absurd cc;
          exact = λ both same. found.none (agree both same);
          lowered = λ lowered none. absurd cc;
        }

    -- an index gives an error
    pub binds_err : (i : ℕ) (e : MerkleTreeError) → IsFoundAt c cap a a_layers b b_layers i (Err e) →
        IsBinding c cap a a_layers b b_layers rule (Err e)
    binds_err i e found =
        record {
          answered = λ both. found.answered both;
          collision = tt;
          bound = tt;
          exact = λ both same. tt;
          lowered = λ lowered. tt;
        }

    -- no index gives either
    pub binds_none : shape a ≡ shape b → c.shape ≡ shape a → IsLawful (heights (shape a)) →
        (rule ≡ Lowered → AllAuthenticated c.shape c.layer) →
        ((i : ℕ) → i < greatest (heights (shape a)) → AgreeAt c a a_layers b b_layers i) →
        IsBinding c cap a a_layers b b_layers rule (Ok None)
    binds_none one_shape is lawful all agree =
        let same = all_rows c a a_layers b b_layers one_shape is lawful agree in
        record {
          answered = λ both. refl;
          collision = tt;
          bound = λ none. same;
          exact = λ both same. refl;
          lowered = λ lowered none k inside. same k inside (all lowered k inside);
        }
