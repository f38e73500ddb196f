-- A pruned opening of one index: its digests are the siblings of the index, in their order, and it is accepted exactly
-- if the opening with these siblings is.
use Rattle.std.proofs.Common.{◌≡◌, ◌↔◌, ℕ, zero, suc, ◌+◌, ◌*◌, ◌/◌, ◌<◌, ◌≤◌, false, eqb, not, ◌||◌, List, [], ◌∷◌}
use Rattle.std.proofs.Common.{map, refl, ap, sym, ◌∙◌, subst, arith, inl, inr, length, filter, get_or, remove, take}
use Rattle.std.proofs.Common.{drop, ◌++◌, All, append-nil, eq-eqb}
use Rattle.std.proofs.lemmas.Bool.{eqb-true, ne_eqb, or_cases, true≢false}
use Rattle.std.proofs.lemmas.List.{length-map, map-append}
use Rattle.std.specs.List.{range_with_len, take-map, drop-map}
use Rattle.p3_support.specs.Batches.{greatest}
use Rattle.p3_merkle_core.specs.Geometry.{Shape, IsArity, ancestor, heights, layer_len, levels, position_in_group}
use Rattle.p3_merkle_core.specs.Geometry.{raw_len, step, widths}
use Rattle.p3_merkle_core.specs.Nodes.{Functions}
use Rattle.p3_merkle_core.specs.Openings.{level_siblings, opening_of, siblings_by}
use Rattle.p3_merkle_core.specs.Checks.{IsAccepted, layer_rows, params}
use Rattle.p3_merkle_core.specs.Pruning.{CanQuery, IsPrunedAccepted, as_single, boundary, boundary_at, boundary_by}
use Rattle.p3_merkle_core.specs.Pruning.{is_boundary, is_covered, opening_at, pruned_of, restored_path, value_of}
use Rattle.p3_merkle_core.specs.Pruning.{PrunedOpening}
use Rattle.p3_merkle_core.proofs.Checks.CheckFacts.{padded_ge}
use Rattle.p3_merkle_core.proofs.Checks.PathFacts.{path_length}
use Rattle.p3_merkle_core.proofs.Covered.CoveredFacts.{boundary_by_groups}
use Rattle.p3_merkle_core.proofs.Covered.ValueFacts.{digests_are, map_pairs}
use Rattle.p3_merkle_core.proofs.Lists.ListFacts.{joined_more, map_shift}
use Rattle.p3_merkle_core.proofs.Lists.RisingFacts.{all_kept, by_groups, filter_is}
use Rattle.p3_merkle_core.proofs.Shapes.RawFacts.{anc_below}
use Rattle.p3_merkle_core.proofs.Shapes.StepFacts.{anc_next, step_above_1}

-- ---- lists

-- one number of a range is kept
only_kept : (x n : ℕ) → x < n → filter (λ j. eqb x j || false) (range_with_len 0 n) ≡ x ∷ []
only_kept x n inside =
    sym (filter_is (λ j. eqb x j || false) 0 n (x ∷ []) (record {
      rising = (omega arith, tt);
      sound = λ j h.
          elim (or_cases (eqb x j) false h) [
            | inl e ↦ let is = eqb-true x j e in (omega arith, h)
            | inr empty ↦ absurd (true≢false (sym empty))
          ];
      complete = λ j low high c. c;
    }))

-- all others are
others_kept : (a n p : ℕ) → p < n →
    filter (λ j. not (eqb (a + p) j || false)) (range_with_len a n) ≡ remove (range_with_len a n) p
others_kept a zero p h = absurd (omega arith)
others_kept a (suc n) zero h =
    let own : a + 0 ≡ a = omega arith in
    ap (λ x. filter (λ j. not (eqb x j || false)) (range_with_len a (suc n))) own
    ∙ rw (eq-eqb a a refl) (all_kept (λ j. not (eqb a j || false)) (a + 1) n (λ m low high.
    let other = ne_eqb a m (λ e. absurd (omega arith)) in rw other refl))
others_kept a (suc n) (suc p) h =
    let next : (a + 1) + p ≡ a + suc p = omega arith in
    let rest = rw next at (others_kept (a + 1) n p (omega arith)) in
    rw (ne_eqb (a + suc p) a (λ e. absurd (omega arith)), rest) refl

map_rest : {X : Type 0} (g : ℕ → X) (xs : List ℕ) (p : ℕ) → map g (remove xs p) ≡ remove (map g xs) p
map_rest g xs p =
    map-append g (take p xs) (drop (suc p) xs) ∙ (λ i. sym (take-map g p xs) i ++ sym (drop-map g (suc p) xs) i)

-- ---- the boundary of one index

module _ {X : Type 0} (value : ℕ → ℕ → X) (s : Shape) (i : ℕ) (t : ℕ) (w : CanQuery s (i ∷ []) t) where
  level_alone : (l : ℕ) → l < t →
      map (value l) (filter (is_boundary s (i ∷ []) l) (range_with_len 0 (layer_len s l)))
      ≡ level_siblings value s i l
  level_alone l h =
      let n = step s l in
      let a = ancestor s (suc l) i in
      let p = position_in_group s l i in
      let two = step_above_1 s l w.well_shaped.above_1 in
      let up : a ≡ ancestor s l i / n = anc_next s l i in
      let own : ancestor s l i ≡ n * a + p = rw up (omega arith) in
      let inside = anc_below s w.well_shaped i (w.below 0 0 (omega arith)) (suc l) (omega (arith, w.in_tree)) in
      let parent = only_kept a (layer_len s (suc l)) (omega (arith, inside, padded_ge (raw_len s (suc l)) s.arity)) in
      let out = λ (j : ℕ). not (is_covered s (i ∷ []) l j) in
      let shift = map_shift (value l) (n * a) 0 n in
      let from : n * a + 0 ≡ n * a = omega arith in
      ap (map (value l)) (sym (boundary_by_groups s (i ∷ []) t w l h)
      ∙ ap (λ places. by_groups n out places) parent
      ∙ append-nil (filter out (range_with_len (n * a) n))
      ∙ ap (λ x. filter (λ j. not (eqb x j || false)) (range_with_len (n * a) n)) own
      ∙ others_kept (n * a) n p (omega arith))
      ∙ map_rest (value l) (range_with_len (n * a) n) p
      ∙ ap (λ xs. remove xs p) (sym (rw from at shift))

  levels_alone : (l : ℕ) → l ≤ t → boundary_by value s (i ∷ []) l ≡ siblings_by value s l i
  levels_alone zero h = refl
  levels_alone (suc l) h =
      let q = i ∷ [] in
      let row = filter (is_boundary s q l) (range_with_len 0 (layer_len s l)) in
      ap (map (λ (m, j). value m j)) (joined_more (boundary_at s q) l)
      ∙ map-append (λ (m, j). value m j) (boundary s q l) (boundary_at s q l)
      ∙ rw (levels_alone l (omega arith), map_pairs (λ (m, j). value m j) l row, level_alone l (omega arith))
      (sym (joined_more (level_siblings value s i) l))

  -- the values of the boundary are those of the siblings
  pub boundary_alone : boundary_by value s (i ∷ []) t ≡ siblings_by value s t i
  boundary_alone = levels_alone t (omega arith)

-- ---- accepted

pub one_there : {X : Type 0} (P : X → Type 0) (x : X) → P x → All P (x ∷ [])
one_there P x is zero d h = is
one_there P x is (suc k) d h = absurd (omega arith)

one_at : {X : Type 0} (x d : X) (k : ℕ) → k < 1 → get_or (x ∷ []) k d ≡ x
one_at x d zero h = refl
one_at x d (suc k) h = absurd (omega arith)

module _ {T W : Type 0} (f : Functions T W) (s : Shape) (t : ℕ) (cap : List (List W)) (w : IsArity s.arity)
    (in_tree : t ≤ levels s) where
  -- the restored path has the digests of the proof
  path_alone : (i : ℕ) (rows : List (List T)) (ds : List (List W)) → i < greatest (heights s) →
      length ds ≡ length (boundary s (i ∷ []) t) →
      restored_path (params f s t) (pruned_of (i ∷ []) (rows ∷ []) ds) i ≡ ds
  path_alone i rows ds below count =
      let p = pruned_of (i ∷ []) (rows ∷ []) ds in
      let can : CanQuery s (i ∷ []) t = record {
        well_shaped = w;
        below = one_there (λ q. q < greatest (heights s)) i below;
        in_tree = in_tree;
      } in
      sym (boundary_alone (value_of (params f s t) p) s i t can) ∙ digests_are f s t p count

  alone : (indices : List ℕ) (sets : List (List (List T))) (ds : List (List W)) → length indices ≡ 1 →
      length sets ≡ 1 → let p = pruned_of indices sets ds in
      IsPrunedAccepted (params f s t) cap p ↔ IsAccepted (params f s t) cap (as_single p)
  alone [] sets ds one many = absurd (omega arith)
  alone (i ∷ j ∷ indices) sets ds one many = absurd (omega arith)
  alone (i ∷ []) [] ds one many = absurd (omega arith)
  alone (i ∷ []) (rows ∷ others ∷ sets) ds one many = absurd (omega arith)
  alone (i ∷ []) (rows ∷ []) ds one many =
      let c = params f s t in
      let p = pruned_of (i ∷ []) (rows ∷ []) ds in (
        λ a.
            let path = path_alone i rows ds (a.restorable.below 0 0 (omega arith)) a.restorable.count in
            subst (λ siblings. IsAccepted c cap (opening_of i rows siblings)) path (a.each_accepted 0 (omega arith)),
        λ a.
            let can : CanQuery s (i ∷ []) t = record {
              well_shaped = w;
              below = one_there (λ q. q < greatest (heights s)) i a.in_range;
              in_tree = in_tree;
            } in
            let count : length ds ≡ length (boundary s (i ∷ []) t) =
            a.count ∙ sym (path_length s w (value_of c p) i t)
            ∙ ap length (sym (boundary_alone (value_of c p) s i t can))
            ∙ length-map (boundary s (i ∷ []) t) (λ (l, j). value_of c p l j) in
            let path = path_alone i rows ds a.in_range count in
            let same = λ (x y : ℕ) (h : x < 1) (g : y < 1). one_at rows [] x h ∙ sym (one_at rows [] y g) in
            record {
              restorable = record {
                lawful = a.lawful;
                below = one_there (λ q. q < greatest (heights s)) i a.in_range;
                count = count;
                rows_fit = one_there (λ row. map length row ≡ widths s) rows a.rows_fit;
                agreed = record {
                  in_pairs = refl;
                  repeats = λ x y h g e. same x y h g;
                  groups = λ l x y le h g e. ap (λ z. layer_rows s z l) (same x y h g);
                };
              };
              each_accepted = λ k h.
                  subst (λ (z : ℕ). IsAccepted c cap (opening_at c p z)) (let z : 0 ≡ k = omega arith in z)
                  (subst (λ siblings. IsAccepted c cap (opening_of i rows siblings)) (sym path) a);
            },
      )

  -- a pruned opening of one index is accepted exactly if the opening of the index with its digests is
  pub accepted_alone : (p : PrunedOpening T W) → length p.indices ≡ 1 → length p.rows ≡ 1 →
      IsPrunedAccepted (params f s t) cap p ↔ IsAccepted (params f s t) cap (as_single p)
  accepted_alone p one many = alone p.indices p.rows p.digests one many
