-- The honest pruned opening restores the nodes and the honest paths.
use Rattle.std.proofs.Common.{◌≡◌, ◌==◌, ℕ, zero, suc, ◌+◌, ◌*◌, ◌<◌, ◌≤◌, true, eqb, ◌&&◌, List, [], ◌∷◌, map, refl}
use Rattle.std.proofs.Common.{ap, sym, ◌∙◌, arith, inl, inr, length, get_or, remove, Some, zip}
use Rattle.std.proofs.lemmas.Bool.{cases_Bool, cond-true, cond-false, eqb-true, and_parts, true≢false}
use Rattle.std.proofs.lemmas.List.{length-map, get_or-map}
use Rattle.std.proofs.lemmas.List.FromFn.{length-map-range_with_len, get_or-map-range_with_len}
use Rattle.std.proofs.lemmas.Option.{slice_get-get_or}
use Rattle.std.specs.List.{find}
use Rattle.std.specs.Option.{unwrap_or, option_map}
use Rattle.p3_merkle_core.specs.Openings.{honest_rows, siblings_by, children_by, level_siblings}
use Rattle.p3_merkle_core.specs.Nodes.{Functions, Batch, shape, node, layer}
use Rattle.p3_merkle_core.specs.Checks.{params}
use Rattle.p3_merkle_core.specs.Pruning.{is_covered, boundary, is_in, sent_digest, restored_node, value_of}
use Rattle.p3_merkle_core.specs.Pruning.{restored_path, honest_query, IsHonestQuery, IsCapped, first_rows}
use Rattle.p3_merkle_core.specs.Geometry.{step, ancestor, raw_len, layer_len, position_in_group}
use Rattle.p3_merkle_core.proofs.Checks.Completeness.{IsHonest, rows_are, row_digest_is, node_leaf, node_next}
use Rattle.p3_merkle_core.proofs.Checks.CheckFacts.{padded_ge}
use Rattle.p3_merkle_core.proofs.Covered.Sufficient.{covered_below, child_listed}
use Rattle.p3_merkle_core.proofs.Checks.PathFacts.{joined_same, map_same, group_values, piece}
use Rattle.p3_merkle_core.proofs.Covered.Equivalence.{restored_leaf, restored_next, query_covered, rows_under_is}

-- what was sent for a node that is listed
pub found : {X : Type 0} (given : List (ℕ × ℕ)) (g : ℕ × ℕ → X) (d : X) (l j : ℕ) → is_in given l j ≡ true →
    unwrap_or (option_map (λ (place, digest). digest)
    (find (λ ((m, k), digest). eqb m l && eqb k j) (zip given (map g given)))) d ≡ g (l, j)
found [] g d l j e = absurd (true≢false (sym e))
found ((m, k) ∷ given) g d l j e =
    elim (cases_Bool (eqb m l && eqb k j)) [
      | inl t ↦
          let p = and_parts (eqb m l) (eqb k j) t in
          let a = eqb-true m l p.0 in
          let b = eqb-true k j p.1 in
          rw t (ap (λ x. g (x, k)) a ∙ ap (λ x. g (l, x)) b)
      | inr f ↦ rw f (found given g d l j (rw f at e))
    ]

-- a query under a covered node, whose rows stand for it
honest_under : {T W : Type 0} (f : Functions T W) (b : Batch T) (t : ℕ) (indices : List ℕ) → IsHonestQuery b t indices →
    (l j : ℕ) → l ≤ t → is_covered (shape b) indices l j ≡ true →
    (i : ℕ) × IsHonest b t i × (ancestor (shape b) l i ≡ j) ×
    (first_rows (λ i. ancestor (shape b) l i == j) (honest_query f b t indices) ≡ honest_rows b i)
honest_under f b t indices w l j h c =
    let s = shape b in
    let u = rows_under_is s indices (map (honest_rows b) indices) l j (length-map indices (honest_rows b)) c in
    let k = u.0 in (
      get_or indices k 0,
      record {
        well_shaped = w.queried.well_shaped;
        lawful = w.lawful;
        below = w.queried.below k 0 (u.1);
        in_tree = w.queried.in_tree;
      },
      u.2,
      u.3 ∙ get_or-map (honest_rows b) indices k 0 [] (u.1),
    )

-- the children of a covered node, where the covered ones are restored
group_restored : {T W : Type 0} (f : Functions T W) (b : Batch T) (t : ℕ) (indices : List ℕ) →
    IsHonestQuery b t indices → (l j : ℕ) → l < t → is_covered (shape b) indices (suc l) j ≡ true →
    ((k : ℕ) → is_covered (shape b) indices l k ≡ true →
    restored_node (params f (shape b) t) (honest_query f b t indices) l k ≡ node f b l k) →
    group_values (shape b) (value_of (params f (shape b) t) (honest_query f b t indices)) l j
    ≡ children_by (node f b) (shape b) l j
group_restored f b t indices w l j h c below =
    let s = shape b in
    let p = honest_query f b t indices in
    map_same (λ i. value_of (params f s t) p l (step s l * j + i)) (λ i. node f b l (step s l * j + i)) 0 (step s l)
    (λ i low high.
    let k = step s l * j + i in
    elim (cases_Bool (is_covered s indices l k)) [
      | inl y ↦ cond-true (is_covered s indices l k) (restored_node (params f s t) p l k)
          (sent_digest (params f s t) p l k) y ∙ below k y
      | inr n ↦ cond-false (is_covered s indices l k) (restored_node (params f s t) p l k)
          (sent_digest (params f s t) p l k) n
          ∙ found (boundary s indices t) (λ (m, k). node f b m k) f.default_digest l k
          (child_listed s indices t w.queried l j i h (omega arith) c n)
    ])

-- the value of a covered node
pub honest_restores : {T W : Type 0} (f : Functions T W) (b : Batch T) (t : ℕ) (indices : List ℕ) →
    IsHonestQuery b t indices → (l j : ℕ) → l ≤ t → is_covered (shape b) indices l j ≡ true →
    restored_node (params f (shape b) t) (honest_query f b t indices) l j ≡ node f b l j
honest_restores f b t indices w zero j h c =
    let s = shape b in
    let u = honest_under f b t indices w 0 j h c in
    let at = u.2 in
    restored_leaf f s t (honest_query f b t indices) j
    ∙ rw (u.3, rows_are b t (u.0) 0 (u.1), at) (sym (node_leaf f b j (covered_below s indices t w.queried 0 j h c)))
honest_restores f b t indices w (suc l) j h c =
    let s = shape b in
    let u = honest_under f b t indices w (suc l) j h c in
    let at = u.2 in
    let group = group_restored f b t indices w l j (omega arith) c
    (λ k y. honest_restores f b t indices w l k (omega arith) y) in
    restored_next f s t (honest_query f b t indices) l j
    ∙ rw (group, u.3, rows_are b t (u.0) (suc l) (u.1), ← row_digest_is f b t (u.0) (suc l) (u.1), at) refl
    ∙ sym (node_next f b l j (covered_below s indices t w.queried (suc l) j h c))

-- each query's restored path is its honest one
pub honest_paths : {T W : Type 0} (f : Functions T W) (b : Batch T) (t : ℕ) (indices : List ℕ) →
    IsHonestQuery b t indices → (k : ℕ) → k < length indices →
    restored_path (params f (shape b) t) (honest_query f b t indices) (get_or indices k 0)
    ≡ siblings_by (node f b) (shape b) t (get_or indices k 0)
honest_paths f b t indices w k h =
    let s = shape b in
    let i = get_or indices k 0 in
    joined_same (piece s (value_of (params f s t) (honest_query f b t indices)) i)
    (level_siblings (node f b) (shape b) i) t (λ l below.
    ap (λ ds. remove ds (position_in_group s l i))
    (group_restored f b t indices w l (ancestor s (suc l) i) below (query_covered s indices k (suc l) h)
    (λ j y. honest_restores f b t indices w l j (omega arith) y)))

-- and each covered node of layer t has its entry in the honest cap
pub honest_capped : {T W : Type 0} (f : Functions T W) (b : Batch T) (t : ℕ) (indices : List ℕ) →
    IsHonestQuery b t indices → IsCapped (params f (shape b) t) (layer f b t) (honest_query f b t indices)
honest_capped f b t indices w j c =
    let s = shape b in
    let in_layer : j < layer_len s t =
    omega (arith, covered_below s indices t w.queried t j (omega arith) c, padded_ge (raw_len s t) b.arity) in
    slice_get-get_or (layer f b t) j f.default_digest
    (omega (arith, length-map-range_with_len (node f b t) 0 (layer_len s t)))
    ∙ ap (λ d. Some d) (get_or-map-range_with_len (node f b t) 0 (layer_len s t) j j f.default_digest in_layer
    (omega arith) ∙ sym (honest_restores f b t indices w t j (omega arith) c))
