-- A pruned opening is accepted exactly if each query is with its restored path.
use Rattle.std.proofs.Common.{◌≡◌, ◌==◌, ◌↔◌, ℕ, zero, suc, ◌<◌, ◌≤◌, true, eqb, List, [], ◌∷◌, map, refl, ap, sym, ◌∙◌}
use Rattle.std.proofs.Common.{arith, inl, inr, length, get_or, All, Some, zip, flat_map}
use Rattle.std.proofs.lemmas.Grind.{common_steps}
use Rattle.std.proofs.lemmas.Bool.{cases_Bool, cond-true, eqb-true, true≢false}
use Rattle.std.specs.List.{find}
use Rattle.std.specs.Option.{unwrap_or, option_map}
use Rattle.p3_merkle_core.specs.Geometry.{Shape, IsLawful, ancestor, heights, widths, has_rows, IsArity}
use Rattle.p3_support.specs.Batches.{greatest}
use Rattle.p3_merkle_core.specs.Nodes.{Functions, compress_padded, with_rows}
use Rattle.p3_merkle_core.specs.Checks.{path_digest, layer_words, group_at, params}
use Rattle.p3_merkle_core.specs.Pruning.{PrunedOpening, is_covered, restored_node, value_of, opening_at, IsAgreed}
use Rattle.p3_merkle_core.specs.Pruning.{IsCapped, EachAccepted, first_rows}
use Rattle.p3_merkle_core.proofs.Checks.Completeness.{reached_next, reached_leaf}
use Rattle.p3_merkle_core.proofs.Checks.PathFacts.{group_values, path_length, path_group}
use Rattle.p3_merkle_core.proofs.Checks.CheckFacts.{accepted_walk, accepted_by_walk}

pub restored_leaf : {T W : Type 0} (f : Functions T W) (s : Shape) (t : ℕ) (p : PrunedOpening T W) (j : ℕ) →
    restored_node (params f s t) p 0 j ≡ f.hash (layer_words s (first_rows (λ i. ancestor s 0 i == j) p) 0)
unfolding restored_node
restored_leaf f s t p j = refl

pub restored_next : {T W : Type 0} (f : Functions T W) (s : Shape) (t : ℕ) (p : PrunedOpening T W) (l j : ℕ) →
    restored_node (params f s t) p (suc l) j ≡ with_rows f s.arity (has_rows s (suc l))
    (compress_padded f s.arity (group_values s (value_of (params f s t) p) l j))
    (f.hash (layer_words s (first_rows (λ i. ancestor s (suc l) i == j) p) (suc l)))
unfolding restored_node
restored_next f s t p l j = refl

pub query_covered : (s : Shape) (indices : List ℕ) (k l : ℕ) → k < length indices →
    is_covered s indices l (ancestor s l (get_or indices k 0)) ≡ true
query_covered s indices k l h = grind (arith, common_steps)

-- the rows that stand for a covered node are those of some query under it
pub rows_under_is : {T : Type 0} (s : Shape) (indices : List ℕ) (rows : List (List (List T))) (l j : ℕ) → length rows
    ≡ length indices → is_covered s indices l j ≡ true →
    (k : ℕ) × (k < length indices) × (ancestor s l (get_or indices k 0) ≡ j) ×
    (unwrap_or (option_map (λ (i, r). r) (find (λ (i, r). eqb (ancestor s l i) j) (zip indices rows))) []
    ≡ get_or rows k [])
rows_under_is s [] rows l j e c = absurd (true≢false (sym c))
rows_under_is s (i ∷ indices) [] l j e c = absurd (omega arith)
rows_under_is s (i ∷ indices) (r ∷ rows) l j e c =
    elim (cases_Bool (eqb (ancestor s l i) j)) [
      | inl t ↦ (0, omega arith, eqb-true (ancestor s l i) j t, rw t refl)
      | inr f ↦
          let rest = rows_under_is s indices rows l j (omega arith) (rw f at c) in
          (suc (rest.0), omega (arith, rest.1), rest.2, rw f (rest.3))
    ]

-- the rows of query k stand for each node above it
pub rows_agree : {T W : Type 0} (s : Shape) (t : ℕ) (p : PrunedOpening T W) → IsAgreed s t p → (k l : ℕ) →
    k < length p.indices → l ≤ t →
    layer_words s (get_or p.rows k []) l
    ≡ layer_words s (first_rows (λ i. ancestor s l i == (ancestor s l (get_or p.indices k 0))) p) l
rows_agree s t p a k l h le =
    let u = rows_under_is s p.indices p.rows l (ancestor s l (get_or p.indices k 0)) a.in_pairs
    (query_covered s p.indices k l h) in
    let same = a.groups l k (u.0) le h (u.1) (sym u.2) in
    ap (λ rs. flat_map (λ (h, row). row) rs) same ∙ ap (λ rows. layer_words s rows l) (sym u.3)

-- the check of a query with its restored path reaches the restored values above it
pub path_reaches : {T W : Type 0} (f : Functions T W) (s : Shape) (t : ℕ) (p : PrunedOpening T W) → IsArity s.arity →
    IsAgreed s t p → (k : ℕ) → k < length p.indices → (l : ℕ) → l ≤ t →
    path_digest f s (opening_at (params f s t) p k) l
    ≡ restored_node (params f s t) p l (ancestor s l (get_or p.indices k 0))
path_reaches f s t p w a k h zero le = grind (arith, common_steps, reached_leaf, restored_leaf, rows_agree)
path_reaches f s t p w a k h (suc l) le =
    let o = opening_at (params f s t) p k in
    let i = get_or p.indices k 0 in
    let below = path_reaches f s t p w a k h l (omega arith) in
    let value : restored_node (params f s t) p l (ancestor s l i) ≡ value_of (params f s t) p l (ancestor s l i) =
    sym (cond-true (is_covered s p.indices l (ancestor s l i)) (restored_node (params f s t) p l (ancestor s l i)) _
    (query_covered s p.indices k l h)) in
    let group : group_at f s o l (path_digest f s o l)
    ≡ group_values s (value_of (params f s t) p) l (ancestor s (suc l) i) =
    ap (λ d. group_at f s o l d) (below ∙ value)
    ∙ path_group f s w (value_of (params f s t) p) t o refl l (omega arith) in
    reached_next f s o l
    ∙ rw (group, rows_agree s t p a k (suc l) h le) (sym (restored_next f s t p l (ancestor s (suc l) i)))

pub equivalent : {T W : Type 0} (f : Functions T W) (s : Shape) (t : ℕ) (cap : List (List W)) (p : PrunedOpening T W) →
    IsArity s.arity → IsLawful (heights s) →
    All (λ i. i < greatest (heights s)) p.indices → All (λ rows. map length rows ≡ widths s) p.rows → IsAgreed s t p →
    IsCapped (params f s t) cap p ↔ EachAccepted (params f s t) cap p
equivalent f s t cap p w lawful below fit a = (
  λ capped k h.
      let i = get_or p.indices k 0 in
      accepted_by_walk f s t cap (opening_at (params f s t) p k) lawful (fit k [] (let e = a.in_pairs in omega arith))
      (path_length s w (value_of (params f s t) p) i t) (below k 0 h)
      (capped (ancestor s t i) (query_covered s p.indices k t h)
      ∙ ap (λ d. Some d) (sym (path_reaches f s t p w a k h t (omega arith)))),
  λ each j c.
      let u = rows_under_is s p.indices p.rows t j a.in_pairs c in
      let x = each (u.0) (u.1) in
      let at = u.2 in
      let top = path_reaches f s t p w a (u.0) (u.1) t (omega arith) in
      rw (← at) (accepted_walk f s t cap (opening_at (params f s t) p (u.0)) x ∙ ap (λ d. Some d) top),
)
