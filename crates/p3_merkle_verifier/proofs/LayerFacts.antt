-- The digests of a layer's nodes are the restored ones.
use Rattle.std.proofs.Common.{◌≡◌, ◌∙◌, ℕ, zero, suc, ◌+◌, ◌*◌, ◌/◌, ◌<◌, ◌≤◌, Bool, true, false, List, [], ◌∷◌, ◌++◌}
use Rattle.std.proofs.Common.{map, refl, ap, sym, arith, inl, inr, length, length-append, take, drop, zip, append_assoc}
use Rattle.std.proofs.lemmas.Bool.{cases_Bool, cond_both}
use Rattle.std.proofs.lemmas.List.{drop_at, length-map, map-id, take_at}
use Rattle.std.proofs.lemmas.List.FromFn.{length-range_with_len}
use Rattle.std.proofs.Math.Nat.{mul-div_cancel_left}
use Rattle.std.specs.List.{flat_map, range_with_len}
use Rattle.p3_merkle_core.specs.Geometry.{Shape, has_rows, heights, is_bridge, layer_exponent, step}
use Rattle.p3_merkle_core.specs.Nodes.{Functions, compress_padded}
use Rattle.p3_merkle_core.specs.Pruning.{CanQuery, IsAgreed}
use Rattle.p3_merkle_core.specs.Pruning.{PrunedOpening, boundary, pruned_of, restored_node, value_of, words_under}
use Rattle.p3_merkle_core.specs.Inner.Covered.{covered_at, AreCovered}
use Rattle.p3_merkle_core.specs.declared.pruning.CoveredLayer.{CoveredLayer}
use Rattle.p3_merkle_core.specs.Checks.{params}
use Rattle.p3_merkle_core.proofs.Covered.ClimbFacts.{covered_here}
use Rattle.p3_merkle_core.proofs.Covered.Equivalence.{restored_leaf, restored_next, rows_agree}
use Rattle.p3_merkle_core.proofs.Checks.PathFacts.{group_values}
use Rattle.p3_merkle_core.proofs.Lists.ListFacts.{map_shift}
use Rattle.p3_merkle_core.proofs.Shapes.StepFacts.{step_above_1}
use Rattle.p3_merkle_core.proofs.Covered.ValueFacts.{IsWalkedLevel, children_are, map_agree}
use Rattle.p3_merkle_verifier.proofs.ChildFacts.{map_on}
use Rattle.p3_merkle_verifier.specs.Inner.NodeDigests.{group_digest, layer_digests, pair_digest, query_digest}
use Rattle.p3_merkle_verifier.specs.Inner.RestoredLevels.{node_of_query, row_values, AreLeaves, AreQueriesAt}
use Rattle.p3_merkle_verifier.specs.Inner.RestoredLevels.{AreRestored, IsCoveredAt, IsLayer, IsLayerAbove}

-- ---- lists

-- a group of children, by its first child
group_is : {X : Type 0} (v : ℕ → X) (a n : ℕ) → map v (range_with_len a n) ≡ map (λ i. v (a + i)) (range_with_len 0 n)
group_is v a n = let e : a + 0 ≡ a = omega arith in rw e at (sym (map_shift v a 0 n))

map_map : {X Y : Type 0} (g : X → Y) (h : ℕ → X) (xs : List ℕ) → map g (map h xs) ≡ map (λ k. g (h k)) xs
map_map g h [] = refl
map_map g h (x ∷ xs) = ap (λ ys. g (h x) ∷ ys) (map_map g h xs)

zip_maps : {X Y Z : Type 0} (f : X × Y → Z) (g : ℕ → X) (h : ℕ → Y) (xs : List ℕ) → map f (zip (map g xs) (map h xs))
    ≡ map (λ k. f (g k, h k)) xs
zip_maps f g h [] = refl
zip_maps f g h (x ∷ xs) = ap (λ ys. f (g x, h x) ∷ ys) (zip_maps f g h xs)

-- pieces of one length, one after another after a of that length
pieces_from : {X Y : Type 0} (g : List X → Y) (n : ℕ) (h : ℕ → List X) → ((j : ℕ) → length (h j) ≡ n) →
    (zs : List X) (a : ℕ) → length zs ≡ n * a → (js : List ℕ) →
    map (λ k. g (take n (drop (n * k) (zs ++ flat_map h js)))) (range_with_len a (length js)) ≡ map (λ j. g (h j)) js
pieces_from g n h long zs a e [] = refl
pieces_from g n h long zs a e (j ∷ js) =
    let rest = flat_map h js in
    let first : take n (drop (n * a) (zs ++ (h j ++ rest)))
    ≡ h j = rw (drop_at zs (h j ++ rest) (n * a) e) (take_at (h j) rest n (long j)) in
    let more : length (zs ++ h j) ≡ n * (a + 1) = omega (arith, length-append zs (h j), long j) in
    let after = rw (append_assoc zs (h j) rest) at (pieces_from g n h long (zs ++ h j) (a + 1) more js) in
    rw (first, after) refl

pieces_are : {X Y : Type 0} (g : List X → Y) (n : ℕ) (h : ℕ → List X) → ((j : ℕ) → length (h j) ≡ n) → (js : List ℕ) →
    map (λ k. g (take n (drop (n * k) (flat_map h js)))) (range_with_len 0 (length js)) ≡ map (λ j. g (h j)) js
pieces_are g n h long js = pieces_from g n h long [] 0 (omega arith) js

-- ---- one layer

module _ {T W : Type 0} (f : Functions T W) (s : Shape) (t : ℕ) (p : PrunedOpening T W) (l : ℕ) where
  -- the digest of the children of node j
  abbrev below_digest : ℕ → List W
  below_digest j =
      compress_padded f s.arity (map (value_of (params f s t) p l) (range_with_len (step s l * j) (step s l)))

  below_is : (j : ℕ) → below_digest j ≡ compress_padded f s.arity (group_values s (value_of (params f s t) p) l j)
  below_is j = ap (compress_padded f s.arity) (group_is (value_of (params f s t) p l) (step s l * j) (step s l))

  with_rows_under : has_rows s (suc l) ≡ true → (j : ℕ) →
      pair_digest f.compression s.arity f.default_digest (below_digest j, f.hash (words_under s p (suc l) j))
      ≡ restored_node (params f s t) p (suc l) j
  with_rows_under has j = let next = rw has at (restored_next f s t p l j) in rw (below_is j) (sym next)

  without_rows : has_rows s (suc l) ≡ false → (j : ℕ) → below_digest j ≡ restored_node (params f s t) p (suc l) j
  without_rows none j = let next = rw none at (restored_next f s t p l j) in below_is j ∙ sym next

  -- the layer above, from the children's values and the digests of rows
  layer_next : (n : ℕ) (has : Bool) (rows children : List (List W)) → n ≡ step s l → has ≡ has_rows s (suc l) →
      (has ≡ true → rows ≡ row_values f s p (suc l)) →
      length children / n ≡ length (covered_at s p.indices (suc l)) →
      children ≡ flat_map (λ j. map (value_of (params f s t) p l) (range_with_len (step s l * j) (step s l)))
      (covered_at s p.indices (suc l)) →
      layer_digests f s.arity n has rows children
      ≡ map (restored_node (params f s t) p (suc l)) (covered_at s p.indices (suc l))
  layer_next n has rows children is_step is_has known count values =
      let parents = covered_at s p.indices (suc l) in
      let group = λ (j : ℕ). map (value_of (params f s t) p l) (range_with_len (step s l * j) (step s l)) in
      let row = λ (j : ℕ). f.hash (words_under s p (suc l) j) in
      let pair = pair_digest f.compression s.arity f.default_digest in
      let nodes : map (group_digest f.compression s.arity f.default_digest (step s l) (flat_map group parents))
      (range_with_len 0 (length parents)) ≡ map below_digest parents =
      pieces_are (compress_padded f s.arity) (step s l) group
      (λ j. length-map (range_with_len (step s l * j) (step s l)) (value_of (params f s t) p l)
      ∙ length-range_with_len (step s l * j) (step s l)) parents in
      let all : map (group_digest f.compression s.arity f.default_digest n children)
      (range_with_len 0 (length children / n)) ≡ map below_digest parents = rw (count, is_step, values) nodes in
      elim (cases_Bool (has_rows s (suc l))) [
        | inl present ↦ rw (all, is_has, present)
            (ap (λ ys. map pair (zip (map below_digest parents) ys)) (known (is_has ∙ present))
            ∙ zip_maps pair below_digest row parents
            ∙ map_agree (λ j. pair (below_digest j, row j)) (restored_node (params f s t) p (suc l))
            (with_rows_under present) parents)
        | inr none ↦ rw (all, is_has, none)
            (map_agree below_digest (restored_node (params f s t) p (suc l)) (without_rows none) parents)
      ]

-- the rows of an opening agree whatever digests it sends
pub agreed_with : {T W V : Type 0} (s : Shape) (t : ℕ) (indices : List ℕ) (rows : List (List (List T)))
    (digests : List (List W)) (others : List (List V)) →
    IsAgreed s t (pruned_of indices rows digests) → IsAgreed s t (pruned_of indices rows others)
agreed_with s t indices rows digests others a =
    record { in_pairs = a.in_pairs; repeats = a.repeats; groups = a.groups }

-- what is covered on a layer
pub covers : {X : Type 0} {s : Shape} {indices : List ℕ} {l : ℕ} {layer : CoveredLayer X} →
    IsCoveredAt s indices l layer →
    AreCovered s indices l layer.covered.exponent layer.covered.nodes.items layer.covered.boundary_below
covers {layer = layer} at = covered_here layer.covered _ _ _ at.shape_is at.indices_are at.layer_is

-- ---- digests that are restored

module _ {T W : Type 0} (f : Functions T W) (s : Shape) (t : ℕ) (p : PrunedOpening T W) where
  -- the digests of the rows of a query under each covered node are those of the rows under these
  pub rows_of_queries : IsAgreed s t p → (l : ℕ) → l ≤ t → (queries : List ℕ) → AreQueriesAt s p.indices l queries →
      map (query_digest f.hash (layer_exponent s l) (heights s) p.rows) queries ≡ row_values f s p l
  rows_of_queries agreed l le queries known =
      let node = node_of_query s p.indices l in
      let row = λ (j : ℕ). f.hash (words_under s p l j) in
      map_on (λ k. k < length p.indices) (query_digest f.hash (layer_exponent s l) (heights s) p.rows)
      (λ k. row (node k)) (λ k h. ap f.hash (rows_agree s t p agreed k l h le)) queries known.among
      ∙ sym (map_map row node queries) ∙ ap (map row) (sym known.queries_are)

  -- the digests of the leaves
  pub leaves_restored : (digests : List (List W)) → digests ≡ row_values f s p 0 → AreRestored f s t p 0 digests
  leaves_restored digests e =
      e ∙ map_agree (λ j. f.hash (words_under s p 0 j)) (restored_node (params f s t) p 0)
      (λ j. sym (restored_leaf f s t p j)) (covered_at s p.indices 0)

module _ {T W : Type 0} {f : Functions T W} {s : Shape} {t : ℕ} {p : PrunedOpening T W} where
  -- the digests of the nodes of a layer above the leaves, by those of their children and of their rows
  pub restored_at : {l : ℕ} → 0 < l → {n : ℕ} → s.arity ≡ n → {here : CoveredLayer (List W)}
      (rows digests : List (List W)) → IsLayer f s t p l here → (here.has_rows ≡ true → rows ≡ row_values f s p l) →
      digests ≡ layer_digests f n here.step here.has_rows rows here.children.items → AreRestored f s t p l digests
  restored_at {l = zero} some is_n rows digests layer known e = absurd (omega arith)
  restored_at {l = suc l} some is_n {here} rows digests layer known e =
      let family = layer.family in
      let long = sym (layer.in_groups (omega arith)) ∙ ap length (covers layer.coverage).nodes_are in
      e ∙ ap (λ a. layer_digests f a here.step here.has_rows rows here.children.items) (sym is_n)
      ∙ layer_next f s t p l here.step here.has_rows rows here.children.items family.step_is family.rows_are
      known long family.values_are

  -- as many digests as nodes
  pub digests_long : {l : ℕ} {here : CoveredLayer (List W)} (digests : List (List W)) → IsLayer f s t p l here →
      AreRestored f s t p l digests → length digests ≡ length here.covered.nodes.items
  digests_long {l} digests layer e =
      ap length e ∙ length-map (covered_at s p.indices l) (restored_node (params f s t) p l)
      ∙ ap length (sym (covers layer.coverage).nodes_are)

  -- ---- one level up

  -- the leaves have no children
  pub leaves_are : {here : CoveredLayer (List W)} → AreLeaves s p.indices here → IsLayer f s t p 0 here
  leaves_are at = record {
    coverage = at.coverage;
    wide = λ h. absurd (omega arith);
    narrow = omega arith;
    in_groups = λ h. absurd (omega arith);
    family = tt;
  }

  -- above a layer with its digests, the children have their values
  pub layer_rises : CanQuery s p.indices t → length p.digests ≡ length (boundary s p.indices t) → {l : ℕ} → l < t →
      {below above : CoveredLayer (List W)} {digests : List (List W)} → IsCoveredAt s p.indices l below →
      AreRestored f s t p l digests → IsLayerAbove s p.indices l below digests p.digests above →
      IsLayer f s t p (suc l) above
  layer_rises w count {l} h {below} {above} {digests} at restored up =
      let sent = drop below.covered.boundary_below p.digests in
      let same : IsWalkedLevel f s t p l (λ (d : List _). d) above.step above.covered.nodes.items
      below.covered.nodes.items digests sent =
      record {
        step_is = up.step_is;
        parents_are = (covers up.coverage).nodes_are;
        covered_are = (covers at).nodes_are;
        digests_are = map-id digests ∙ restored;
        sent_is = map-id sent ∙ ap (λ k. drop k p.digests) (covers at).boundary_is;
      } in
      let two = w.well_shaped.above_1 in
      let wide : 2 ≤ step s l = step_above_1 s l two in
      let positive : 0 < above.step = omega (arith, wide, up.step_is) in
      record {
        coverage = up.coverage;
        wide = λ h. positive;
        narrow = rw up.step_is (cond_both (is_bridge s (layer_exponent s l)) 2 s.arity (λ x. x ≤ s.arity) (λ t. two)
            (λ t. omega arith));
        in_groups = λ h. sym (rw up.values.each (mul-div_cancel_left (length above.covered.nodes.items) positive));
        family = record {
          step_is = up.step_is;
          rows_are = up.rows_are;
          full = up.values.each;
          values_are =
              sym (map-id above.children.items)
              ∙ children_are f s t p w count l h (λ (d : List _). d) above.step above.covered.nodes.items
              below.covered.nodes.items digests sent above.children.items same up.values;
        };
      }
