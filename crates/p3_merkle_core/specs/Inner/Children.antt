-- The children of covered nodes, and the values that they take.
use Rattle.std.specs.Prelude.{◌≡◌, ℕ, ◌+◌, ◌-◌, ◌*◌, ◌/◌, ◌%◌, ◌^◌, ◌<◌, ◌≤◌, Bool, true, not, nat_lt, if◌then◌else◌}
use Rattle.std.specs.Prelude.{List, [], All, drop, filter, flat_map, fold, length, map, remove, slice_index_or, take}
use Rattle.std.specs.Prelude.{zip}
use Rattle.std.specs.List.{enumerate_from, range_with_len}
use Rattle.std.specs.List.Sorted.{IsStrictlyIncreasing}
use Rattle.p3_support.specs.Lists.{is_among}
use Rattle.p3_merkle_core.specs.declared.pruning.CoveredLayer.{CoveredLayer}

-- the children of some parents, n of each, parent by parent
abbrev pub children_under : ℕ → List ℕ → List ℕ
children_under n parents = flat_map (λ p. range_with_len (n * p) n) parents

-- the values that stand beside the numbers that pass a test
abbrev pub beside : {X : Type 0} → (ℕ → Bool) → List ℕ → List X → List X
beside p js xs = map (λ (j, x). x) (filter (λ (j, x). p j) (zip js xs))

-- how many of the parents' children, n of each, are not covered
abbrev pub unknown_count : ℕ → List ℕ → List ℕ → ℕ
unknown_count n parents covered = n * length parents - length covered

-- the covered nodes, in order, are children of the parents, n of each, and have a digest each; enough are sent for the
-- other children
pub record IsFamily {X : Type 0} (n : ℕ) (parents covered : List ℕ) (digests sent : List X) : Type 0 where
  pub in_order : filter (is_among covered) (children_under n parents) ≡ covered
  pub one_each : length digests ≡ length covered
  pub enough : unknown_count n parents covered ≤ length sent
  pub few : n * length parents < 2 ^ 64
  pub low : All (λ p. n * p + n < 2 ^ 64) parents

-- a value for each child: those of the covered ones are the digests, in order, and those of the others the first that
-- were sent
pub record AreChildren {X : Type 0} (n : ℕ) (parents covered : List ℕ) (digests sent values : List X) : Type 0 where
  pub each : length values ≡ n * length parents
  pub known : beside (is_among covered) (children_under n parents) values ≡ digests
  pub unknown : beside (λ j. not (is_among covered j)) (children_under n parents) values
      ≡ take (unknown_count n parents covered) sent

-- ---- paths

-- the place of a number among ascending ones: how many are below it
abbrev pub place_among : List ℕ → ℕ → ℕ
place_among xs p = length (filter (λ x. nat_lt x p) xs)

-- the values of the children of parent p, out of those of all parents, n of each
abbrev pub children_at : {X : Type 0} → ℕ → List ℕ → List X → ℕ → List X
children_at n parents values p = take n (drop (n * place_among parents p) values)

-- the siblings of node j out of a level of some parents, n children of each, with their values: those of its group but
-- its own, and none where its parent is not among them
abbrev pub siblings_out_of : {X : Type 0} → List ℕ × ℕ × List X → ℕ → List X
siblings_out_of (parents, n, values) j = if is_among parents (j / n) then remove (children_at n parents values (j / n))
    (j % n) else []

-- the node above leaf i over levels of these steps: the leaf divided by their product
abbrev pub node_over : List ℕ → ℕ → ℕ
node_over steps i = i / fold (λ product n. product * n) 1 steps

-- the siblings on the path of leaf i out of such levels, from the leaves on: in each, those of the node over the steps
-- below it
abbrev pub siblings_on_path : {X : Type 0} → List (List ℕ × ℕ × List X) → ℕ → List X
siblings_on_path levels i =
    flat_map (λ (k, level). siblings_out_of level (node_over (map (λ (parents, n, values). n) (take k levels)) i))
    (enumerate_from 0 levels)

-- for each of some leaves, in order, its index and these siblings
abbrev pub paths_out_of : {X : Type 0} → List (List ℕ × ℕ × List X) → List ℕ → List (ℕ × List X)
paths_out_of levels indices = map (λ i. (i, siblings_on_path levels i)) indices

-- the covered nodes of the layers above the leaves, their steps, and the values of their children
abbrev pub levels_in : {X : Type 0} → List (CoveredLayer X) → List (List ℕ × ℕ × List X)
levels_in layers = map (λ layer. (layer.covered.nodes.items, layer.step, layer.children.items)) (drop 1 layers)

-- a layer above another: its nodes ascend, each has as many children, and it has the parent of each node below
pub record IsLinked {X : Type 0} (below above : CoveredLayer X) : Type 0 where
  pub some : 0 < above.step
  pub full : length above.children.items ≡ above.step * length above.covered.nodes.items
  pub ascending : IsStrictlyIncreasing above.covered.nodes.items
  pub parents : (j : ℕ) → is_among below.covered.nodes.items j ≡ true →
      is_among above.covered.nodes.items (j / above.step) ≡ true

-- each layer is above the one before it
abbrev pub AreLinked : {X : Type 0} → List (CoveredLayer X) → Type 0
AreLinked {X} layers = (l : ℕ) → l + 1 < length layers → (x : CoveredLayer X) →
    IsLinked (slice_index_or layers l x) (slice_index_or layers (l + 1) x)
