-- Pruned openings of many indices: covered nodes, the digests of a proof, what suffices, what is restored.
use Rattle.std.specs.Prelude.{◌≡◌, ℕ, zero, suc, ◌+◌, ◌*◌, ◌/◌, ◌<◌, ◌==◌, ◌&&◌, ◌⊎◌, Bool, false, not, if◌then◌else◌}
use Rattle.std.specs.Prelude.{IsTrue, List, [], map, length, filter, flat_map, zip, find, unwrap_or, option_map}
use Rattle.std.specs.Prelude.{slice_index, slice_index_or, slice_get, Some, ◌≤◌, All, ◌-◌, nat_le}
use Rattle.std.specs.List.{list_any, range_with_len}
use Rattle.p3_merkle_core.specs.Geometry.{Shape, IsArity, IsLawful, levels, step, raw_len, layer_len, ancestor, heights}
use Rattle.p3_merkle_core.specs.Geometry.{widths, has_rows}
use Rattle.p3_support.specs.Batches.{greatest}
use Rattle.p3_merkle_core.specs.Nodes.{Functions, Batch, shape, node, compress_padded, with_rows}
use Rattle.p3_merkle_core.specs.Openings.{Opening, honest_rows, node_in, opening_of, siblings_by}
use Rattle.p3_merkle_core.specs.Checks.{IsAccepted, Params, layer_rows, layer_words}

-- node j of layer l is a queried leaf, or above one
abbrev pub is_covered : Shape → List ℕ → ℕ → ℕ → Bool
is_covered s queries l j = list_any (λ q. ancestor s l q == j) queries

-- not covered, and a child of a covered node
abbrev pub is_boundary : Shape → List ℕ → ℕ → ℕ → Bool
is_boundary s queries l j = is_covered s queries (suc l) (j / step s l) && not (is_covered s queries l j)

-- the boundary nodes of layer l, ascending
abbrev pub boundary_at : Shape → List ℕ → ℕ → List (ℕ × ℕ)
boundary_at s queries l = map (λ j. (l, j)) (filter (is_boundary s queries l) (range_with_len 0 (layer_len s l)))

-- the boundary nodes below layer t, in wire order
abbrev pub boundary : Shape → List ℕ → ℕ → List (ℕ × ℕ)
boundary s queries t = flat_map (boundary_at s queries) (range_with_len 0 t)

-- the values of the boundary nodes below layer t, in wire order
abbrev pub boundary_by : {X : Type 0} → (ℕ → ℕ → X) → Shape → List ℕ → ℕ → List X
boundary_by value s queries t = map (λ (l, j). value l j) (boundary s queries t)

-- how many digests a pruned proof of some indices has under the cap of layer t
abbrev pub pruned_len : Shape → List ℕ → ℕ → ℕ
pruned_len s indices t = length (boundary s indices t)

-- a tree can answer these queries under layer t: its arity is a power of two from 2 to 2 ^ 62, the queries are
-- below its tallest height, and it has the layer
pub record CanQuery (s : Shape) (queries : List ℕ) (t : ℕ) : Type 0 where
  pub well_shaped : IsArity s.arity
  pub below : All (λ q. q < greatest (heights s)) queries
  pub in_tree : t ≤ levels s

-- ---- what suffices

-- node j of layer l is among the nodes in given
abbrev pub is_in : List (ℕ × ℕ) → ℕ → ℕ → Bool
is_in given l j = list_any (λ (m, k). (m == l) && (k == j)) given

-- node j of layer l is known from the nodes in given: it is one of them, or a queried leaf, or all its children are
-- known; padding is known only if it is given, so a proof has its digests like any others
abbrev pub IsKnown : Shape → List ℕ → List (ℕ × ℕ) → ℕ → ℕ → Type 0
IsKnown s queries given zero j = IsTrue (is_in given 0 j) ⊎ IsTrue (is_covered s queries 0 j)
IsKnown s queries given (suc l) j =
    IsTrue (is_in given (suc l) j) ⊎ ((j < raw_len s (suc l)) ×
    ((i : ℕ) → i < step s l → IsKnown s queries given l (step s l * j + i)))

-- each covered node of layer t is known from the nodes in given
abbrev pub Suffices : Shape → List ℕ → ℕ → List (ℕ × ℕ) → Type 0
Suffices s queries t given = (j : ℕ) → IsTrue (is_covered s queries t j) → IsKnown s queries given t j

-- none of the nodes in given, of the layers up to t, is covered: covered nodes are computed, and in no proof
abbrev pub IsUncovered : Shape → List ℕ → ℕ → List (ℕ × ℕ) → Type 0
IsUncovered s queries t given = (l j : ℕ) → l ≤ t → IsTrue (is_in given l j) → is_covered s queries l j ≡ false

-- the ancestor of node k of layer m, d layers up
unfoldable pub up : Shape → ℕ → ℕ → ℕ → ℕ
up s m k zero = k
up s m k (suc d) = up s m k d / step s (m + d)

-- a node is node j of layer l, or below it
unfoldable pub is_under : Shape → ℕ → ℕ → ℕ × ℕ → Bool
is_under s l j (m, k) = nat_le m l && (up s m k (l - m) == j)

-- x is one of the nodes in given, and is under node j of layer l
abbrev pub IsGivenUnder : Shape → List (ℕ × ℕ) → ℕ → ℕ → ℕ × ℕ → Type 0
IsGivenUnder s given l j x = IsTrue (is_in given x.0 x.1) × IsTrue (is_under s l j x)

-- count is least: it is the number of boundary nodes, which are uncovered and suffice; each list of uncovered nodes
-- that suffices has just the boundary's nodes, or is longer
pub record IsLeast (s : Shape) (queries : List ℕ) (t : ℕ) (count : ℕ) : Type 0 where
  pub counted : count ≡ pruned_len s queries t
  pub uncovered : IsUncovered s queries t (boundary s queries t)
  pub suffices : Suffices s queries t (boundary s queries t)
  pub others_longer : (given : List (ℕ × ℕ)) → IsUncovered s queries t given → Suffices s queries t given →
      ((l j : ℕ) → is_in given l j ≡ is_in (boundary s queries t) l j) ⊎ (count < length given)

-- ---- what is restored

-- an opening of several indices by one pruned proof: a row set for each index, and the digests of the proof
pub record PrunedOpening (T W : Type 0) : Type 0 where
  pub indices : List ℕ
  pub rows : List (List (List T))
  pub digests : List (List W)

-- the pruned opening of indices, row sets and digests
abbrev pub pruned_of : {T W : Type 0} → List ℕ → List (List (List T)) → List (List W) → PrunedOpening T W
pruned_of indices rows digests = record { indices = indices; rows = rows; digests = digests }

-- the value beside the first key that passes, and v where none does
abbrev pub value_at : {K V : Type 0} → (K → Bool) → List (K × V) → V → V
value_at passes pairs v = unwrap_or (option_map (λ (key, value). value) (find (λ (key, value). passes key) pairs)) v

-- the row set of the first query whose index passes
abbrev pub first_rows : {T W : Type 0} → (ℕ → Bool) → PrunedOpening T W → List (List T)
first_rows passes p = value_at passes (zip p.indices p.rows) []

-- the proof's digest of node j of layer l
abbrev pub sent_digest : {T W : Type 0} → Params T W → PrunedOpening T W → ℕ → ℕ → List W
sent_digest c p l j =
    value_at (λ (m, k). (m == l) && (k == j))
    (zip (boundary c.shape p.indices c.layer) p.digests) c.functions.default_digest

-- the words of the first query under node j of layer l, of the matrices that belong to the layer
abbrev pub words_under : {T W : Type 0} → Shape → PrunedOpening T W → ℕ → ℕ → List T
words_under s p l j = layer_words s (first_rows (λ i. ancestor s l i == j) p) l

-- the value of a covered node: the hash of rows for a leaf, else the compression of its children's values, with its
-- rows if the layer has any
unfoldable pub restored_node : {T W : Type 0} → Params T W → PrunedOpening T W → ℕ → ℕ → List W
restored_node c p zero j = c.functions.hash (words_under c.shape p 0 j)
restored_node c p (suc l) j =
    let f = c.functions in
    let s = c.shape in
    let child = λ (k : ℕ). if is_covered s p.indices l k then restored_node c p l k else sent_digest c p l k in
    let digest = compress_padded f s.arity (map (λ i. child (step s l * j + i)) (range_with_len 0 (step s l))) in
    with_rows f s.arity (has_rows s (suc l)) digest (f.hash (words_under s p (suc l) j))

-- the value of a covered node or a boundary node
abbrev pub value_of : {T W : Type 0} → Params T W → PrunedOpening T W → ℕ → ℕ → List W
value_of c p l j = if is_covered c.shape p.indices l j then restored_node c p l j else sent_digest c p l j

-- the siblings on the path of query i
abbrev pub restored_path : {T W : Type 0} → Params T W → PrunedOpening T W → ℕ → List (List W)
restored_path c p i = siblings_by (value_of c p) c.shape c.layer i

-- for each query, in order, its index and the siblings on its path
abbrev pub restored_paths : {T W : Type 0} → Params T W → PrunedOpening T W → List (ℕ × List (List W))
restored_paths c p = map (λ i. (i, restored_path c p i)) p.indices

-- query k as an opening of its own, with its restored path
abbrev pub opening_at : {T W : Type 0} → Params T W → PrunedOpening T W → ℕ → Opening T W
opening_at c p k = let i = slice_index p.indices k in opening_of i (slice_index_or p.rows k []) (restored_path c p i)

-- the first query with the digests of the proof as its siblings: an opening of one index, where there is one query
abbrev pub as_single : {T W : Type 0} → PrunedOpening T W → Opening T W
as_single p = opening_of (slice_index p.indices 0) (slice_index_or p.rows 0 []) p.digests

-- ---- agreed, accepted

-- queries of one index have one row set, and queries under one node, up to layer t, the same rows of the matrices of
-- its layer
pub record IsAgreed {T W : Type 0} (s : Shape) (t : ℕ) (p : PrunedOpening T W) : Type 0 where
  pub in_pairs : length p.rows ≡ length p.indices
  pub repeats : (a b : ℕ) → a < length p.indices → b < length p.indices →
      slice_index p.indices a ≡ slice_index p.indices b →
      slice_index_or p.rows a [] ≡ slice_index_or p.rows b []
  pub groups : (l a b : ℕ) → l ≤ t → a < length p.indices → b < length p.indices →
      ancestor s l (slice_index p.indices a) ≡ ancestor s l (slice_index p.indices b) →
      layer_rows s (slice_index_or p.rows a []) l ≡ layer_rows s (slice_index_or p.rows b []) l

-- a pruned opening restores: lawful heights, queries below the greatest height, a digest for each boundary node, and
-- rows of their widths that agree
pub record IsRestorable {T W : Type 0} (s : Shape) (t : ℕ) (p : PrunedOpening T W) : Type 0 where
  pub lawful : IsLawful (heights s)
  pub below : All (λ i. i < greatest (heights s)) p.indices
  pub count : length p.digests ≡ length (boundary s p.indices t)
  pub rows_fit : All (λ rows. map length rows ≡ widths s) p.rows
  pub agreed : IsAgreed s t p

-- each covered node of the cap's layer has its entry in the cap
abbrev pub IsCapped : {T W : Type 0} → Params T W → List (List W) → PrunedOpening T W → Type 0
IsCapped c cap p =
    (j : ℕ) → IsTrue (is_covered c.shape p.indices c.layer j) → slice_get cap j ≡ Some (restored_node c p c.layer j)

-- each query is accepted with its restored path
abbrev pub EachAccepted : {T W : Type 0} → Params T W → List (List W) → PrunedOpening T W → Type 0
EachAccepted c cap p = (k : ℕ) → k < length p.indices → IsAccepted c cap (opening_at c p k)

-- a pruned opening is accepted under a cap: it restores, and each query is accepted with its restored path
pub record IsPrunedAccepted {T W : Type 0} (c : Params T W) (cap : List (List W)) (p : PrunedOpening T W) : Type 0 where
  pub restorable : IsRestorable c.shape c.layer p
  pub each_accepted : EachAccepted c cap p

-- ---- the honest opening

-- the pruned opening of some indices whose digests are the nodes that the layers of a tree have, up to layer t
abbrev pub pruned_in_layers : {T W : Type 0} → Batch T → List (List (List W)) → ℕ → List ℕ → PrunedOpening T W
pruned_in_layers b layers t indices =
    pruned_of indices (map (honest_rows b) indices) (boundary_by (node_in [] layers) (shape b) indices t)

-- the honest pruned opening of some indices: the digests are those of the boundary nodes
abbrev pub honest_query : {T W : Type 0} → Functions T W → Batch T → ℕ → List ℕ → PrunedOpening T W
honest_query f b t indices =
    pruned_of indices (map (honest_rows b) indices) (boundary_by (node f b) (shape b) indices t)

-- queries below the greatest height of a lawful batch, and a layer of its tree
pub record IsHonestQuery {T : Type 0} (b : Batch T) (t : ℕ) (indices : List ℕ) : Type 0 where
  pub queried : CanQuery (shape b) indices t
  pub lawful : IsLawful (heights (shape b))
