-- The covered nodes of a layer, and a query under each.
use Rattle.std.proofs.Common.{◌≡◌, ◌∙◌, ℕ, suc, ◌-◌, ◌/◌, ◌^◌, ◌<◌, ◌≤◌, true, eqb, All, List, [], ◌∷◌, map, refl, ap}
use Rattle.std.proofs.Common.{sym, arith, length, get_or}
use Rattle.std.proofs.lemmas.Nat.{pow_pos}
use Rattle.std.specs.List.{dedup}
use Rattle.std.specs.Cmp.{both_ways}
use Rattle.p3_support.specs.Batches.{greatest}
use Rattle.p3_support.specs.Lists.{is_among}
use Rattle.p3_merkle_core.specs.Geometry.{Shape, ancestor, exponent, heights, layer_exponent, layer_len}
use Rattle.p3_merkle_core.specs.Pruning.{CanQuery, is_covered}
use Rattle.p3_merkle_core.specs.Inner.Agreement.{distinct, first_query, AreDistinctOf}
use Rattle.p3_merkle_core.specs.declared.pruning.DistinctQueries.{DistinctQueries}
use Rattle.p3_merkle_core.specs.Inner.Covered.{covered_at}
use Rattle.p3_merkle_core.proofs.Covered.CoveredFacts.{covered_leaf, covered_listed, listed_below, listed_covered}
use Rattle.p3_merkle_core.proofs.Lists.RisingFacts.{listed_at, listed_map, map_lists, rising_filter}
use Rattle.p3_merkle_core.proofs.Pruned.AgreeFacts.{firsts_inside}
use Rattle.p3_merkle_core.proofs.Pruned.LeadFacts.{first_there, nodes_by_bits}
use Rattle.p3_merkle_core.proofs.Pruned.SlotFacts.{distinct_from, distinct_is, distinct_queried, parents_once}
use Rattle.p3_merkle_core.proofs.Pruned.SlotFacts.{rising_either}
use Rattle.p3_merkle_core.proofs.Shapes.LadderFacts.{shifted_is_anc}
use Rattle.p3_merkle_core.proofs.Shapes.LevelFacts.{exponent_low}
use Rattle.p3_merkle_core.proofs.Shapes.StepFacts.{anc_start}
use Rattle.p3_merkle_verifier.specs.Inner.RestoredLevels.{node_of_query, AreQueriesAt}

-- functions that are equal on a list, mapped
pub map_on : {X : Type 0} (P : ℕ → Type 0) (g h : ℕ → X) → ((k : ℕ) → P k → g k ≡ h k) → (xs : List ℕ) → All P xs →
    map g xs ≡ map h xs
map_on P g h e [] all = refl
map_on P g h e (x ∷ xs) all = rw (e x (all 0 0 (omega arith)), map_on P g h e xs (λ k d l. all (suc k) d (omega arith)))
    refl

-- ---- the nodes of a layer, by the bits of the leaves

pub covered_listed_above : (s : Shape) (indices : List ℕ) (l j : ℕ) →
    is_covered s indices l j ≡ is_among (map (ancestor s l) indices) j
covered_listed_above s [] l j = refl
covered_listed_above s (i ∷ indices) l j = rw (covered_listed_above s indices l j) refl

-- the covered nodes of a layer are those above the distinct indices, each once
covered_by_bits : (s : Shape) (indices : List ℕ) (t : ℕ) → CanQuery s indices t → (l bits : ℕ) → l ≤ t →
    bits ≡ exponent (greatest (heights s)) - layer_exponent s l →
    covered_at s indices l ≡ dedup eqb (map (λ j. j / 2 ^ bits) (distinct indices))
covered_by_bits s indices t w l bits h is =
    let leaves = distinct indices in
    let nodes = map (ancestor s l) leaves in
    let are : covered_at s indices 0 ≡ leaves = distinct_from s indices w.below in
    let leaf = λ (i : ℕ) (c : is_among indices i ≡ true). rw are at (covered_listed s indices t w 0 i (omega arith)
    (covered_leaf s indices i ∙ c)) in
    let index = λ (i : ℕ) (c : is_among leaves i ≡ true). sym (covered_leaf s indices i)
    ∙ listed_covered s indices 0 i (rw (← are) at c) in
    let above : covered_at s indices l ≡ distinct nodes =
    distinct_is nodes (covered_at s indices l) (rising_filter (is_covered s indices l) 0 (layer_len s l)) (λ j.
    both_ways (is_among (covered_at s indices l) j) (is_among nodes j)
    (λ c.
    let found = listed_map (ancestor s l) indices j (sym (covered_listed_above s indices l j)
    ∙ listed_covered s indices l j c) in
    rw found.2 at (map_lists (ancestor s l) leaves found.0 (leaf found.0 found.1)))
    (λ c.
    let found = listed_map (ancestor s l) leaves j c in
    covered_listed s indices t w l j h (covered_listed_above s indices l j
    ∙ rw found.2 at (map_lists (ancestor s l) indices found.0 (index found.0 found.1))))) in
    let below = λ (k d : ℕ) (c : k < length leaves). listed_below (greatest (heights s)) indices (get_or leaves k d)
    w.below (index (get_or leaves k d) (listed_at leaves k d c)) in
    above ∙ ap distinct (sym (nodes_by_bits s w.well_shaped l bits is leaves below))
    ∙ sym (parents_once leaves (2 ^ bits) (pow_pos bits) (rising_either indices))

-- the first queries under runs of leaves of one node are under the layer's nodes
pub queries_known : (s : Shape) (indices : List ℕ) (t : ℕ) → CanQuery s indices t → (l bits : ℕ) → l ≤ t →
    bits ≡ exponent (greatest (heights s)) - layer_exponent s l → (queries : List ℕ) →
    All (λ k. k < length indices) queries →
    map (λ k. node_of_query s indices 0 k / 2 ^ bits) queries
    ≡ dedup eqb (map (λ j. j / 2 ^ bits) (distinct indices)) → AreQueriesAt s indices l queries
queries_known s indices t w l bits h is queries among e = record {
  queries_are = covered_by_bits s indices t w l bits h is ∙ sym e
      ∙ map_on (λ k. k < length indices) (λ k. node_of_query s indices 0 k / 2 ^ bits) (node_of_query s indices l)
      (λ k c.
      rw (anc_start s (get_or indices k 0), is)
      (shifted_is_anc s w.well_shaped l (get_or indices k 0) (w.below k 0 c) (exponent_low s l))) queries among;
  among = among;
}

-- each first query of some indices is under its leaf
queried_by_firsts : (s : Shape) (indices xs : List ℕ) →
    ((k : ℕ) → k < length xs → is_among indices (get_or xs k 0) ≡ true) →
    xs ≡ map (node_of_query s indices 0) (map (first_query indices) xs)
queried_by_firsts s indices [] all = refl
queried_by_firsts s indices (x ∷ xs) all =
    let head : x ≡ ancestor s 0 (get_or indices (first_query indices x) 0) =
    sym (anc_start s (get_or indices (first_query indices x) 0) ∙ first_there indices x (all 0 (omega arith))) in
    let tail = queried_by_firsts s indices xs (λ k inside. all (suc k) (omega arith)) in
    λ i. head i ∷ tail i

-- the first queries of the distinct indices are under the leaves
pub leaf_queries : (s : Shape) (indices : List ℕ) (queried : DistinctQueries) → AreDistinctOf queried indices →
    queried.indices.items ≡ map (node_of_query s indices 0) queried.first_queries.items
leaf_queries s indices queried are = are.indices ∙ queried_by_firsts s indices (distinct indices)
    (distinct_queried indices)
    ∙ ap (map (node_of_query s indices 0)) (sym are.first_queries)

pub leaves_known : (s : Shape) (indices : List ℕ) (t : ℕ) → CanQuery s indices t → (queried : DistinctQueries) →
    AreDistinctOf queried indices → AreQueriesAt s indices 0 queried.first_queries.items
leaves_known s indices t w queried are = record {
  queries_are = distinct_from s indices w.below ∙ sym are.indices ∙ leaf_queries s indices queried are;
  among = firsts_inside queried.first_queries.items indices are.first_queries;
}
