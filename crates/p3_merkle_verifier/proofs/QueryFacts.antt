-- The queries of a pruned opening that is accepted, each with its restored path.
use Rattle.std.proofs.Common.{◌≡◌, ◌∙◌, ℕ, ◌<◌, Bool, List, [], ap, sym, arith, length, subst, Option, None}
use Rattle.std.specs.Prelude.{slice_index, slice_index_or}
use Rattle.std.proofs.lemmas.List.{get_or-map, length-map}
use Rattle.p3_support.specs.RowSets.{sets_in}
use Rattle.p3_merkle_core.specs.Views.{shown_path, shown_paths}
use Rattle.p3_merkle_core.specs.Extraction.{difference_of, first_pair}
use Rattle.p3_merkle_core.specs.Geometry.{Shape}
use Rattle.p3_merkle_core.specs.Nodes.{Functions}
use Rattle.p3_merkle_core.specs.Openings.{Opening, opening_of}
use Rattle.p3_merkle_core.specs.Checks.{Params, params}
use Rattle.p3_merkle_core.specs.Inner.Agreement.{AreDistinctOf}
use Rattle.p3_merkle_core.specs.Pruning.{PrunedOpening, opening_at, restored_path, restored_paths}
use Rattle.p3_merkle_core.specs.Refusals.{IsEquality, pruned_refusal_under}
use Rattle.p3_answers.specs.Answers.{ok_unless}
use Rattle.p3_merkle_core.specs.declared.collision.InputPair.{InputPair}
use Rattle.p3_merkle_verifier.specs.Inner.Paths.{CanCheck}
use Rattle.p3_merkle_verifier.specs.Inner.Collisions.{Shows}
use Rattle.p3_merkle_verifier.specs.Inner.Checks.{AgreeBelow}
use Rattle.p3_merkle_verifier.specs.Inner.QueryPairs.{query_difference, query_in, AreQueriesOf, CanSearch, ShowsPair}
use Rattle.p3_merkle_verifier.specs.Inner.RestoredLevels.{node_of_query}
use Rattle.p3_merkle_verifier.specs.declared.pruned_extraction.RestoredQueries.{RestoredQueries}
use Rattle.p3_merkle_core.proofs.Pruned.AgreeFacts.{firsts_inside}
use Rattle.p3_merkle_core.proofs.Checks.Verdicts.{pruned_accepted}
use Rattle.p3_merkle_core.proofs.Pruned.SlotFacts.{queried_at, rising_either, some_place}
use Rattle.p3_merkle_core.proofs.Shapes.StepFacts.{anc_start}
use Rattle.p3_merkle_verifier.proofs.ChildFacts.{leaf_queries}
use Rattle.p3_merkle_verifier.proofs.AgreeFacts.{agree_restored}
use Rattle.p3_merkle_verifier.proofs.PlaceFacts.{pairs_alike}

-- what is restored is read query by query
pub restored : {T W : Type 0} (c : Params T W) (p : PrunedOpening T W) (queries : RestoredQueries T (List W)) →
    sets_in queries.sets ≡ p.rows → shown_paths queries.paths.items ≡ restored_paths c p → AreQueriesOf c p queries
restored c p queries rows shown =
    let both : ℕ → ℕ × List (List _) = λ i. (i, restored_path c p i) in
    record {
      as_many = sym (length-map queries.paths.items shown_path) ∙ ap length shown ∙ length-map p.indices both;
      each = λ k h.
          let at : slice_index_or (shown_paths queries.paths.items) k (0, []) ≡ both (slice_index_or p.indices k 0) =
          ap (λ (z : List (ℕ × List (List _))). slice_index_or z k (0, [])) shown
          ∙ get_or-map both p.indices k 0 (0, []) h in
          λ i. opening_of (at i).0 (slice_index_or (rows i) k []) (at i).1;
    }

-- so the queries can be compared where the opening is accepted, their checks agree, and each has its leaf
pub searchable : {T W : Type 0} (eq : T → T → Bool) (same : W → W → Bool) (f : Functions T W) (s : Shape) (t : ℕ)
    (cap : List (List W)) (p : PrunedOpening T W) (queries : RestoredQueries T (List W)) → IsEquality eq →
    IsEquality same → CanCheck s t → pruned_refusal_under eq same (params f s t) cap p ≡ None →
    sets_in queries.sets ≡ p.rows → AreQueriesOf (params f s t) p queries →
    AreDistinctOf queries.leaves p.indices → CanSearch (params f s t) queries
searchable eq same f s t cap p queries dec dec_w w none rows are at =
    let accepted = (pruned_accepted eq same f s t cap p dec dec_w w.arity).0
    (ap (λ refusal. ok_unless refusal (tt {0})) none) in
    let query : (k : ℕ) → k < length queries.paths.items → k < length p.indices =
    λ k below. omega (arith, are.as_many) in
    let firsts = queries.leaves.first_queries.items in
    let under = leaf_queries s p.indices queries.leaves at in
    let among = firsts_inside firsts p.indices at.first_queries in
    let long : length firsts ≡ length queries.leaves.indices.items =
    sym (ap length under ∙ length-map firsts (node_of_query s p.indices 0)) in
    let index : (k : ℕ) → k < length p.indices → (query_in queries k).index ≡ slice_index p.indices k =
    λ k inside. ap (λ (o : Opening _ _). o.index) (are.each k inside) in
    record {
      comparable = record {
        in_pairs = ap length rows
            ∙ accepted.restorable.agreed.in_pairs ∙ sym are.as_many;
        reach = λ k h. record {
          arity = w.arity;
          in_tree = w.in_tree;
          all_siblings = ap (λ (u : Opening _ _). length u.siblings) (are.each k (query k h))
              ∙ (accepted.each_accepted k (query k h)).count;
        };
      };
      consistent = λ a b in_a in_b.
          subst (λ (both : Opening _ _ × Opening _ _). AgreeBelow f s both.0 both.1 t)
          (λ i. (sym (are.each a (query a in_a)) i, sym (are.each b (query b in_b)) i))
          (agree_restored f s t p w.arity accepted.restorable.agreed a b (query a in_a) (query b in_b));
      leaves = record {
        ascending = rw at.indices (rising_either p.indices);
        in_pairs = long;
        inside = λ slot below. omega (arith, among slot 0 (omega (arith, long)), are.as_many);
        query_of = λ slot below.
            let there : slot < length firsts = omega (arith, long) in
            let k = slice_index firsts slot in
            index k (among slot 0 there) ∙ sym (anc_start s (slice_index p.indices k))
            ∙ sym (get_or-map (node_of_query s p.indices 0) firsts slot 0 0 there)
            ∙ ap (λ (ns : List ℕ). slice_index ns slot) (sym under);
        leaf_of = λ k below.
            let place = some_place p.indices (slice_index p.indices k) (queried_at p.indices k (query k below)) in
            rw at.indices (place.0, place.1, place.2 ∙ sym (index k (query k below)));
      };
    }

module _ {T W : Type 0} (eq : T → T → Bool) (same : W → W → Bool) (c : Params T W) where
  -- what is found shows the last difference of two checks
  pub shows_query : (found : Option (InputPair T (List W))) (o : Opening T W) {u v : Opening T W} → u ≡ v →
      Shows found (difference_of eq same c o u) → Shows found (query_difference eq same c o v)
  unfolding query_difference
  shows_query found o e shown = subst (λ u. Shows found (difference_of eq same c o u)) e shown

  -- what is found in the queries of both openings is the first difference
  pub found_in_both : (found : Option (ℕ × ℕ × InputPair T (List W))) {p r : PrunedOpening T W}
      {first second : RestoredQueries T (List W)} → AreQueriesOf c p first → AreQueriesOf c r second →
      ShowsPair found (first_pair (λ a b. query_difference eq same c (query_in first a) (query_in second b))
      (length first.paths.items) (length second.paths.items)) →
      ShowsPair found (first_pair (λ a b. difference_of eq same c (opening_at c p a) (opening_at c r b))
      (length p.indices) (length r.indices))
  unfolding query_difference
  found_in_both found {p} {r} {first} {second} are are_2 shown =
      let d = λ (a b : ℕ). difference_of eq same c (query_in first a) (query_in second b) in
      let e = λ (a b : ℕ). difference_of eq same c (opening_at c p a) (opening_at c r b) in
      subst (ShowsPair found) ((λ i. first_pair d (are.as_many i) (are_2.as_many i))
      ∙ pairs_alike d e (length p.indices) (length r.indices)
      (λ a b h g i. difference_of eq same c (are.each a h i) (are_2.each b g i))) shown
