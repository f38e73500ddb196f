-- Two accepted pruned openings of one list of indices: all their checks agree exactly if their digests and
-- authenticated rows do.
use Rattle.std.proofs.Common.{◌≡◌, ◌∙◌, ◌↔◌, ℕ, ◌+◌, ◌-◌, ◌<◌, ◌≤◌, ◌==◌, eqb, List, [], ap, sym, refl, subst, arith}
use Rattle.std.proofs.Common.{inl, inr, length, get_or}
use Rattle.std.proofs.lemmas.Bool.{cases_Bool}
use Rattle.std.proofs.lemmas.List.{ext_get_or}
use Rattle.std.specs.Prelude.{IsTrue}
use Rattle.p3_merkle_core.specs.Geometry.{Shape, IsArity, ancestor, heights, layer_exponent}
use Rattle.p3_merkle_core.specs.Nodes.{Functions}
use Rattle.p3_merkle_core.specs.Openings.{Opening}
use Rattle.p3_merkle_core.specs.Checks.{AgreeWhereShared, inputs_at, is_authenticated, layer_rows, layer_words}
use Rattle.p3_merkle_core.specs.Checks.{meeting_level, params, shared_inputs}
use Rattle.p3_merkle_core.specs.Extraction.{ProofsAgreeWhereAuthenticated, row_at}
use Rattle.p3_merkle_core.specs.Pruning.{IsPrunedAccepted, PrunedOpening, opening_at, pruned_of, restored_path}
use Rattle.p3_merkle_core.specs.Pruning.{words_under}
use Rattle.p3_merkle_core.proofs.Checks.PathFacts.{joined_same}
use Rattle.p3_merkle_core.proofs.Checks.SameIndex.{layer_authenticated, level_same, rows_in_pairs, words_same}
use Rattle.p3_merkle_core.proofs.Collisions.ExtractionFacts.{AllAuthenticated, alike_at_one_index}
use Rattle.p3_merkle_core.proofs.Covered.OnlyFacts.{digests_same, path_same, words_alike}
use Rattle.p3_merkle_core.proofs.Pruned.Answered.{same_kept}
use Rattle.p3_merkle_verifier.proofs.AgreeFacts.{agree_restored, agree_shared}

module _ {T W : Type 0} (f : Functions T W) (s : Shape) (t : ℕ) (cap : List (List W)) (w : IsArity s.arity) where
  -- two checks with the same inputs have the same ones from where the paths of any two indices meet
  shared_alike : (o u : Opening T W) → layer_words s o.rows 0 ≡ layer_words s u.rows 0 →
      ((l : ℕ) → l < t → inputs_at f s o l ≡ inputs_at f s u l) → (i j : ℕ) →
      shared_inputs (params f s t) i j o ≡ shared_inputs (params f s t) i j u
  shared_alike o u leaf each i j =
      let m = meeting_level s t i j in
      let all = joined_same (inputs_at f s o) (inputs_at f s u) t each in
      let rest = joined_same (λ k. inputs_at f s o (m + k)) (λ k. inputs_at f s u (m + k)) (t - m)
      (λ k h. each (m + k) (omega arith)) in
      elim (cases_Bool (eqb i j)) [ inl e ↦ rw (e, leaf, all) refl | inr ne ↦ rw ne rest ]

  -- each query of an accepted opening has a row for each matrix
  full_rows : (p : PrunedOpening T W) → IsPrunedAccepted (params f s t) cap p → (k : ℕ) → k < length p.indices →
      length (get_or p.rows k []) ≡ length (heights s)
  full_rows p a k h = rows_in_pairs f s t cap (opening_at (params f s t) p k) (a.each_accepted k h)

  -- where digests and authenticated rows agree, so do all checks
  module _ (p : PrunedOpening T W) (vs : List (List (List T))) (a : IsPrunedAccepted (params f s t) cap p)
      (b : IsPrunedAccepted (params f s t) cap (pruned_of p.indices vs p.digests))
      (rows : (k m : ℕ) → k < length p.indices → m < length (heights s) → IsTrue (is_authenticated s t m) →
      row_at p k m ≡ row_at (pruned_of p.indices vs p.digests) k m) where
    abbrev other : PrunedOpening T W
    other = pruned_of p.indices vs p.digests

    layers : (k l : ℕ) → k < length p.indices → l ≤ t →
        layer_rows s (get_or p.rows k []) l ≡ layer_rows s (get_or vs k []) l
    layers k l h low =
        same_kept (layer_exponent s l) (heights s) (get_or p.rows k []) (get_or vs k []) (full_rows p a k h)
        (full_rows other b k h) (λ m inside here. rows k m h inside (layer_authenticated s t l m low here))

    words : (l j : ℕ) → l ≤ t → words_under s p l j ≡ words_under s other l j
    words l j low =
        words_alike s l (λ i. ancestor s l i == j) p.indices p.rows vs a.restorable.agreed.in_pairs
        b.restorable.agreed.in_pairs
        (λ k h. words_same s (get_or p.rows k []) (get_or vs k []) l (layers k l h low))

    checks_alike : (x y : ℕ) → x < length p.indices → y < length p.indices →
        AgreeWhereShared (params f s t) (opening_at (params f s t) p x) (opening_at (params f s t) other y)
    checks_alike x y h g =
        let c = params f s t in
        let path = path_same f s t p.indices p.rows vs p.digests words (get_or p.indices x 0) in
        shared_alike (opening_at c p x) (opening_at c other x)
        (words_same s (get_or p.rows x []) (get_or vs x []) 0 (layers x 0 h (omega arith)))
        (λ l below. level_same f s t (opening_at c p x) (opening_at c other x) refl path
        (λ m low. layers x m h low) l below) (get_or p.indices x 0) (get_or p.indices y 0)
        ∙ agree_shared f s t (opening_at c other x) (opening_at c other y)
        (agree_restored f s t other w b.restorable.agreed x y h g)

  module _ (p q : PrunedOpening T W) (a : IsPrunedAccepted (params f s t) cap p)
      (b : IsPrunedAccepted (params f s t) cap q) (one : p.indices ≡ q.indices) where
    abbrev EachAgrees : Type 0
    EachAgrees =
        (x y : ℕ) → x < length p.indices → y < length q.indices →
        AgreeWhereShared (params f s t) (opening_at (params f s t) p x) (opening_at (params f s t) q y)

    agree_in_proofs : EachAgrees → ProofsAgreeWhereAuthenticated (params f s t) p q
    agree_in_proofs each =
        let c = params f s t in
        let at = λ (k : ℕ) (h : k < length p.indices).
        let g : k < length q.indices = omega (arith, ap length one) in
        (alike_at_one_index c cap (opening_at c p k) (opening_at c q k) w (a.each_accepted k h) (b.each_accepted k g)
        (ap (λ indices. get_or indices k 0) one)).0 (each k k h g) in
        record {
          digests = digests_same f s t p q w one a.restorable.agreed.in_pairs a.restorable.count b.restorable.count
              (λ k h. (at k h).siblings ∙ ap (λ indices. restored_path c q (get_or indices k 0)) (sym one));
          rows = λ k m h inside there. (at k h).rows m inside there;
        }

    agree_in_checks : ProofsAgreeWhereAuthenticated (params f s t) p q → EachAgrees
    agree_in_checks agree =
        let c = params f s t in
        let is : pruned_of p.indices q.rows p.digests ≡ q = λ i. pruned_of (one i) q.rows (agree.digests i) in
        subst (λ (z : PrunedOpening T W). (x y : ℕ) → x < length p.indices → y < length z.indices →
        AgreeWhereShared c (opening_at c p x) (opening_at c z y)) is
        (checks_alike p q.rows a (subst (IsPrunedAccepted c cap) (sym is) b) agree.rows)

    -- all checks agree exactly where digests and authenticated rows do
    pub agree_both_ways : EachAgrees ↔ ProofsAgreeWhereAuthenticated (params f s t) p q
    agree_both_ways = (agree_in_proofs, agree_in_checks)

    -- where each matrix is authenticated, such openings are one
    pub one_opening : AllAuthenticated s t → ProofsAgreeWhereAuthenticated (params f s t) p q → p ≡ q
    one_opening all agree =
        let long = a.restorable.agreed.in_pairs in
        let long_too = b.restorable.agreed.in_pairs in
        let many = ap length one in
        let rows : p.rows ≡ q.rows = ext_get_or [] p.rows q.rows (omega arith) (λ k h.
        let inside : k < length p.indices = omega arith in
        let first = full_rows p a k inside in
        let second = full_rows q b k (omega arith) in
        ext_get_or [] (get_or p.rows k []) (get_or q.rows k []) (omega arith) (λ m there.
        let exists : m < length (heights s) = omega arith in agree.rows k m inside exists (all m exists))) in
        λ i. pruned_of (one i) (rows i) (agree.digests i)

    -- and the other way round
    pub same_opening : p ≡ q → ProofsAgreeWhereAuthenticated (params f s t) p q
    same_opening same =
        record {
          digests = ap (λ (z : PrunedOpening T W). z.digests) same;
          rows = λ k m h inside there. ap (λ (z : PrunedOpening T W). row_at z k m) same;
        }
