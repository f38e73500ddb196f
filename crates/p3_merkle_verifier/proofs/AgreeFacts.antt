-- Checks that agree where they share places: where their levels do, of two queries of one pruned opening, and through a
-- query between two.
use Rattle.std.proofs.Common.{◌≡◌, ◌∙◌, ◌⊎◌, ℕ, suc, ◌+◌, ◌<◌, ◌≤◌, Bool, true, false, cond, eqb, List, [], ◌∷◌, length}
use Rattle.std.proofs.Common.{None, ap, sym, refl, arith, inl, inr}
use Rattle.std.specs.Cmp.Lexicographic.{pointwise, pointwise_decides}
use Rattle.std.specs.Prelude.{slice_index}
use Rattle.std.proofs.lemmas.Bool.{cases_Bool, cases_eq, eqb-true, eq-eqb, ne_eqb, cond-true, true≢false}
use Rattle.p3_merkle_core.specs.Geometry.{Shape, IsArity, ancestor, has_rows, leaves_under}
use Rattle.p3_merkle_core.specs.Nodes.{Functions, padded}
use Rattle.p3_merkle_core.specs.Openings.{Opening}
use Rattle.p3_merkle_core.specs.Checks.{AgreeWhereShared}
use Rattle.p3_merkle_core.specs.Checks.{group_at, inputs_at, layer_words, leaf_input, params, words_at}
use Rattle.p3_merkle_core.specs.Pruning.{IsAgreed, PrunedOpening, is_covered, opening_at, restored_node, value_of}
use Rattle.p3_merkle_core.specs.Refusals.{IsEquality}
use Rattle.p3_merkle_core.specs.declared.collision.Place.TheVariants.{Leaf}
use Rattle.p3_merkle_core.proofs.Checks.CheckFacts.{full_group, inputs_with_rows, inputs_alone, same_group}
use Rattle.p3_merkle_core.proofs.Checks.PathFacts.{group_values, joined_same, path_group}
use Rattle.p3_merkle_core.proofs.Covered.CoveredFacts.{leaves_above_0}
use Rattle.p3_merkle_core.proofs.Covered.Equivalence.{path_reaches, query_covered, rows_agree}
use Rattle.p3_merkle_core.proofs.Collisions.Extracted.{no_difference}
use Rattle.p3_merkle_core.proofs.Lists.RisingFacts.{div_mono}
use Rattle.p3_merkle_verifier.specs.Inner.Checks.{AgreeBelow, AgreeOnLevel, IsLevelOfCheck}
use Rattle.p3_merkle_verifier.specs.Inner.Collisions.{first_words, second_words}
use Rattle.p3_merkle_verifier.specs.Inner.QueryPairs.{query_difference, query_in, AgreesWithAll, IsBetween}
use Rattle.p3_merkle_verifier.specs.Inner.QueryPairs.{StandsBetween}
use Rattle.p3_merkle_verifier.specs.declared.extraction.RowPair.{RowPair}
use Rattle.p3_merkle_verifier.specs.declared.path.PathLevel.{PathLevel}
use Rattle.p3_merkle_verifier.specs.declared.pruned_extraction.RestoredQueries.{RestoredQueries}
use Rattle.p3_merkle_verifier.proofs.SharedFacts.{meets, so_far_all}

module _ {T W : Type 0} (f : Functions T W) (s : Shape) where
  -- ---- one level

  -- a level's group, and the words above it if there are any, determine its inputs
  pub inputs_same : (o u : Opening T W) (l : ℕ) → full_group f s o l ≡ full_group f s u l →
      (has_rows s (suc l) ≡ true → layer_words s o.rows (suc l) ≡ layer_words s u.rows (suc l)) → inputs_at f s o l
      ≡ inputs_at f s u l
  inputs_same o u l group words =
      elim (cases_Bool (has_rows s (suc l))) [
        | inl has ↦ inputs_with_rows f s o l has ∙ rw (group, words has) (sym (inputs_with_rows f s u l has))
        | inr none ↦ inputs_alone f s o l none ∙ rw group (sym (inputs_alone f s u l none))
      ]

  -- ---- all levels

  pub agree_start : (o u : Opening T W) → (o.index ≡ u.index → layer_words s o.rows 0 ≡ layer_words s u.rows 0) →
      AgreeBelow f s o u 0
  agree_start o u leaf = record { leaf = leaf; levels = λ k below e. absurd (omega arith) }

  -- one level more
  pub agree_more : (o u : Opening T W) (l : ℕ) → AgreeBelow f s o u l →
      (ancestor s (suc l) o.index ≡ ancestor s (suc l) u.index → inputs_at f s o l ≡ inputs_at f s u l) →
      AgreeBelow f s o u (l + 1)
  agree_more o u l agree here =
      record {
        leaf = agree.leaf;
        levels = λ k below e. elim (cases_eq k l) [
          | inl last ↦ rw last (here (rw last at e))
          | inr ne ↦ agree.levels k (omega arith) e
        ];
      }

  -- checks that agree up to the cap agree wherever they share a place
  pub agree_shared : (t : ℕ) (o u : Opening T W) → AgreeBelow f s o u t → AgreeWhereShared (params f s t) o u
  agree_shared t o u agree =
      let i = o.index in
      let j = u.index in
      let leaf : cond (eqb i j) (leaf_input {W = W} s o ∷ []) [] ≡ cond (eqb i j) (leaf_input s u ∷ []) [] =
      elim (cases_eq i j) [
        | inl e ↦ rw (eq-eqb i j e) (ap (λ (words : List T). words_at {W = W} Leaf words ∷ []) (agree.leaf e))
        | inr ne ↦ rw (ne_eqb i j ne) refl
      ] in
      let levels = joined_same (λ k. cond (meets s i j k) (inputs_at f s o k) [])
      (λ k. cond (meets s i j k) (inputs_at f s u k) []) t
      (λ k below. elim (cases_Bool (meets s i j k)) [
        | inl met ↦ rw met (agree.levels k below (eqb-true (ancestor s (suc k) i) (ancestor s (suc k) j) met))
        | inr apart ↦ rw apart refl
      ]) in
      sym (so_far_all f s i j t o) ∙ rw (leaf, levels) (so_far_all f s i j t u)

  -- ---- between

  -- an index between two others is under each node that both are under
  pub under_between : (i v j l : ℕ) → 0 < leaves_under s l → IsBetween i v j →
      ancestor s l i ≡ ancestor s l j → ancestor s l i ≡ ancestor s l v
  under_between i v j l some (inl between) e =
      omega (arith, e, div_mono (leaves_under s l) i v some between.0, div_mono (leaves_under s l) v j some between.1)
  under_between i v j l some (inr between) e =
      omega (arith, e, div_mono (leaves_under s l) j v some between.0, div_mono (leaves_under s l) v i some between.1)

  -- so two checks agree where both agree with that of an index between theirs
  pub agree_through : IsArity s.arity → (t : ℕ) (o v u : Opening T W) →
      IsBetween o.index v.index u.index →
      AgreeBelow f s o v t → AgreeBelow f s v u t → AgreeBelow f s o u t
  agree_through w t o v u between first second =
      record {
        leaf = λ e.
            let one : o.index ≡ v.index = elim between [
              | inl b ↦ omega (arith, b.0, b.1)
              | inr b ↦ omega (arith, b.0, b.1)
            ] in
            first.leaf one ∙ second.leaf (sym one ∙ e);
        levels = λ k below e.
            let one = under_between o.index v.index u.index (suc k) (leaves_above_0 s w.above_1 (suc k)) between e in
            first.levels k below one ∙ second.levels k below (sym one ∙ e);
      }

  -- ---- two queries of one opening

  module _ (t : ℕ) (p : PrunedOpening T W) (w : IsArity s.arity) (agreed : IsAgreed s t p) where
    -- the words of a query are those of each node above it
    words_same : (a b l : ℕ) → a < length p.indices → b < length p.indices → l ≤ t →
        ancestor s l (slice_index p.indices a) ≡ ancestor s l (slice_index p.indices b) →
        layer_words s (opening_at (params f s t) p a).rows l ≡ layer_words s (opening_at (params f s t) p b).rows l
    words_same a b l in_a in_b le e =
        rows_agree s t p agreed a l in_a le
        ∙ rw e (sym (rows_agree s t p agreed b l in_b le))

    -- so is the group above its node at each level
    group_is : (a l : ℕ) → a < length p.indices → l < t →
        full_group f s (opening_at (params f s t) p a) l
        ≡ padded s.arity f.default_digest
        (group_values s (value_of (params f s t) p) l (ancestor s (suc l) (slice_index p.indices a)))
    group_is a l inside below =
        let o = opening_at (params f s t) p a in
        let i = slice_index p.indices a in
        let value : restored_node (params f s t) p l (ancestor s l i) ≡ value_of (params f s t) p l (ancestor s l i) =
        sym (cond-true (is_covered s p.indices l (ancestor s l i)) (restored_node (params f s t) p l (ancestor s l i)) _
        (query_covered s p.indices a l inside)) in
        ap (λ digest. padded s.arity f.default_digest (group_at f s o l digest))
        (path_reaches f s t p w agreed a inside l (omega arith) ∙ value)
        ∙ ap (padded s.arity f.default_digest) (path_group f s w (value_of (params f s t) p) t o refl l below)

    -- their checks agree
    pub agree_restored : (a b : ℕ) → a < length p.indices → b < length p.indices →
        AgreeBelow f s (opening_at (params f s t) p a) (opening_at (params f s t) p b) t
    agree_restored a b in_a in_b =
        let i = slice_index p.indices a in
        let j = slice_index p.indices b in
        record {
          leaf = λ e. words_same a b 0 in_a in_b (omega arith) (ap (ancestor s 0) e);
          levels = λ k below e.
              inputs_same (opening_at (params f s t) p a) (opening_at (params f s t) p b) k
              (group_is a k in_a below ∙ rw e (sym (group_is b k in_b below)))
              (λ has. words_same a b (suc k) in_a in_b (omega arith) e);
        }

-- ---- one computed level

module _ {T W : Type 0} (f : Functions T W) (s : Shape) (l : ℕ) (o : Opening T W)
    (level : PathLevel (List W) (List (List W))) (is : IsLevelOfCheck f s o l level) where
  -- its group is that of the check
  pub level_group : level.group ≡ full_group f s o l
  level_group = same_group f s o l level.group _ is.inputs_are

  -- without a pair no rows belong to the layer above
  level_without : level.pair ≡ None → has_rows s (suc l) ≡ false
  level_without none =
      elim (cases_Bool (has_rows s (suc l))) [
        | inl has ↦ let long = ap length (rw none at is.inputs_are ∙ inputs_with_rows f s o l has) in
            absurd (omega arith)
        | inr without ↦ without
      ]

-- words that a test finds to be the same are the same
pub rows_same : {T : Type 0} (eq : T → T → Bool) → IsEquality eq → (rows : RowPair T) →
    pointwise eq (first_words rows) (second_words rows) ≡ true → first_words rows ≡ second_words rows
rows_same eq dec rows test = (pointwise_decides dec (first_words rows) (second_words rows)).0 test

-- levels with one group, and with the same rows above them if there are any, have the same inputs
pub levels_same : {T W : Type 0} (eq : T → T → Bool) (same : W → W → Bool) → IsEquality eq → IsEquality same →
    (rows : RowPair T) (first second : PathLevel (List W) (List (List W))) →
    pointwise (pointwise same) first.group second.group ≡ true →
    (first.pair ≡ None) ⊎ (pointwise eq (first_words rows) (second_words rows) ≡ true) →
    AgreeOnLevel (first_words rows) (second_words rows) first second
levels_same eq same dec dec_w rows first second group above f s l o u m n a b met =
    let one = (pointwise_decides (pointwise_decides dec_w) first.group second.group).0 group in
    inputs_same f s o u l (sym (level_group f s l o first m) ∙ one ∙ level_group f s l u second n)
    (λ has. elim above [
      | inl none ↦ absurd (true≢false (sym has ∙ level_without f s l o first m none))
      | inr test ↦ sym a ∙ rows_same eq dec rows test ∙ b
    ])

-- ---- all queries of a list

-- a check that agrees with those of two neighbours agrees with all
pub neighbours_agree : {T W : Type 0} (eq : T → T → Bool) (same : W → W → Bool) (f : Functions T W) (s : Shape) (t : ℕ)
    (o : Opening T W) (queries : RestoredQueries T (List W)) (below above : ℕ) → IsEquality eq → IsEquality same →
    IsArity s.arity → ((a b : ℕ) → a < length queries.paths.items → b < length queries.paths.items →
    AgreeBelow f s (query_in queries a) (query_in queries b) t) → ((k : ℕ) → k < length queries.paths.items →
    (StandsBetween queries o.index k below) ⊎ (StandsBetween queries o.index k above)) →
    AgreeBelow f s o (query_in queries below) t → AgreeBelow f s o (query_in queries above) t →
    AgreesWithAll eq same (params f s t) o queries
unfolding query_difference
neighbours_agree eq same f s t o queries below above dec dec_w w consistent stands with_below
    with_above k inside =
    let behind = λ (b : ℕ) (between : StandsBetween queries o.index k b)
    (agree : AgreeBelow f s o (query_in queries b) t).
    agree_through f s w t o (query_in queries b) (query_in queries k) between.between agree
    (consistent b k between.inside inside) in
    (no_difference eq same (params f s t) o (query_in queries k) dec dec_w).1
    (agree_shared f s t o (query_in queries k) (elim (stands k inside) [
      | inl lower ↦ behind below lower with_below
      | inr higher ↦ behind above higher with_above
    ]))
