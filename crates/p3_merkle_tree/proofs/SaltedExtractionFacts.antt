-- What the answer to two salted openings says of their rows and salts.
use Rattle.std.proofs.Common.{◌≡◌, ◌↔◌, ◌∙◌, ◌++◌, ⊎_elim, ℕ, ◌<◌, Bool, List, [], ap, arith, length, refl, subst, sym}
use Rattle.std.proofs.Common.{None, Some, Option, Result}
use Rattle.std.proofs.lemmas.List.{ext_get_or}
use Rattle.std.proofs.lemmas.List.Elements.{AllZip-get_or}
use Rattle.std.specs.Prelude.{Ok, Err, IfOk, IsNone, IsSome, slice_index}
use Rattle.std.specs.Option.{option_map}
use Rattle.std.specs.Result.{result_map_both}
use Rattle.p3_support.specs.declared.matrix.Dimensions.{Dimensions}
use Rattle.p3_merkle_core.specs.Checks.{Input, Params, opened_row}
use Rattle.p3_merkle_core.specs.Extraction.{ProofsAgreeWhereAuthenticated, RowsAgreeWhereAuthenticated, RowsConflictAt}
use Rattle.p3_merkle_core.specs.Extraction.{IsExtraction, row_at}
use Rattle.p3_merkle_core.specs.Geometry.{IsArity, Shape}
use Rattle.p3_merkle_core.specs.Openings.{Opening, opening_of}
use Rattle.p3_merkle_core.specs.Presented.{Presented}
use Rattle.p3_merkle_core.specs.Pruning.{PrunedOpening, opening_at, restored_path}
use Rattle.p3_merkle_core.specs.Views.{found_alone, found_pair, inputs_in}
use Rattle.p3_merkle_core.specs.declared.cap.CapRule.{CapRule}
use Rattle.p3_merkle_core.specs.declared.cap.CapRule.TheVariants.{Lowered}
use Rattle.p3_merkle_core.specs.declared.collision.InputPair.{InputPair}
use Rattle.p3_merkle_core.specs.declared.error.MerkleTreeError.{MerkleTreeError}
use Rattle.p3_merkle_core.proofs.Collisions.ExtractionFacts.{AllAuthenticated}
use Rattle.p3_merkle_tree.specs.SaltedExtraction.{AgreeWhereAuthenticated, ConflictAt, ConflictSomewhere}
use Rattle.p3_merkle_tree.specs.SaltedExtraction.{IsOnlySaltedOpening, SaltedProofsAgree, salted_row_at, salts_at}
use Rattle.p3_merkle_tree.specs.SaltedExtraction.{ConflictWhereAuthenticated, IsSaltedExtraction, row_in}
use Rattle.p3_merkle_tree.specs.SaltedExtraction.{IsSaltedPrunedExtraction, salted_opening_at, salts_in}
use Rattle.p3_merkle_tree.specs.SaltedOpenings.{HaveSalts, IsSaltedPrunedAccepted, SaltedOpening, SaltedPruned}
use Rattle.p3_merkle_tree.specs.SaltedOpenings.{joined, joined_sets, salted_of, salted_pruned_of, salted_rows}
use Rattle.p3_merkle_tree.specs.SaltedPresented.{presented_salted, presented_salted_pruned}
use Rattle.p3_merkle_tree.specs.Inner.SaltedCommitmentLaws.{length_pairs, pair_at}
use Rattle.p3_merkle_tree.proofs.JoinedFacts.{joined_at, parts_alike, parts_same}
use Rattle.p3_merkle_tree.proofs.OnlyFacts.{only_openings}

-- ---- one query of each

module _ {T W : Type 0} (ds : List Dimensions) (o u : SaltedOpening T W) (a : HaveSalts ds o.rows o.salts)
    (b : HaveSalts ds u.rows u.salts) where
  same_parts : (k : ℕ) → opened_row (joined o) k ≡ opened_row (joined u) k →
      (row_in o k ≡ row_in u k) × (salts_in o k ≡ salts_in u k)
  same_parts k same =
      parts_same o.rows o.salts u.rows u.salts k a.in_pairs b.in_pairs (a.rows_fit ∙ sym b.rows_fit) same

  same_joined : (k : ℕ) → row_in o k ≡ row_in u k → salts_in o k ≡ salts_in u k →
      opened_row (joined o) k ≡ opened_row (joined u) k
  same_joined k row salt =
      joined_at o.rows o.salts k a.in_pairs ∙ (λ i. row i ++ salt i) ∙ sym (joined_at u.rows u.salts k b.in_pairs)

  -- where rows or salts conflict, the rows followed by their salts do
  conflict_joined : (s : Shape) (k : ℕ) → ConflictAt s o u k → RowsConflictAt s (joined o) (joined u) k
  conflict_joined s k conflict =
      record {
        exists = conflict.exists;
        one_row = conflict.one_row;
        two_ways = λ same.
            let parts = same_parts k same in
            ⊎_elim (λ rows. rows parts.0) (λ salts. salts parts.1) conflict.two_ways;
      }

  -- where they are joined alike, rows and salts agree, and the other way round
  agree_joined : (c : Params T W) → RowsAgreeWhereAuthenticated c (joined o) (joined u) ↔ AgreeWhereAuthenticated c o u
  agree_joined c = (
    λ alike. record {
      siblings = alike.siblings;
      rows = λ k inside there. (same_parts k (alike.rows k inside there)).0;
      salts = λ k inside there. (same_parts k (alike.rows k inside there)).1;
    },
    λ agree. record {
      siblings = agree.siblings;
      rows = λ k inside there. same_joined k (agree.rows k inside there) (agree.salts k inside there);
    },
  )

  -- openings of one index that are joined alike are one
  one_joined : o.index ≡ u.index → (joined o ≡ joined u) ↔ (o ≡ u)
  one_joined one = (
    λ is.
        let parts = parts_alike o.rows o.salts u.rows u.salts a.in_pairs b.in_pairs (a.rows_fit ∙ sym b.rows_fit)
        (ap (λ (p : Opening T W). p.rows) is) in
        let siblings = ap (λ (p : Opening T W). p.siblings) is in
        λ i. salted_of (one i) (parts.0 i) (parts.1 i) (siblings i),
    λ alike. ap joined alike,
  )

-- ---- all queries

-- the queries of an opening are these salted openings, joined
record AreJoined {T W : Type 0} (ds : List Dimensions) (p : Presented T W)
    (query : ℕ → SaltedOpening T W) : Type 0 where
  salted : (k : ℕ) → k < p.queries → HaveSalts ds (query k).rows (query k).salts
  is : (k : ℕ) → p.query k ≡ joined (query k)

module _ {T W : Type 0} (eq : T → T → Bool) (same : W → W → Bool) (rule : CapRule) (ds : List Dimensions)
    (c : Params T W) (first second : Presented T W) (one other : ℕ → SaltedOpening T W) where
  -- each of the one and each of the other
  abbrev EachOf : (SaltedOpening T W → SaltedOpening T W → Type 0) → Type 0
  EachOf Holds = (a b : ℕ) → a < first.queries → b < second.queries → Holds (one a) (other b)

  -- some of the one and some of the other
  abbrev SomeOf : (SaltedOpening T W → SaltedOpening T W → Type 0) → Type 0
  SomeOf Holds = (a : ℕ) × (b : ℕ) × (a < first.queries) × (b < second.queries) × Holds (one a) (other b)

  -- what is found of queries, in the words of rows and salts
  record Tells (result : Result (Option (ℕ × ℕ × (Input T W × Input T W))) MerkleTreeError) : Type 0 where
    one_index : EachOf (λ o u. o.index ≡ u.index) →
        IfOk result (λ found. IsNone found ↔ EachOf (AgreeWhereAuthenticated c))
    two_ways : SomeOf (ConflictWhereAuthenticated c) → IfOk result (λ found. IsSome found)
    lowered_one_index : rule ≡ Lowered → EachOf (λ o u. o.index ≡ u.index) →
        IfOk result (λ found. IsNone found ↔ EachOf (λ o u. o ≡ u))
    lowered_two_ways : rule ≡ Lowered → SomeOf (ConflictSomewhere c) → IfOk result (λ found. IsSome found)

  -- the queries of accepted openings are salted openings, joined
  tells : (first.is_accepted → AreJoined ds first one) → (second.is_accepted → AreJoined ds second other) →
      (result : Result (Option (ℕ × ℕ × (Input T W × Input T W))) MerkleTreeError) →
      IsExtraction eq same rule c first second result → Tells result
  tells p q (Ok found) extracted =
      let x = p extracted.both_accepted.0 in
      let y = q extracted.both_accepted.1 in
      let e = subst (λ (z : (ℕ → Opening T W) × (ℕ → Opening T W)).
      IsExtraction eq same rule c (record first { query = z.0 }) (record second { query = z.1 }) (Ok found))
      (λ i. (λ k. x.is k i, λ k. y.is k i)) extracted in
      let agree = λ (a b : ℕ) (h : a < first.queries) (g : b < second.queries).
      agree_joined ds (one a) (other b) (x.salted a h) (y.salted b g) c in
      let are_one = λ (a b : ℕ) (h : a < first.queries) (g : b < second.queries).
      one_joined ds (one a) (other b) (x.salted a h) (y.salted b g) in
      let conflict = λ (a b : ℕ) (h : a < first.queries) (g : b < second.queries).
      conflict_joined ds (one a) (other b) (x.salted a h) (y.salted b g) c.shape in
      record {
        one_index = λ each. (
          λ none a b h g. (agree a b h g).0 ((e.one_index each).0 none a b h g),
          λ alike. (e.one_index each).1 (λ a b h g. (agree a b h g).1 (alike a b h g)),
        );
        two_ways = λ (a, b, h, g, (k, there, twice)). e.two_ways (a, b, h, g, (k, there, conflict a b h g k twice));
        lowered_one_index = λ lowered each. (
          λ none a b h g. (are_one a b h g (each a b h g)).0 ((e.lowered_one_index lowered each).0 none a b h g),
          λ alike. (e.lowered_one_index lowered each).1
              (λ a b h g. (are_one a b h g (each a b h g)).1 (alike a b h g)),
        );
        lowered_two_ways = λ lowered (a, b, h, g, (k, twice)).
            e.lowered_two_ways lowered (a, b, h, g, (k, conflict a b h g k twice));
      }
  tells p q (Err x) e =
      record {
        one_index = λ each. tt;
        two_ways = λ some. tt;
        lowered_one_index = λ lowered each. tt;
        lowered_two_ways = λ lowered some. tt;
      }

-- ---- what is found, as the calls return it

module _ {V U : Type 0} (view : V → U) where
  some_shown : (r : Result (Option V) MerkleTreeError) →
      IfOk (result_map_both (λ found. option_map view found) (λ e. e) r) (λ found. IsSome found) →
      IfOk r (λ found. IsSome found)
  some_shown (Ok None) is = is
  some_shown (Ok (Some v)) is = is
  some_shown (Err e) is = tt

  none_shown : (Q R : Type 0) (r : Result (Option V) MerkleTreeError) → Q ↔ R →
      IfOk (result_map_both (λ found. option_map view found) (λ e. e) r) (λ found. IsNone found ↔ Q) →
      IfOk r (λ found. IsNone found ↔ R)
  none_shown Q R (Ok None) meant is = (λ none. meant.0 (is.0 none), λ x. is.1 (meant.1 x))
  none_shown Q R (Ok (Some v)) meant is = (λ none. meant.0 (is.0 none), λ x. is.1 (meant.1 x))
  none_shown Q R (Err e) meant is = tt

module _ {T W : Type 0} (eq : T → T → Bool) (same : W → W → Bool) (rule : CapRule) (e : ℕ) (ds : List Dimensions)
    (c : Params T W) (cap : List (List W)) where
  -- two openings of one index each
  pub salted_told : (o u : SaltedOpening T W) (r : Result (Option (InputPair T (List W))) MerkleTreeError) →
      IsExtraction eq same rule c (presented_salted same e ds c cap o) (presented_salted same e ds c cap u)
      (found_alone r) → IsSaltedExtraction eq same rule e ds c cap o u r
  salted_told o u r extracted =
      let told = tells eq same rule ds c (presented_salted same e ds c cap o) (presented_salted same e ds c cap u)
      (λ k. o) (λ k. u) (λ a. record { salted = λ k h. a.salted; is = λ k. refl })
      (λ a. record { salted = λ k h. a.salted; is = λ k. refl }) (found_alone r) extracted in
      let view : InputPair T (List W) → ℕ × ℕ × (Input T W × Input T W) = λ pair. (0, 0, inputs_in pair) in
      let alone : (Holds : SaltedOpening T W → SaltedOpening T W → Type 0) →
      ((a b : ℕ) → a < 1 → b < 1 → Holds o u) ↔ Holds o u =
      λ Holds. (λ each. each 0 0 (omega arith) (omega arith), λ holds a b h g. holds) in
      record {
        extraction = extracted;
        one_index = λ one. none_shown view _ _ r (alone (AgreeWhereAuthenticated c)) (told.one_index (λ a b h g. one));
        two_ways = λ twice. some_shown view r (told.two_ways (0, 0, omega arith, omega arith, twice));
        lowered_one_index = λ lowered one.
            none_shown view _ _ r (alone (λ x y. x ≡ y)) (told.lowered_one_index lowered (λ a b h g. one));
        lowered_two_ways = λ lowered twice.
            some_shown view r (told.lowered_two_ways lowered (0, 0, omega arith, omega arith, twice));
      }

  -- the queries of an accepted opening of several indices, each with its salts
  sets_joined : (p : SaltedPruned T W) → IsSaltedPrunedAccepted e ds c cap p →
      AreJoined ds (presented_salted_pruned eq same e ds c cap p) (salted_opening_at c p)
  sets_joined p a =
      let many : length p.rows ≡ length p.indices =
      sym (length_pairs (λ (rows, salts). salted_rows rows salts) p.rows p.salts a.in_pairs)
      ∙ a.accepted.restorable.agreed.in_pairs in
      record {
        salted = λ k h. AllZip-get_or (HaveSalts ds) p.rows p.salts k [] [] a.salted (omega (arith, many));
        is = λ k i. opening_of (slice_index p.indices k)
            (pair_at (λ (rows, salts). salted_rows rows salts) p.rows p.salts k [] [] a.in_pairs i)
            (restored_path c (joined_sets p) (slice_index p.indices k));
      }

  -- two openings of several indices
  pub salted_pruned_told : (p q : SaltedPruned T W)
      (r : Result (Option (ℕ × ℕ × InputPair T (List W))) MerkleTreeError) →
      IsExtraction eq same rule c (presented_salted_pruned eq same e ds c cap p)
      (presented_salted_pruned eq same e ds c cap q) (found_pair r) →
      IsSaltedPrunedExtraction eq same rule e ds c cap p q r
  salted_pruned_told p q r extracted =
      let told = tells eq same rule ds c (presented_salted_pruned eq same e ds c cap p)
      (presented_salted_pruned eq same e ds c cap q) (salted_opening_at c p) (salted_opening_at c q) (sets_joined p)
      (sets_joined q) (found_pair r) extracted in
      let view : ℕ × ℕ × InputPair T (List W) → ℕ × ℕ × (Input T W × Input T W) =
      λ (a, b, pair). (a, b, inputs_in pair) in
      record {
        extraction = extracted;
        one_index = λ each. none_shown view _ _ r (λ x. x, λ x. x) (told.one_index each);
        two_ways = λ some. some_shown view r (told.two_ways some);
        lowered_one_index = λ lowered each.
            none_shown view _ _ r (λ x. x, λ x. x) (told.lowered_one_index lowered each);
        lowered_two_ways = λ lowered some. some_shown view r (told.lowered_two_ways lowered some);
      }

  -- openings of one list that agree where they are joined agree in rows and salts, and the other way round
  module _ (p q : SaltedPruned T W) (a : IsSaltedPrunedAccepted e ds c cap p) (b : IsSaltedPrunedAccepted e ds c cap q)
      (one : p.indices ≡ q.indices) where
    -- a query of the one is a query of the other
    as_many : (k : ℕ) → k < length p.indices → k < length q.indices
    as_many k h = omega (arith, ap length one)

    -- the parts of each row
    both_parts : (k m : ℕ) → k < length p.indices → row_at (joined_sets p) k m ≡ row_at (joined_sets q) k m →
        (salted_row_at p k m ≡ salted_row_at q k m) × (salts_at p k m ≡ salts_at q k m)
    both_parts k m h same =
        let x = sets_joined p a in
        let y = sets_joined q b in
        same_parts ds (salted_opening_at c p k) (salted_opening_at c q k) (x.salted k h) (y.salted k (as_many k h)) m
        (sym (ap (λ o. opened_row o m) (x.is k)) ∙ same ∙ ap (λ o. opened_row o m) (y.is k))

    both_joined : (k m : ℕ) → k < length p.indices → salted_row_at p k m ≡ salted_row_at q k m →
        salts_at p k m ≡ salts_at q k m → row_at (joined_sets p) k m ≡ row_at (joined_sets q) k m
    both_joined k m h row salt =
        let x = sets_joined p a in
        let y = sets_joined q b in
        ap (λ o. opened_row o m) (x.is k)
        ∙ same_joined ds (salted_opening_at c p k) (salted_opening_at c q k) (x.salted k h)
        (y.salted k (as_many k h)) m row salt ∙ sym (ap (λ o. opened_row o m) (y.is k))

    agree_in_parts : ProofsAgreeWhereAuthenticated c (joined_sets p) (joined_sets q) ↔ SaltedProofsAgree c p q
    agree_in_parts = (
      λ agree. record {
        digests = agree.digests;
        rows = λ k m h inside there. (both_parts k m h (agree.rows k m h inside there)).0;
        salts = λ k m h inside there. (both_parts k m h (agree.rows k m h inside there)).1;
      },
      λ agree. record {
        digests = agree.digests;
        rows = λ k m h inside there. both_joined k m h (agree.rows k m h inside there) (agree.salts k m h inside there);
      },
    )

    -- openings that are joined alike are one
    one_in_parts : (joined_sets p ≡ joined_sets q) ↔ (p ≡ q)
    one_in_parts = (
      λ same.
          let x = sets_joined p a in
          let y = sets_joined q b in
          let at = λ (k : ℕ) (h : k < length p.indices).
          (one_joined ds (salted_opening_at c p k) (salted_opening_at c q k) (x.salted k h) (y.salted k (as_many k h))
          (ap (λ indices. slice_index indices k) one)).0
          (sym (x.is k) ∙ ap (λ z. opening_at c z k) same ∙ y.is k) in
          let many : length p.rows ≡ length p.indices =
          sym (length_pairs (λ (rows, salts). salted_rows rows salts) p.rows p.salts a.in_pairs)
          ∙ a.accepted.restorable.agreed.in_pairs in
          let many_too : length q.rows ≡ length q.indices =
          sym (length_pairs (λ (rows, salts). salted_rows rows salts) q.rows q.salts b.in_pairs)
          ∙ b.accepted.restorable.agreed.in_pairs in
          let long = ap length one in
          let rows : p.rows ≡ q.rows = ext_get_or [] p.rows q.rows (omega arith)
          (λ k h. ap (λ (o : SaltedOpening T W). o.rows) (at k (omega arith))) in
          let salts : p.salts ≡ q.salts = ext_get_or [] p.salts q.salts (omega (arith, a.in_pairs, b.in_pairs))
          (λ k h. ap (λ (o : SaltedOpening T W). o.salts) (at k (omega (arith, a.in_pairs)))) in
          let digests = ap (λ (z : PrunedOpening T W). z.digests) same in
          λ i. salted_pruned_of (one i) (rows i) (salts i) (digests i),
      λ same. ap joined_sets same,
    )

  -- so nothing is found exactly where the digests, and the rows and salts of authenticated matrices, agree
  pub only_salted : IsArity c.shape.arity → (rule ≡ Lowered → AllAuthenticated c.shape c.layer) →
      (p q : SaltedPruned T W) (r : Result (Option (ℕ × ℕ × InputPair T (List W))) MerkleTreeError) →
      IsSaltedPrunedExtraction eq same rule e ds c cap p q r → IsOnlySaltedOpening rule c p q r
  only_salted w all p q (Ok found) told =
      let is = told.extraction in
      let a = is.both_accepted.0 in
      let b = is.both_accepted.1 in
      let meant = only_openings rule c cap w all (joined_sets p) (joined_sets q) a.accepted b.accepted found is.none in
      record {
        one_list = λ one.
            let parts = agree_in_parts p q a b one in
            let joined = meant.one_list one in
            (λ none. parts.0 (joined.0 none), λ agree. joined.1 (parts.1 agree));
        lowered_one_list = λ lowered one.
            let parts = one_in_parts p q a b one in
            let joined = meant.lowered_one_list lowered one in
            (λ none. parts.0 (joined.0 none), λ same. joined.1 (parts.1 same));
      }
  only_salted w all p q (Err x) told = record { one_list = λ one. tt; lowered_one_list = λ lowered one. tt }
