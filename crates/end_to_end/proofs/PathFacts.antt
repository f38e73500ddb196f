-- A pruned opening is accepted exactly if it restores and each query is accepted with its restored path.
use Rattle.std.proofs.Common.{◌≡◌, ◌∙◌, ℕ, zero, suc, ◌<◌, List, [], ◌∷◌, ◌++◌, None, Some, Option, ap, append-nil}
use Rattle.std.proofs.Common.{append_assoc, arith, inl, inr, length, map, refl, subst, sym, zip, get_or}
use Rattle.std.proofs.lemmas.List.{get_or-map, get_or_default, length-map}
use Rattle.std.proofs.lemmas.List.Elements.{AllZip-get_or}
use Rattle.std.specs.List.{AllZip}
use Rattle.std.specs.Prelude.{◌↔◌, ◌≢◌, ◌⊎◌, All, Bool, Err, IfErr, IfOk, IsErr, IsOk, Ok, Result, slice_index}
use Rattle.std.specs.Prelude.{slice_index_or}
use Rattle.std.specs.declared.vec.Vec.{Vec}
use Rattle.p3_answers.specs.Answers.{ok_unless}
use Rattle.p3_support.specs.declared.matrix.Dimensions.{Dimensions}
use Rattle.p3_merkle_tree.specs.AuthPath.{AuthPath}
use Rattle.p3_merkle_tree.specs.Checks.{IsAccepted, Params}
use Rattle.p3_merkle_tree.specs.MerkleTreeError.{MerkleTreeError}
use Rattle.p3_merkle_tree.specs.MerkleTreeError.TheVariants.{OutOfMemory}
use Rattle.p3_merkle_tree.specs.Openings.{opening_of}
use Rattle.p3_merkle_tree.specs.Presented.{IsExactVerdict, IsVerdict, Presented, presented, presented_pruned}
use Rattle.p3_merkle_tree.specs.Presented.{presented_to_restore}
use Rattle.p3_merkle_tree.specs.Pruning.{IsPrunedAccepted, IsRestorable, PrunedOpening, opening_at, restored_path}
use Rattle.p3_merkle_tree.specs.Pruning.{restored_paths}
use Rattle.p3_merkle_tree.specs.Refusals.{AnswersUnlessMemory}
use Rattle.p3_merkle_tree.specs.SaltedExtraction.{salted_opening_at}
use Rattle.p3_merkle_tree.specs.SaltedOpenings.{HaveSalts, IsSaltedAccepted, IsSaltedPrunedAccepted, IsSaltedRestorable}
use Rattle.p3_merkle_tree.specs.SaltedOpenings.{SaltedPruned, joined_sets, salted_of, salted_rows, salted_sets}
use Rattle.p3_merkle_tree.specs.SaltedPresented.{presented_salted, presented_salted_pruned, presented_salted_to_restore}
use Rattle.p3_merkle_tree.specs.Views.{shown_paths}
use Rattle.end_to_end.specs.Inner.QueryVerdicts.{IsSaltedVerdictOn, IsVerdictOn, query_at}
use Rattle.end_to_end.specs.Paths.{AreAnswers, paths_shown}

-- ---- answers that are not for want of memory

-- Ok is answered exactly of what is accepted
ok_is_accepted : {T W V : Type 0} (p : Presented T W) (r : Result V MerkleTreeError) → IsVerdict p r →
    IfErr r (λ e. e ≢ OutOfMemory) → IsOk r ↔ p.is_accepted
ok_is_accepted p (Ok v) is other = (λ ok. is.ok_is_accepted ok, λ accepted. refl)
ok_is_accepted p (Err e) is other = (
  λ ok. absurd cc,
  λ accepted. elim (is.accepted_is_ok accepted) [
    | inl memory ↦ absurd (other memory)
    | inr refused ↦ absurd cc
  ],
)

-- the answer to an opening as a whole is an exact verdict
exact : {T W : Type 0} (p : Presented T W) (r : Result (Unit {0}) MerkleTreeError) → IsVerdict p r →
    IfErr r (λ e. e ≢ OutOfMemory) → IsExactVerdict p r
exact p (Ok v) is other =
    record {
      answer = ap (λ refusal. ok_unless refusal (tt {0})) (sym is.answer);
      accepted = ok_is_accepted p (Ok v) is other;
    }
exact p (Err e) is other =
    record {
      answer = elim is.answer [
        | inl memory ↦ absurd (other memory)
        | inr refused ↦ ap (λ refusal. ok_unless refusal (tt {0})) (sym refused)
      ];
      accepted = ok_is_accepted p (Err e) is other;
    }

-- ---- the whole and its parts

module _ {T W A : Type 0} (whole restoration : Presented T W) (restored : List (ℕ × List (List W))) (queries : ℕ)
    (query : ℕ → Presented T W)
    (parts : whole.is_accepted ↔ (restoration.is_accepted × ((k : ℕ) → k < queries → (query k).is_accepted)))
    (verdict : Result (Unit {0}) MerkleTreeError) (is : IsVerdict whole verdict)
    (other : IfErr verdict (λ e. e ≢ OutOfMemory)) where
  -- where it restores
  pub restored_answers : (paths : Vec (AuthPath (List W)) A) (each : List (Result (Unit {0}) MerkleTreeError)) →
      IsVerdict restoration (Ok paths) → shown_paths paths.items ≡ restored → length each ≡ queries →
      ((k : ℕ) → k < queries → IsExactVerdict (query k) (slice_index_or each k (Ok tt))) →
      AreAnswers whole restoration restored queries query verdict (paths_shown (Ok paths)) each
  restored_answers paths each restores shown count verdicts =
      let whole_is = ok_is_accepted whole verdict is other in
      let restorable = restores.ok_is_accepted refl in
      record {
        of_opening = exact whole verdict is other;
        of_restoration = ap (λ ps. Ok ps) shown ∙ ap (λ refusal. ok_unless refusal restored) (sym restores.answer);
        restores = (λ ok. restorable, λ accepted. refl);
        count = λ ok. count;
        of_queries = λ ok. verdicts;
        no_queries = λ err. absurd cc;
        same_verdict = (
          λ ok. (
            refl,
            λ k d inside. let below : k < queries = omega (arith, count) in
                subst IsOk (get_or_default each k (Ok tt) d inside)
                ((verdicts k below).accepted.1 ((parts.0 (whole_is.0 ok)).1 k below)),
          ),
          λ all. whole_is.1 (parts.1 (
            restorable,
            λ k below. let inside : k < length each = omega (arith, count) in
                (verdicts k below).accepted.0 (all.1 k (Ok tt) inside),
          )),
        );
      }

  -- where it does not
  pub refused_answers : (e : MerkleTreeError) → IsVerdict {V = Vec (AuthPath (List W)) A} restoration (Err e) →
      e ≢ OutOfMemory →
      AreAnswers whole restoration restored queries query verdict (paths_shown {A = A} (Err e)) []
  refused_answers e restores differs =
      let whole_is = ok_is_accepted whole verdict is other in
      let restoring = ok_is_accepted {V = Vec (AuthPath (List W)) A} restoration (Err e) restores differs in
      record {
        of_opening = exact whole verdict is other;
        of_restoration = elim restores.answer [
          | inl memory ↦ absurd (differs memory)
          | inr refused ↦ ap (λ refusal. ok_unless refusal restored) (sym refused)
        ];
        restores = (λ ok. absurd cc, λ accepted. absurd (let ok = restoring.1 accepted in cc));
        count = λ ok. absurd cc;
        of_queries = λ ok. absurd cc;
        no_queries = λ err. refl;
        same_verdict = (
          λ ok. absurd (let none = restoring.1 (parts.0 (whole_is.0 ok)).0 in cc),
          λ all. absurd (let none = all.0 in cc),
        );
      }

-- ---- verdicts by their places

module _ {A B C : Type 0} (R : A × B → C → Type 0) where
  pub count_zip : (xs : List A) (ys : List B) (cs : List C) → length ys ≡ length xs → AllZip R (zip xs ys) cs →
      length cs ≡ length xs
  count_zip [] ys [] same all = refl
  count_zip [] ys (c ∷ cs) same all = absurd all
  count_zip (x ∷ xs) [] cs same all = absurd (omega (arith, same))
  count_zip (x ∷ xs) (y ∷ ys) [] same all = absurd all
  count_zip (x ∷ xs) (y ∷ ys) (c ∷ cs) same all = ap suc (count_zip xs ys cs (omega (arith, same)) all.1)

  pub at_place : (xs : List A) (ys : List B) (cs : List C) (dx : A) (dy : B) (dc : C) (k : ℕ) →
      length ys ≡ length xs → AllZip R (zip xs ys) cs → k < length xs →
      R (get_or xs k dx, get_or ys k dy) (get_or cs k dc)
  at_place [] ys cs dx dy dc k same all inside = absurd (omega arith)
  at_place (x ∷ xs) [] cs dx dy dc k same all inside = absurd (omega (arith, same))
  at_place (x ∷ xs) (y ∷ ys) [] dx dy dc k same all inside = absurd all
  at_place (x ∷ xs) (y ∷ ys) (c ∷ cs) dx dy dc zero same all inside = all.0
  at_place (x ∷ xs) (y ∷ ys) (c ∷ cs) dx dy dc (suc k) same all inside =
      at_place xs ys cs dx dy dc k (omega (arith, same)) all.1 (omega arith)

  -- one verdict more: that on the first of the queries that are left
  pub verdict_more : (all : List (A × B)) (done new : List C) (x : A) (y : B) (c : C) (xs left : List A)
      (ys others : List B) → left ≡ x ∷ xs → others ≡ y ∷ ys → new ≡ done ++ c ∷ [] → R (x, y) c →
      ((more : List C) → AllZip R (zip left others) more → AllZip R all (done ++ more)) →
      (more : List C) → AllZip R (zip xs ys) more → AllZip R all (new ++ more)
  verdict_more all done new x y c xs left ys others first second pushed here before more rest =
      let now : AllZip R (zip left others) (c ∷ more) =
      subst (λ (z : List A × List B). AllZip R (zip z.0 z.1) (c ∷ more)) (λ i. (sym first i, sym second i))
      (here, rest) in
      subst (AllZip R all) (sym (append_assoc done (c ∷ []) more) ∙ ap (λ z. z ++ more) (sym pushed))
      (before (c ∷ more) now)

  none_zip : (xs : List A) (ys : List B) → (xs ≡ []) ⊎ (ys ≡ []) → AllZip R (zip xs ys) []
  none_zip [] ys end = tt
  none_zip (x ∷ xs) [] end = tt
  none_zip (x ∷ xs) (y ∷ ys) (inl end) = absurd cc
  none_zip (x ∷ xs) (y ∷ ys) (inr end) = absurd cc

  -- no query is left
  pub verdict_end : (all : List (A × B)) (done : List C) (left : List A) (others : List B) →
      (left ≡ []) ⊎ (others ≡ []) →
      ((more : List C) → AllZip R (zip left others) more → AllZip R all (done ++ more)) → AllZip R all done
  verdict_end all done left others end before =
      subst (AllZip R all) (append-nil done) (before [] (none_zip left others end))

zip_count : {A B : Type 0} (xs : List A) (ys : List B) → length ys ≡ length xs → length (zip xs ys) ≡ length xs
zip_count [] [] same = refl
zip_count [] (y ∷ ys) same = absurd (omega (arith, same))
zip_count (x ∷ xs) [] same = absurd (omega (arith, same))
zip_count (x ∷ xs) (y ∷ ys) same = ap suc (zip_count xs ys (omega (arith, same)))

-- ---- plain openings

module _ {T W : Type 0} (digest_eq : W → W → Bool) (c : Params T W) (cap : List (List W)) (p : PrunedOpening T W) where
  abbrev VerdictOn : (ℕ × List (List W)) × List (List T) → Result (Unit {0}) MerkleTreeError → Type 0
  VerdictOn = IsVerdictOn digest_eq c cap

  pub plain_parts : IsPrunedAccepted c cap p ↔ (IsRestorable c.shape c.layer p ×
      ((k : ℕ) → k < length p.indices → IsAccepted c cap (opening_at c p k)))
  plain_parts = (
    λ a. (a.restorable, a.each_accepted),
    λ both. record { restorable = both.0; each_accepted = both.1 },
  )

  module _ (each : List (Result (Unit {0}) MerkleTreeError)) (restorable : IsRestorable c.shape c.layer p)
      (verdicts : AllZip VerdictOn (zip (restored_paths c p) p.rows) each) where
    as_many : length p.rows ≡ length (restored_paths c p)
    as_many = restorable.agreed.in_pairs ∙ sym (length-map p.indices (λ i. (i, restored_path c p i)))

    pub plain_count : length each ≡ length p.indices
    plain_count = count_zip VerdictOn (restored_paths c p) p.rows each as_many verdicts
        ∙ length-map p.indices (λ i. (i, restored_path c p i))

    pub plain_each : (k : ℕ) → k < length p.indices →
        IsExactVerdict (presented digest_eq c cap (opening_at c p k)) (slice_index_or each k (Ok tt))
    plain_each k below =
        let long : length (restored_paths c p) ≡ length p.indices =
        length-map p.indices (λ i. (i, restored_path c p i)) in
        let inside : k < length (restored_paths c p) = omega arith in
        subst (λ (z : ℕ × List (List W)). VerdictOn (z, get_or p.rows k []) (get_or each k (Ok tt)))
        (get_or-map (λ i. (i, restored_path c p i)) p.indices k 0 (0, []) below)
        (at_place VerdictOn (restored_paths c p) p.rows each (0, []) [] (Ok tt) k as_many verdicts inside)

-- ---- salted openings

sets_at : {T : Type 0} (sets salts : List (List (List T))) (k : ℕ) → length salts ≡ length sets →
    slice_index_or (salted_sets sets salts) k [] ≡ salted_rows (slice_index_or sets k []) (slice_index_or salts k [])
sets_at [] [] k same = refl
sets_at [] (y ∷ salts) k same = absurd (omega (arith, same))
sets_at (x ∷ sets) [] k same = absurd (omega (arith, same))
sets_at (x ∷ sets) (y ∷ salts) zero same = refl
sets_at (x ∷ sets) (y ∷ salts) (suc k) same = sets_at sets salts k (omega (arith, same))

sets_count : {T : Type 0} (sets salts : List (List (List T))) → length salts ≡ length sets →
    length (salted_sets sets salts) ≡ length sets
sets_count sets salts same = length-map (zip sets salts) _ ∙ zip_count sets salts same

module _ {T W : Type 0} (digest_eq : W → W → Bool) (e : ℕ) (ds : List Dimensions) (c : Params T W)
    (cap : List (List W)) (p : SaltedPruned T W) where
  abbrev SaltedVerdictOn : (ℕ × List (List W)) × (List (List T) × List (List T)) →
      Result (Unit {0}) MerkleTreeError → Type 0
  SaltedVerdictOn = IsSaltedVerdictOn digest_eq e ds c cap

  -- a row set for each index
  row_sets_count : IsSaltedRestorable e ds c.shape c.layer p → length p.rows ≡ length p.indices
  row_sets_count is = sym (sets_count p.rows p.salts is.in_pairs) ∙ is.restorable.agreed.in_pairs

  restores_too : IsSaltedPrunedAccepted e ds c cap p → IsSaltedRestorable e ds c.shape c.layer p
  restores_too a =
      record {
        in_pairs = a.in_pairs;
        salted = a.salted;
        can_widen = a.can_widen;
        restorable = a.accepted.restorable;
      }

  salted_each_accepted : IsSaltedPrunedAccepted e ds c cap p → (k : ℕ) → k < length p.indices →
      IsSaltedAccepted e ds c cap (salted_opening_at c p k)
  salted_each_accepted a k below =
      let i = slice_index p.indices k in
      let inside : k < length p.rows = omega (arith, row_sets_count (restores_too a)) in
      record {
        salted = AllZip-get_or (HaveSalts ds) p.rows p.salts k [] [] a.salted inside;
        can_widen = a.can_widen;
        accepted = subst (λ rows. IsAccepted c cap (opening_of i rows (restored_path c (joined_sets p) i)))
            (sets_at p.rows p.salts k a.in_pairs) (a.accepted.each_accepted k below);
      }

  pub salted_parts : IsSaltedPrunedAccepted e ds c cap p ↔ (IsSaltedRestorable e ds c.shape c.layer p ×
      ((k : ℕ) → k < length p.indices → IsSaltedAccepted e ds c cap (salted_opening_at c p k)))
  salted_parts = (
    λ a. (restores_too a, salted_each_accepted a),
    λ both. record {
      in_pairs = both.0.in_pairs;
      salted = both.0.salted;
      can_widen = both.0.can_widen;
      accepted = record {
        restorable = both.0.restorable;
        each_accepted = λ k below.
            let i = slice_index p.indices k in
            subst (λ rows. IsAccepted c cap (opening_of i rows (restored_path c (joined_sets p) i)))
            (sym (sets_at p.rows p.salts k both.0.in_pairs)) (both.1 k below).accepted;
      };
    },
  )

  -- there are as many row sets and salt sets as restored paths
  pub restored_count : length (restored_paths c (joined_sets p)) ≡ length p.indices
  restored_count = length-map p.indices (λ i. (i, restored_path c (joined_sets p) i))

  pub rows_count : IsSaltedRestorable e ds c.shape c.layer p → length p.rows
      ≡ length (restored_paths c (joined_sets p))
  rows_count is = row_sets_count is ∙ sym restored_count

  pub salts_count : IsSaltedRestorable e ds c.shape c.layer p → length p.salts
      ≡ length (restored_paths c (joined_sets p))
  salts_count is = is.in_pairs ∙ rows_count is

  -- the verdicts on queries with their restored paths
  pub salted_each : (each : List (Result (Unit {0}) MerkleTreeError)) →
      ((k : ℕ) → k < length (restored_paths c (joined_sets p)) →
      SaltedVerdictOn (query_at (restored_paths c (joined_sets p)) p.rows p.salts k) (slice_index_or each k (Ok tt))) →
      (k : ℕ) → k < length p.indices →
      IsExactVerdict (presented_salted digest_eq e ds c cap (salted_opening_at c p k)) (slice_index_or each k (Ok tt))
  salted_each each verdicts k below =
      let inside : k < length (restored_paths c (joined_sets p)) = omega (arith, restored_count) in
      subst (λ (z : ℕ × List (List W)).
      SaltedVerdictOn (z, (get_or p.rows k [], get_or p.salts k [])) (get_or each k (Ok tt)))
      (get_or-map (λ i. (i, restored_path c (joined_sets p) i)) p.indices k 0 (0, []) below) (verdicts k inside)
