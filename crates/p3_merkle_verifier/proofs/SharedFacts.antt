-- The last difference of what two checks share, level by level.
use Rattle.std.proofs.Common.{◌≡◌, ℕ, zero, suc, ◌+◌, ◌-◌, ◌<◌, Bool, cond, eqb, List, [], ◌∷◌, ◌++◌, ap, sym, ◌∙◌}
use Rattle.std.proofs.Common.{refl, arith, inl, inr, length, add-suc, append_assoc, Option, None, Some}
use Rattle.std.specs.Option.{option_or}
use Rattle.std.proofs.lemmas.Bool.{cases_Bool, cases_eq, cond-true, cond-false, eqb-true, eq-eqb, ne_eqb}
use Rattle.std.proofs.lemmas.List.{append-nil}
use Rattle.p3_merkle_core.specs.Extraction.{last_difference}
use Rattle.p3_merkle_core.specs.Geometry.{Shape, ancestor}
use Rattle.p3_merkle_core.specs.Nodes.{Functions}
use Rattle.p3_merkle_core.specs.Openings.{Opening}
use Rattle.p3_merkle_core.specs.Checks.{Input, inputs_at, meeting_level, shared_inputs, params, leaf_input}
use Rattle.p3_answers.specs.Answers.{unless}
use Rattle.p3_merkle_core.specs.declared.collision.InputPair.{InputPair}
use Rattle.p3_merkle_core.proofs.Lists.ListFacts.{joined_same_length}
use Rattle.p3_merkle_core.proofs.Collisions.Extraction.{anc_same, level_lengths}
use Rattle.p3_merkle_core.proofs.Lists.ListFacts.{joined, joined_more}
use Rattle.p3_merkle_core.proofs.Checks.PathFacts.{joined_same}
use Rattle.p3_merkle_core.proofs.Shapes.LeastFacts.{least_le, least_passes, below_least}
use Rattle.p3_merkle_verifier.specs.Inner.Checks.{leaf_difference, level_difference}
use Rattle.p3_merkle_verifier.specs.Inner.Collisions.{Shows}

-- ---- lists

pub or_none : {X : Type 0} (o : Option X) → option_or o None ≡ o
or_none None = refl
or_none (Some x) = refl

or_assoc : {X : Type 0} (a b c : Option X) → option_or (option_or a b) c ≡ option_or a (option_or b c)
or_assoc None b c = refl
or_assoc (Some x) b c = refl

-- a last difference is one of the ends, or else of the fronts
pub last_append : {X : Type 0} (test : X → X → Bool) (xs ys cs ds : List X) → length xs ≡ length ys →
    last_difference test (xs ++ cs) (ys ++ ds) ≡ option_or (last_difference test cs ds) (last_difference test xs ys)
last_append test [] [] cs ds e = sym (or_none (last_difference test cs ds))
last_append test [] (y ∷ ys) cs ds e = absurd (omega arith)
last_append test (x ∷ xs) [] cs ds e = absurd (omega arith)
last_append test (x ∷ xs) (y ∷ ys) cs ds e =
    rw (last_append test xs ys cs ds (omega arith))
    (or_assoc (last_difference test cs ds) (last_difference test xs ys) (unless (test x y) (x, y)))

last_if : {X : Type 0} (test : X → X → Bool) (b : Bool) (xs ys : List X) → cond b (last_difference test xs ys) None
    ≡ last_difference test (cond b xs []) (cond b ys [])
last_if test b xs ys = elim (cases_Bool b) [ inl t ↦ rw t refl | inr f ↦ rw f refl ]

long_if : {X : Type 0} (b : Bool) (xs ys : List X) → length xs ≡ length ys → length (cond b xs [])
    ≡ length (cond b ys [])
long_if b xs ys e = elim (cases_Bool b) [ inl t ↦ rw t e | inr f ↦ rw f refl ]

joined_parts : {A : Type 0} (g : ℕ → List A) (m n : ℕ) → joined g (m + n) ≡ joined g m ++ joined (λ k. g (m + k)) n
joined_parts g m zero = let z : m + 0 ≡ m = omega arith in rw z (sym (append-nil (joined g m)))
joined_parts g m (suc n) = rw (add-suc, joined_more g (m + n), joined_more (λ k. g (m + k)) n, joined_parts g m n)
    (append_assoc (joined g m) (joined (λ k. g (m + k)) n) (g (m + n)))

joined_none : {A : Type 0} (g : ℕ → List A) (n : ℕ) → ((k : ℕ) → k < n → g k ≡ []) → joined g n ≡ []
joined_none g zero e = refl
joined_none g (suc n) e = joined_more g n ∙ rw (joined_none g n (λ k h. e k (omega arith)), e n (omega arith)) refl

-- ---- what is shared below a layer

-- whether checks of i and j share level k
abbrev pub meets : Shape → ℕ → ℕ → ℕ → Bool
meets s i j k = eqb (ancestor s (suc k) i) (ancestor s (suc k) j)

-- what a check of i shares with one of j below layer l
abbrev pub so_far : {T W : Type 0} → Functions T W → Shape → ℕ → ℕ → Opening T W → ℕ → List (Input T W)
so_far f s i j o l = cond (eqb i j) (leaf_input s o ∷ []) []
    ++ joined (λ k. cond (meets s i j k) (inputs_at f s o k) []) l

so_far_next : {T W : Type 0} (f : Functions T W) (s : Shape) (i j l : ℕ) (o : Opening T W) → so_far f s i j o (suc l)
    ≡ so_far f s i j o l ++ cond (meets s i j l) (inputs_at f s o l) []
so_far_next f s i j l o =
    ap (λ (xs : List (Input _ _)). cond (eqb i j) (leaf_input s o ∷ []) [] ++ xs)
    (joined_more (λ k. cond (meets s i j k) (inputs_at f s o k) []) l)
    ∙ sym (append_assoc (cond (eqb i j) (leaf_input s o ∷ []) [])
    (joined (λ k. cond (meets s i j k) (inputs_at f s o k) []) l) (cond (meets s i j l) (inputs_at f s o l) []))

so_far_long : {T W : Type 0} (f : Functions T W) (s : Shape) (i j l : ℕ) (o u : Opening T W) →
    length (so_far f s i j o l) ≡ length (so_far f s i j u l)
so_far_long f s i j l o u =
    let rest = joined_same_length (λ k. cond (meets s i j k) (inputs_at f s o k) [])
    (λ k. cond (meets s i j k) (inputs_at f s u k) []) l
    (λ k. long_if (meets s i j k) (inputs_at f s o k) (inputs_at f s u k) (level_lengths f s o u k)) in
    elim (cases_Bool (eqb i j)) [ inl y ↦ rw y (ap suc rest) | inr n ↦ rw n rest ]

-- below the cap it is all that is shared
pub so_far_all : {T W : Type 0} (f : Functions T W) (s : Shape) (i j t : ℕ) (o : Opening T W) → so_far f s i j o t
    ≡ shared_inputs (params f s t) i j o
so_far_all f s i j t o =
    let g = λ (k : ℕ). cond (meets s i j k) (inputs_at f s o k) [] in
    let m = meeting_level s t i j in
    elim (cases_eq i j) [
      | inl e ↦
          let all : joined g t ≡ joined (inputs_at f s o) t =
          joined_same g (inputs_at f s o) t
          (λ k h. cond-true (meets s i j k) (inputs_at f s o k) []
          (eq-eqb (ancestor s (suc k) i) (ancestor s (suc k) j) (ap (λ n. ancestor s (suc k) n) e))) in
          rw (eq-eqb i j e) (ap (λ (xs : List (Input _ _)). leaf_input s o ∷ xs) all)
      | inr ne ↦
          let low = least_le (meets s i j) t in
          let sum : m + (t - m) ≡ t = omega arith in
          let front : joined g m
          ≡ [] = joined_none g m
          (λ k h. cond-false (meets s i j k) (inputs_at f s o k) [] (below_least (meets s i j) t k h)) in
          let rest : joined (λ k. g (m + k)) (t - m) ≡ joined (λ k. inputs_at f s o (m + k)) (t - m) =
          joined_same (λ k. g (m + k)) (λ k. inputs_at f s o (m + k)) (t - m)
          (λ k h.
          let met = eqb-true (ancestor s (suc m) i) (ancestor s (suc m) j)
          (least_passes (meets s i j) t (omega arith)) in
          let up : suc m + k ≡ suc (m + k) = omega arith in
          cond-true (meets s i j (m + k)) (inputs_at f s o (m + k)) []
          (eq-eqb (ancestor s (suc (m + k)) i) (ancestor s (suc (m + k)) j)
          (rw up at (anc_same s (suc m) i j met k)))) in
          let whole : joined g t ≡ joined (λ k. inputs_at f s o (m + k)) (t - m) =
          ap (λ n. joined g n) (sym sum) ∙ joined_parts g m (t - m)
          ∙ ap (λ (xs : List (Input _ _)). xs ++ joined (λ k. g (m + k)) (t - m)) front ∙ rest in
          rw (ne_eqb i j ne) whole
    ]

-- ---- the last difference so far

-- the last inputs below layer l that two checks share and that differ
abbrev pub difference_below : {T W : Type 0} → (Input T W → Input T W → Bool) → Functions T W → Shape → Opening T W →
    Opening T W → ℕ → Option (Input T W × Input T W)
difference_below test f s o u zero = leaf_difference test s o u
difference_below test f s o u (suc l) = option_or (level_difference test f s l o u) (difference_below test f s o u l)

difference_so_far : {T W : Type 0} (test : Input T W → Input T W → Bool) (f : Functions T W) (s : Shape)
    (o u : Opening T W) (l : ℕ) →
    difference_below test f s o u l
    ≡ last_difference test (so_far f s o.index u.index o l) (so_far f s o.index u.index u l)
difference_so_far test f s o u zero =
    let b = eqb o.index u.index in
    let mine = cond b (leaf_input s o ∷ []) [] in
    let theirs = cond b (leaf_input s u ∷ []) [] in
    last_if test b (leaf_input s o ∷ []) (leaf_input s u ∷ [])
    ∙ ap (λ (xs : List (Input _ _)). last_difference test xs theirs) (sym (append-nil mine))
    ∙ ap (λ (ys : List (Input _ _)). last_difference test (mine ++ []) ys) (sym (append-nil theirs))
difference_so_far test f s o u (suc l) =
    let i = o.index in
    let j = u.index in
    let mine = cond (meets s i j l) (inputs_at f s o l) [] in
    let theirs = cond (meets s i j l) (inputs_at f s u l) [] in
    rw (
      difference_so_far test f s o u l,
      last_if test (meets s i j l) (inputs_at f s o l) (inputs_at f s u l),
      so_far_next f s i j l o,
      so_far_next f s i j l u,
    )
    (sym (last_append test (so_far f s i j o l) (so_far f s i j u l) mine theirs (so_far_long f s i j l o u)))

pub difference_shared : {T W : Type 0} (test : Input T W → Input T W → Bool) (f : Functions T W) (s : Shape)
    (o u : Opening T W) (t : ℕ) →
    difference_below test f s o u t
    ≡ last_difference test (shared_inputs (params f s t) o.index u.index o)
    (shared_inputs (params f s t) o.index u.index u)
difference_shared test f s o u t = difference_so_far test f s o u t
    ∙ rw (so_far_all f s o.index u.index t o, so_far_all f s o.index u.index t u) refl

-- ---- what is found so far

pub shows_later :
    {T W : Type 0} (found last : Option (InputPair T (List W))) (here below : Option (Input T W × Input T W)) →
    Shows found here → Shows last below → Shows (option_or found last) (option_or here below)
shows_later None last None below p q = q
shows_later None last (Some x) below p q = absurd cc
shows_later (Some c) last None below p q = absurd cc
shows_later (Some c) last (Some x) below p q = p
