-- The inputs of a check with all its siblings have N digests each, and those of two checks of one shape stand at the
-- same places.
use Rattle.std.proofs.Common.{◌≡◌, ℕ, zero, suc, ◌-◌, ◌<◌, ◌≤◌, List, [], ◌∷◌, ◌∙◌, arith, inl, inr, length, All}
use Rattle.std.proofs.Common.{replicate, length-append, eqb, ◌+◌, ◌++◌, eq-eqb}
use Rattle.std.proofs.lemmas.Grind.{common_steps}
use Rattle.std.proofs.lemmas.Bool.{cases_Bool, cond_both, cases_eq, ne_eqb}
use Rattle.std.proofs.lemmas.List.{length-replicate}
use Rattle.std.proofs.lemmas.List.Edits.{length-insert}
use Rattle.std.proofs.lemmas.List.Elements.{All-append, All-cons, All-nil}
use Rattle.p3_merkle_core.specs.Geometry.{Shape, IsArity, is_bridge, layer_exponent, step, position_in_group, has_rows}
use Rattle.p3_merkle_core.specs.Nodes.{Functions, pair, padded}
use Rattle.p3_merkle_core.specs.Openings.{Opening}
use Rattle.p3_merkle_core.specs.Checks.{HasDigests, inputs, inputs_at, group_at, path_digest, siblings_at}
use Rattle.p3_merkle_core.specs.Checks.{siblings_below, layer_words, IsLastDifference, shared_inputs, meeting_level}
use Rattle.p3_merkle_core.specs.Checks.{params, leaf_input, words_at, digests_at, Input, IsAtOnePlace, IsLastShared}
use Rattle.p3_merkle_core.specs.declared.collision.Place.TheVariants.{Group, Rows, Pair}
use Rattle.p3_merkle_core.proofs.Shapes.StepFacts.{step_above_1}
use Rattle.p3_merkle_core.proofs.Collisions.Extraction.{siblings_full, in_group}
use Rattle.p3_merkle_core.proofs.Lists.ListFacts.{joined, joined_more}

pub filled_long : {T W : Type 0} (f : Functions T W) (n : ℕ) (ds : List (List W)) → length ds ≤ n →
    length (padded n f.default_digest ds) ≡ n
filled_long f n ds h = length-append ds (replicate (n - length ds) f.default_digest)
    ∙ (let r = length-replicate (n - length ds) f.default_digest in omega arith)

step_le : (s : Shape) (l : ℕ) → IsArity s.arity → step s l ≤ s.arity
step_le s l w = cond_both (is_bridge s (layer_exponent s l)) 2 s.arity (λ x. x ≤ s.arity) (λ e. w.above_1)
    (λ e. omega arith)

pub level_full : {T W : Type 0} (f : Functions T W) (s : Shape) (t : ℕ) (o : Opening T W) (l : ℕ) → IsArity s.arity →
    length o.siblings ≡ siblings_below s t → l < t → All (HasDigests s.arity) (inputs_at f s o l)
level_full f s t o l w e h =
    let two = w.above_1 in
    let a = step_above_1 s l w.above_1 in
    let n = siblings_full s o t l e h in
    let inside = in_group s l o.index w in
    let long = length-insert (siblings_at s o l) (position_in_group s l o.index) (path_digest f s o l) (omega arith) in
    let group = filled_long f s.arity (group_at f s o l (path_digest f s o l)) (omega (arith, step_le s l w)) in
    let words = layer_words s o.rows (suc l) in
    let first = padded s.arity f.default_digest (group_at f s o l (path_digest f s o l)) in
    let last = pair f s.arity (f.compression first) (f.hash words) in
    let long_pair = filled_long f s.arity (f.compression first ∷ f.hash words ∷ []) (omega arith) in
    let P = HasDigests s.arity in
    elim (cases_Bool (has_rows s (suc l))) [
      | inl y ↦ rw y (All-cons P (digests_at (Group l) first) (words_at (Rows l) words ∷ digests_at (Pair l) last ∷ [])
          group (All-cons P (words_at (Rows l) words) (digests_at (Pair l) last ∷ []) tt
          (All-cons P (digests_at (Pair l) last) [] long_pair (All-nil P))))
      | inr n ↦ rw n (All-cons P (digests_at (Group l) first) [] group (All-nil P))
    ]

pub inputs_full : {T W : Type 0} (f : Functions T W) (s : Shape) (t : ℕ) (o : Opening T W) → IsArity s.arity →
    length o.siblings ≡ siblings_below s t → All (HasDigests s.arity) (inputs (params f s t) o)
inputs_full f s t o w e = All-cons (HasDigests s.arity) ((leaf_input s o)) (joined (inputs_at f s o) t) tt
    (levels_full f s t o w e t (omega arith))
  where
    levels_full : {T W : Type 0} (f : Functions T W) (s : Shape) (t : ℕ) (o : Opening T W) → IsArity s.arity →
        length o.siblings ≡ siblings_below s t → (n : ℕ) → n ≤ t → All (HasDigests s.arity) (joined (inputs_at f s o) n)
    levels_full f s t o w e zero h = All-nil (HasDigests s.arity)
    levels_full f s t o w e (suc n) h =
        rw (joined_more (inputs_at f s o) n)
        (All-append (HasDigests s.arity) (joined (inputs_at f s o) n) (inputs_at f s o n)
        (levels_full f s t o w e n (omega arith)) (level_full f s t o n w e (omega arith)))

-- so have those that two checks share
pub shared_full : {T W : Type 0} (f : Functions T W) (s : Shape) (t i j : ℕ) (o : Opening T W) → IsArity s.arity →
    length o.siblings ≡ siblings_below s t → All (HasDigests s.arity) (shared_inputs (params f s t) i j o)
shared_full f s t i j o w e =
    let m = meeting_level s t i j in
    elim (cases_Bool (eqb i j)) [
      | inl y ↦ rw y (inputs_full f s t o w e)
      | inr n ↦ rw n (above_full f s t m o w e (t - m) (omega arith))
    ]
  where
    above_full : {T W : Type 0} (f : Functions T W) (s : Shape) (t m : ℕ) (o : Opening T W) → IsArity s.arity →
        length o.siblings ≡ siblings_below s t → (n : ℕ) → n ≤ t - m →
        All (HasDigests s.arity) (joined (λ k. inputs_at f s o (m + k)) n)
    above_full f s t m o w e zero h = All-nil (HasDigests s.arity)
    above_full f s t m o w e (suc n) h =
        rw (joined_more (λ k. inputs_at f s o (m + k)) n)
        (All-append (HasDigests s.arity) (joined (λ k. inputs_at f s o (m + k)) n) (inputs_at f s o (m + n))
        (above_full f s t m o w e n (omega arith)) (level_full f s t o (m + n) w e (omega arith)))

-- what holds of all elements of two lists holds of both at their last difference
pub of_last_difference : {X : Type 0} (P : X → Type 0) (xs ys : List X) (x y : X) → All P xs → All P ys →
    IsLastDifference xs ys x y → P x × P y
of_last_difference P [] ys x y a b d = absurd d
of_last_difference P (v ∷ xs) [] x y a b d = absurd d
of_last_difference P (v ∷ xs) (w ∷ ys) x y a b (inl d) =
    of_last_difference P xs ys x y (λ k e h. a (suc k) e (omega arith)) (λ k e h. b (suc k) e (omega arith)) d
of_last_difference P (v ∷ xs) (w ∷ ys) x y a b (inr d) =
    (rw (← d.1) (a 0 x (omega arith)), rw (← d.2) (b 0 y (omega arith)))

-- two lists of inputs stand at the same places
AreAlike : {T W : Type 0} → List (Input T W) → List (Input T W) → Type 0
AreAlike [] [] = Unit {0}
AreAlike [] (y ∷ ys) = ⊥
AreAlike (x ∷ xs) [] = ⊥
AreAlike (x ∷ xs) (y ∷ ys) = IsAtOnePlace x y × AreAlike xs ys

alike_append : {T W : Type 0} (xs ys us vs : List (Input T W)) → AreAlike xs ys → AreAlike us vs →
    AreAlike (xs ++ us) (ys ++ vs)
unfolding AreAlike
alike_append [] [] us vs a b = b
alike_append [] (y ∷ ys) us vs a b = absurd a
alike_append (x ∷ xs) [] us vs a b = absurd a
alike_append (x ∷ xs) (y ∷ ys) us vs a b = (a.0, alike_append xs ys us vs a.1 b)

alike_joined : {T W : Type 0} (g h : ℕ → List (Input T W)) (n : ℕ) → ((k : ℕ) → AreAlike (g k) (h k)) →
    AreAlike (joined g n) (joined h n)
unfolding AreAlike
alike_joined g h zero e = tt
alike_joined g h (suc n) e =
    rw (joined_more g n, joined_more h n)
    (alike_append (joined g n) (joined h n) (g n) (h n) (alike_joined g h n e) (e n))

level_alike : {T W : Type 0} (f : Functions T W) (s : Shape) (o u : Opening T W) (l : ℕ) →
    AreAlike (inputs_at f s o l) (inputs_at f s u l)
unfolding AreAlike
level_alike f s o u l = grind (arith, common_steps)

alike_last : {T W : Type 0} (xs ys : List (Input T W)) (x y : Input T W) → AreAlike xs ys → IsLastDifference xs ys x y →
    IsAtOnePlace x y
unfolding AreAlike
alike_last [] ys x y a d = absurd d
alike_last (p ∷ xs) [] x y a d = absurd d
alike_last (p ∷ xs) (q ∷ ys) x y a (inl d) = alike_last xs ys x y a.1 d
alike_last (p ∷ xs) (q ∷ ys) x y a (inr d) = rw (← d.1, ← d.2) a.0

-- the last inputs that two checks share and that differ stand at one place
pub at_one_place : {T W : Type 0} (f : Functions T W) (s : Shape) (t : ℕ) (o u : Opening T W) (x y : Input T W) →
    IsLastShared (params f s t) o u x y → IsAtOnePlace x y
unfolding AreAlike
at_one_place f s t o u x y d =
    grind (arith, common_steps, eq-eqb, cases_eq, ne_eqb, joined, alike_joined, level_alike, alike_last)
