-- The last difference of two checks that reach one digest is a collision.
use Rattle.std.proofs.Common.{◌≡◌, ℕ, zero, suc, ◌+◌, ◌-◌, ◌%◌, ◌<◌, ◌≤◌, Bool, eqb, List, [], ◌∷◌, ◌++◌, refl, ap, sym}
use Rattle.std.proofs.Common.{◌∙◌, arith, inl, inr, ◌⊎◌, length, insert, length-append, length-take, length-drop}
use Rattle.std.proofs.Common.{add-suc, eq-eqb, slice_get}
use Rattle.std.proofs.lemmas.Grind.{common_steps}
use Rattle.std.proofs.lemmas.Bool.{cases_Bool, cases_lt, cases_eq, eqb-true, ne_eqb}
use Rattle.std.specs.List.{flat_map, range_with_len}
use Rattle.p3_merkle_core.specs.Geometry.{Shape, step, ancestor, position_in_group, has_rows, IsArity}
use Rattle.p3_merkle_core.specs.Nodes.{Functions, pair}
use Rattle.p3_merkle_core.specs.Openings.{Opening}
use Rattle.p3_merkle_core.specs.Checks.{Input, input_digest}
use Rattle.p3_merkle_core.specs.Checks.{inputs_at, path_digest, siblings_at, siblings_below, IsLastDifference}
use Rattle.p3_merkle_core.specs.Checks.{shared_inputs, meeting_level, IsAccepted, params, digests_at, layer_words}
use Rattle.p3_merkle_core.specs.declared.collision.Place.TheVariants.{Pair}
use Rattle.p3_merkle_core.proofs.Shapes.LeastFacts.{least_passes}
use Rattle.p3_merkle_core.proofs.Shapes.StepFacts.{anc_next, step_above_1}
use Rattle.p3_merkle_core.proofs.Checks.Completeness.{reached_next, reached_leaf}
use Rattle.p3_merkle_core.proofs.Checks.CheckFacts.{accepted_walk, group_first, same_digests, same_group}
use Rattle.p3_merkle_core.proofs.Lists.ListFacts.{joined, joined_more, same_ends}
pub use Rattle.p3_merkle_core.proofs.Checks.CheckFacts.{full_group, inputs_with_rows, inputs_alone}

-- ---- lists

-- a last difference of two joined lists is one of their ends, or their ends are equal and it is one of their fronts
last_of_joined : {X : Type 0} (xs ys cs ds : List X) (x y : X) → length xs ≡ length ys →
    IsLastDifference (xs ++ cs) (ys ++ ds) x y → IsLastDifference cs ds x y ⊎ ((cs ≡ ds) × IsLastDifference xs ys x y)
last_of_joined [] [] cs ds x y e d = inl d
last_of_joined [] (b ∷ ys) cs ds x y e d = absurd (omega arith)
last_of_joined (a ∷ xs) [] cs ds x y e d = absurd (omega arith)
last_of_joined (a ∷ xs) (b ∷ ys) cs ds x y e (inl d) =
    elim (last_of_joined xs ys cs ds x y (omega arith) d) [ inl g ↦ inl g | inr g ↦ inr (g.0, inl g.1) ]
last_of_joined (a ∷ xs) (b ∷ ys) cs ds x y e (inr d) =
    let s = same_ends xs ys cs ds (omega arith) d.0 in inr (s.1, inr (s.0, d.1, d.2, d.3))

put_back : {X : Type 0} (xs ys cs ds : List X) (p : ℕ) (x y : X) → p ≤ length xs → p ≤ length ys → insert xs p x ++ cs
    ≡ insert ys p y ++ ds → x ≡ y
put_back xs ys cs ds zero x y h k e = cc
put_back [] ys cs ds (suc p) x y h k e = absurd (omega arith)
put_back (a ∷ xs) [] cs ds (suc p) x y h k e = absurd (omega arith)
put_back (a ∷ xs) (b ∷ ys) cs ds (suc p) x y h k e =
    put_back xs ys cs ds p x y (omega arith) (omega arith) (let c : insert xs p x ++ cs ≡ insert ys p y ++ ds = cc in c)

-- ---- one level

-- the pair of a level
abbrev pair_at : {T W : Type 0} → Functions T W → Shape → Opening T W → ℕ → List (List W)
pair_at f s o l = pair f s.arity (f.compression (full_group f s o l)) (f.hash (layer_words s o.rows (suc l)))

-- equal pairs have equal digests
same_pairs : {T W : Type 0} (f : Functions T W) (s : Shape) (o u : Opening T W) (l : ℕ) →
    digests_at {T = T} (Pair l) (pair_at f s o l) ≡ digests_at (Pair l) (pair_at f s u l) →
    (f.compression (full_group f s o l) ≡ f.compression (full_group f s u l)) ×
    (f.hash (layer_words s o.rows (suc l)) ≡ f.hash (layer_words s u.rows (suc l)))
same_pairs f s o u l e = let same = same_digests (Pair l) (Pair l) (pair_at f s o l) (pair_at f s u l) e in (cc, cc)

-- where the level ends in one digest, a last difference of its inputs has one digest
level_collides : {T W : Type 0} (f : Functions T W) (s : Shape) (o u : Opening T W) (l : ℕ) (x y : Input T W) →
    path_digest f s o (suc l) ≡ path_digest f s u (suc l) →
    IsLastDifference (inputs_at f s o l) (inputs_at f s u l) x y → input_digest f x ≡ input_digest f y
level_collides f s o u l x y e d = grind (arith, common_steps, cases_Bool, reached_next, same_pairs)

-- where the level's inputs are equal, so is what it began with
level_keeps : {T W : Type 0} (f : Functions T W) (s : Shape) (o u : Opening T W) (l : ℕ) →
    position_in_group s l o.index ≡ position_in_group s l u.index →
    position_in_group s l o.index ≤ length (siblings_at s o l) →
    position_in_group s l o.index ≤ length (siblings_at s u l) →
    inputs_at f s o l ≡ inputs_at f s u l → path_digest f s o l ≡ path_digest f s u l
level_keeps {T} f s o u l same h k e = grind (arith, common_steps, group_first, same_group, put_back)

-- ---- many levels

pub level_lengths : {T W : Type 0} (f : Functions T W) (s : Shape) (o u : Opening T W) (l : ℕ) →
    length (inputs_at f s o l) ≡ length (inputs_at f s u l)
level_lengths f s o u l = elim (cases_Bool (has_rows s (suc l))) [ inl t ↦ rw t refl | inr n ↦ rw n refl ]

joined_lengths : {T W : Type 0} (f : Functions T W) (s : Shape) (o u : Opening T W) (m n : ℕ) →
    length (joined (λ k. inputs_at f s o (m + k)) n) ≡ length (joined (λ k. inputs_at f s u (m + k)) n)
joined_lengths f s o u m zero = refl
joined_lengths f s o u m (suc n) =
    grind (arith, common_steps, joined_lengths f s o u m n, length-append, joined, joined_more, level_lengths)

-- two openings with all their siblings, whose places in their groups are the same at each level above m and below t
pub record Meet {T W : Type 0} (s : Shape) (o u : Opening T W) (m t : ℕ) : Type 0 where
  pub first_full : length o.siblings ≡ siblings_below s t
  pub second_full : length u.siblings ≡ siblings_below s t
  pub together : (l : ℕ) → m < l → l < t → position_in_group s l o.index ≡ position_in_group s l u.index
  pub well_shaped : IsArity s.arity

below_more_levels : (s : Shape) (l k : ℕ) → siblings_below s (l + k)
    ≡ siblings_below s l + (siblings_below s (l + k) - siblings_below s l)
unfolding siblings_below
below_more_levels s l zero = let e : l + 0 ≡ l = omega arith in rw e (omega arith)
below_more_levels s l (suc k) = let p = below_more_levels s l k in rw add-suc (omega arith)

pub siblings_full : {T W : Type 0} (s : Shape) (o : Opening T W) (t l : ℕ) → length o.siblings ≡ siblings_below s t →
    l < t → length (siblings_at s o l) ≡ step s l - 1
unfolding siblings_below
siblings_full s o t l e h =
    let p = below_more_levels s (suc l) (t - suc l) in
    let q : suc l + (t - suc l) ≡ t = omega arith in
    let r = rw q at p in
    simp (length-take, length-drop) (omega arith)

pub in_group : (s : Shape) (l i : ℕ) → IsArity s.arity → position_in_group s l i ≤ step s l - 1
in_group s l i w = let a = step_above_1 s l w.above_1 in omega arith

levels_collide : {T W : Type 0} (f : Functions T W) (s : Shape) (o u : Opening T W) (m t : ℕ) → Meet s o u m t →
    (n : ℕ) → m + n ≤ t → (x y : Input T W) → path_digest f s o (m + n) ≡ path_digest f s u (m + n) →
    IsLastDifference (joined (λ k. inputs_at f s o (m + k)) n) (joined (λ k. inputs_at f s u (m + k)) n) x y →
    input_digest f x ≡ input_digest f y
levels_collide f s o u m t w zero h x y e d = absurd d
levels_collide f s o u m t w (suc n) h x y e d =
    let l = m + n in
    let up = rw add-suc at e in
    elim (last_of_joined (joined (λ k. inputs_at f s o (m + k)) n) (joined (λ k. inputs_at f s u (m + k)) n)
    (inputs_at f s o l) (inputs_at f s u l) x y (joined_lengths f s o u m n)
    (rw (joined_more (λ k. inputs_at f s o (m + k)) n, joined_more (λ k. inputs_at f s u (m + k)) n) at d)) [
      | inl here ↦ level_collides f s o u l x y up here
      | inr below ↦ elim (cases_eq n 0) [
        | inl z ↦ absurd (rw z at below.1)
        | inr nz ↦
            let full = siblings_full s o t l w.first_full (omega arith) in
            let other = siblings_full s u t l w.second_full (omega arith) in
            let inside = in_group s l o.index w.well_shaped in
            let same = w.together l (omega arith) (omega arith) in
            levels_collide f s o u m t w n (omega arith) x y
            (level_keeps f s o u l same (omega arith) (omega arith) below.0) below.1
      ]
    ]

-- ---- the whole check

pub anc_same : (s : Shape) (m i j : ℕ) → ancestor s m i ≡ ancestor s m j → (k : ℕ) → ancestor s (m + k) i
    ≡ ancestor s (m + k) j
anc_same s m i j e zero = let z : m + 0 ≡ m = omega arith in rw z e
anc_same s m i j e (suc k) = rw (add-suc, anc_next s (m + k) i, anc_next s (m + k) j, anc_same s m i j e k) refl

joined_from_0 : {A : Type 0} (g : ℕ → List A) (n : ℕ) → joined g n ≡ joined (λ k. g (0 + k)) n
joined_from_0 g zero = refl
joined_from_0 g (suc n) = let z : 0 + n ≡ n = omega arith in joined_more g n
    ∙ rw (joined_from_0 g n) (ap (λ k. joined (λ k. g (0 + k)) n ++ g k) (sym z)) ∙ sym (joined_more (λ k. g (0 + k)) n)

first_piece : {A : Type 0} (g h : ℕ → List A) (n : ℕ) → ((k : ℕ) → length (g k) ≡ length (h k)) → joined g (suc n)
    ≡ joined h (suc n) → g 0 ≡ h 0
first_piece g h n e same =
    (same_ends (g 0) (h 0) (flat_map g (range_with_len 1 n)) (flat_map h (range_with_len 1 n)) (e 0) same).0

-- two accepted openings of one cap, and the last difference of what their checks share: one digest
pub collides : {T W : Type 0} (f : Functions T W) (s : Shape) (t : ℕ) (cap : List (List W)) (o u : Opening T W) →
    IsArity s.arity →
    IsAccepted (params f s t) cap o → IsAccepted (params f s t) cap u → (x y : Input T W) →
    IsLastDifference (shared_inputs (params f s t) o.index u.index o) (shared_inputs (params f s t) o.index u.index u) x
    y → input_digest f x ≡ input_digest f y
collides f s t cap o u w a b x y d =
    let m = meeting_level s t o.index u.index in
    elim (cases_eq o.index u.index) [
      | inl e ↦
          let test = eq-eqb o.index u.index e in
          let top : path_digest f s o t ≡ path_digest f s u t = let c = accepted_walk f s t cap o a in
          let c' = accepted_walk f s t cap u b in let k = ap (λ i. slice_get cap (ancestor s t i)) e in cc in
          let meet : Meet s o u 0 t =
          record {
            first_full = a.count;
            second_full = b.count;
            together = λ l h k. ap (λ i. position_in_group s l i) e;
            well_shaped = w;
          } in
          elim (rw test at d) [
            | inl higher ↦
                let z : 0 + t ≡ t = omega arith in
                levels_collide f s o u 0 t meet t (omega arith) x y (rw z top)
                (rw (joined_from_0 (inputs_at f s o) t, joined_from_0 (inputs_at f s u) t) at higher)
            | inr leaf ↦
                let bottom : path_digest f s o 0
                ≡ path_digest f s u 0 = leaves_equal f s o u t w a.count b.count e top leaf.0 in
                rw (← leaf.1, ← leaf.2) (sym (reached_leaf f s o) ∙ bottom ∙ reached_leaf f s u)
          ]
      | inr ne ↦
          let test = ne_eqb o.index u.index ne in
          let n = rw test at d in
          elim (cases_lt m t) [
            | inl lt ↦
                let p : ℕ → Bool = λ l. eqb (ancestor s (suc l) o.index) (ancestor s (suc l) u.index) in
                let join = eqb-true (ancestor s (suc m) o.index) (ancestor s (suc m) u.index) (least_passes p t lt) in
                let above : (l : ℕ) → m < l → ancestor s l o.index
                ≡ ancestor s l u.index =
                λ l h. (let z : suc m + (l - suc m) ≡ l = omega arith in
                rw z at (anc_same s (suc m) o.index u.index join (l - suc m))) in
                let top : path_digest f s o t ≡ path_digest f s u t = let c = accepted_walk f s t cap o a in
                let c' = accepted_walk f s t cap u b in let k = ap (λ i. slice_get cap i) (above t lt) in cc in
                let z : m + (t - m) ≡ t = omega arith in
                levels_collide f s o u m t
                (record {
                  first_full = a.count;
                  second_full = b.count;
                  together = λ l h k. ap (λ i. i % step s l) (above l h);
                  well_shaped = w;
                })
                (t - m) (omega arith) x y (rw z top) n
            | inr ge ↦ let z : t - m ≡ 0 = omega arith in absurd (rw z at n)
          ]
    ]
  where
    leaves_equal : {T W : Type 0} (f : Functions T W) (s : Shape) (o u : Opening T W) (t : ℕ) → IsArity s.arity →
        length o.siblings ≡ siblings_below s t → length u.siblings ≡ siblings_below s t →
        o.index ≡ u.index → path_digest f s o t ≡ path_digest f s u t → joined (inputs_at f s o) t
        ≡ joined (inputs_at f s u) t → path_digest f s o 0 ≡ path_digest f s u 0
    leaves_equal f s o u zero w a b e top same = top
    leaves_equal f s o u (suc t) w a b e top same =
        let full = siblings_full s o (suc t) 0 a (omega arith) in
        let other = siblings_full s u (suc t) 0 b (omega arith) in
        let inside = in_group s 0 o.index w in
        level_keeps f s o u 0 (ap (λ i. position_in_group s 0 i) e) (omega arith) (omega arith)
        (first_piece (inputs_at f s o) (inputs_at f s u) t (level_lengths f s o u) same)
