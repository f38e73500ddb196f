-- The last difference of two checks: there is none exactly if they agree wherever they share a place, and else it is a
-- collision. The first pair of places at which something is found.
use Rattle.std.proofs.Common.{◌≡◌, ◌≢◌, ◌↔◌, ℕ, ◌+◌, Bool, List, [], ◌∷◌, refl, ap, sym, ◌∙◌, arith, inl, inr, length}
use Rattle.std.proofs.Common.{Option, Some, None, eq-eqb, ◌⊎◌, zero, suc, ◌<◌, ◌≤◌}
use Rattle.std.proofs.lemmas.Grind.{common_steps}
use Rattle.std.proofs.lemmas.Bool.{cases_Bool}
use Rattle.std.proofs.lemmas.Bool.{cases_eq, cond-false, and_parts, and_from, eqb-true, ne_eqb, true≢false, false≢true}
use Rattle.std.specs.Option.{option_or, option_map}
use Rattle.std.specs.Cmp.Lexicographic.{pointwise_decides}
use Rattle.std.specs.List.{range_with_len}
use Rattle.p3_merkle_core.specs.Checks.{AgreeWhereShared, Input, IsAccepted, IsLastDifference, shared_inputs}
use Rattle.p3_merkle_core.specs.Checks.{params, Params, Words, Digests, HasDigests}
use Rattle.p3_merkle_core.specs.Extraction.{difference_of, input_eq, last_difference, IsCollision, place_eq, content_eq}
use Rattle.p3_merkle_core.specs.Extraction.{first_pair}
use Rattle.p3_merkle_core.specs.Geometry.{IsArity, Shape}
use Rattle.p3_merkle_core.specs.Nodes.{Functions}
use Rattle.p3_merkle_core.specs.Openings.{Opening}
use Rattle.p3_merkle_core.specs.Refusals.{IsEquality}
use Rattle.p3_answers.specs.Answers.{unless, first_of}
use Rattle.p3_merkle_core.specs.declared.collision.Place.TheVariants.{Leaf, Group, Rows, Pair}
use Rattle.p3_answers.proofs.AnswerFacts.{none_unless, map_none, none_map, range_none}
use Rattle.p3_merkle_core.proofs.Collisions.Extraction.{collides, level_lengths}
use Rattle.p3_merkle_core.proofs.Checks.InputFacts.{of_last_difference, shared_full, at_one_place}
use Rattle.p3_merkle_core.proofs.Lists.ListFacts.{joined_same_length}
use Rattle.p3_merkle_core.proofs.Pruned.Unrefused.{all_in_range}

-- ---- the test on inputs

place_eq_decides : IsEquality place_eq
place_eq_decides Leaf Leaf = (λ e. refl, λ e. refl)
place_eq_decides Leaf (Group m) = (λ e. absurd (false≢true e), λ e. absurd cc)
place_eq_decides Leaf (Rows m) = (λ e. absurd (false≢true e), λ e. absurd cc)
place_eq_decides Leaf (Pair m) = (λ e. absurd (false≢true e), λ e. absurd cc)
place_eq_decides (Group l) Leaf = (λ e. absurd (false≢true e), λ e. absurd cc)
place_eq_decides (Group l) (Group m) = (λ e. ap Group (eqb-true l m e), λ e. eq-eqb l m cc)
place_eq_decides (Group l) (Rows m) = (λ e. absurd (false≢true e), λ e. absurd cc)
place_eq_decides (Group l) (Pair m) = (λ e. absurd (false≢true e), λ e. absurd cc)
place_eq_decides (Rows l) Leaf = (λ e. absurd (false≢true e), λ e. absurd cc)
place_eq_decides (Rows l) (Group m) = (λ e. absurd (false≢true e), λ e. absurd cc)
place_eq_decides (Rows l) (Rows m) = (λ e. ap Rows (eqb-true l m e), λ e. eq-eqb l m cc)
place_eq_decides (Rows l) (Pair m) = (λ e. absurd (false≢true e), λ e. absurd cc)
place_eq_decides (Pair l) Leaf = (λ e. absurd (false≢true e), λ e. absurd cc)
place_eq_decides (Pair l) (Group m) = (λ e. absurd (false≢true e), λ e. absurd cc)
place_eq_decides (Pair l) (Rows m) = (λ e. absurd (false≢true e), λ e. absurd cc)
place_eq_decides (Pair l) (Pair m) = (λ e. ap Pair (eqb-true l m e), λ e. eq-eqb l m cc)

content_eq_decides : {T W : Type 0} (row_eq : T → T → Bool) (digest_eq : W → W → Bool) → IsEquality row_eq →
    IsEquality digest_eq → IsEquality (content_eq row_eq digest_eq)
content_eq_decides row_eq digest_eq dec dec_w (Words x) (Words y) =
    (λ e. ap Words ((pointwise_decides dec x y).0 e), λ e. (pointwise_decides dec x y).1 cc)
content_eq_decides row_eq digest_eq dec dec_w (Words x) (Digests y) = (λ e. absurd (false≢true e), λ e. absurd cc)
content_eq_decides row_eq digest_eq dec dec_w (Digests x) (Words y) = (λ e. absurd (false≢true e), λ e. absurd cc)
content_eq_decides row_eq digest_eq dec dec_w (Digests x) (Digests y) =
    let both = pointwise_decides (pointwise_decides dec_w) x y in
    (λ e. ap Digests (both.0 e), λ e. both.1 cc)

pub input_eq_decides : {T W : Type 0} (row_eq : T → T → Bool) (digest_eq : W → W → Bool) → IsEquality row_eq →
    IsEquality digest_eq → IsEquality (input_eq row_eq digest_eq)
input_eq_decides {T} {W} row_eq digest_eq dec dec_w x y =
    grind (arith, common_steps, and_parts, and_from, place_eq_decides, content_eq_decides)

-- ---- the last difference

pub none_differs : {X : Type 0} (test : X → X → Bool) → IsEquality test → (xs ys : List X) → length xs ≡ length ys →
    (last_difference test xs ys ≡ None) ↔ (xs ≡ ys)
none_differs test dec [] [] same = (λ e. refl, λ e. refl)
none_differs test dec [] (y ∷ ys) same = absurd (omega arith)
none_differs test dec (x ∷ xs) [] same = absurd (omega arith)
none_differs test dec (x ∷ xs) (y ∷ ys) same = grind (arith, common_steps, none_differs test dec xs ys (omega arith))

here_or_later : {X : Type 0} (test : X → X → Bool) → IsEquality test → (x y : X) (xs ys : List X) (a b : X) → length xs
    ≡ length ys → (last_difference test xs ys ≡ Some (a, b) → IsLastDifference xs ys a b) →
    (o : Option (X × X)) → last_difference test xs ys ≡ o → option_or o (unless (test x y) (x, y)) ≡ Some (a, b) →
    IsLastDifference (x ∷ xs) (y ∷ ys) a b
here_or_later test dec x y xs ys a b same below (Some p) is e = inl (below (is ∙ e))
here_or_later {X} test dec x y xs ys a b same below None is e =
    grind (arith, common_steps, cases_Bool, cond-false, true≢false, none_unless, none_differs)

pub some_differs : {X : Type 0} (test : X → X → Bool) → IsEquality test → (xs ys : List X) (a b : X) → length xs
    ≡ length ys → last_difference test xs ys ≡ Some (a, b) → IsLastDifference xs ys a b
some_differs test dec [] ys a b same e = absurd cc
some_differs test dec (x ∷ xs) [] a b same e = absurd (omega arith)
some_differs test dec (x ∷ xs) (y ∷ ys) a b same e =
    here_or_later test dec x y xs ys a b (omega arith) (λ is. some_differs test dec xs ys a b (omega arith) is)
    (last_difference test xs ys) refl e

pub differs : {X : Type 0} (xs ys : List X) (a b : X) → IsLastDifference xs ys a b → a ≢ b
differs [] ys a b d = absurd d
differs (x ∷ xs) [] a b d = absurd d
differs (x ∷ xs) (y ∷ ys) a b (inl d) = differs xs ys a b d
differs (x ∷ xs) (y ∷ ys) a b (inr d) = d.3

-- ---- extraction

pub shared_long : {T W : Type 0} (f : Functions T W) (s : Shape) (t : ℕ) (o u : Opening T W) →
    length (shared_inputs (params f s t) o.index u.index o) ≡ length (shared_inputs (params f s t) o.index u.index u)
shared_long f s t o u = grind (arith, common_steps, eq-eqb, cases_eq, ne_eqb, level_lengths, joined_same_length)

-- two checks have no difference exactly where they agree wherever they share a place
pub no_difference : {T W : Type 0} (row_eq : T → T → Bool) (digest_eq : W → W → Bool) (c : Params T W)
    (o u : Opening T W) → IsEquality row_eq → IsEquality digest_eq →
    (difference_of row_eq digest_eq c o u ≡ None) ↔ AgreeWhereShared c o u
no_difference row_eq digest_eq c o u dec dec_w =
    none_differs (input_eq row_eq digest_eq) (input_eq_decides row_eq digest_eq dec dec_w)
    (shared_inputs c o.index u.index o) (shared_inputs c o.index u.index u)
    (shared_long c.functions c.shape c.layer o u)

-- and of two accepted openings it is a collision
pub difference_collides : {T W : Type 0} (row_eq : T → T → Bool) (digest_eq : W → W → Bool) (c : Params T W)
    (cap : List (List W)) (o u : Opening T W) → IsEquality row_eq → IsEquality digest_eq → IsArity c.shape.arity →
    IsAccepted c cap o → IsAccepted c cap u → (found : Input T W × Input T W) → difference_of row_eq digest_eq c o u
    ≡ Some found → IsCollision c o u found
difference_collides row_eq digest_eq c cap o u dec dec_w w first second found is =
    let f = c.functions in
    let s = c.shape in
    let t = c.layer in
    let mine = shared_inputs c o.index u.index o in
    let theirs = shared_inputs c o.index u.index u in
    let last = some_differs (input_eq row_eq digest_eq) (input_eq_decides row_eq digest_eq dec dec_w) mine theirs
    found.0 found.1 (shared_long f s t o u) is in
    let full = of_last_difference (HasDigests s.arity) mine theirs found.0 found.1
    (shared_full f s t o.index u.index o w first.count) (shared_full f s t o.index u.index u w second.count) last in
    record {
      last = last;
      at_one_place = at_one_place f s t o u found.0 found.1 last;
      different = differs mine theirs found.0 found.1 last;
      first_full = full.0;
      second_full = full.1;
      one_digest = collides f s t cap o u w first second found.0 found.1 last;
    }

-- ---- the first that is found

map_some : {X Y : Type 0} (g : X → Y) (o : Option X) (y : Y) → option_map g o ≡ Some y → (x : X) × (o ≡ Some x) ×
    (g x ≡ y)
map_some g None y e = absurd cc
map_some g (Some x) y e = (x, refl, let c : g x ≡ y = cc in c)

abbrev IsFirst : {E : Type 0} → (ℕ → Option E) → ℕ → ℕ → E → ℕ → Type 0
IsFirst h a n y i = (a ≤ i) × (i < a + n) × (h i ≡ Some y) × ((k : ℕ) → a ≤ k → k < i → h k ≡ None)

first_found : {E : Type 0} (h : ℕ → Option E) (a n : ℕ) (y : E) → first_of h (range_with_len a n) ≡ Some y →
    (i : ℕ) × IsFirst h a n y i
first_found h a zero y e = absurd cc
first_found h a (suc n) y e = from (h a) refl e (λ f. first_found h (a + 1) n y f)
  where
    from : (o : Option _) → h a ≡ o → option_or o (first_of h (range_with_len (a + 1) n)) ≡ Some y →
        (first_of h (range_with_len (a + 1) n) ≡ Some y → (i : ℕ) × IsFirst h (a + 1) n y i) →
        (i : ℕ) × IsFirst h a (suc n) y i
    from (Some x) is e later = (a, (omega arith, omega arith, is ∙ e, λ k low high. absurd (omega arith)))
    from None is e later =
        let r = later e in
        let low = r.1.0 in
        let high = r.1.1 in (
          r.0,
          (
            omega arith,
            omega arith,
            r.1.2,
            λ k from_a below.
                elim (cases_eq k a) [ inl z ↦ rw z is | inr nz ↦ r.1.3 k (omega arith) below ],
          ),
        )

abbrev earlier : ℕ → ℕ → ℕ → ℕ → Type 0
earlier a b c d = (a < c) ⊎ ((a ≡ c) × (b < d))

pub no_pair : {X : Type 0} (d : ℕ → ℕ → Option X) (n m : ℕ) →
    (first_pair d n m ≡ None) ↔ ((a b : ℕ) → a < n → b < m → d a b ≡ None)
no_pair d n m = (
  λ e a b h g.
      let row = range_none (λ a. first_of (λ b. option_map (λ x. (a, b, x)) (d a b)) (range_with_len 0 m)) 0 n a e
      (omega arith) (omega arith) in
      map_none (λ x. (a, b, x)) (d a b)
      (range_none (λ b. option_map (λ x. (a, b, x)) (d a b)) 0 m b row (omega arith) (omega arith)),
  λ e. all_in_range (λ a. first_of (λ b. option_map (λ x. (a, b, x)) (d a b)) (range_with_len 0 m)) 0 n (λ a low high.
      all_in_range (λ b. option_map (λ x. (a, b, x)) (d a b)) 0 m
      (λ b from below. none_map (λ x. (a, b, x)) (d a b) (e a b (omega arith) (omega arith)))),
)

pub one_pair : {X : Type 0} (d : ℕ → ℕ → Option X) (n m a b : ℕ) (x : X) → first_pair d n m ≡ Some (a, b, x) →
    (a < n) × (b < m) × (d a b ≡ Some x) × ((c e : ℕ) → earlier c e a b → e < m → d c e ≡ None)
one_pair {X} d n m a b x e =
    let h : ℕ → Option (ℕ × ℕ × X) = λ a. first_of (λ b. option_map (λ x. (a, b, x)) (d a b)) (range_with_len 0 m) in
    let g : ℕ → ℕ → Option (ℕ × ℕ × X) = λ a b. option_map (λ x. (a, b, x)) (d a b) in
    let found : ℕ × ℕ × X = (a, b, x) in
    let row = first_found h 0 n found e in
    let column = first_found (g (row.0)) 0 m found (row.1.2) in
    let value = map_some (λ (x : X). let p : ℕ × ℕ × X = (row.0, column.0, x) in p) (d (row.0) (column.0)) found
    (column.1.2) in
    let is_a : row.0 ≡ a = ap (λ (p : ℕ × ℕ × X). p.0) value.2 in
    let is_b : column.0 ≡ b = ap (λ (p : ℕ × ℕ × X). p.1) value.2 in
    let is_x : value.0 ≡ x = ap (λ (p : ℕ × ℕ × X). p.2) value.2 in
    let high = row.1.1 in
    let wide = column.1.1 in (
      omega arith,
      omega arith,
      ap (λ k. d k b) (sym is_a) ∙ ap (λ k. d (row.0) k) (sym is_b) ∙ value.1 ∙ ap (λ y. Some y) is_x,
      λ c k before inside. elim before [
        | inl above ↦
            map_none (λ x. (c, k, x)) (d c k)
            (range_none (g c) 0 m k (row.1.3 c (omega arith) (omega arith)) (omega arith) (omega arith))
        | inr beside ↦
            let same : row.0 ≡ c = is_a ∙ sym beside.0 in
            let left = column.1.3 k (omega arith) (let z = beside.1 in omega arith) in
            rw (← same) (map_none (λ x. (row.0, k, x)) (d (row.0) k) left)
      ],
    )
