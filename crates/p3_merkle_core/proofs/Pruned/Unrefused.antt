-- A restorable pruned opening is not refused.
use Rattle.std.proofs.Common.{◌≡◌, ℕ, zero, suc, ◌+◌, ◌<◌, ◌≤◌, Bool, true, false, eqb, nat_lt, ◌&&◌, List, [], ◌∷◌}
use Rattle.std.proofs.Common.{map, refl, ap, sym, ◌∙◌, arith, inl, inr, length, get_or, drop, All, Option, None, filter}
use Rattle.std.proofs.Common.{zip, find, eq-eqb}
use Rattle.std.proofs.lemmas.List.{length-map}
use Rattle.std.proofs.lemmas.Grind.{common_steps}
use Rattle.std.proofs.lemmas.Bool.{cases_Bool, cond-false, eqb-true, lt-ltb, ne_eqb, and_parts, and_from, true≢false}
use Rattle.std.specs.Prelude.{Ok, Decides}
use Rattle.std.specs.Cmp.Lexicographic.{pointwise, pointwise_decides}
use Rattle.std.specs.List.{range_with_len, enumerate_from}
use Rattle.std.specs.Option.{unwrap_or, option_map}
use Rattle.p3_support.specs.declared.matrix.Dimensions.{Dimensions}
use Rattle.p3_support.specs.Lists.{is_among}
use Rattle.p3_support.specs.Batches.{greatest, widths_of}
use Rattle.p3_answers.proofs.AnswerFacts.{none_of_both, none_unless}
use Rattle.p3_merkle_core.proofs.Pruned.SlotFacts.{queried_at}
use Rattle.p3_merkle_core.proofs.Shapes.GateFacts.{gate_lawful}
use Rattle.p3_merkle_core.proofs.Shapes.LeastFacts.{widths_in_pairs, least_passes, least_bound}
use Rattle.p3_merkle_core.proofs.Lists.ListFacts.{joined_more}
use Rattle.p3_merkle_core.specs.Geometry.{Shape, exponent, layer_exponent, ancestor, least, layer_len, heights}
use Rattle.p3_merkle_core.specs.Pruning.{PrunedOpening, is_boundary, boundary, boundary_at, IsRestorable}
use Rattle.p3_merkle_core.specs.Refusals.{lead, matrices_at, slots_below, slot_of, size_refusal}
use Rattle.p3_answers.specs.Answers.{first_of, ok_unless}
use Rattle.p3_merkle_core.specs.Refusals.{idle_refusal, queries_refusal, duplicate_refusal, digest_count_refusal}
use Rattle.p3_merkle_core.specs.Refusals.{width_refusal, row_refusal, group_refusal, pruned_refusal, pruned_answer}
use Rattle.p3_merkle_core.specs.Refusals.{row_width_refusal, width_fault, rows_of}
use Rattle.p3_merkle_core.specs.declared.error.PrunedProofError.TheVariants.{SiblingCountMismatch}
use Rattle.p3_merkle_core.specs.declared.error.PrunedProofError.TheVariants.{InconsistentDuplicateOpenings}
use Rattle.p3_merkle_core.specs.declared.error.PrunedProofError.TheVariants.{InconsistentGroupOpening}
use Rattle.p3_merkle_core.specs.declared.error.MerkleTreeError.TheVariants.{WrongBatchSize}
use Rattle.p3_merkle_core.specs.declared.error.MerkleTreeError.TheVariants.{IndexOutOfBounds, MalformedPrunedProof}

-- ---- over lists

all_none : {E : Type 0} (h : ℕ → Option E) (p : ℕ → Bool) (a n : ℕ) →
    ((i : ℕ) → p i ≡ true → a ≤ i → i < a + n → h i ≡ None) → first_of h (filter p (range_with_len a n)) ≡ None
all_none h p a zero e = refl
all_none h p a (suc n) e =
    let rest = all_none h p (a + 1) n (λ i t low high. e i t (omega arith) (omega arith)) in
    elim (cases_Bool (p a)) [
      | inl t ↦ rw t
          (none_of_both (h a) (first_of h (filter p (range_with_len (a + 1) n))) (e a t (omega arith) (omega arith))
          rest)
      | inr f ↦ rw f rest
    ]

pub all_in_range : {E : Type 0} (h : ℕ → Option E) (a n : ℕ) → ((i : ℕ) → a ≤ i → i < a + n → h i ≡ None) →
    first_of h (range_with_len a n) ≡ None
all_in_range h a zero e = refl
all_in_range h a (suc n) e =
    none_of_both (h a) (first_of h (range_with_len (a + 1) n)) (e a (omega arith) (omega arith))
    (all_in_range h (a + 1) n (λ i low high. e i (omega arith) (omega arith)))

all_pairs : {X E : Type 0} (h : ℕ × X → Option E) (is : List ℕ) (xs : List X) (d : X) → length xs ≡ length is →
    ((k : ℕ) → k < length is → h (get_or is k 0, get_or xs k d) ≡ None) → first_of h (zip is xs) ≡ None
all_pairs h [] xs d same e = refl
all_pairs h (i ∷ is) [] d same e = refl
all_pairs h (i ∷ is) (x ∷ xs) d same e =
    none_of_both (h (i, x)) (first_of h (zip is xs)) (e 0 (omega arith))
    (all_pairs h is xs d (omega arith) (λ k l. e (suc k) (omega arith)))

-- ---- one by one

pub size_none : (expected got : ℕ) → expected ≡ got → size_refusal expected got ≡ None
size_none expected got e = none_unless (eqb expected got) (WrongBatchSize expected got) (eq-eqb expected got e)

count_none : (expected got : ℕ) → expected ≡ got → digest_count_refusal expected got ≡ None
count_none expected got e = none_unless (eqb expected got) (MalformedPrunedProof (SiblingCountMismatch expected got))
    (eq-eqb expected got e)

filter_none : (p : ℕ → Bool) (a n : ℕ) → ((j : ℕ) → p j ≡ false) → filter p (range_with_len a n) ≡ []
filter_none p a zero e = refl
filter_none p a (suc n) e = rw (e a) (filter_none p (a + 1) n e)

-- without queries nothing is sent
idle_boundary : (s : Shape) (t : ℕ) → boundary s [] t ≡ []
idle_boundary s zero = refl
idle_boundary s (suc t) = joined_more (boundary_at s []) t
    ∙ rw (idle_boundary s t, filter_none (is_boundary s [] t) 0 (layer_len s t) (λ j. refl)) refl

idle_none : (s : Shape) (t : ℕ) (indices : List ℕ) (digests : ℕ) → digests ≡ length (boundary s indices t) →
    idle_refusal (length indices) digests ≡ None
idle_none s t [] digests e = count_none 0 digests (let z = ap length (idle_boundary s t) in omega arith)
idle_none s t (i ∷ indices) digests e = cond-false (eqb (suc (length indices)) 0) (digest_count_refusal 0 digests) None
    (ne_eqb (suc (length indices)) 0 (λ z. omega arith))

tallest_below : (m : ℕ) (indices : List ℕ) → 0 < m → All (λ i. i < m) indices → greatest indices < m
tallest_below m [] some below = some
tallest_below m (i ∷ indices) some below =
    omega (arith, below 0 0 (omega arith), tallest_below m indices some (λ k d h. below (suc k) d (omega arith)))

index_none : (m : ℕ) (indices : List ℕ) → 0 < m → All (λ i. i < m) indices → queries_refusal m indices ≡ None
index_none m indices some below = none_unless (nat_lt (greatest indices) m) (IndexOutOfBounds m (greatest indices))
    (lt-ltb (greatest indices) m (tallest_below m indices some below))

pub each_width : {T : Type 0} (n : ℕ) (rows : List (List T)) →
    first_of width_fault (enumerate_from n (zip (map length rows) rows)) ≡ None
each_width n [] = refl
each_width n (r ∷ rows) = grind (arith, common_steps, each_width (n + 1) rows)

width_none : {T : Type 0} (dimensions : List Dimensions) (rows : List (List T)) → map length rows
    ≡ widths_of dimensions → width_refusal dimensions rows ≡ None
width_none dimensions rows e =
    let size : length dimensions ≡ length rows = sym (length-map dimensions (λ d. d.width)) ∙ sym (ap length e)
    ∙ length-map rows length in
    none_of_both (size_refusal (length dimensions) (length rows)) (row_width_refusal (widths_of dimensions) rows)
    (size_none (length dimensions) (length rows) size) (rw (← e) (each_width 0 rows))

-- ---- queries

-- the first row set of a queried index is that of a query of it
first_is : {T : Type 0} (indices : List ℕ) (rows : List (List (List T))) (i : ℕ) → length rows ≡ length indices →
    is_among indices i ≡ true → (k : ℕ) × (k < length indices) × (get_or indices k 0 ≡ i) ×
    (unwrap_or (option_map (λ (j, r). r) (find (λ (j, r). eqb j i) (zip indices rows))) [] ≡ get_or rows k [])
first_is [] rows i e c = absurd (true≢false (sym c))
first_is (j ∷ indices) [] i e c = absurd (omega arith)
first_is (j ∷ indices) (r ∷ rows) i e c =
    elim (cases_Bool (eqb j i)) [
      | inl t ↦ (0, omega arith, eqb-true j i t, rw t refl)
      | inr f ↦ let rest = first_is indices rows i (omega arith) (rw f at c) in
          (suc (rest.0), omega (arith, rest.1), rest.2, rw f (rest.3))
    ]

-- the lowest index under a node is a query under it
lead_is : (s : Shape) (indices : List ℕ) (l i : ℕ) → is_among indices i ≡ true → i < greatest (heights s) →
    (is_among indices (lead s indices l (ancestor s l i)) ≡ true) ×
    (ancestor s l (lead s indices l (ancestor s l i)) ≡ ancestor s l i)
lead_is s indices l i asked below =
    let j = ancestor s l i in
    let p : ℕ → Bool = λ k. is_among indices k && eqb (ancestor s l k) j in
    let here : p i
    ≡ true = and_from (is_among indices i) (eqb (ancestor s l i) j) asked (eq-eqb (ancestor s l i) j refl) in
    let first = least p (greatest (heights s)) in
    let low = least_bound p (greatest (heights s)) i here in
    let both = and_parts (is_among indices first) (eqb (ancestor s l first) j)
    (least_passes p (greatest (heights s)) (omega arith)) in
    (both.0, eqb-true (ancestor s l first) j both.1)

pub kept_same : {T : Type 0} (x : ℕ) (hs : List ℕ) (us vs : List (List T)) → length us ≡ length hs → length vs
    ≡ length hs →
    filter (λ (h, row). eqb (exponent h) x) (zip hs us) ≡ filter (λ (h, row). eqb (exponent h) x) (zip hs vs) →
    (m : ℕ) → m < length hs → eqb (exponent (get_or hs m 0)) x ≡ true → get_or us m [] ≡ get_or vs m []
kept_same x [] us vs a b e m l t = absurd (omega arith)
kept_same x (h ∷ hs) [] vs a b e m l t = absurd (omega arith)
kept_same x (h ∷ hs) (u ∷ us) [] a b e m l t = absurd (omega arith)
kept_same x (h ∷ hs) (u ∷ us) (v ∷ vs) a b e zero l t = let c = rw t at e in
    ap (λ (zs : List (ℕ × List _)). (get_or zs 0 (h, u)).1) c
kept_same x (h ∷ hs) (u ∷ us) (v ∷ vs) a b e (suc m) l t =
    elim (cases_Bool (eqb (exponent h) x)) [
      | inl y ↦ let c = rw y at e in kept_same x hs us vs (omega arith) (omega arith) (ap (λ zs. drop 1 zs) c) m
          (omega arith) t
      | inr n ↦ kept_same x hs us vs (omega arith) (omega arith) (rw n at e) m (omega arith) t
    ]

pub unrefused : {T W : Type 0} (row_eq : T → T → Bool) (s : Shape) (t : ℕ) (p : PrunedOpening T W) →
    ((x y : T) → Decides (row_eq x y) (x ≡ y)) → IsRestorable s t p → pruned_answer row_eq s t p ≡ Ok tt
unrefused row_eq s t p dec w =
    let top = greatest (heights s) in
    let some = w.lawful.some_above_0 in
    let paired = w.agreed.in_pairs in
    let first = first_is p.indices p.rows in
    let long : (k : ℕ) → k < length p.indices → length (get_or p.rows k []) ≡ length (heights s) =
    λ k h. sym (length-map (get_or p.rows k []) length) ∙ ap length (w.rows_fit k [] (omega arith))
    ∙ widths_in_pairs s in
    let gate = (gate_lawful (heights s)).1 w.lawful in
    let size = size_none (length p.indices) (length p.rows) (sym paired) in
    let idle = idle_none s t p.indices (length p.digests) w.count in
    let index = index_none top p.indices some w.below in
    let repeat : duplicate_refusal row_eq p ≡ None = all_pairs _ p.indices p.rows [] paired (λ k h.
    let i = get_or p.indices k 0 in
    let f = first i paired (queried_at p.indices k h) in
    none_unless (pointwise (pointwise row_eq) (get_or p.rows k []) (rows_of p i))
    (MalformedPrunedProof (InconsistentDuplicateOpenings (slot_of p.indices i)))
    ((pointwise_decides (pointwise_decides dec) (get_or p.rows k []) (rows_of p i)).1
    (w.agreed.repeats k (f.0) h (f.1) (sym f.2) ∙ sym f.3))) in
    let count = count_none (length (boundary s p.indices t)) (length p.digests) (sym w.count) in
    let widths_none = all_none (λ i. width_refusal s.dimensions (rows_of p i)) (is_among p.indices) 0 top
    (λ i asked low high.
    let f = first i paired asked in
    width_none s.dimensions (rows_of p i) (ap (λ rows. map length rows) f.3
    ∙ w.rows_fit (f.0) [] (let z = f.1 in omega arith))) in
    let group : group_refusal row_eq s t p ≡ None =
    all_in_range (λ l. first_of (λ i. first_of (row_refusal row_eq s p l i) (matrices_at s l))
    (slots_below top p.indices)) 0 (suc t) (λ l low high.
    all_none (λ i. first_of (row_refusal row_eq s p l i) (matrices_at s l)) (is_among p.indices) 0 top
    (λ i asked from below.
    all_none (row_refusal row_eq s p l i) (λ m. eqb (exponent (get_or (heights s) m 0)) (layer_exponent s l)) 0
    (length (heights s)) (λ m here start inside.
    let k = lead s p.indices l (ancestor s l i) in
    let lowest = lead_is s p.indices l i asked (omega arith) in
    let f = first i paired asked in
    let g = first k paired lowest.0 in
    let together : ancestor s l (get_or p.indices (f.0) 0) ≡ ancestor s l (get_or p.indices (g.0) 0) =
    ap (λ n. ancestor s l n) f.2 ∙ sym lowest.1 ∙ sym (ap (λ n. ancestor s l n) g.2) in
    let rows = kept_same (layer_exponent s l) (heights s) (get_or p.rows (f.0) []) (get_or p.rows (g.0) [])
    (long (f.0) (f.1)) (long (g.0) (g.1))
    (w.agreed.groups l (f.0) (g.0) (omega arith) (f.1) (g.1) together) m (omega arith) here in
    let x = get_or (rows_of p i) m [] in
    let y = get_or (rows_of p k) m [] in
    none_unless (pointwise row_eq x y) (MalformedPrunedProof (InconsistentGroupOpening (slot_of p.indices i) m))
    ((pointwise_decides dec x y).1 (ap (λ rs. get_or rs m []) f.3 ∙ rows ∙ sym (ap (λ rs. get_or rs m []) g.3)))))) in
    let none : pruned_refusal row_eq s t p
    ≡ None = rw (gate, size, idle, index, repeat, count, widths_none, group) refl in
    ap (λ refusal. ok_unless refusal (tt {0})) none
