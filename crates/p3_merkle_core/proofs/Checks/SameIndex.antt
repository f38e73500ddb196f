-- At one index, two accepted openings have the same inputs exactly if they have the same siblings and the same rows up
-- to the cap layer: those of the authenticated matrices.
use Rattle.std.proofs.Common.{◌≡◌, ◌↔◌, ℕ, zero, suc, ◌-◌, ◌<◌, ◌≤◌, List, ◌++◌, refl, ap, sym, ◌∙◌, subst, arith}
use Rattle.std.proofs.Common.{length, take, take-add, drop, insert, replicate, flat_map, eq-eqb, true, eqb, get_or}
use Rattle.std.proofs.lemmas.Grind.{common_steps}
use Rattle.std.proofs.lemmas.List.{take_all, length-map}
use Rattle.std.proofs.lemmas.List.Edits.{length-insert}
use Rattle.std.proofs.lemmas.Bool.{eqb-true, leb-true, le-leb}
use Rattle.p3_merkle_core.specs.Geometry.{Shape, IsArity, step, ancestor, position_in_group, heights, exponent}
use Rattle.p3_merkle_core.specs.Geometry.{layer_exponent, layer_of, levels, halved_index}
use Rattle.p3_merkle_core.specs.Nodes.{Functions}
use Rattle.p3_merkle_core.specs.Openings.{Opening}
use Rattle.p3_merkle_core.specs.Checks.{IsAccepted, inputs, inputs_at}
use Rattle.p3_merkle_core.specs.Checks.{shared_inputs, group_at, path_digest, layer_words, layer_rows, siblings_at}
use Rattle.p3_merkle_core.specs.Checks.{siblings_below, params, AgreeWhereShared, is_authenticated, opened_row}
use Rattle.p3_merkle_core.proofs.Checks.CheckFacts.{full_group, group_first, same_group}
use Rattle.p3_merkle_core.proofs.Checks.Completeness.{reached_leaf, reached_next}
use Rattle.p3_merkle_core.proofs.Checks.PathFacts.{joined_same}
use Rattle.p3_merkle_core.proofs.Collisions.Extraction.{siblings_full, in_group}
use Rattle.p3_merkle_core.proofs.Checks.Binding.{level_shared, rows_bound}
use Rattle.p3_merkle_core.proofs.Lists.ListFacts.{insert_same, joined, joined_more, same_ends}
use Rattle.p3_merkle_core.proofs.Shapes.LeastFacts.{least_bound, widths_in_pairs}
use Rattle.p3_merkle_core.proofs.Shapes.LadderFacts.{layer_of_is, row_is_anc}
use Rattle.p3_merkle_core.proofs.Pruned.Unrefused.{kept_same}
use Rattle.p3_merkle_core.proofs.Pruned.Answered.{same_kept}
use Rattle.std.specs.Prelude.{IsTrue}
use Rattle.p3_support.specs.Batches.{greatest}

-- ---- siblings

siblings_joined : {X : Type 0} (s : Shape) (xs : List X) (n : ℕ) → take (siblings_below s n) xs
    ≡ joined (λ l. take (step s l - 1) (drop (siblings_below s l) xs)) n
unfolding siblings_below
siblings_joined s xs zero = refl
siblings_joined s xs (suc n) = take-add (siblings_below s n) (step s n - 1) xs
    ∙ ap (λ ys. ys ++ take (step s n - 1) (drop (siblings_below s n) xs)) (siblings_joined s xs n)
    ∙ sym (joined_more (λ l. take (step s l - 1) (drop (siblings_below s l) xs)) n)

all_siblings : {T W : Type 0} (s : Shape) (t : ℕ) (o : Opening T W) → length o.siblings ≡ siblings_below s t →
    o.siblings ≡ joined (siblings_at s o) t
all_siblings s t o e = sym (take_all (siblings_below s t) o.siblings (omega arith)) ∙ siblings_joined s o.siblings t

siblings_alike : {T W : Type 0} (f : Functions T W) (s : Shape) (t : ℕ) (o u : Opening T W) → IsArity s.arity →
    length o.siblings ≡ siblings_below s t → length u.siblings ≡ siblings_below s t → o.index ≡ u.index →
    (l : ℕ) → l < t → inputs_at f s o l ≡ inputs_at f s u l → siblings_at s o l ≡ siblings_at s u l
siblings_alike {T} f s t o u w a b same l h e =
    let g = same_group f s u l (full_group f s o l) _ (sym (group_first f s o l) ∙ e) in
    let p = position_in_group s l o.index in
    let full = siblings_full s o t l a h in
    let other = siblings_full s u t l b h in
    let inside = in_group s l o.index w in
    let first = group_at f s o l (path_digest f s o l) in
    let second = insert (siblings_at s u l) p (path_digest f s u l) in
    let long = length-insert (siblings_at s o l) p (path_digest f s o l) (omega arith) in
    let long_too = length-insert (siblings_at s u l) p (path_digest f s u l) (omega arith) in
    let blanks = λ (v : Opening _ _). replicate (s.arity - length (group_at f s v l (path_digest f s v l)))
    f.default_digest in
    let there : first ++ blanks o
    ≡ second ++ blanks u =
    subst (λ (k : ℕ). first ++ blanks o ≡ insert (siblings_at s u l) k (path_digest f s u l) ++ blanks u)
    (sym (ap (λ i. position_in_group s l i) same)) g in
    insert_same (siblings_at s o l) (siblings_at s u l) p (path_digest f s o l) (path_digest f s u l) (omega arith)
    (same_ends first second (blanks o) (blanks u) (omega arith) there).0

-- ---- from equal siblings and rows

pub words_same : {T : Type 0} (s : Shape) (us vs : List (List T)) (l : ℕ) → layer_rows s us l ≡ layer_rows s vs l →
    layer_words s us l ≡ layer_words s vs l
words_same s us vs l e = ap (λ rs. flat_map (λ (h, row). row) rs) e

group_same : {T W : Type 0} (f : Functions T W) (s : Shape) (o u : Opening T W) (l : ℕ) → o.index ≡ u.index → o.siblings
    ≡ u.siblings → path_digest f s o l ≡ path_digest f s u l →
    group_at f s o l (path_digest f s o l) ≡ group_at f s u l (path_digest f s u l)
group_same f s o u l same sent below = grind (arith, common_steps)

reached_same : {T W : Type 0} (f : Functions T W) (s : Shape) (t : ℕ) (o u : Opening T W) → o.index ≡ u.index →
    o.siblings ≡ u.siblings → ((l : ℕ) → l ≤ t → layer_rows s o.rows l ≡ layer_rows s u.rows l) →
    (n : ℕ) → n ≤ t → path_digest f s o n ≡ path_digest f s u n
reached_same f s t o u same sent rows zero h = reached_leaf f s o ∙ ap f.hash (words_same s o.rows u.rows 0 (rows 0 h))
    ∙ sym (reached_leaf f s u)
reached_same f s t o u same sent rows (suc n) h =
    let group = group_same f s o u n same sent (reached_same f s t o u same sent rows n (omega arith)) in
    let words = words_same s o.rows u.rows (suc n) (rows (suc n) h) in
    reached_next f s o n ∙ rw (group, words) (sym (reached_next f s u n))

pub level_same : {T W : Type 0} (f : Functions T W) (s : Shape) (t : ℕ) (o u : Opening T W) → o.index ≡ u.index →
    o.siblings ≡ u.siblings → ((l : ℕ) → l ≤ t → layer_rows s o.rows l ≡ layer_rows s u.rows l) →
    (l : ℕ) → l < t → inputs_at f s o l ≡ inputs_at f s u l
level_same f s t o u same sent rows l h = grind (arith, common_steps, words_same, group_same, reached_same)

-- ---- both ways

pub same_at_one_index : {T W : Type 0} (f : Functions T W) (s : Shape) (t : ℕ) (cap : List (List W))
    (o u : Opening T W) → IsArity s.arity → IsAccepted (params f s t) cap o → IsAccepted (params f s t) cap u → o.index
    ≡ u.index →
    (shared_inputs (params f s t) o.index u.index o ≡ shared_inputs (params f s t) o.index u.index u) ↔
    ((o.siblings ≡ u.siblings) × ((l : ℕ) → l ≤ t → layer_rows s o.rows l ≡ layer_rows s u.rows l))
same_at_one_index f s t cap o u w a b same = (
  λ e. (
    all_siblings s t o a.count
        ∙ joined_same (siblings_at s o) (siblings_at s u) t
        (λ l h. siblings_alike f s t o u w a.count b.count same l h
        (level_shared f s t o u e l h (ap (λ i. ancestor s (suc l) i) same)))
        ∙ sym (all_siblings s t u b.count),
    λ l h. rows_bound f s t cap o u a b e l h (ap (λ i. ancestor s l i) same),
  ),
  λ (sent, rows).
      let test = eq-eqb o.index u.index same in
      let leaf = words_same s o.rows u.rows 0 (rows 0 (omega arith)) in
      let rest = joined_same (inputs_at f s o) (inputs_at f s u) t (λ l h. level_same f s t o u same sent rows l h) in
      let all : inputs (params f s t) o ≡ inputs (params f s t) u = rw (leaf, rest) refl in
      rw test all,
)

-- an accepted opening has a row for each matrix
pub rows_in_pairs : {T W : Type 0} (f : Functions T W) (s : Shape) (t : ℕ) (cap : List (List W)) (o : Opening T W) →
    IsAccepted (params f s t) cap o → length o.rows ≡ length (heights s)
rows_in_pairs f s t cap o a = sym (length-map o.rows length) ∙ ap length a.rows_fit ∙ widths_in_pairs s

-- rows of a layer that agree, matrix by matrix
row_alike : {T W : Type 0} (s : Shape) (o u : Opening T W) (k : ℕ) → IsArity s.arity → length o.rows
    ≡ length (heights s) → length u.rows ≡ length (heights s) → k < length (heights s) →
    layer_rows s o.rows (layer_of s (get_or (heights s) k 0))
    ≡ layer_rows s u.rows (layer_of s (get_or (heights s) k 0)) → opened_row o k ≡ opened_row u k
row_alike s o u k w a b inside e =
    let h = get_or (heights s) k 0 in
    let x = layer_exponent s (layer_of s h) in
    kept_same x (heights s) o.rows u.rows a b e k inside (eq-eqb (exponent h) x (sym (layer_of_is s w k inside)))

pub authenticated_bound : {T W : Type 0} (f : Functions T W) (s : Shape) (t : ℕ) (cap : List (List W))
    (o u : Opening T W) → IsArity s.arity → IsAccepted (params f s t) cap o → IsAccepted (params f s t) cap u →
    AgreeWhereShared (params f s t) o u →
    (k : ℕ) → k < length (heights s) → IsTrue (is_authenticated s t k) →
    halved_index (greatest (heights s)) (get_or (heights s) k 0) o.index
    ≡ halved_index (greatest (heights s)) (get_or (heights s) k 0) u.index → opened_row o k ≡ opened_row u k
authenticated_bound f s t cap o u w a b e k inside here same =
    grind (arith, common_steps, leb-true, rows_bound, row_is_anc, rows_in_pairs, row_alike)

-- the matrices of a layer up to the cap are authenticated
pub layer_authenticated : (s : Shape) (t l k : ℕ) → l ≤ t → eqb (exponent (get_or (heights s) k 0)) (layer_exponent s l)
    ≡ true → IsTrue (is_authenticated s t k)
layer_authenticated s t l k low here =
    let h = get_or (heights s) k 0 in
    let is = eqb-true (exponent h) (layer_exponent s l) here in
    let bound = least_bound (λ m. eqb (layer_exponent s m) (exponent h)) (levels s) l
    (eq-eqb (layer_exponent s l) (exponent h) (sym is)) in
    le-leb (layer_of s h) t (omega arith)

pub authenticated_at_one_index : {T W : Type 0} (f : Functions T W) (s : Shape) (t : ℕ) (cap : List (List W))
    (o u : Opening T W) → IsArity s.arity → IsAccepted (params f s t) cap o → IsAccepted (params f s t) cap u → o.index
    ≡ u.index →
    AgreeWhereShared (params f s t) o u ↔ ((o.siblings ≡ u.siblings) ×
    ((k : ℕ) → k < length (heights s) → IsTrue (is_authenticated s t k) → opened_row o k ≡ opened_row u k))
authenticated_at_one_index f s t cap o u w a b same =
    let layers = same_at_one_index f s t cap o u w a b same in
    let first = rows_in_pairs f s t cap o a in
    let second = rows_in_pairs f s t cap u b in (
      λ e. (
        (layers.0 e).0,
        λ k inside here. authenticated_bound f s t cap o u w a b e k inside here
            (ap (λ i. halved_index (greatest (heights s)) (get_or (heights s) k 0) i) same),
      ),
      λ (siblings, rows). layers.1 (
        siblings,
        λ l low.
            same_kept (layer_exponent s l) (heights s) o.rows u.rows first second
            (λ m inside here. rows m inside (layer_authenticated s t l m low here)),
      ),
    )
