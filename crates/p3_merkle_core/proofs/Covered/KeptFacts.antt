-- The paths that are read out of a walk's kept levels.
use Rattle.std.proofs.Common.{◌≡◌, ℕ, zero, suc, ◌+◌, ◌-◌, ◌*◌, ◌/◌, ◌%◌, ◌<◌, ◌≤◌, true, eqb, nat_lt, List, [], ◌∷◌}
use Rattle.std.proofs.Common.{◌++◌, map, refl, ap, sym, ◌∙◌, arith, add-one, inl, inr, length, filter, get_or, take}
use Rattle.std.proofs.Common.{drop, remove, subst, length-drop, eq-eqb, append_assoc, drop-cons, fold}
use Rattle.std.proofs.Math.Nat.{div-div-eq-div-mul, mul-le-mul_left, mul-suc}
use Rattle.std.proofs.Math.Seq.{drop-append-add}
use Rattle.std.proofs.lemmas.Bool.{cases_lt, eqb-true, or_cases, or_left, or_right, true≢false, lt-ltb, le-ltb}
use Rattle.std.proofs.lemmas.Grind.{common_steps}
use Rattle.std.proofs.lemmas.List.{map-append, take-append-le, take_all, take_more}
use Rattle.std.proofs.lemmas.List.{get_or-map, get_or_default, length-map, get_or-drop}
use Rattle.std.proofs.lemmas.List.Edits.{get_or-remove_above, get_or-remove_below, length-remove}
use Rattle.std.proofs.lemmas.List.Folds.{Any-from_list_any}
use Rattle.std.proofs.lemmas.List.FromFn.{length-range_with_len, map-range_with_len_more, take-map-range_with_len}
use Rattle.std.proofs.lemmas.List.Kept.{AllPairs-from_increasing}
use Rattle.std.proofs.lemmas.List.Sums.{fold-append}
use Rattle.std.proofs.lemmas.Simd.{map-map}
use Rattle.std.specs.List.{enumerate_from, flat_map, range_with_len, take-map, drop-map}
use Rattle.std.specs.List.Sorted.{IsStrictlyIncreasing}
use Rattle.p3_merkle_core.specs.Inner.Children.{children_at, children_under, node_over, siblings_on_path, paths_out_of}
use Rattle.p3_merkle_core.specs.Inner.Children.{levels_in, place_among, siblings_out_of, AreLinked, IsLinked}
use Rattle.p3_merkle_core.specs.declared.pruning.CoveredLayer.{CoveredLayer}
use Rattle.p3_merkle_core.specs.Geometry.{Shape, step, ancestor, layer_len, leaves_under, schedule_below}
use Rattle.p3_merkle_core.specs.Nodes.{Functions}
use Rattle.p3_merkle_core.specs.Pruning.{CanQuery, PrunedOpening, is_covered, value_of, restored_paths}
use Rattle.p3_merkle_core.specs.Inner.Covered.{covered_at}
use Rattle.p3_merkle_core.specs.Checks.{params}
use Rattle.p3_support.specs.Lists.{is_among}
use Rattle.p3_merkle_core.proofs.Covered.CoveredFacts.{covered_listed}
use Rattle.p3_merkle_core.proofs.Lists.ListFacts.{joined}
use Rattle.p3_merkle_core.proofs.Checks.PathFacts.{joined_same, piece}
use Rattle.p3_merkle_core.proofs.Lists.RisingFacts.{IsRising, rising_from, rising_filter, increasing_from}
use Rattle.p3_merkle_core.proofs.Shapes.StepFacts.{anc_next}
use Rattle.p3_merkle_core.proofs.Covered.ValueFacts.{map_children}

-- ---- places

none_below : (p a : ℕ) (xs : List ℕ) → p ≤ a → IsRising a xs → filter (λ x. nat_lt x p) xs ≡ []
none_below p a [] le r = refl
none_below p a (x ∷ xs) le r = let f = le-ltb x p (omega (arith, r.0)) in
    rw f (none_below p (suc x) xs (omega (arith, r.0)) r.1)

rising_at : (a : ℕ) (xs : List ℕ) (k : ℕ) → IsRising a xs → k < length xs → a ≤ get_or xs k 0
rising_at a [] k r h = absurd (omega arith)
rising_at a (x ∷ xs) zero r h = r.0
rising_at a (x ∷ xs) (suc k) r h = omega (arith, r.0, rising_at (suc x) xs k r.1 (omega arith))

place_rising : (a : ℕ) (xs : List ℕ) (k : ℕ) → IsRising a xs → k < length xs → place_among xs (get_or xs k 0) ≡ k
place_rising a [] k r h = absurd (omega arith)
place_rising a (x ∷ xs) zero r h = let f = le-ltb x x (omega arith) in
    rw f (ap length (none_below x (suc x) xs (omega arith) r.1))
place_rising a (x ∷ xs) (suc k) r h =
    grind (arith, common_steps, place_rising (suc x) xs k r.1 (omega arith), lt-ltb, rising_at)

-- a number of an ascending list stands at its place
pub placed : (xs : List ℕ) (k p : ℕ) → IsStrictlyIncreasing xs → k < length xs → get_or xs k 0 ≡ p →
    place_among xs p ≡ k
placed xs k p up h e = rw (← e) (place_rising 0 xs k (rising_from xs up) h)

-- where a listed number stands
found_at : (xs : List ℕ) (x : ℕ) → is_among xs x ≡ true → (k : ℕ) × (k < length xs) × (get_or xs k 0 ≡ x)
found_at xs x h =
    let q = Any-from_list_any (λ y. eqb y x) xs h in
    (q.0, q.2, get_or_default xs q.0 0 q.1 q.2 ∙ q.3 ∙ eqb-true q.1 x q.4)

-- and a listed one is found there
pub at_place : (xs : List ℕ) (x : ℕ) → IsStrictlyIncreasing xs → is_among xs x ≡ true →
    (place_among xs x < length xs) × (get_or xs (place_among xs x) 0 ≡ x)
at_place xs x up h = grind (arith, common_steps, placed, found_at)

-- what is at most a listed number stands no later
pub not_past : (xs : List ℕ) (x k : ℕ) → IsStrictlyIncreasing xs → is_among xs x ≡ true → k < length xs →
    get_or xs k 0 ≤ x → k ≤ place_among xs x
not_past xs x k up h inside low =
    let at = at_place xs x up h in
    elim (cases_lt (place_among xs x) k) [
      | inl less ↦
          absurd (omega (arith, AllPairs-from_increasing xs up (place_among xs x) k 0 less inside, at.1))
      | inr rest ↦ omega arith
    ]

-- ---- one group

-- one digest more of a group without the place p: the one at `place`, or up to p the one before it
pub other_more : {X : Type 0} (group : List X) (p place back : ℕ) (old before after : List X) (x : X) →
    p < length group → 1 ≤ place → place < length group → (place ≤ p → back ≡ 1) → (p < place → back ≡ 0) →
    x ≡ get_or group (place - back) x → before ≡ old ++ take (place - 1) (remove group p) → after ≡ before ++ x ∷ [] →
    after ≡ old ++ take (place + 1 - 1) (remove group p)
other_more group p place back old before after x inside begun more low high read is_before is_after =
    let others = remove group p in
    let long = length-remove group p inside in
    let next : place + 1 - 1 ≡ (place - 1) + 1 = omega arith in
    let other : x ≡ get_or others (place - 1) x = elim (cases_lt p place) [
      | inl above ↦ let at : place - back ≡ (place - 1) + 1 = omega (arith, high above) in
          read ∙ ap (λ k. get_or group k x) at ∙ sym (get_or-remove_above group p x (place - 1) (omega arith) inside)
      | inr below ↦ let at : place - back ≡ place - 1 = omega (arith, low below) in
          read ∙ ap (λ k. get_or group k x) at ∙ sym (get_or-remove_below group p x (place - 1) (omega arith) inside)
    ] in
    is_after ∙ ap (λ ys. ys ++ x ∷ []) is_before ∙ append_assoc old (take (place - 1) others) (x ∷ [])
    ∙ ap (λ y. old ++ (take (place - 1) others ++ y ∷ [])) other
    ∙ ap (λ ys. old ++ ys) (sym (take_more others (place - 1) x (omega (arith, long))))
    ∙ ap (λ k. old ++ take k others) (sym next)

-- the group of a parent at place k is whole
pub group_fits : (n k count total : ℕ) → k < count → total ≡ n * count → n * k + n ≤ total
group_fits n k count total h full = omega (arith, mul-le-mul_left n h, mul-suc n k)

-- the siblings of a covered node, out of the group at its parent's place
linked_siblings : {X : Type 0} (below above : CoveredLayer X) (j slot : ℕ) → IsLinked below above →
    is_among below.covered.nodes.items j ≡ true → slot ≡ place_among above.covered.nodes.items (j / above.step) →
    siblings_out_of (above.covered.nodes.items, above.step, above.children.items) j
    ≡ remove (take above.step (drop (above.step * slot) above.children.items)) (j % above.step)
linked_siblings below above j slot link h is = rw (link.parents j h, is) refl

-- the group of the parent at place k
group_of : (n : ℕ) (parents : List ℕ) (k : ℕ) → k < length parents → take n (drop (n * k) (children_under n parents))
    ≡ range_with_len (n * get_or parents k 0) n
group_of n [] k h = absurd (omega arith)
group_of n (p ∷ parents) zero h = grind (arith, common_steps, take-append-le, take_all, length-range_with_len)
group_of n (p ∷ parents) (suc k) h =
    let here = range_with_len (n * p) n in
    let e : n * suc k ≡ length here + n * k = omega (arith, length-range_with_len (n * p) n) in
    rw e (ap (λ ys. take n ys) (drop-append-add here (children_under n parents) (n * k))
    ∙ group_of n parents k (omega arith))

shifted : {Y : Type 0} (v : ℕ → Y) (a b n : ℕ) → map v (range_with_len (a + b) n)
    ≡ map (λ k. v (a + k)) (range_with_len b n)
shifted v a b zero = refl
shifted v a b (suc n) = let e : a + b + 1 ≡ a + (b + 1) = omega arith in
    rw e (ap (λ ys. v (a + b) ∷ ys) (shifted v a (b + 1) n))

-- the values of the children of one of the parents
values_at : {Y : Type 0} (v : ℕ → Y) (n : ℕ) (parents : List ℕ) (j : ℕ) → IsStrictlyIncreasing parents →
    is_among parents j ≡ true →
    children_at n parents (flat_map (λ g. map v (range_with_len (n * g) n)) parents) j
    ≡ map (λ k. v (n * j + k)) (range_with_len 0 n)
values_at v n parents j up h =
    let at = found_at parents j h in
    let is = placed parents at.0 j up at.1 at.2 in
    let z : n * j + 0 ≡ n * j = omega arith in
    ap (λ ys. children_at n parents ys j) (sym (map_children v n parents))
    ∙ ap (λ k. take n (drop (n * k) (map v (children_under n parents)))) is
    ∙ ap (take n) (drop-map v (n * at.0) (children_under n parents))
    ∙ take-map v n (drop (n * at.0) (children_under n parents))
    ∙ ap (map v) (group_of n parents at.0 at.1 ∙ ap (λ g. range_with_len (n * g) n) at.2)
    ∙ rw z at (shifted v (n * j) 0 n)

-- ---- the path

-- a queried leaf's ancestors are covered
above_among : (s : Shape) (queries : List ℕ) (l i : ℕ) → is_among queries i ≡ true →
    is_covered s queries l (ancestor s l i) ≡ true
above_among s [] l i h = absurd (true≢false (sym h))
above_among s (q ∷ queries) l i h =
    let j = ancestor s l i in
    elim (or_cases (eqb q i) (is_among queries i) h) [
      | inl e ↦ or_left (eqb (ancestor s l q) j) (is_covered s queries l j)
          (eq-eqb (ancestor s l q) j (ap (ancestor s l) (eqb-true q i e)))
      | inr rest ↦ or_right (eqb (ancestor s l q) j) (is_covered s queries l j) (above_among s queries l i rest)
    ]

parent_listed : (s : Shape) (queries : List ℕ) (t : ℕ) → CanQuery s queries t → (l i : ℕ) → l < t → is_among queries i
    ≡ true → is_among (covered_at s queries (suc l)) (ancestor s (suc l) i) ≡ true
parent_listed s queries t w l i h q = covered_listed s queries t w (suc l) (ancestor s (suc l) i) h
    (above_among s queries (suc l) i q)

pub covered_up_list : (s : Shape) (queries : List ℕ) (l : ℕ) → IsStrictlyIncreasing (covered_at s queries l)
covered_up_list s queries l =
    increasing_from 0 (covered_at s queries l) (rising_filter (is_covered s queries l) 0 (layer_len s l))

-- ---- a walk of a path

abbrev step_of : {X : Type 0} → List ℕ × ℕ × List X → ℕ
step_of (parents, n, values) = n

-- the steps of the levels below level k
abbrev steps_below : {X : Type 0} → List (List ℕ × ℕ × List X) → ℕ → List ℕ
steps_below levels k = map step_of (take k levels)

-- the siblings of the node over the steps below a level
abbrev kept_siblings : {X : Type 0} → List (List ℕ × ℕ × List X) → ℕ → ℕ × (List ℕ × ℕ × List X) → List X
kept_siblings levels i = λ (k, level). siblings_out_of level (node_over (steps_below levels k) i)

-- the siblings on the path of leaf i from level k on
abbrev pub path_from : {X : Type 0} → List (List ℕ × ℕ × List X) → ℕ → ℕ → List X
path_from levels i k = flat_map (kept_siblings levels i) (enumerate_from k (drop k levels))

-- a walk of a path has come to level k: its siblings so far, and the node at which it stands
pub record IsOnPath {X : Type 0} (levels : List (List ℕ × ℕ × List X)) (i k : ℕ) (path : List X) (node : ℕ) :
    Type 0 where
  pub so_far : path ++ path_from levels i k ≡ siblings_on_path levels i
  pub node_is : node ≡ node_over (steps_below levels k) i

pub path_more : {V X : Type 0} (view : V → List ℕ × ℕ × List X) (levels : List V) (i k node : ℕ) (level : V)
    (old new : List X) → k < length levels → level ≡ get_or levels k level → IsOnPath (map view levels) i k old node →
    new ≡ old ++ siblings_out_of (view level) node → IsOnPath (map view levels) i (k + 1) new (node / (view level).1)
path_more view levels i k node level old new h is w more =
    let shown = map view levels in
    let d = view level in
    let inside : k < length shown = omega (arith, length-map levels view) in
    let here : get_or shown k d ≡ d = get_or-map view levels k level d h ∙ ap view (sym is) in
    let rest : path_from shown i k ≡ siblings_out_of d node ++ path_from shown i (k + 1) =
    rw (drop-cons shown k d inside, here, add-one, w.node_is) refl in
    let steps = steps_below shown k in
    let next : steps_below shown (k + 1) ≡ steps ++ d.1 ∷ [] =
    ap (map step_of) (take_more shown k d inside) ∙ map-append step_of (take k shown) (get_or shown k d ∷ [])
    ∙ ap (λ (x : List ℕ × ℕ × List _). steps ++ x.1 ∷ []) here in
    record {
      so_far = rw more (append_assoc old (siblings_out_of d node) (path_from shown i (k + 1)))
          ∙ ap (λ ys. old ++ ys) (sym rest) ∙ w.so_far;
      node_is = rw (next, fold-append, w.node_is) (div-div-eq-div-mul i (fold (λ product n. product * n) 1 steps) d.1);
    }

-- what links a layer to the one below it, which has a node
pub link_at : {X : Type 0} (layers : List (CoveredLayer X)) (level : ℕ) (above : CoveredLayer X) → 0 < level →
    level < length layers → AreLinked layers → above ≡ get_or layers level above →
    IsLinked (get_or layers (level - 1) above) above
link_at {X} layers level above some h linked is = grind (arith, common_steps)

-- the digests of a covered node's children are there
pub group_at_place : {X : Type 0} (layers : List (CoveredLayer X)) (level place : ℕ) (above : CoveredLayer X) →
    0 < level → level < length layers → AreLinked layers → above ≡ get_or layers level above →
    place < length above.covered.nodes.items → above.step * place + above.step ≤ length above.children.items
group_at_place layers level place above some h linked is inside =
    group_fits above.step place (length above.covered.nodes.items) (length above.children.items) inside
    (link_at layers level above some h linked is).full

-- a path that stands at a node of one layer, and its turn to the next
pub path_turn : {X : Type 0} (layers : List (CoveredLayer X)) (level slot node index : ℕ) (above : CoveredLayer X)
    (old new : List X) → 0 < level → level < length layers → AreLinked layers → above ≡ get_or layers level above →
    IsOnPath (levels_in layers) index (level - 1) old node →
    is_among (get_or layers (level - 1) above).covered.nodes.items node ≡ true →
    slot ≡ place_among above.covered.nodes.items (node / above.step) →
    new ≡ old ++ remove (take above.step (drop (above.step * slot) above.children.items)) (node % above.step) →
    IsOnPath (levels_in layers) index level new (node / above.step)
path_turn {X} layers level slot node index above old new some h linked is_above w inside is_slot more =
    let l = level - 1 in
    let up : l + 1 ≡ level = omega arith in
    let from : 1 + l ≡ level = omega arith in
    let view : CoveredLayer X → List ℕ × ℕ × List X =
    λ layer. (layer.covered.nodes.items, layer.step, layer.children.items) in
    let link = link_at layers level above some h linked is_above in
    let there : above ≡ get_or (drop 1 layers) l above =
    is_above ∙ ap (λ (k : ℕ). get_or layers k above) (sym from) ∙ sym (get_or-drop 1 layers l above) in
    subst (λ (k : ℕ). IsOnPath (levels_in layers) index k new (node / above.step)) up
    (path_more view (drop 1 layers) index l node above old new (omega (arith, length-drop 1 layers)) there w
    (more ∙ ap (λ ys. old ++ ys) (sym (linked_siblings (get_or layers l above) above node slot link inside is_slot))))

-- a view of what is made of numbers, one by one: one more
pub view_more : {X Y : Type 0} (view : X → Y) (f : ℕ → Y) (made : List ℕ) (k : ℕ) (old new : List X) (added : X) →
    k < length made → map view old ≡ map f (take k made) → new ≡ old ++ added ∷ [] → view added ≡ f (get_or made k 0) →
    map view new ≡ map f (take (k + 1) made)
view_more view f made k old new added h so_far is last = grind (arith, common_steps)

-- and one of all
pub view_at : {X Y : Type 0} (view : X → Y) (f : ℕ → Y) (made : List ℕ) (all : List X) (k : ℕ) (x : X) →
    k < length made → map view all ≡ map f made → x ≡ get_or all k x → view x ≡ f (get_or made k 0)
view_at view f made all k x h are is =
    let inside : k < length all = omega (arith, ap length are, length-map all view, length-map made f) in
    ap view is ∙ sym (get_or-map view all k x (view x) inside) ∙ ap (λ ys. get_or ys k (view x)) are
    ∙ get_or-map f made k 0 (view x) h

-- ---- what a walk keeps of a tree

-- a level from layer l on: the covered nodes above it, its step, and what the values v of their children are
abbrev pub level_of : {X : Type 0} → Shape → List ℕ → (ℕ → ℕ → X) → ℕ → List ℕ × ℕ × List X
level_of s queries v l = (
  covered_at s queries (suc l),
  step s l,
  flat_map (λ j. map (v l) (range_with_len (step s l * j) (step s l)))
      (covered_at s queries (suc l)),
)

steps_product : (s : Shape) (l : ℕ) → fold (λ product n. product * n) 1 (schedule_below s l) ≡ leaves_under s l
unfolding leaves_under
steps_product s zero = refl
steps_product s (suc l) =
    let z : 0 + l ≡ l = omega arith in
    let more : schedule_below s (suc l) ≡ schedule_below s l ++ step s l ∷ [] =
    rw add-one at (map-range_with_len_more (step s) 0 l l z) in
    rw (more, fold-append, steps_product s l) refl

-- the nodes over the steps of a tree are ancestors
node_over_is : {X : Type 0} (s : Shape) (queries : List ℕ) (v : ℕ → ℕ → X) (t l i : ℕ) → l ≤ t →
    node_over (steps_below (map (level_of s queries v) (range_with_len 0 t)) l) i ≡ ancestor s l i
node_over_is s queries v t l i h =
    let steps : steps_below (map (level_of s queries v) (range_with_len 0 t)) l ≡ schedule_below s l =
    ap (map step_of) (take-map-range_with_len (level_of s queries v) 0 t l h)
    ∙ map-map step_of (level_of s queries v) (range_with_len 0 l) in
    rw (steps, steps_product s l) refl

-- the siblings of an ancestor out of such a level
siblings_kept : {X : Type 0} (s : Shape) (queries : List ℕ) (t : ℕ) → CanQuery s queries t → (v : ℕ → ℕ → X) (l i : ℕ) →
    l < t → is_among queries i ≡ true → siblings_out_of (level_of s queries v l) (ancestor s l i) ≡ piece s v i l
siblings_kept s queries t w v l i h q =
    let parents = covered_at s queries (suc l) in
    let there = parent_listed s queries t w l i h q in
    rw (
      ← anc_next s l i,
      there,
      values_at (v l) (step s l) parents (ancestor s (suc l) i)
          (covered_up_list s queries (suc l)) there,
    ) refl

enumerated : {X K : Type 0} (h : ℕ × K → List X) (level : ℕ → K) (a n : ℕ) →
    flat_map h (enumerate_from a (map level (range_with_len a n))) ≡ flat_map (λ l. h (l, level l)) (range_with_len a n)
enumerated h level a zero = refl
enumerated h level a (suc n) = ap (λ ys. h (a, level a) ++ ys) (enumerated h level (a + 1) n)

-- the path of a queried leaf out of such levels
path_kept : {X : Type 0} (s : Shape) (queries : List ℕ) (t : ℕ) → CanQuery s queries t → (v : ℕ → ℕ → X) (i : ℕ) →
    is_among queries i ≡ true →
    siblings_on_path (map (level_of s queries v) (range_with_len 0 t)) i ≡ joined (piece s v i) t
path_kept s queries t w v i q =
    let levels = map (level_of s queries v) (range_with_len 0 t) in
    enumerated (kept_siblings levels i) (level_of s queries v) 0 t
    ∙ joined_same (λ l. kept_siblings levels i (l, level_of s queries v l)) (piece s v i) t
    (λ l h. ap (siblings_out_of (level_of s queries v l)) (node_over_is s queries v t l i (omega arith))
    ∙ siblings_kept s queries t w v l i h q)

same_paths : {X : Type 0} (g h : ℕ → X) (queries : List ℕ) → ((i : ℕ) → is_among queries i ≡ true → g i ≡ h i) →
    map g queries ≡ map h queries
same_paths g h [] same = refl
same_paths g h (q ∷ queries) same =
    rw (
      same q (or_left (eqb q q) (is_among queries q) (eq-eqb q q refl)),
      same_paths g h queries (λ i c. same i (or_right (eqb q i) (is_among queries i) c)),
    ) refl

-- out of levels whose values are those of a pruned opening, the paths are the restored ones
pub paths_restored : {T W : Type 0} (f : Functions T W) (s : Shape) (t : ℕ) (p : PrunedOpening T W) →
    CanQuery s p.indices t → (levels : List (List ℕ × ℕ × List (List W))) → levels
    ≡ map (level_of s p.indices (value_of (params f s t) p)) (range_with_len 0 t) →
    paths_out_of levels p.indices ≡ restored_paths (params f s t) p
paths_restored f s t p w levels are = grind (arith, common_steps, path_kept, same_paths)
