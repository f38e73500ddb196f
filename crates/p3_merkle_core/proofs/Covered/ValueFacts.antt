-- The children that a walk takes are the values of the definitions. The digests that are sent belong to the boundary
-- nodes, in order.
use Rattle.std.proofs.Common.{◌≡◌, ℕ, ◌+◌, ◌<◌, ◌≤◌, true, false, cond, eqb, ◌&&◌, List, [], ◌∷◌, map, refl, ap, sym}
use Rattle.std.proofs.Common.{◌∙◌, arith, inl, inr, length, filter, take, drop, zip, eq-eqb, suc, ◌-◌, ◌*◌, Bool, not}
use Rattle.std.proofs.Common.{◌++◌, ◌/◌, get_or}
use Rattle.std.proofs.lemmas.Grind.{common_steps}
use Rattle.std.proofs.lemmas.Bool.{cases_Bool, and_from, and_parts, cond-false, not-true, or_cases, true≢false}
use Rattle.std.proofs.lemmas.Bool.{false_from_ne_true}
use Rattle.std.proofs.lemmas.List.{length-map, map-append}
use Rattle.std.proofs.lemmas.List.Elements.{filter-append, filter_agree}
use Rattle.std.specs.List.{find, range_with_len, take-map, drop-map, flat_map}
use Rattle.std.specs.Option.{unwrap_or, option_map}
use Rattle.std.specs.Cmp.{both_ways}
use Rattle.p3_merkle_core.specs.Inner.Children.{AreChildren, IsFamily, beside, children_under, unknown_count}
use Rattle.p3_merkle_core.specs.Inner.Covered.{covered_at}
use Rattle.p3_merkle_core.specs.Checks.{params}
use Rattle.p3_merkle_core.specs.Nodes.{Functions}
use Rattle.p3_merkle_core.specs.Pruning.{PrunedOpening, is_boundary, boundary_at, boundary, is_in, sent_digest}
use Rattle.p3_merkle_core.specs.Pruning.{CanQuery, boundary_by, is_covered, restored_node, value_of}
use Rattle.p3_merkle_core.specs.Geometry.{Shape, layer_len, step, heights, height_limit}
use Rattle.p3_merkle_core.proofs.Lists.ListFacts.{tally, joined_piece, length-joined_le}
use Rattle.p3_merkle_core.proofs.Covered.Minimal.{in_boundary}
use Rattle.p3_merkle_core.proofs.Covered.Sufficient.{same, listed_once}
use Rattle.p3_merkle_core.proofs.Covered.ChildFacts.{children_length}
use Rattle.p3_merkle_core.proofs.Lists.RisingFacts.{by_groups, listed_at}
use Rattle.p3_merkle_core.proofs.Covered.CoveredFacts.{listed_covered, covered_listed, covered_by_groups}
use Rattle.p3_merkle_core.proofs.Covered.CoveredFacts.{boundary_by_lists, covered_count, group_fits, counted_at}
use Rattle.p3_support.specs.Batches.{greatest}
use Rattle.p3_support.specs.Lists.{is_among}

-- ---- nodes that stand once

abbrev pub AreOnce : List (ℕ × ℕ) → Type 0
AreOnce [] = Unit {0}
AreOnce ((m, k) ∷ given) = (is_in given m k ≡ false) × AreOnce given

tally_listed : (given : List (ℕ × ℕ)) (l j : ℕ) → is_in given l j ≡ true → 1 ≤ tally (same (l, j)) given
unfolding tally
tally_listed [] l j e = absurd (true≢false (sym e))
tally_listed ((m, k) ∷ given) l j e =
    elim (or_cases (eqb m l && eqb k j) (is_in given l j) e) [
      | inl here ↦ rw here (omega arith)
      | inr there ↦ omega (arith, tally_listed given l j there)
    ]

once_from : (given : List (ℕ × ℕ)) → ((x : ℕ × ℕ) → tally (same x) given ≤ 1) → AreOnce given
unfolding tally
once_from [] h = tt
once_from ((m, k) ∷ given) h =
    let own : (eqb m m && eqb k k) ≡ true = and_from (eqb m m) (eqb k k) (eq-eqb m m refl) (eq-eqb k k refl) in (
      false_from_ne_true (is_in given m k) (λ t.
          let two : cond (eqb m m && eqb k k) 1 0 + tally (same (m, k)) given ≤ 1 = h (m, k) in
          let more : 1 + tally (same (m, k)) given ≤ 1 = rw own at two in
          omega (arith, tally_listed given m k t)),
      once_from given (λ x. let all = h x in omega arith),
    )

-- ---- what was sent for each

-- the digest that stands beside a node
abbrev pub sent_for : {Y : Type 0} → List (ℕ × ℕ) → List Y → Y → ℕ × ℕ → Y
sent_for given ds d (l, j) =
    unwrap_or (option_map (λ (place, digest). digest) (find (λ ((m, k), digest). eqb m l && eqb k j) (zip given ds))) d

pub same_on : {Y : Type 0} (f g : ℕ × ℕ → Y) (xs : List (ℕ × ℕ)) →
    ((l j : ℕ) → is_in xs l j ≡ true → f (l, j) ≡ g (l, j)) → map f xs ≡ map g xs
same_on f g [] h = refl
same_on f g ((m, k) ∷ xs) h =
    let own : (eqb m m && eqb k k) ≡ true = and_from (eqb m m) (eqb k k) (eq-eqb m m refl) (eq-eqb k k refl) in
    rw (
      h m k (rw own refl),
      same_on f g xs (λ l j e. h l j (elim (cases_Bool (eqb m l && eqb k j)) [ inl t ↦ rw t refl | inr f ↦ rw f e ])),
    )
    refl

pub all_sent : {Y : Type 0} (given : List (ℕ × ℕ)) (ds : List Y) (d : Y) → AreOnce given → length ds ≡ length given →
    map (sent_for given ds d) given ≡ ds
all_sent [] [] d once e = refl
all_sent [] (y ∷ ds) d once e = absurd (omega arith)
all_sent ((m, k) ∷ given) [] d once e = absurd (omega arith)
all_sent ((m, k) ∷ given) (y ∷ ds) d once e =
    grind (arith, common_steps, all_sent given ds d once.1 (omega arith), same_on)

pub map_pairs : {Y : Type 0} (g : ℕ × ℕ → Y) (l : ℕ) (js : List ℕ) → map g (map (λ j. (l, j)) js)
    ≡ map (λ j. g (l, j)) js
map_pairs g l [] = refl
map_pairs g l (j ∷ js) = ap (λ ys. g (l, j) ∷ ys) (map_pairs g l js)

-- level by level, the digests that were sent are those of the boundary nodes
pub sent_level : {T W : Type 0} (f : Functions T W) (s : Shape) (t : ℕ) (p : PrunedOpening T W) → length p.digests
    ≡ length (boundary s p.indices t) → (l : ℕ) → l < t →
    map (sent_digest (params f s t) p l) (filter (is_boundary s p.indices l) (range_with_len 0 (layer_len s l)))
    ≡ take (length (boundary_at s p.indices l)) (drop (length (boundary s p.indices l)) p.digests)
sent_level f s t p count l h =
    let all = boundary s p.indices t in
    let look = sent_for all p.digests f.default_digest in
    let n = length (boundary_at s p.indices l) in
    let m = length (boundary s p.indices l) in
    let row = filter (is_boundary s p.indices l) (range_with_len 0 (layer_len s l)) in
    let each = all_sent all p.digests f.default_digest (once_from all (listed_once s p.indices t)) count in
    sym (map_pairs look l row) ∙ ap (map look) (sym (joined_piece (boundary_at s p.indices) l t h))
    ∙ sym (take-map look n (drop m all)) ∙ ap (take n) (sym (drop-map look m all))
    ∙ ap (λ ds. take n (drop m ds)) each

-- all digests are the values of the boundary nodes
pub digests_are : {T W : Type 0} (f : Functions T W) (s : Shape) (t : ℕ) (p : PrunedOpening T W) → length p.digests
    ≡ length (boundary s p.indices t) → boundary_by (value_of (params f s t) p) s p.indices t ≡ p.digests
digests_are f s t p count =
    let all = boundary s p.indices t in
    same_on (λ (l, j). value_of (params f s t) p l j) (sent_for all p.digests f.default_digest) all
    (λ l j e.
    let b = in_boundary s p.indices t l j e in
    cond-false (is_covered s p.indices l j) (restored_node (params f s t) p l j) (sent_digest (params f s t) p l j)
    (not-true (is_covered s p.indices l j)
    (and_parts (is_covered s p.indices (suc l) (j / step s l)) (not (is_covered s p.indices l j)) b.1).1))
    ∙ all_sent all p.digests f.default_digest (once_from all (listed_once s p.indices t)) count

-- ---- lists

filter_children : (p : ℕ → Bool) (n : ℕ) (parents : List ℕ) → filter p (children_under n parents)
    ≡ by_groups n p parents
filter_children p n [] = refl
filter_children p n (g ∷ parents) = filter-append p (range_with_len (n * g) n) (children_under n parents)
    ∙ ap (λ ys. filter p (range_with_len (n * g) n) ++ ys) (filter_children p n parents)

pub map_children : {Y : Type 0} (v : ℕ → Y) (n : ℕ) (parents : List ℕ) → map v (children_under n parents)
    ≡ flat_map (λ g. map v (range_with_len (n * g) n)) parents
map_children v n [] = refl
map_children v n (g ∷ parents) = map-append v (range_with_len (n * g) n) (children_under n parents)
    ∙ ap (λ ys. map v (range_with_len (n * g) n) ++ ys) (map_children v n parents)

pub map_agree : {Y : Type 0} (v w : ℕ → Y) → ((j : ℕ) → v j ≡ w j) → (js : List ℕ) → map v js ≡ map w js
map_agree v w h [] = refl
map_agree v w h (j ∷ js) = rw (h j, map_agree v w h js) refl

beside_map : {X Y : Type 0} (view : X → Y) (p : ℕ → Bool) (js : List ℕ) (xs : List X) → beside p js (map view xs)
    ≡ map view (beside p js xs)
beside_map view p [] xs = refl
beside_map view p (j ∷ js) [] = refl
beside_map view p (j ∷ js) (x ∷ xs) = grind (arith, common_steps, beside_map view p js xs)

-- values that are v's where their places pass, and w's elsewhere
mixed_is : {Y : Type 0} (p : ℕ → Bool) (v w : ℕ → Y) (js : List ℕ) (ys : List Y) → length ys ≡ length js →
    beside p js ys ≡ map v (filter p js) → beside (λ j. not (p j)) js ys ≡ map w (filter (λ j. not (p j)) js) →
    ys ≡ map (λ j. cond (p j) (v j) (w j)) js
mixed_is p v w [] [] e ins outs = refl
mixed_is p v w [] (y ∷ ys) e ins outs = absurd (omega arith)
mixed_is p v w (j ∷ js) [] e ins outs = absurd (omega arith)
mixed_is p v w (j ∷ js) (y ∷ ys) e ins outs =
    elim (cases_Bool (p j)) [
      | inl t ↦
          let a : y ∷ beside p js ys ≡ v j ∷ map v (filter p js) = rw t at ins in
          let b : beside (λ j. not (p j)) js ys ≡ map w (filter (λ j. not (p j)) js) = rw t at outs in
          let first : y ≡ v j = ap (λ zs. get_or zs 0 y) a in
          rw (t, ← first) (ap (λ zs. y ∷ zs) (mixed_is p v w js ys (omega arith) (ap (λ zs. drop 1 zs) a) b))
      | inr f ↦
          let a : beside p js ys ≡ map v (filter p js) = rw f at ins in
          let b : y ∷ beside (λ j. not (p j)) js ys ≡ w j ∷ map w (filter (λ j. not (p j)) js) = rw f at outs in
          let first : y ≡ w j = ap (λ zs. get_or zs 0 y) b in
          rw (f, ← first) (ap (λ zs. y ∷ zs) (mixed_is p v w js ys (omega arith) a (ap (λ zs. drop 1 zs) b)))
    ]

-- ---- the covered nodes of a level and those above

among_is : (s : Shape) (queries : List ℕ) (t : ℕ) → CanQuery s queries t → (l : ℕ) → l ≤ t → (j : ℕ) →
    is_among (covered_at s queries l) j ≡ is_covered s queries l j
among_is s queries t w l h j = both_ways (is_among (covered_at s queries l) j) (is_covered s queries l j)
    (listed_covered s queries l j) (covered_listed s queries t w l j h)

covered_children : (s : Shape) (queries : List ℕ) (t : ℕ) → CanQuery s queries t → (l : ℕ) → l < t →
    filter (is_among (covered_at s queries l)) (children_under (step s l) (covered_at s queries (suc l)))
    ≡ covered_at s queries l
covered_children s queries t w l h =
    let js = children_under (step s l) (covered_at s queries (suc l)) in
    filter_agree (is_among (covered_at s queries l)) (is_covered s queries l) (among_is s queries t w l (omega arith))
    js
    ∙ filter_children (is_covered s queries l) (step s l) (covered_at s queries (suc l))
    ∙ covered_by_groups s queries t w l h

other_children : (s : Shape) (queries : List ℕ) (t : ℕ) → CanQuery s queries t → (l : ℕ) → l < t →
    filter (λ j. not (is_among (covered_at s queries l) j)) (children_under (step s l) (covered_at s queries (suc l)))
    ≡ filter (is_boundary s queries l) (range_with_len 0 (layer_len s l))
other_children s queries t w l h = filter_children (λ j. not (is_among (covered_at s queries l) j)) (step s l)
    (covered_at s queries (suc l)) ∙ boundary_by_lists s queries t w l h

unknown_at : (s : Shape) (queries : List ℕ) (t : ℕ) → CanQuery s queries t → (l : ℕ) → l < t →
    unknown_count (step s l) (covered_at s queries (suc l)) (covered_at s queries l) ≡ length (boundary_at s queries l)
unknown_at s queries t w l h = let c = covered_count s queries t w l h in omega arith

-- ---- one level

-- what a level of the walk starts from: the steps, the covered nodes above and here, their values, and what is left of
-- the digests that were sent
pub record IsWalkedLevel {T W X : Type 0} (f : Functions T W) (s : Shape) (t : ℕ) (p : PrunedOpening T W) (l : ℕ)
    (view : X → List W) (n : ℕ) (parents covered : List ℕ) (digests sent : List X) : Type 0 where
  pub step_is : n ≡ step s l
  pub parents_are : parents ≡ covered_at s p.indices (suc l)
  pub covered_are : covered ≡ covered_at s p.indices l
  pub digests_are : map view digests ≡ map (restored_node (params f s t) p l) (covered_at s p.indices l)
  pub sent_is : map view sent ≡ drop (length (boundary s p.indices l)) p.digests

-- a level can be walked where there is a digest of each covered node, and what is left of those that were sent
pub family_by_counts : {X : Type 0} (s : Shape) (queries : List ℕ) (t : ℕ) → CanQuery s queries t →
    greatest (heights s) ≤ height_limit → (l : ℕ) → l < t → (n : ℕ) (parents covered : List ℕ) (digests sent : List X) →
    n ≡ step s l → parents ≡ covered_at s queries (suc l) → covered ≡ covered_at s queries l → length digests
    ≡ length covered → length sent ≡ length (boundary s queries t) - length (boundary s queries l) →
    IsFamily n parents covered digests sent
family_by_counts s queries t w low l h n parents covered digests sent is_step is_above is_here each left =
    let above = covered_at s queries (suc l) in
    let all = counted_at s queries t w low l h in
    let enough = length-joined_le (boundary_at s queries) l t h in
    let unknown = unknown_at s queries t w l h in
    let one : length digests ≡ length (covered_at s queries l) = each ∙ ap length is_here in
    rw (is_step, is_above, is_here) (record {
      in_order = covered_children s queries t w l h;
      one_each = one;
      enough = omega arith;
      few = omega (arith, all.small);
      low = λ i d below.
          let g = get_or above i d in
          omega (arith, group_fits s queries t w l h g (listed_at above i d below), all.low);
    })

-- the children's values
pub children_are : {T W X : Type 0} (f : Functions T W) (s : Shape) (t : ℕ) (p : PrunedOpening T W) →
    CanQuery s p.indices t → length p.digests ≡ length (boundary s p.indices t) →
    (l : ℕ) → l < t → (view : X → List W) (n : ℕ) (parents covered : List ℕ) (digests sent values : List X) →
    IsWalkedLevel f s t p l view n parents covered digests sent → AreChildren n parents covered digests sent values →
    map view values ≡ flat_map (λ j. map (value_of (params f s t) p l) (range_with_len (step s l * j) (step s l)))
    (covered_at s p.indices (suc l))
children_are f s t p w count l h view n parents covered digests sent values k a =
    let here = covered_at s p.indices l in
    let above = covered_at s p.indices (suc l) in
    let is_here = is_among here in
    let js = children_under (step s l) above in
    let v = restored_node (params f s t) p l in
    let u = sent_digest (params f s t) p l in
    let m = length (boundary s p.indices l) in
    let is : AreChildren (step s l) above here digests sent values =
    rw (k.step_is, k.parents_are, k.covered_are) at a in
    let known : beside is_here js (map view values) ≡ map v (filter is_here js) =
    beside_map view is_here js values ∙ ap (map view) is.known ∙ k.digests_are
    ∙ ap (map v) (sym (covered_children s p.indices t w l h)) in
    let unknown : beside (λ j. not (is_here j)) js (map view values) ≡ map u (filter (λ j. not (is_here j)) js) =
    beside_map view (λ j. not (is_here j)) js values ∙ ap (map view) is.unknown
    ∙ sym (take-map view (unknown_count (step s l) above here) sent)
    ∙ ap (take (unknown_count (step s l) above here)) k.sent_is
    ∙ ap (λ c. take c (drop m p.digests)) (unknown_at s p.indices t w l h)
    ∙ sym (sent_level f s t p count l h) ∙ ap (map u) (sym (other_children s p.indices t w l h)) in
    let long : length (map view values) ≡ length js = length-map values view ∙ is.each
    ∙ sym (children_length (step s l) above) in
    mixed_is is_here v u js (map view values) long known unknown
    ∙ map_agree (λ j. cond (is_here j) (v j) (u j)) (value_of (params f s t) p l)
    (λ j. ap (λ b. cond b (v j) (u j)) (among_is s p.indices t w l (omega arith) j)) js
    ∙ map_children (value_of (params f s t) p l) (step s l) above
