-- Wanted nodes in the order of their ends, and in that of the call.
use Rattle.std.proofs.Common.{◌≡◌, ℕ, suc, ◌+◌, ◌-◌, ◌*◌, ◌^◌, ◌<◌, ◌≤◌, refl, sym, ap, ◌∙◌, arith, subst, inl, inr}
use Rattle.std.proofs.Common.{leb, leb-true, leb-false, List, [], ◌∷◌, ◌++◌, length, length-drop, map, take, drop}
use Rattle.std.proofs.Common.{get_or, set, All}
use Rattle.std.proofs.lemmas.Bool.{cases_eq}
use Rattle.std.proofs.lemmas.List.{ext_get_or, get_or-drop, get_or-map, get_or-set_other, get_or-set_same, get_or-take}
use Rattle.std.proofs.lemmas.List.{get_or_default, length-map, length-take-le, map-append, take-append-drop}
use Rattle.std.proofs.lemmas.List.Elements.{All-map}
use Rattle.std.proofs.lemmas.List.FromFn.{get_or-map-range_with_len, length-map-range_with_len}
use Rattle.std.proofs.lemmas.List.Sorted.{All-permutation, Contains-permutation, length_permutation}
use Rattle.std.specs.Prelude.{Bool, true, false, None, Option}
use Rattle.std.specs.List.Sorted.{IsNonDecreasingBy, IsPartitionPoint, IsPermutation}
use borrow.Rule.Slice.PartMut.{mid_of, put_mid}
use Rattle.tlog.specs.Rfc9162.{Hash}
use Rattle.tlog.specs.Verdicts.{size_limit}
use Rattle.tlog_tree.specs.Builders.{indexed, indexed_of}
use Rattle.tlog_tree.specs.Wanted.{end_of}
use Rattle.tlog_tree.specs.Inner.Wanted.{updated, with_value}
use Rattle.tlog_tree.specs.Trees.{id_of, node_at, value_at, values_at}
use Rattle.tlog_tree.specs.declared.node_id.NodeId.{NodeId}
use Rattle.tlog_tree.specs.declared.wanted.WantedNode.{WantedNode}
use Rattle.tlog_tree.proofs.Kept.{at_leaves, new_tells}

-- ---- a part of a list

-- a function that changes nothing
same_all : {X : Type 0} (u : X → X) (xs : List X) → All (λ x. u x ≡ x) xs → map u xs ≡ xs
same_all u [] same = refl
same_all u (x ∷ xs) same =
    ap (λ y. y ∷ map u xs) (same 0 x (omega arith))
    ∙ ap (λ ys. x ∷ ys) (same_all u xs (λ k d h. same (suc k) d (omega arith)))

-- a function that changes only a part
part_alone : {X : Type 0} (u : X → X) (xs : List X) (start end : ℕ) → start ≤ end → end ≤ length xs →
    ((k : ℕ) (d : X) → k < start → u (get_or xs k d) ≡ get_or xs k d) →
    ((k : ℕ) (d : X) → end ≤ k → k < length xs → u (get_or xs k d) ≡ get_or xs k d) →
    put_mid start (end - start) xs (map u (mid_of start (end - start) xs)) ≡ map u xs
part_alone u xs start end within inside before behind =
    let n = end - start in
    let rest = drop start xs in
    let front : map u (take start xs) ≡ take start xs = same_all u (take start xs) (λ k d h.
    let below : k < start = omega (arith, length-take-le start xs (omega arith)) in
    rw (get_or-take start xs k d below) (before k d below)) in
    let back : map u (drop n rest) ≡ drop n rest = same_all u (drop n rest) (λ k d h.
    rw (get_or-drop n rest k d, get_or-drop start xs (n + k) d)
    (behind (start + (n + k)) d (omega arith) (omega (arith, length-drop n rest, length-drop start xs)))) in
    sym (ap (map u) (sym (take-append-drop start xs)
    ∙ ap (λ ys. take start xs ++ ys) (sym (take-append-drop n rest)))
    ∙ map-append u (take start xs) (take n rest ++ drop n rest)
    ∙ ap (λ ys. ys ++ map u (take n rest ++ drop n rest)) front
    ∙ ap (λ ys. take start xs ++ ys) (map-append u (take n rest) (drop n rest)
    ∙ ap (λ ys. map u (take n rest) ++ ys) back))

-- ---- in the order of their ends

pub order_stays : {X : Type 0} (n : X → ℕ) (u : X → X) (xs ys : List X) → ((x : X) → n (u x) ≡ n x) →
    IsNonDecreasingBy n xs → ys ≡ map u xs → IsNonDecreasingBy n ys
order_stays n u xs ys same up is i j d h k =
    let len : length ys ≡ length xs = ap length is ∙ length-map xs u in
    let at : (m : ℕ) → m < length xs → n (get_or ys m d) ≡ n (get_or xs m d) =
    λ m g. ap (λ zs. n (get_or zs m d)) is ∙ ap n (get_or-map u xs m d d g) ∙ same (get_or xs m d) in
    omega (arith, at i (omega (arith, len)), at j (omega (arith, len)), up i j d h (omega (arith, len)))

pub end_stays : (hash : Hash) (size : ℕ) (L : List (List ℕ)) (w : WantedNode) →
    end_of (updated hash 0 size L w) ≡ end_of w
end_stays hash size L w = stays _ _ w
  where
    stays : (b : Bool) (v : List ℕ) (u : WantedNode) → end_of (with_value b v u) ≡ end_of u
    stays true v u = refl
    stays false v u = refl

-- only those that end after the first leaves, and within all, get their values
unmoved : (hash : Hash) (size : ℕ) (L : List (List ℕ)) (w : WantedNode) → size ≤ size_limit → length L ≤ size_limit →
    (size < end_of w → end_of w ≤ length L → ⊥) → updated hash 0 size L w ≡ w
unmoved hash size L w fits all not_new =
    at_leaves hash size L w
    ∙ elim (new_tells size (length L) ((w.id.slot + 1) * 2 ^ w.id.layer)) [
      | inl (t, i, j) ↦ absurd (not_new (omega (arith, fits, i)) (omega (arith, j)))
      | inr (f, not) ↦ ap (λ b. with_value b (node_at hash L w.id.layer w.id.slot) w) f
    ]

pub due_alone : (hash : Hash) (size : ℕ) (L : List (List ℕ)) (ws after : List WantedNode) (start end : ℕ) →
    length L ≤ size_limit → size ≤ length L → start ≤ end → end ≤ length ws →
    IsPartitionPoint (λ w. leb (end_of w) size ≡ true) (λ w. leb (end_of w) size ≡ false) (take end ws) start →
    IsPartitionPoint (λ w. leb (end_of w) (length L) ≡ true) (λ w. leb (end_of w) (length L) ≡ false) ws end →
    after ≡ map (updated hash 0 size L) (mid_of start (end - start) ws) →
    put_mid start (end - start) ws after ≡ map (updated hash 0 size L) ws
due_alone hash size L ws after start end fits grown within inside first last is =
    ap (put_mid start (end - start) ws) is
    ∙ part_alone (updated hash 0 size L) ws start end within inside
    (λ k d h. unmoved hash size L (get_or ws k d) (omega arith) fits (λ i j.
    let early : end_of (get_or ws k d) ≤ size =
    leb-true _ _ (subst (λ w. leb (end_of w) size ≡ true) (get_or-take end ws k d (omega arith))
    (first.0 k d (omega arith) h)) in omega (arith, early, i)))
    (λ k d h i. unmoved hash size L (get_or ws k d) (omega arith) fits (λ _ j.
    omega (arith, leb-false _ _ (last.1 k d h i), j)))

-- ---- in the order of the call

-- the value of a wanted node stands at its index
abbrev pub IsAnswered : Hash → List (List ℕ) → List NodeId → List (Option (List ℕ)) → ℕ → Type 0
IsAnswered hash L nodes values k =
    get_or values k None ≡ value_at hash L (get_or nodes k (id_of 0 0))

index_at : (nodes : List NodeId) (k : ℕ) (d : ℕ × NodeId) → k < length nodes →
    get_or (indexed nodes) k d ≡ (k, get_or nodes k (id_of 0 0))
index_at nodes k d h =
    get_or-map-range_with_len (λ k. (k, get_or nodes k (id_of 0 0))) 0 (length nodes) k k d h (omega arith)

length-indexed : (nodes : List NodeId) → length (indexed nodes) ≡ length nodes
length-indexed nodes = length-map-range_with_len (λ k. (k, get_or nodes k (id_of 0 0))) 0 (length nodes)

abbrev IsOwn : List NodeId → ℕ × NodeId → Type 0
IsOwn nodes p = (p.0 < length nodes) × (p.1 ≡ get_or nodes p.0 (id_of 0 0))

own_index : (nodes : List NodeId) (ws : List WantedNode) → IsPermutation (indexed nodes) (map indexed_of ws) →
    All (λ w. IsOwn nodes (indexed_of w)) ws
own_index nodes ws moved k d h =
    let all = All-permutation (IsOwn nodes) (indexed nodes) (map indexed_of ws) moved (λ i e g.
    let inside : i < length nodes = omega (arith, length-indexed nodes) in
    subst (IsOwn nodes) (sym (index_at nodes i e inside)) (inside, refl)) in
    subst (IsOwn nodes) (get_or-map indexed_of ws k d (indexed_of d) h)
    (all k (indexed_of d) (omega (arith, length-map ws indexed_of)))

as_many : (nodes : List NodeId) (ws : List WantedNode) → IsPermutation (indexed nodes) (map indexed_of ws) →
    length ws ≡ length nodes
as_many nodes ws moved =
    sym (length-map ws indexed_of) ∙ length_permutation _ _ moved ∙ length-indexed nodes

pub index_within : (nodes : List NodeId) (ws : List WantedNode) →
    IsPermutation (indexed nodes) (map indexed_of ws) → All (λ w. w.index < length ws) ws
index_within nodes ws moved k d h = omega (arith, (own_index nodes ws moved k d h).0, as_many nodes ws moved)

-- one more
pub answered_more : (hash : Hash) (L : List (List ℕ)) (nodes : List NodeId) (ws : List WantedNode)
    (values : List (Option (List ℕ))) (i : ℕ) (e : WantedNode) (v : Option (List ℕ)) →
    IsPermutation (indexed nodes) (map indexed_of ws) → i < length ws → length values ≡ length ws →
    v ≡ value_at hash L (get_or ws i e).id →
    ((k : ℕ) (d : WantedNode) → k < i → IsAnswered hash L nodes values (get_or ws k d).index) → (k : ℕ)
    (d : WantedNode) → k < i + 1 → IsAnswered hash L nodes (set values (get_or ws i e).index v) (get_or ws k d).index
answered_more hash L nodes ws values i e v moved inside room is so_far k d h =
    let n = (get_or ws k d).index in
    let m = (get_or ws i e).index in
    elim (cases_eq n m) as (λ _. IsAnswered hash L nodes (set values m v) n) [
      | inl same ↦
          subst (λ m'. IsAnswered hash L nodes (set values m v) m') (sym same)
          (get_or-set_same values m v None (omega (arith, room, index_within nodes ws moved i e inside)) ∙ is
          ∙ ap (value_at hash L) (own_index nodes ws moved i e inside).1)
      | inr other ↦
          let before : k < i = elim (cases_eq k i) as (λ _. k < i) [
            | inl last ↦ absurd (other (ap (λ j. (get_or ws j d).index) last
                ∙ ap (λ w. w.index) (get_or_default ws i d e inside)))
            | inr early ↦ omega (arith, early, h)
          ] in
          get_or-set_other values m n v None other ∙ so_far k d before
    ]

pub all_answered : (hash : Hash) (L : List (List ℕ)) (nodes : List NodeId) (ws : List WantedNode)
    (values : List (Option (List ℕ))) → IsPermutation (indexed nodes) (map indexed_of ws) →
    length values ≡ length ws → All (λ w. IsAnswered hash L nodes values w.index) ws →
    values ≡ values_at hash L nodes
all_answered hash L nodes ws values moved room done =
    let many = as_many nodes ws moved in
    let P : ℕ × NodeId → Type 0 = λ p. IsAnswered hash L nodes values p.0 in
    let all : All P (map indexed_of ws) = All-map P indexed_of ws done in
    ext_get_or None values (values_at hash L nodes)
    (room ∙ many ∙ sym (length-map nodes (value_at hash L))) (λ i h.
    let inside : i < length nodes = omega (arith, room, many) in
    let x : ℕ × NodeId = (i, get_or nodes i (id_of 0 0)) in
    let (k, within, at) = Contains-permutation (indexed nodes) (map indexed_of ws) x moved
    (i, omega (arith, length-indexed nodes), index_at nodes i x inside) in
    subst P at (all k x within)
    ∙ sym (get_or-map (value_at hash L) nodes i (id_of 0 0) None inside))
