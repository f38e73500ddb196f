-- Wanted nodes: from layer to layer, and from piece to piece.
use Rattle.std.proofs.Common.{◌≡◌, ℕ, suc, ◌+◌, ◌-◌, ◌*◌, ◌/◌, ◌^◌, ◌<◌, ◌≤◌, refl, sym, ap, ◌∙◌, arith, inl, inr, List}
use Rattle.std.proofs.Common.{[], ◌∷◌, ◌++◌, length, map, take, drop, get_or, length-append, length-drop, subst}
use Rattle.std.proofs.Math.Nat.{div-add-mod', div-mul-le_self, mod-lt, mul-le-mul_right, pow-succ'}
use Rattle.std.proofs.lemmas.Nat.{pow_pos}
use Rattle.std.proofs.lemmas.Bool.Decides.{eqb_tells, leb_tells, nat_tests}
use Rattle.std.proofs.lemmas.List.{drop-append-le, drop_all, drop_more, take_all, get_or-append_right, length-take-le}
use Rattle.std.proofs.lemmas.List.{take-append-le}
use Rattle.std.proofs.lemmas.List.Elements.{All-map, All-weaker}
use Rattle.std.specs.Prelude.{Bool, true, false, nat_le, nat_lt, ◌==◌, ◌⊎◌, Some, None}
use Rattle.std.specs.List.{All}
use Rattle.tlog.specs.Rfc9162.{Hash, mth_within}
use Rattle.tlog_tree.specs.Builders.{indexed_of}
use Rattle.tlog_tree.specs.Inner.Layers.{parents_of, root_of_rest}
use Rattle.tlog_tree.specs.Wanted.{HasValue}
use Rattle.tlog_tree.specs.Inner.Wanted.{is_new, kept_in, updated, with_value}
use Rattle.tlog_tree.specs.Trees.{leaves_root, node_at, value_at}
use Rattle.tlog_tree.specs.declared.node_id.NodeId.{NodeId}
use Rattle.tlog_tree.specs.declared.wanted.WantedNode.{WantedNode}
use Rattle.tlog_tree.proofs.Whole.{length-parents, parents_parts, root_of_parents}

root_of_one : (hash : Hash) (node : List ℕ) (rest : List (List ℕ)) → leaves_root hash (take 1 (node ∷ rest)) ≡ node
unfolding mth_within
root_of_one hash node rest = refl

-- a node of the lowest layer is the leaf
pub node_here : (hash : Hash) (L : List (List ℕ)) (slot : ℕ) → slot < length L →
    node_at hash L 0 slot ≡ get_or L slot []
node_here hash L slot h =
    let one : slot * 1 ≡ slot = omega arith in
    ap (λ (n : ℕ). leaves_root hash (take 1 (drop n L))) one
    ∙ ap (λ (xs : List (List ℕ)). leaves_root hash (take 1 xs)) (drop_more L slot [] h)
    ∙ root_of_one hash (get_or L slot []) (drop (slot + 1) L)

-- a node above is one of the layer above
pub node_above : (hash : Hash) (L : List (List ℕ)) (e slot : ℕ) → (slot + 1) * 2 ^ suc e ≤ length L →
    node_at hash L (suc e) slot ≡ node_at hash (parents_of hash L) e slot
node_above hash L e slot h =
    let m = 2 ^ e in
    let pos = pow_pos e in
    let twice : 2 ^ suc e ≡ m + m = pow-succ' 2 e ∙ omega arith in
    let end : (slot + 1) * 2 ^ suc e ≡ (slot * m + slot * m) + (m + m) = ap (λ (n : ℕ). (slot + 1) * n) twice
    ∙ omega arith in
    let start : slot * 2 ^ suc e ≡ slot * m + slot * m = ap (λ (n : ℕ). slot * n) twice ∙ omega arith in
    let rest = drop (slot * m + slot * m) L in
    let len : length rest ≡ length L - (slot * m + slot * m) = length-drop (slot * m + slot * m) L in
    let back = (parents_parts hash (slot * m) (slot * m + slot * m) L refl (omega arith)).1 in
    let front = (parents_parts hash m (m + m) rest refl (omega arith)).0 in
    let taken : length (take (m + m) rest) ≡ m + m = length-take-le (m + m) rest (omega arith) in
    rw (twice) (ap (λ (n : ℕ). leaves_root hash (take (m + m) (drop n L))) (ap (λ (n : ℕ). slot * n) (sym twice)
    ∙ start)
    ∙ root_of_parents hash m (take (m + m) rest) taken (omega arith)
    ∙ ap (leaves_root hash) (front ∙ ap (take m) back))

-- more leaves after it change nothing
pub node_stays : (hash : Hash) (L X : List (List ℕ)) (e slot : ℕ) → (slot + 1) * 2 ^ e ≤ length L →
    node_at hash (L ++ X) e slot ≡ node_at hash L e slot
node_stays hash L X e slot h =
    let m = 2 ^ e in
    let end : (slot + 1) * m ≡ slot * m + m = omega arith in
    let len : length (drop (slot * m) L) ≡ length L - slot * m = length-drop (slot * m) L in
    ap (λ (xs : List (List ℕ)). leaves_root hash (take m xs)) (drop-append-le (slot * m) L X (omega arith))
    ∙ ap (leaves_root hash) (take-append-le m (drop (slot * m) L) X (omega arith))

-- ---- what becomes of a wanted node

-- what the test tells
pub new_tells : (size count end : ℕ) → ((is_new size count end ≡ true) × (size < end) × (end ≤ count))
    ⊎ ((is_new size count end ≡ false) × (size < end → end ≤ count → ⊥))
new_tells size count end = elim (leb_tells (suc size) end) [
  | inr (f, g) ↦ inr (rw f, λ h i. omega arith)
  | inl (t, g) ↦ elim (leb_tells end count) [
    | inr (f, i) ↦ inr (rw (t, f), λ h j. omega arith)
    | inl (u, i) ↦ inl (rw (t, u), g, i)
  ]
]

same_new : (size count end size' count' end' : ℕ) → (size < end → end ≤ count → (size' < end') × (end' ≤ count')) →
    (size' < end' → end' ≤ count' → (size < end) × (end ≤ count)) → is_new size count end ≡ is_new size' count' end'
same_new size count end size' count' end' there back = elim (new_tells size count end) [
  | inl (t, h, i) ↦ elim (new_tells size' count' end') [
    | inl (u, j, k) ↦ t ∙ sym u
    | inr (f, not) ↦ absurd (not (there h i).0 (there h i).1)
  ]
  | inr (f, not) ↦ elim (new_tells size' count' end') [
    | inl (u, j, k) ↦ absurd (not (back j k).0 (back j k).1)
    | inr (g, neither) ↦ f ∙ sym g
  ]
]

-- no new node changes nothing
pub updated_none : (hash : Hash) (layer size : ℕ) (L : List (List ℕ)) (w : WantedNode) → length L ≤ size →
    updated hash layer size L w ≡ w
updated_none hash layer size L w h =
    elim (new_tells size (length L) ((w.id.slot + 1) * 2 ^ (w.id.layer - layer))) [
      | inl (t, i, j) ↦ absurd (omega arith)
      | inr (f, not) ↦ elim (leb_tells layer w.id.layer) [
        | inl (t, i) ↦ rw (t, f)
        | inr (g, i) ↦ rw g
      ]
    ]

kept_away : (layer first : ℕ) (X : List (List ℕ)) (w : WantedNode) → (w.id.layer == layer) ≡ false →
    kept_in layer first X w ≡ w
kept_away layer first X w o = rw o

updated_away : (hash : Hash) (layer size : ℕ) (L : List (List ℕ)) (w : WantedNode) → nat_le layer w.id.layer ≡ false →
    updated hash layer size L w ≡ w
updated_away hash layer size L w f = rw f

layer_stays : (b : Bool) (v : List ℕ) (w : WantedNode) → (with_value b v w).id.layer ≡ w.id.layer
layer_stays true v w = refl
layer_stays false v w = refl

-- a new node of the layer itself
step_here : (hash : Hash) (layer size : ℕ) (L X : List (List ℕ)) (w : WantedNode) → length L ≡ size →
    w.id.layer ≡ layer → updated hash layer size (L ++ X) w ≡ kept_in layer size X w
step_here hash layer size L X w long same =
    let count : size + length X ≡ length (L ++ X) = sym (length-append L X ∙ ap (λ (n : ℕ). n + length X) long) in
    let t : nat_le layer w.id.layer ≡ true = grind (arith, nat_tests) in
    let e : (w.id.layer == layer) ≡ true = grind (arith, nat_tests) in
    let none : w.id.layer - layer ≡ 0 = omega arith in
    let one : (w.id.slot + 1) * 2 ^ 0 ≡ w.id.slot + 1 = omega arith in
    elim (new_tells size (length (L ++ X)) (w.id.slot + 1)) [
      | inl (u, i, j) ↦
          let is : node_at hash (L ++ X) 0 w.id.slot ≡ get_or X (w.id.slot - size) [] =
          node_here hash (L ++ X) w.id.slot (omega arith)
          ∙ get_or-append_right L X size w.id.slot [] long (omega arith) in
          rw (t, e, none, one, count, u) (ap (λ (v : List ℕ). with_value true v w) is)
      | inr (f, not) ↦ rw (t, e, none, one, count, f)
    ]

-- a node above
step_above : (hash : Hash) (layer size i : ℕ) (M : List (List ℕ)) (w : WantedNode) → w.id.layer ≡ layer + 1 + i →
    updated hash layer size M w ≡ updated hash (layer + 1) (size / 2) (parents_of hash M) w
step_above hash layer size i M w far =
    let up = length-parents hash M in
    let t : nat_le layer w.id.layer ≡ true = grind (arith, nat_tests) in
    let g : nat_le (layer + 1) w.id.layer ≡ true = grind (arith, nat_tests) in
    let depth : w.id.layer - layer ≡ suc i = omega arith in
    let depth_above : w.id.layer - (layer + 1) ≡ i = omega arith in
    let x = (w.id.slot + 1) * 2 ^ i in
    let twice : (w.id.slot + 1) * 2 ^ suc i ≡ x + x =
    ap (λ (n : ℕ). (w.id.slot + 1) * n) (pow-succ' 2 i) ∙ omega arith in
    let both : is_new size (length M) ((w.id.slot + 1) * 2 ^ suc i)
    ≡ is_new (size / 2) (length (parents_of hash M)) x =
    same_new size (length M) ((w.id.slot + 1) * 2 ^ suc i) (size / 2) (length (parents_of hash M)) x
    (λ a b. (omega arith, omega arith)) (λ a b. (omega arith, omega arith)) in
    elim (new_tells size (length M) ((w.id.slot + 1) * 2 ^ suc i)) [
      | inl (u, j, k) ↦
          let v : is_new (size / 2) (length (parents_of hash M)) x ≡ true = sym both ∙ u in
          rw (t, g, depth, depth_above, u, v)
          (ap (λ (v : List ℕ). with_value true v w) (node_above hash M i w.id.slot k))
      | inr (f, not) ↦
          let v : is_new (size / 2) (length (parents_of hash M)) x ≡ false = sym both ∙ f in
          rw (t, g, depth, depth_above, f, v)
    ]

-- a layer on: the new nodes of the layer, and then the layers above
pub updated_step : (hash : Hash) (layer size : ℕ) (L X : List (List ℕ)) (w : WantedNode) → length L ≡ size →
    updated hash layer size (L ++ X) w
    ≡ updated hash (layer + 1) (size / 2) (parents_of hash (L ++ X)) (kept_in layer size X w)
updated_step hash layer size L X w long =
    let M = L ++ X in
    let next = updated hash (layer + 1) (size / 2) (parents_of hash M) in
    elim (leb_tells layer w.id.layer) [
      | inr (f, h) ↦
          let g : nat_le (layer + 1) w.id.layer ≡ false = grind (arith, nat_tests) in
          let o : (w.id.layer == layer) ≡ false = grind (arith, nat_tests) in
          updated_away hash layer size M w f
          ∙ sym (ap next (kept_away layer size X w o)
          ∙ updated_away hash (layer + 1) (size / 2) (parents_of hash M) w g)
      | inl (t, h) ↦ elim (eqb_tells w.id.layer layer) [
        | inl (e, same) ↦
            let stays : (kept_in layer size X w).id.layer ≡ w.id.layer = layer_stays _ _ w in
            let g : nat_le (layer + 1) (kept_in layer size X w).id.layer ≡ false =
            rw stays (grind (arith, nat_tests)) in
            step_here hash layer size L X w long same
            ∙ sym (updated_away hash (layer + 1) (size / 2) (parents_of hash M) (kept_in layer size X w) g)
        | inr (o, differ) ↦
            step_above hash layer size (w.id.layer - (layer + 1)) M w (omega arith)
            ∙ sym (ap next (kept_away layer size X w o))
      ]
    ]

-- the same of all wanted nodes
step_all : (hash : Hash) (layer size : ℕ) (L X : List (List ℕ)) → length L ≡ size → (ws : List WantedNode) →
    map (updated hash (layer + 1) (size / 2) (parents_of hash (L ++ X))) (map (kept_in layer size X) ws)
    ≡ map (updated hash layer size (L ++ X)) ws
step_all hash layer size L X long [] = refl
step_all hash layer size L X long (w ∷ ws) =
    let one = sym (updated_step hash layer size L X w long) in
    let more = step_all hash layer size L X long ws in (λ i. one i ∷ more i)

pub wanted_step : (hash : Hash) (layer size : ℕ) (L X up : List (List ℕ)) (before kept after : List WantedNode) →
    length L ≡ size → up ≡ parents_of hash (L ++ X) → kept ≡ map (kept_in layer size X) before →
    after ≡ map (updated hash (layer + 1) (size / 2) up) kept → after ≡ map (updated hash layer size (L ++ X)) before
wanted_step hash layer size L X up before kept after long above first then =
    then ∙ rw (above, first) (step_all hash layer size L X long before)

pub wanted_none : (hash : Hash) (layer size : ℕ) (L : List (List ℕ)) (ws : List WantedNode) → length L ≤ size →
    ws ≡ map (updated hash layer size L) ws
wanted_none hash layer size L [] h = refl
wanted_none hash layer size L (w ∷ ws) h =
    let one = sym (updated_none hash layer size L w h) in
    let more = wanted_none hash layer size L ws h in (λ i. one i ∷ more i)

-- ---- from piece to piece

pub at_leaves : (hash : Hash) (size : ℕ) (L : List (List ℕ)) (w : WantedNode) → updated hash 0 size L w
    ≡ with_value (is_new size (length L) ((w.id.slot + 1) * 2 ^ w.id.layer)) (node_at hash L w.id.layer w.id.slot) w
at_leaves hash size L w =
    let t : nat_le 0 w.id.layer ≡ true = grind (arith, nat_tests) in
    let none : w.id.layer - 0 ≡ w.id.layer = omega arith in
    rw (t, none)

new_at : (size count end : ℕ) → size < end → end ≤ count → is_new size count end ≡ true
new_at size count end h i = elim (new_tells size count end) [
  | inl (t, j, k) ↦ t
  | inr (f, not) ↦ absurd (not h i)
]

old_at : (size count end : ℕ) → end ≤ size → is_new size count end ≡ false
old_at size count end h = elim (new_tells size count end) [
  | inl (t, j, k) ↦ absurd (omega arith)
  | inr (f, not) ↦ f
]

updated_twice : (hash : Hash) (size : ℕ) (A N : List (List ℕ)) (w : WantedNode) → size ≤ length A →
    updated hash 0 (length A) (A ++ N) (updated hash 0 size A w) ≡ updated hash 0 size (A ++ N) w
updated_twice hash size A N w h =
    let end = (w.id.slot + 1) * 2 ^ w.id.layer in
    let len = length-append A N in
    let next = updated hash 0 (length A) (A ++ N) in
    elim (new_tells size (length A) end) [
      | inl (u, i, j) ↦
          let v = node_at hash A w.id.layer w.id.slot in
          let inner : updated hash 0 size A w ≡ with_value true v w =
          at_leaves hash size A w ∙ ap (λ (b : Bool). with_value b v w) u in
          let f = old_at (length A) (length (A ++ N)) end j in
          let t = new_at size (length (A ++ N)) end i (omega arith) in
          ap next inner ∙ at_leaves hash (length A) (A ++ N) (with_value true v w)
          ∙ ap (λ (b : Bool). with_value b (node_at hash (A ++ N) w.id.layer w.id.slot) (with_value true v w)) f
          ∙ ap (λ (x : List ℕ). with_value true x w) (sym (node_stays hash A N w.id.layer w.id.slot j))
          ∙ ap (λ (b : Bool). with_value b (node_at hash (A ++ N) w.id.layer w.id.slot) w) (sym t)
          ∙ sym (at_leaves hash size (A ++ N) w)
      | inr (f, not) ↦
          let inner : updated hash 0 size A w ≡ w =
          at_leaves hash size A w ∙ ap (λ (b : Bool). with_value b (node_at hash A w.id.layer w.id.slot) w) f in
          let both : is_new (length A) (length (A ++ N)) end ≡ is_new size (length (A ++ N)) end =
          same_new (length A) (length (A ++ N)) end size (length (A ++ N)) end (λ a b. (omega arith, b))
          (λ a b. (elim (leb_tells end (length A)) [ inl (t, g) ↦ absurd (not a g) | inr (g, g') ↦ g' ], b)) in
          ap next inner ∙ at_leaves hash (length A) (A ++ N) w
          ∙ ap (λ (b : Bool). with_value b (node_at hash (A ++ N) w.id.layer w.id.slot) w) both
          ∙ sym (at_leaves hash size (A ++ N) w)
    ]

twice_all : (hash : Hash) (size : ℕ) (A N : List (List ℕ)) → size ≤ length A → (ws : List WantedNode) →
    map (updated hash 0 (length A) (A ++ N)) (map (updated hash 0 size A) ws) ≡ map (updated hash 0 size (A ++ N)) ws
twice_all hash size A N h [] = refl
twice_all hash size A N h (w ∷ ws) =
    let one = updated_twice hash size A N w h in
    let more = twice_all hash size A N h ws in (λ i. one i ∷ more i)

pub wanted_more : (hash : Hash) (size count : ℕ) (A N all : List (List ℕ)) (before kept after : List WantedNode) →
    size ≤ length A → count ≡ length A → all ≡ A ++ N → kept ≡ map (updated hash 0 size A) before →
    after ≡ map (updated hash 0 count (A ++ N)) kept → after ≡ map (updated hash 0 size all) before
wanted_more hash size count A N all before kept after h long is first then =
    then ∙ rw (long, first, is) (twice_all hash size A N h before)

-- ---- what a builder keeps

pub ids_stay : (hash : Hash) (size : ℕ) (L : List (List ℕ)) (ws : List WantedNode) →
    map indexed_of (map (updated hash 0 size L) ws) ≡ map indexed_of ws
ids_stay hash size L [] = refl
ids_stay hash size L (w ∷ ws) =
    ap (λ (p : ℕ × NodeId). p ∷ map indexed_of (map (updated hash 0 size L) ws)) (stays _ _ w)
    ∙ ap (λ (ps : List (ℕ × NodeId)). indexed_of w ∷ ps) (ids_stay hash size L ws)
  where
    stays : (b : Bool) (v : List ℕ) (u : WantedNode) → indexed_of (with_value b v u) ≡ indexed_of u
    stays true v u = refl
    stays false v u = refl

value_grows : (hash : Hash) (L X : List (List ℕ)) (w : WantedNode) → HasValue hash L w →
    HasValue hash (L ++ X) (updated hash 0 (length L) (L ++ X) w)
value_grows hash L X w has =
    let P : WantedNode → Type 0 = HasValue hash (L ++ X) in
    let at = at_leaves hash (length L) (L ++ X) w in
    let v = node_at hash (L ++ X) w.id.layer w.id.slot in
    elim (new_tells (length L) (length (L ++ X)) ((w.id.slot + 1) * 2 ^ w.id.layer)) [
      | inl (t, i, j) ↦ subst P (sym (at ∙ ap (λ (b : Bool). with_value b v w) t)) (λ h. refl)
      | inr (f, not) ↦ subst P (sym (at ∙ ap (λ (b : Bool). with_value b v w) f))
          (λ h. elim (leb_tells ((w.id.slot + 1) * 2 ^ w.id.layer) (length L)) [
            | inl (t, g) ↦ has g ∙ sym (node_stays hash L X w.id.layer w.id.slot g)
            | inr (g, more) ↦ absurd (not more h)
          ])
    ]

pub values_grow : (hash : Hash) (L X : List (List ℕ)) (ws : List WantedNode) → All (HasValue hash L) ws →
    All (HasValue hash (L ++ X)) (map (updated hash 0 (length L) (L ++ X)) ws)
values_grow hash L X ws all =
    All-map (HasValue hash (L ++ X)) (updated hash 0 (length L) (L ++ X)) ws
    (All-weaker (HasValue hash L) (λ w. HasValue hash (L ++ X) (updated hash 0 (length L) (L ++ X) w))
    (value_grows hash L X) ws all)

pub none_has_value : (hash : Hash) (w : WantedNode) → HasValue hash [] w
none_has_value hash w = λ h.
    let pos = pow_pos w.id.layer in
    let end : (w.id.slot + 1) * 2 ^ w.id.layer ≡ w.id.slot * 2 ^ w.id.layer + 2 ^ w.id.layer = omega arith in
    absurd (omega arith)

-- ---- the value of a node, by how many nodes of its layer have all their leaves

some_rest : (hash : Hash) (M : List (List ℕ)) → 0 < length M → root_of_rest hash M ≡ Some (leaves_root hash M)
some_rest hash [] h = absurd (omega arith)
some_rest hash (leaf ∷ rest) h = refl

pub value_of_whole : (hash : Hash) (L : List (List ℕ)) (w : WantedNode) → HasValue hash L w →
    w.id.slot < length L / 2 ^ w.id.layer → Some w.value ≡ value_at hash L w.id
value_of_whole hash L w has below =
    let m = 2 ^ w.id.layer in
    let pos = pow_pos w.id.layer in
    let part : (w.id.slot + 1) * m ≤ length L / m * m = mul-le-mul_right m (omega arith) in
    let all = div-mul-le_self (length L) m in
    let end : (w.id.slot + 1) * m ≡ w.id.slot * m + m = omega arith in
    let t : nat_lt (w.id.slot * m) (length L) ≡ true = grind (arith, nat_tests) in
    rw t (ap (λ (v : List ℕ). Some v) (has (omega arith)))

pub value_of_rest : (hash : Hash) (L : List (List ℕ)) (node : NodeId) (whole : ℕ) → whole ≡ length L / 2 ^ node.layer →
    node.slot ≡ whole → root_of_rest hash (drop (whole * 2 ^ node.layer) L) ≡ value_at hash L node
value_of_rest hash L node whole is_whole same =
    let m = 2 ^ node.layer in
    let pos = pow_pos node.layer in
    let split = div-add-mod' (length L) m in
    let short = mod-lt (length L) pos in
    let at : node.slot * m ≡ length L / m * m = ap (λ (n : ℕ). n * m) (same ∙ is_whole) in
    let at_whole : whole * m ≡ node.slot * m = ap (λ (n : ℕ). n * m) (sym same) in
    let len = length-drop (node.slot * m) L in
    elim (leb_tells (length L) (node.slot * m)) [
      | inl (t, h) ↦
          let f : nat_lt (node.slot * m) (length L) ≡ false = grind (arith, nat_tests) in
          rw (at_whole, f) (ap (root_of_rest hash) (drop_all (node.slot * m) L h))
      | inr (f, h) ↦
          let t : nat_lt (node.slot * m) (length L) ≡ true = grind (arith, nat_tests) in
          rw (at_whole, t) (some_rest hash (drop (node.slot * m) L) (omega arith)
          ∙ ap (λ (M : List (List ℕ)). Some (leaves_root hash M))
          (sym (take_all m (drop (node.slot * m) L) (omega arith))))
    ]

pub value_of_none : (hash : Hash) (L : List (List ℕ)) (node : NodeId) (whole : ℕ) → whole ≡ length L / 2 ^ node.layer →
    whole < node.slot → None ≡ value_at hash L node
value_of_none hash L node whole is_whole past =
    let m = 2 ^ node.layer in
    let pos = pow_pos node.layer in
    let split = div-add-mod' (length L) m in
    let short = mod-lt (length L) pos in
    let at : whole * m ≡ length L / m * m = ap (λ (n : ℕ). n * m) is_whole in
    let part : (whole + 1) * m ≤ node.slot * m = mul-le-mul_right m (omega arith) in
    let f : nat_lt (node.slot * m) (length L) ≡ false = grind (arith, nat_tests) in
    rw f
