-- The layer above a list of nodes, and what the standard's recursions from the root give from layer to layer.
use Rattle.std.proofs.Common.{◌≡◌, ℕ, zero, suc, ◌+◌, ◌-◌, ◌/◌, ◌<◌, ◌≤◌, refl, sym, ap, ◌∙◌, arith, inl, inr, List, []}
use Rattle.std.proofs.Common.{◌∷◌, ◌++◌, length, take, drop, get_or, append_assoc, length-drop}
use Rattle.std.proofs.lemmas.Bool.Decides.{leb_tells, nat_tests}
use Rattle.std.proofs.lemmas.List.{length-take-le}
use Rattle.std.specs.Prelude.{true, false, nat_lt}
use Rattle.tlog.specs.Rfc9162.{Hash, doubled, mth, mth_within, node_hash, path_within, split}
use Rattle.tlog.proofs.Splits.{IsSplit, split_is, split_of_half, split_of_two}

-- the nodes above: each pair is hashed, an only child is passed on
abbrev pub above : {X : Type 0} → Hash → (X → List ℕ) → List X → List (List ℕ)
above hash leaf [] = []
above hash leaf (x ∷ []) = leaf x ∷ []
above hash leaf (x ∷ (y ∷ rest)) = node_hash hash (leaf x) (leaf y) ∷ above hash leaf rest

-- the sibling of a node, if there is one
abbrev pub sibling : {X : Type 0} → (X → List ℕ) → ℕ → List X → List (List ℕ)
sibling leaf m [] = []
sibling leaf m (x ∷ []) = []
sibling leaf zero (x ∷ (y ∷ rest)) = leaf y ∷ []
sibling leaf (suc zero) (x ∷ (y ∷ rest)) = leaf x ∷ []
sibling leaf (suc (suc m)) (x ∷ (y ∷ rest)) = sibling leaf m rest

-- a node of the layer above
abbrev pub itself : List ℕ → List ℕ
itself node = node

pub length-above : {X : Type 0} (hash : Hash) (leaf : X → List ℕ) (L : List X) →
    length (above hash leaf L) ≡ (length L + 1) / 2
length-above hash leaf [] = refl
length-above hash leaf (x ∷ []) = refl
length-above hash leaf (x ∷ (y ∷ rest)) = let h = length-above hash leaf rest in omega arith

-- ---- the first nodes, of an even number, and the others

pub above_parts : {X : Type 0} (hash : Hash) (leaf : X → List ℕ) (j k : ℕ) (L : List X) → k ≡ j + j →
    (above hash leaf (take k L) ≡ take j (above hash leaf L))
    × (above hash leaf (drop k L) ≡ drop j (above hash leaf L))
above_parts hash leaf zero zero L e = (refl, refl)
above_parts hash leaf zero (suc k) L e = absurd (omega arith)
above_parts hash leaf (suc j) zero L e = absurd (omega arith)
above_parts hash leaf (suc j) (suc zero) L e = absurd (omega arith)
above_parts hash leaf (suc j) (suc (suc k)) [] e = (refl, refl)
above_parts hash leaf (suc zero) (suc (suc k)) (x ∷ []) e = (refl, refl)
above_parts hash leaf (suc (suc j)) (suc (suc k)) (x ∷ []) e = (refl, refl)
above_parts hash leaf (suc j) (suc (suc k)) (x ∷ (y ∷ rest)) e =
    let up = above_parts hash leaf j k rest (omega arith) in
    (ap (λ (ns : List (List ℕ)). node_hash hash (leaf x) (leaf y) ∷ ns) up.0, up.1)

sibling-take : {X : Type 0} (leaf : X → List ℕ) (j k m : ℕ) (L : List X) → k ≡ j + j → m < k →
    sibling leaf m (take k L) ≡ sibling leaf m L
sibling-take leaf zero k m L e h = absurd (omega arith)
sibling-take leaf (suc j) zero m L e h = absurd (omega arith)
sibling-take leaf (suc j) (suc zero) m L e h = absurd (omega arith)
sibling-take leaf (suc j) (suc (suc k)) m [] e h = refl
sibling-take leaf (suc j) (suc (suc k)) m (x ∷ []) e h = refl
sibling-take leaf (suc j) (suc (suc k)) zero (x ∷ (y ∷ rest)) e h = refl
sibling-take leaf (suc j) (suc (suc k)) (suc zero) (x ∷ (y ∷ rest)) e h = refl
sibling-take leaf (suc j) (suc (suc k)) (suc (suc m)) (x ∷ (y ∷ rest)) e h =
    sibling-take leaf j k m rest (omega arith) (omega arith)

sibling-drop : {X : Type 0} (leaf : X → List ℕ) (j k m : ℕ) (L : List X) → k ≡ j + j →
    sibling leaf m (drop k L) ≡ sibling leaf (k + m) L
sibling-drop leaf zero zero m L e = ap (λ (x : ℕ). sibling leaf x L) (omega arith)
sibling-drop leaf zero (suc k) m L e = absurd (omega arith)
sibling-drop leaf (suc j) zero m L e = absurd (omega arith)
sibling-drop leaf (suc j) (suc zero) m L e = absurd (omega arith)
sibling-drop leaf (suc j) (suc (suc k)) m [] e = refl
sibling-drop leaf (suc j) (suc (suc k)) m (x ∷ []) e = refl
sibling-drop leaf (suc j) (suc (suc k)) m (x ∷ (y ∷ rest)) e =
    let n : suc (suc (k + m)) ≡ suc (suc k) + m = omega arith in
    sibling-drop leaf j k m rest (omega arith) ∙ ap (λ (n : ℕ). sibling leaf n (x ∷ (y ∷ rest))) n

-- ---- MTH

pub mth-more : {X : Type 0} (depth : ℕ) (hash : Hash) (leaf : X → List ℕ) (L : List X) → 2 ≤ length L →
    mth_within (suc depth) hash leaf L
    ≡ node_hash hash (mth_within depth hash leaf (take (split (length L)) L))
    (mth_within depth hash leaf (drop (split (length L)) L))
unfolding mth_within
mth-more depth hash leaf [] h = absurd (omega arith)
mth-more depth hash leaf (x ∷ []) h = absurd (omega arith)
mth-more depth hash leaf (x ∷ (y ∷ rest)) h = refl

-- how a list of three and more is split, and the layer above it
pub record Parts {X : Type 0} (hash : Hash) (leaf : X → List ℕ) (L : List X) (k j : ℕ) : Type 0 where
  pub whole : IsSplit (length L) k
  pub upper : IsSplit ((length L + 1) / 2) j
  pub twice : k ≡ j + j
  pub len_upper : length (above hash leaf L) ≡ (length L + 1) / 2
  pub len_take : length (take k L) ≡ k
  pub len_drop : length (drop k L) ≡ length L - k
  pub first : above hash leaf (take k L) ≡ take j (above hash leaf L)
  pub others : above hash leaf (drop k L) ≡ drop j (above hash leaf L)
  pub above_take : length (above hash leaf (take k L)) ≡ j
  pub above_drop : length (above hash leaf (drop k L)) ≡ (length L + 1) / 2 - j

pub parts_of : {X : Type 0} (hash : Hash) (leaf : X → List ℕ) (L : List X) → 3 ≤ length L →
    Parts hash leaf L (split (length L)) (split (length (above hash leaf L)))
parts_of hash leaf L three =
    let len = length-above hash leaf L in
    let w = split_is (length L) (omega arith) in
    let u : IsSplit ((length L + 1) / 2) (split (length (above hash leaf L))) =
    rw (← len) (split_is (length (above hash leaf L)) (omega arith)) in
    let e : split (length L) ≡ split (length (above hash leaf L)) + split (length (above hash leaf L)) =
    split_of_half (length L) (length (above hash leaf L)) three len in
    let t = length-take-le (split (length L)) L (let b = w.below in omega arith) in
    let d = length-drop (split (length L)) L in
    let at = length-above hash leaf (take (split (length L)) L) in
    let ad = length-above hash leaf (drop (split (length L)) L) in
    record {
      whole = w;
      upper = u;
      twice = e;
      len_upper = len;
      len_take = t;
      len_drop = d;
      first = (above_parts hash leaf _ _ L e).0;
      others = (above_parts hash leaf _ _ L e).1;
      above_take = omega arith;
      above_drop = (let a = u.below in let b = w.below in omega arith);
    }

mth-join : {X : Type 0} (depth other : ℕ) (hash : Hash) (leaf : X → List ℕ) (L : List X) → 3 ≤ length L →
    mth_within depth hash leaf (take (split (length L)) L)
    ≡ mth_within other hash itself (above hash leaf (take (split (length L)) L)) →
    mth_within depth hash leaf (drop (split (length L)) L)
    ≡ mth_within other hash itself (above hash leaf (drop (split (length L)) L)) →
    mth_within (suc depth) hash leaf L ≡ mth_within (suc other) hash itself (above hash leaf L)
mth-join depth other hash leaf L three left right =
    let p = parts_of hash leaf L three in
    let two : 2 ≤ length (above hash leaf L) = let len = p.len_upper in omega arith in
    mth-more depth hash leaf L (omega arith)
    ∙ rw (left, right, p.first, p.others)
    (sym (mth-more other hash itself (above hash leaf L) two))

-- the root is that of the layer above
pub mth-above : {X : Type 0} (depth other : ℕ) (hash : Hash) (leaf : X → List ℕ) (L : List X) → 0 < length L →
    length L ≤ depth → length (above hash leaf L) ≤ other →
    mth_within depth hash leaf L ≡ mth_within other hash itself (above hash leaf L)
unfolding mth_within
mth-above depth other hash leaf [] some a b = absurd (omega arith)
mth-above depth other hash leaf (x ∷ []) some a b = refl
mth-above zero other hash leaf (x ∷ (y ∷ rest)) some a b = absurd (omega arith)
mth-above (suc depth) zero hash leaf (x ∷ (y ∷ rest)) some a b = absurd (omega arith)
mth-above (suc depth) (suc other) hash leaf (x ∷ (y ∷ [])) some a b = rw split_of_two
mth-above (suc depth) (suc other) hash leaf (x ∷ (y ∷ (z ∷ rest))) some a b =
    let p = parts_of hash leaf (x ∷ (y ∷ (z ∷ rest))) (omega arith) in
    let w = p.whole in let u = p.upper in
    mth-join depth other hash leaf (x ∷ (y ∷ (z ∷ rest))) (omega arith)
    (mth-above depth other hash leaf (take (split (length (x ∷ (y ∷ (z ∷ rest))))) (x ∷ (y ∷ (z ∷ rest))))
    (omega arith) (omega arith) (omega arith))
    (mth-above depth other hash leaf (drop (split (length (x ∷ (y ∷ (z ∷ rest))))) (x ∷ (y ∷ (z ∷ rest))))
    (omega arith) (omega arith) (omega arith))

pub mth_above : {X : Type 0} (hash : Hash) (leaf : X → List ℕ) (L : List X) → 0 < length L →
    mth hash leaf L ≡ mth hash itself (above hash leaf L)
mth_above hash leaf L some = mth-above (length L) _ hash leaf L some (omega arith) (omega arith)

-- ---- PATH

pub path-more : {X : Type 0} (depth : ℕ) (hash : Hash) (leaf : X → List ℕ) (m : ℕ) (L : List X) → 2 ≤ length L →
    path_within (suc depth) hash leaf m L ≡ elim (nat_lt m (split (length L))) [
      | true ↦ path_within depth hash leaf m (take (split (length L)) L)
          ++ mth hash leaf (drop (split (length L)) L) ∷ []
      | false ↦ path_within depth hash leaf (m - split (length L)) (drop (split (length L)) L)
          ++ mth hash leaf (take (split (length L)) L) ∷ []
    ]
unfolding path_within
path-more depth hash leaf m [] h = absurd (omega arith)
path-more depth hash leaf m (x ∷ []) h = absurd (omega arith)
path-more depth hash leaf m (x ∷ (y ∷ rest)) h = refl

path-join : {X : Type 0} (depth other : ℕ) (hash : Hash) (leaf : X → List ℕ) (m : ℕ) (L : List X) → 3 ≤ length L →
    (m < split (length L) → path_within depth hash leaf m (take (split (length L)) L)
    ≡ sibling leaf m (take (split (length L)) L)
    ++ path_within other hash itself (m / 2) (above hash leaf (take (split (length L)) L))) →
    (split (length L) ≤ m → path_within depth hash leaf (m - split (length L)) (drop (split (length L)) L)
    ≡ sibling leaf (m - split (length L)) (drop (split (length L)) L)
    ++ path_within other hash itself ((m - split (length L)) / 2) (above hash leaf (drop (split (length L)) L))) →
    path_within (suc depth) hash leaf m L
    ≡ sibling leaf m L ++ path_within (suc other) hash itself (m / 2) (above hash leaf L)
path-join depth other hash leaf m L three left right =
    let p = parts_of hash leaf L three in
    let w = p.whole in let u = p.upper in
    let two : 2 ≤ length (above hash leaf L) = let len = p.len_upper in omega arith in
    let here = path-more depth hash leaf m L (omega arith) in
    let there = path-more other hash itself (m / 2) (above hash leaf L) two in
    elim (leb_tells (suc m) (split (length L))) [
      | inl (t, h) ↦
          let t2 : nat_lt (m / 2) (split (length (above hash leaf L))) ≡ true = grind (arith, nat_tests) in
          let root = mth_above hash leaf (drop (split (length L)) L) (omega arith) in
          rw (here, t, there, t2, left h, root, p.first, p.others)
          (rw (sibling-take leaf _ _ m L p.twice h, append_assoc))
      | inr (f, h) ↦
          let f2 : nat_lt (m / 2) (split (length (above hash leaf L))) ≡ false = grind (arith, nat_tests) in
          let root = mth_above hash leaf (take (split (length L)) L) (omega arith) in
          let half : (m - split (length L)) / 2 ≡ m / 2 - split (length (above hash leaf L)) = let e =
          p.twice in omega arith in
          let back : split (length L) + (m - split (length L)) ≡ m = omega arith in
          rw (here, f, there, f2, right (omega arith), root, p.first, p.others)
          (rw (sibling-drop leaf _ _ (m - split (length L)) L p.twice, back, half, append_assoc))
    ]

path-two : {X : Type 0} (depth other : ℕ) (hash : Hash) (leaf : X → List ℕ) (m : ℕ) (x y : X) → m < 2 →
    path_within (suc depth) hash leaf m (x ∷ (y ∷ []))
    ≡ sibling leaf m (x ∷ (y ∷ [])) ++ path_within (suc other) hash itself (m / 2) (above hash leaf (x ∷ (y ∷ [])))
unfolding path_within mth_within doubled
path-two depth other hash leaf zero x y h = refl
path-two depth other hash leaf (suc zero) x y h = refl
path-two depth other hash leaf (suc (suc m)) x y h = absurd (omega arith)

-- a path is the sibling, if there is one, and the path of the node above
pub path-above : {X : Type 0} (depth other : ℕ) (hash : Hash) (leaf : X → List ℕ) (m : ℕ) (L : List X) →
    m < length L → length L ≤ depth → length (above hash leaf L) ≤ other →
    path_within depth hash leaf m L
    ≡ sibling leaf m L ++ path_within other hash itself (m / 2) (above hash leaf L)
unfolding path_within mth_within
path-above depth other hash leaf m [] h a b = absurd (omega arith)
path-above depth other hash leaf m (x ∷ []) h a b = refl
path-above zero other hash leaf m (x ∷ (y ∷ rest)) h a b = absurd (omega arith)
path-above (suc depth) zero hash leaf m (x ∷ (y ∷ rest)) h a b = absurd (omega arith)
path-above (suc depth) (suc other) hash leaf m (x ∷ (y ∷ [])) h a b = path-two depth other hash leaf m x y h
path-above (suc depth) (suc other) hash leaf m (x ∷ (y ∷ (z ∷ rest))) h a b =
    let p = parts_of hash leaf (x ∷ (y ∷ (z ∷ rest))) (omega arith) in
    let w = p.whole in let u = p.upper in
    path-join depth other hash leaf m (x ∷ (y ∷ (z ∷ rest))) (omega arith)
    (λ l. path-above depth other hash leaf m (take (split (length (x ∷ (y ∷ (z ∷ rest))))) (x ∷ (y ∷ (z ∷ rest))))
    (omega arith) (omega arith) (omega arith))
    (λ l. path-above depth other hash leaf (m - split (length (x ∷ (y ∷ (z ∷ rest)))))
    (drop (split (length (x ∷ (y ∷ (z ∷ rest))))) (x ∷ (y ∷ (z ∷ rest))))
    (omega arith) (omega arith) (omega arith))

-- ---- a node above, and a sibling, by their places

pub pair_at : {X : Type 0} (hash : Hash) (leaf : X → List ℕ) (i m : ℕ) (L : List X) (d : X) (e : List ℕ) →
    m ≡ i + i → m + 1 < length L →
    (get_or (above hash leaf L) i e ≡ node_hash hash (leaf (get_or L m d)) (leaf (get_or L (suc m) d)))
    × (sibling leaf m L ≡ leaf (get_or L (suc m) d) ∷ []) × (sibling leaf (suc m) L ≡ leaf (get_or L m d) ∷ [])
pair_at hash leaf i m [] d e q h = absurd (omega arith)
pair_at hash leaf i m (x ∷ []) d e q h = absurd (omega arith)
pair_at hash leaf zero zero (x ∷ (y ∷ rest)) d e q h = (refl, refl, refl)
pair_at hash leaf zero (suc m) (x ∷ (y ∷ rest)) d e q h = absurd (omega arith)
pair_at hash leaf (suc i) zero (x ∷ (y ∷ rest)) d e q h = absurd (omega arith)
pair_at hash leaf (suc i) (suc zero) (x ∷ (y ∷ rest)) d e q h = absurd (omega arith)
pair_at hash leaf (suc i) (suc (suc m)) (x ∷ (y ∷ rest)) d e q h =
    pair_at hash leaf i m rest d e (omega arith) (omega arith)

pub only_at : {X : Type 0} (hash : Hash) (leaf : X → List ℕ) (i m : ℕ) (L : List X) (d : X) (e : List ℕ) →
    m ≡ i + i → m + 1 ≡ length L → (get_or (above hash leaf L) i e ≡ leaf (get_or L m d)) × (sibling leaf m L ≡ [])
only_at hash leaf i m [] d e q h = absurd (omega arith)
only_at hash leaf zero zero (x ∷ []) d e q h = (refl, refl)
only_at hash leaf zero (suc m) (x ∷ []) d e q h = absurd (omega arith)
only_at hash leaf (suc i) m (x ∷ []) d e q h = absurd (omega arith)
only_at hash leaf i zero (x ∷ (y ∷ rest)) d e q h = absurd (omega arith)
only_at hash leaf i (suc zero) (x ∷ (y ∷ rest)) d e q h = absurd (omega arith)
only_at hash leaf zero (suc (suc m)) (x ∷ (y ∷ rest)) d e q h = absurd (omega arith)
only_at hash leaf (suc i) (suc (suc m)) (x ∷ (y ∷ rest)) d e q h =
    only_at hash leaf i m rest d e (omega arith) (omega arith)
