-- Slots that are filled in groups, and what each lane of packed digests shows.
use Rattle.std.proofs.Common.{◌≡◌, ℕ, zero, suc, ◌+◌, ◌-◌, ◌*◌, ◌<◌, ◌≤◌, List, [], ◌∷◌, ◌++◌, length, map, take, drop}
use Rattle.std.proofs.Common.{get_or, set, replicate, min, ◌^◌, All, refl, sym, ap, ◌∙◌, arith, inl, inr, append-nil}
use Rattle.std.proofs.Common.{length-drop}
use Rattle.std.proofs.lemmas.Bool.{cases_lt, cases_eq}
use Rattle.std.proofs.lemmas.List.{drop_more, flat_map_more, take_more, append_assoc, set_at, length-take-le}
use Rattle.std.proofs.lemmas.List.{get_or_append_left, get_or-append_right, get_or-take, get_or-drop, get_or-replicate}
use Rattle.std.proofs.Math.Nat.{mul-le-mul_right, mul-le-mul_left, mul-suc, add-mul, one-mul}
use Rattle.p3_support.specs.Lists.{lane_of}
use Rattle.p3_merkle_hashing.specs.Inner.Slots.{rows_over}
use borrow.Rule.Slice.PartMut.{put_mid}
use prog.Memory.{capped}
use prog.Capped.{capped_is, capped_small}

-- the end of a group of w is w past its start
pub group_next : (g w : ℕ) → (g + 1) * w ≡ g * w + w
group_next g w = add-mul g 1 w ∙ ap (λ v. g * w + v) (one-mul w)

-- a group below n of them ends within all of them
pub group_end : (g w n m : ℕ) → g < n → n * w ≤ m → g * w + w ≤ m
group_end g w n m below fits = let more : (g + 1) * w ≤ n * w = mul-le-mul_right w (omega arith) in
    omega (arith, group_next g w, more)

-- what stands in a part that was just written
pub part_written : {X : Type 0} (xs ys : List X) (a k n j : ℕ) (d : X) → length ys ≡ n → a ≤ length xs → j < n →
    get_or (put_mid a k xs ys) (a + j) d ≡ get_or ys j d
part_written xs ys a k n j d long inside below =
    get_or-append_right (take a xs) (ys ++ drop k (drop a xs)) a (a + j) d (length-take-le a xs inside) (omega arith)
    ∙ ap (λ i. get_or (ys ++ drop k (drop a xs)) i d) (omega arith)
    ∙ get_or_append_left ys (drop k (drop a xs)) d j (rw long below)

-- and before it
pub part_before : {X : Type 0} (xs ys : List X) (a k j : ℕ) (d : X) → a ≤ length xs → j < a →
    get_or (put_mid a k xs ys) j d ≡ get_or xs j d
part_before xs ys a k j d inside below =
    get_or_append_left (take a xs) (ys ++ drop k (drop a xs)) d j (rw (length-take-le a xs inside) below)
    ∙ get_or-take a xs j d below

-- one more group of w slots is written
pub group_more : {X : Type 0} (f seen : ℕ → X) (xs ys : List X) (g w : ℕ) (d : X)
    → ((k : ℕ) → k < w → get_or ys (g * w + k) d ≡ seen k) → ((k : ℕ) → k < w → seen k ≡ f (g * w + k))
    → ((j : ℕ) → j < g * w → get_or ys j d ≡ get_or xs j d)
    → ((j : ℕ) → j < g * w → get_or xs j d ≡ f j)
    → (j : ℕ) → j < (g + 1) * w → get_or ys j d ≡ f j
group_more f seen xs ys g w d made each kept before j below =
    elim (cases_lt j (g * w)) [
      | inl low ↦ kept j low ∙ before j low
      | inr high ↦
          let inner : j - g * w < w = omega (arith, group_next g w) in
          let at : j ≡ g * w + (j - g * w) = omega arith in
          ap (λ i. get_or ys i d) at ∙ made (j - g * w) inner ∙ each (j - g * w) inner ∙ ap f (sym at)
    ]

-- the next element is written over one of the first list
pub put_next : {X : Type 0} (first whole : List X) (n : ℕ) (x d : X) → n < length whole → n < length first →
    get_or whole n d ≡ x → set (take n whole ++ drop n first) n x ≡ take (n + 1) whole ++ drop (n + 1) first
put_next first whole n x d in_whole in_first is =
    rw (
      drop_more first n d in_first,
      set_at (take n whole) (get_or first n d) (drop (n + 1) first) x n
          (length-take-le n whole (omega arith)),
    )
    (sym (append_assoc (take n whole) (x ∷ []) (drop (n + 1) first))
    ∙ ap (λ z. z ++ drop (n + 1) first) (sym (take_more whole n d in_whole ∙ ap (λ y. take n whole ++ y ∷ []) is)))

-- the children of the node first + k are in the layer, where those up to first + w are
pub children_inside : (step first k w m : ℕ) → k < w → step * (first + w) ≤ m → step * (first + k) + step ≤ m
children_inside step first k w m below fits =
    let more : step * suc (first + k) ≤ step * (first + w) = mul-le-mul_left step (omega arith) in
    omega (arith, more, fits, mul-suc step (first + k))

-- so they are as many as the step
pub children_long : {X : Type 0} (below : List X) (step first k w : ℕ) → k < w → step * (first + w) ≤ length below →
    length (take step (drop (step * (first + k)) below)) ≡ step
children_long below step first k w small fits =
    length-take-le step (drop (step * (first + k)) below)
    (omega (
      arith,
      length-drop (step * (first + k)) below,
      children_inside step first k w (length below) small fits,
    ))

-- child n of the node first + k
pub child_at : {X : Type 0} (below : List X) (step first k n : ℕ) (d : X) → n < step →
    get_or (take step (drop (step * (first + k)) below)) n d ≡ get_or below (step * (first + k) + n) d
child_at below step first k n d child = get_or-take step (drop (step * (first + k)) below) n d child
    ∙ get_or-drop (step * (first + k)) below n d

-- a number is not above its product with a step
below_product : (step i m : ℕ) → 0 < step → step * i ≤ m → i ≤ m
below_product step i m some fits = let more : 1 * i ≤ step * i = mul-le-mul_right i (omega arith) in
    omega (arith, more, fits)

-- so a child is in the layer
pub child_below : (step first k w n m : ℕ) → n < step → k < w → step * (first + w) ≤ m → step * (first + k) + n < m
child_below step first k w n m child below fits = omega (arith, children_inside step first k w m below fits, child)

-- and its node is no further than the layer's end
pub node_below : (step first k w n m : ℕ) → n < step → k < w → step * (first + w) ≤ m → first + k ≤ m
node_below step first k w n m child below fits =
    below_product step (first + k) m (omega arith) (omega (arith, children_inside step first k w m below fits))

-- a list of one value, seen through a function
pub map_replicate : {A B : Type 0} (of : A → B) (n : ℕ) (x : A) → map of (replicate n x) ≡ replicate n (of x)
map_replicate of zero x = refl
map_replicate of (suc n) x = ap (λ ys. of x ∷ ys) (map_replicate of n x)

-- each lane of default digests is default digests
pub default_lanes : {A P : Type 0} (lanes : P → List A) (d : A) (p : P) (w k m n : ℕ) → lanes p ≡ replicate w d →
    k < w → map (lane_of lanes d k) (replicate n (replicate m p)) ≡ replicate n (replicate m d)
default_lanes lanes d p w k m n is below =
    let one : get_or (lanes p) k d ≡ d = ap (λ l. get_or l k d) is ∙ get_or-replicate w k d d below in
    map_replicate (lane_of lanes d k) n (replicate m p)
    ∙ ap (λ l. replicate n l) (map_replicate (λ q. get_or (lanes q) k d) m p ∙ ap (λ v. replicate m v) one)

-- the rows of one more matrix
pub rows_more : {T M : Type 0} (row : M → ℕ → List T) (r : ℕ) (ms : List M) (i : ℕ) (m : M) → i < length ms → m
    ≡ get_or ms i m → rows_over row (take (i + 1) ms) r ≡ rows_over row (take i ms) r ++ row m r
rows_more row r ms i m inside is =
    ap (λ l. rows_over row l r) (take_more ms i m inside ∙ ap (λ x. take i ms ++ x ∷ []) (sym is))
    ∙ sym (flat_map_more (λ m. row m r) [] (take i ms) m)

-- which has the height of all
pub height_at : {M : Type 0} (height : M → ℕ) (h : ℕ) (ms : List M) (i : ℕ) (m : M) → All (λ m. height m ≡ h) ms →
    i < length ms → m ≡ get_or ms i m → height m ≡ h
height_at height h ms i m all inside is = ap height is ∙ all i m inside

-- a list of one element
pub one_element : {A : Type 0} (xs : List A) (x : A) → length xs ≡ 1 → x ≡ get_or xs 0 x → xs ≡ x ∷ []
one_element [] x h is = absurd (omega arith)
one_element (y ∷ []) x h is = ap (λ z. z ∷ []) (sym is)
one_element (y ∷ z ∷ ys) x h is = absurd (omega arith)

-- one matrix alone gives its own row
pub rows_alone : {T M : Type 0} (row : M → ℕ → List T) (j : ℕ) (ms : List M) (m : M) → length ms ≡ 1 → m
    ≡ get_or ms 0 m → rows_over row ms j ≡ row m j
rows_alone row j ms m one is = rw (one_element ms m one is) (append-nil (row m j))

-- an array of arrays of s bytes each fits, where its bytes are few as code counts them, which caps what is too large
pub array_small : (outer inner s size row bytes : ℕ) → size ≡ capped s → row ≡ min (inner * size) (2 ^ 64 - 1) →
    bytes ≡ min (outer * row) (2 ^ 64 - 1) → bytes < 2 ^ 63 → outer * (inner * s) < 2 ^ 63
array_small outer inner s size row bytes is_size is_row is_bytes h =
    elim (cases_eq outer 0) [
      | inl none ↦ rw none (omega arith)
      | inr some ↦
          let more : 1 * row ≤ outer * row = mul-le-mul_right row (omega arith) in
          let whole : row ≡ inner * size = omega (arith, more) in
          elim (cases_eq inner 0) [
            | inl none ↦ let zero_sum : outer * (inner * s) ≡ 0 = rw none (omega arith) in omega arith
            | inr there ↦
                let one : 1 * size ≤ inner * size = mul-le-mul_right size (omega arith) in
                let small : s < 2 ^ 63 = capped_small s (rw (← is_size) (omega (arith, more, one))) in
                let is : size ≡ s = is_size ∙ capped_is s (omega (arith, small)) in
                rw (← is, ← whole) (omega (arith, more))
          ]
    ]
