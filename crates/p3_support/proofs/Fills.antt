-- Lists that are filled place by place.
use Rattle.std.proofs.Common.{◌≡◌, ℕ, ◌+◌, ◌-◌, ◌<◌, ◌≤◌, List, ◌++◌, length, take, get_or, set, ap, ◌∙◌, arith, inl}
use Rattle.std.proofs.Common.{inr}
use Rattle.std.proofs.lemmas.Bool.{cases_eq}
use Rattle.std.proofs.lemmas.List.{get_or-append_right, get_or-set_other, get_or-set_same, length-take-le}
use lib.ListN.{get_or-append}
use borrow.Rule.Slice.PartMut.{put_mid, post_of}

-- one more place that has what it should
pub filled_more : {X : Type 0} (f : ℕ → X) (xs : List X) (i : ℕ) (y d : X) → i < length xs → y ≡ f i →
    ((j : ℕ) → j < i → get_or xs j d ≡ f j)
    → (j : ℕ) → j < i + 1 → get_or (set xs i y) j d ≡ f j
filled_more f xs i y d inside made before j below =
    elim (cases_eq j i) [
      | inl same ↦ rw same (get_or-set_same xs i y d inside ∙ made)
      | inr other ↦ let low : j < i = omega (arith, below, other) in get_or-set_other xs i j y d other ∙ before j low
    ]

-- what stands in a part of a list once that part is written
pub get_or-put_mid : {X : Type 0} (a m k : ℕ) (xs ys : List X) (d : X) → a ≤ length xs → k < length ys →
    get_or (put_mid a m xs ys) (a + k) d ≡ get_or ys k d
get_or-put_mid a m k xs ys d inside below =
    let same : a + k - a ≡ k = omega arith in
    let within : a + k - a < length ys = rw same below in
    get_or-append_right (take a xs) (ys ++ post_of a m xs) a (a + k) d (length-take-le a xs inside) (omega arith)
    ∙ get_or-append ys (post_of a m xs) d (a + k - a) within ∙ ap (λ i. get_or ys i d) same
