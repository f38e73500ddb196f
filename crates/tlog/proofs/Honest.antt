-- Honest proofs are accepted.
use Rattle.std.proofs.Common.{◌≡◌, ℕ, zero, suc, ◌+◌, ◌-◌, ◌/◌, ◌^◌, ◌<◌, ◌≤◌, refl, sym, ap, subst, ◌∙◌, arith, inl}
use Rattle.std.proofs.Common.{inr, List, [], ◌∷◌, ◌++◌, length, take, drop, get_or, Some}
use Rattle.std.proofs.lemmas.Bool.Decides.{eqb_tells, leb_tells, nat_tests}
use Rattle.std.proofs.lemmas.List.{drop-take, get_or-drop, get_or-take, length-take-le, length-drop, take-take}
use Rattle.std.proofs.lemmas.List.{take_all}
use Rattle.std.proofs.Math.Nat.{div-div-eq-div-mul, pow-succ'}
use Rattle.std.specs.Prelude.{◌==◌, Bool, true, false, nat_le, Option, ◌⊎◌, nat_lt}
use Rattle.std.specs.Int.{w64, trailing_ones, is_power_of_two}
use Rattle.tlog.specs.Rfc9162.{node_hash, Hash, consistency_end, consistency_from, consistency_proof, consistency_walk}
use Rattle.tlog.specs.Rfc9162.{inclusion_end, leaf_hash, proof_of, root_of, mth, mth_within, path, path_within, split}
use Rattle.tlog.specs.Climbs.{climb_end}
use Rattle.tlog.specs.Rfc9162.{subproof, subproof_within}
use Rattle.tlog.specs.Verdicts.{IsConsistent, size_limit}
use Rattle.tlog.proofs.Bits.{ones_of_double, ones_of_odd, power_of_double, power_of_odd, power_of_one}
use Rattle.tlog.proofs.Splits.{split_is, split_parity}
use Rattle.tlog.proofs.Layers.{above, above_parts}
use Rattle.tlog.proofs.Layers.{itself, length-above, mth-above, mth_above, parts_of, mth-more, path-above, path-more}
use Rattle.tlog.proofs.Climbs.{as_inclusion, parity, path_above}
use Rattle.tlog.proofs.Sides.{climb_left, climb_right, same_split}
use Rattle.tlog.proofs.Walks.{end_of}

-- ---- consistency: SUBPROOF from layer to layer

pub sub-more : {X : Type 0} (depth : ℕ) (hash : Hash) (leaf : X → List ℕ) (m : ℕ) (L : List X) (b : Bool) →
    m < length L →
    subproof_within (suc depth) hash leaf m L b ≡ elim (nat_le m (split (length L))) [
      | true ↦ subproof_within depth hash leaf m (take (split (length L)) L) b
          ++ mth hash leaf (drop (split (length L)) L) ∷ []
      | false ↦ subproof_within depth hash leaf (m - split (length L)) (drop (split (length L)) L) false
          ++ mth hash leaf (take (split (length L)) L) ∷ []
    ]
unfolding subproof_within
sub-more depth hash leaf m L b h =
    let f : (m == length L) ≡ false = grind (arith, nat_tests) in rw (f, subproof_within)

-- from one entry, whose root the verifier has
pub sub-one : {X : Type 0} (depth : ℕ) (hash : Hash) (leaf : X → List ℕ) (L : List X) → 0 < length L →
    length L ≤ depth → subproof_within depth hash leaf 1 L true ≡ path_within depth hash leaf 0 L
unfolding subproof_within path_within
sub-one depth hash leaf [] some enough = absurd (omega arith)
sub-one zero hash leaf (x ∷ L) some enough = absurd (omega arith)
sub-one (suc depth) hash leaf (x ∷ []) some enough = refl
sub-one (suc depth) hash leaf (x ∷ (y ∷ L)) some enough =
    let s = split_is (length (x ∷ (y ∷ L))) (omega arith) in
    let len = length-take-le (split (length (x ∷ (y ∷ L)))) (x ∷ (y ∷ L)) (let b = s.below in omega arith) in
    let t : nat_le 1 (split (length (x ∷ (y ∷ L)))) ≡ true = let p = s.some in grind (arith, nat_tests) in
    sub-more depth hash leaf 1 (x ∷ (y ∷ L)) true (omega arith)
    ∙ rw (
      t,
      sub-one depth hash leaf (take (split (length (x ∷ (y ∷ L)))) (x ∷ (y ∷ L))) (let p = s.some in omega arith)
          (let b = s.below in omega arith),
    )
    (sym (path-more depth hash leaf 0 (x ∷ (y ∷ L)) (omega arith) ∙ rw t))

-- from an odd number of entries: the node of the last of them, and its path
sub-odd-more : {X : Type 0} (depth : ℕ) (hash : Hash) (leaf : X → List ℕ) (i : ℕ) (L : List X) (b : Bool) (d : X) →
    suc (i + i) < length L →
    ((suc (i + i) < split (length L)) ⊎ (split (length L) ≡ 1) → suc (i + i) ≤ split (length L) →
    subproof_within depth hash leaf (suc (i + i)) (take (split (length L)) L) b
    ≡ leaf (get_or (take (split (length L)) L) (i + i) d) ∷ path_within depth hash leaf (i + i) (take (split
    (length L)) L)) →
    ((j : ℕ) → split (length L) ≡ j + j → j ≤ i →
    subproof_within depth hash leaf (suc ((i - j) + (i - j))) (drop (split (length L)) L) false
    ≡ leaf (get_or (drop (split (length L)) L) ((i - j) + (i - j)) d)
    ∷ path_within depth hash leaf ((i - j) + (i - j)) (drop (split (length L)) L)) →
    subproof_within (suc depth) hash leaf (suc (i + i)) L b
    ≡ leaf (get_or L (i + i) d) ∷ path_within (suc depth) hash leaf (i + i) L
sub-odd-more depth hash leaf i L b d within left right =
    let here = sub-more depth hash leaf (suc (i + i)) L b within in
    let there = path-more depth hash leaf (i + i) L (omega arith) in
    elim (leb_tells (suc (i + i)) (split (length L))) [
      | inl (t, h) ↦
          let even : (suc (i + i) < split (length L)) ⊎ (split (length L) ≡ 1) =
          elim (split_parity (length L) (omega arith)) [ inl one ↦ inr one | inr (j, e) ↦ inl (omega arith) ] in
          here ∙ rw (t, left even h, get_or-take (split (length L)) L (i + i) d h)
          (sym (ap (λ (p : List (List ℕ)). leaf (get_or L (i + i) d) ∷ p) (there ∙ rw t)))
      | inr (f, h) ↦
          let s = split_is (length L) (omega arith) in
          let even : (j : ℕ) × (split (length L) ≡ j + j) =
          elim (split_parity (length L) (omega arith)) [ inl one ↦ absurd (omega arith) | inr (j, e) ↦ (j, e) ] in
          let j = even.0 in
          let twice : split (length L) ≡ j + j = even.1 in
          let m : suc (i + i) - split (length L) ≡ suc ((i - j) + (i - j)) = omega arith in
          let m2 : i + i - split (length L) ≡ (i - j) + (i - j) = omega arith in
          let back : split (length L) + ((i - j) + (i - j)) ≡ i + i = omega arith in
          here
          ∙ rw (f, m, right j twice (omega arith), get_or-drop (split (length L)) L ((i - j) + (i - j)) d, back)
          (sym (ap (λ (p : List (List ℕ)). leaf (get_or L (i + i) d) ∷ p) (there ∙ rw (f, m2))))
    ]

pub sub-odd : {X : Type 0} (depth : ℕ) (hash : Hash) (leaf : X → List ℕ) (i : ℕ) (L : List X) (b : Bool) (d : X) →
    (b ≡ false) ⊎ (0 < i) → (suc (i + i) < length L) ⊎ (length L ≡ 1) → suc (i + i) ≤ length L → length L ≤ depth →
    subproof_within depth hash leaf (suc (i + i)) L b
    ≡ leaf (get_or L (i + i) d) ∷ path_within depth hash leaf (i + i) L
unfolding subproof_within path_within mth_within
sub-odd depth hash leaf i [] b d kind size fits enough = absurd (omega arith)
sub-odd zero hash leaf i (x ∷ L) b d kind size fits enough = absurd (omega arith)
sub-odd (suc depth) hash leaf zero (x ∷ []) true d kind size fits enough =
    elim kind [ inl e ↦ absurd cc | inr h ↦ absurd (omega arith) ]
sub-odd (suc depth) hash leaf zero (x ∷ []) false d kind size fits enough = refl
sub-odd (suc depth) hash leaf (suc i) (x ∷ []) b d kind size fits enough = absurd (omega arith)
sub-odd (suc depth) hash leaf i (x ∷ (y ∷ L)) b d kind size fits enough =
    let s = split_is (length (x ∷ (y ∷ L))) (omega arith) in
    let some = s.some in let below = s.below in
    let within : suc (i + i) < length (x ∷ (y ∷ L)) = elim size [ inl h ↦ h | inr one ↦ absurd (omega arith) ] in
    let len = length-take-le (split (length (x ∷ (y ∷ L)))) (x ∷ (y ∷ L)) (omega arith) in
    let rest = length-drop (split (length (x ∷ (y ∷ L)))) (x ∷ (y ∷ L)) in
    sub-odd-more depth hash leaf i (x ∷ (y ∷ L)) b d within
    (λ even h. sub-odd depth hash leaf i (take (split (length (x ∷ (y ∷ L)))) (x ∷ (y ∷ L))) b d kind
    (elim even [ inl h ↦ inl (omega arith) | inr one ↦ inr (omega arith) ]) (omega arith) (omega arith))
    (λ j twice h. sub-odd depth hash leaf (i - j) (drop (split (length (x ∷ (y ∷ L)))) (x ∷ (y ∷ L))) false d (inl refl)
    (inl (omega arith)) (omega arith) (omega arith))

-- from an even number: that of half as many nodes of the layer above
sub-even-more : {X : Type 0} (depth other : ℕ) (hash : Hash) (leaf : X → List ℕ) (i : ℕ) (L : List X) (b : Bool) →
    0 < i → i + i < length L →
    (i + i ≤ split (length L) → subproof_within depth hash leaf (i + i) (take (split (length L)) L) b
    ≡ subproof_within other hash itself i (above hash leaf (take (split (length L)) L)) b) →
    ((j : ℕ) → split (length L) ≡ j + j → j < i →
    subproof_within depth hash leaf ((i - j) + (i - j)) (drop (split (length L)) L) false
    ≡ subproof_within other hash itself (i - j) (above hash leaf (drop (split (length L)) L)) false) →
    subproof_within (suc depth) hash leaf (i + i) L b ≡ subproof_within (suc other) hash itself i (above hash leaf L) b
sub-even-more depth other hash leaf i L b some within left right =
    let p = parts_of hash leaf L (omega arith) in
    let len = p.len_upper in
    let j = split (length (above hash leaf L)) in
    let twice : split (length L) ≡ j + j = p.twice in
    let w = p.whole in let u = p.upper in
    let here = sub-more depth hash leaf (i + i) L b within in
    let there = sub-more other hash itself i (above hash leaf L) b (omega arith) in
    elim (leb_tells (i + i) (split (length L))) [
      | inl (t, h) ↦
          let t2 : nat_le i (split (length (above hash leaf L))) ≡ true = grind (arith, nat_tests) in
          let ld = p.len_drop in
          let root = mth_above hash leaf (drop (split (length L)) L) (omega arith) in
          rw (here, t, there, t2, left h, root, p.first, p.others)
      | inr (f, h) ↦
          let f2 : nat_le i (split (length (above hash leaf L))) ≡ false = grind (arith, nat_tests) in
          let lt = p.len_take in
          let root = mth_above hash leaf (take (split (length L)) L) (omega arith) in
          let m : i + i - split (length L) ≡ (i - j) + (i - j) = omega arith in
          rw (here, f, there, f2, m, right j twice (omega arith), root, p.first, p.others)
    ]

pub sub-even : {X : Type 0} (depth other : ℕ) (hash : Hash) (leaf : X → List ℕ) (i : ℕ) (L : List X) (b : Bool) →
    0 < i → i + i ≤ length L → length L ≤ depth → length (above hash leaf L) ≤ other →
    subproof_within depth hash leaf (i + i) L b ≡ subproof_within other hash itself i (above hash leaf L) b
unfolding subproof_within
sub-even zero other hash leaf i L b some within enough upper = absurd (omega arith)
sub-even (suc depth) zero hash leaf i L b some within enough upper =
    let len = length-above hash leaf L in absurd (omega arith)
sub-even (suc depth) (suc other) hash leaf i L b some within enough upper =
    let len = length-above hash leaf L in
    elim (eqb_tells (i + i) (length L)) [
      | inl (t, e) ↦
          let t2 : (i == length (above hash leaf L)) ≡ true = grind (arith, nat_tests) in
          rw (t, subproof_within, t2, subproof_within)
          (ap (λ (x : List ℕ). elim b as (λ v. List (List ℕ)) [ true ↦ [] | false ↦ x ∷ [] ]) (mth_above hash leaf L
          (omega arith)))
      | inr (f, e) ↦
          let p = parts_of hash leaf L (omega arith) in
          let w = p.whole in let u = p.upper in let twice = p.twice in
          let lt = p.len_take in let ld = p.len_drop in let at = p.above_take in let ad = p.above_drop in
          let whole_some = w.some in let whole_below = w.below in let upper_some = u.some in let upper_below =
          u.below in
          sub-even-more depth other hash leaf i L b some (omega arith)
          (λ h. sub-even depth other hash leaf i (take (split (length L)) L) b some (omega arith) (omega arith)
          (omega arith))
          (λ j twice h. sub-even depth other hash leaf (i - j) (drop (split (length L)) L) false (omega arith)
          (omega arith)
          (omega arith) (omega arith))
    ]

-- ---- consistency: the verifier's end

-- the end by whether the old size is a power of two
pub end-at : (hash : Hash) (m n : ℕ) (root c : List ℕ) (digests : List (List ℕ)) (b : Bool) → is_power_of_two m ≡ b →
    consistency_end hash m n root (c ∷ digests) ≡ elim b [
      | true ↦ consistency_from hash m n root (c ∷ digests)
      | false ↦ consistency_from hash m n c digests
    ]
end-at hash m n root c digests b e =
    ap (λ (v : Bool). elim v as (λ w. Option (ℕ × List ℕ × List ℕ)) [
      | true ↦ consistency_from hash m n root (c ∷ digests)
      | false ↦ consistency_from hash m n c digests
    ]) e

-- between even sizes it is that of the layer above
from-even : (hash : Hash) (i n : ℕ) (value : List ℕ) (digests : List (List ℕ)) → i ≤ 2 ^ 61 → 0 < n →
    consistency_from hash (suc i + suc i) n value digests ≡ consistency_from hash (suc i) ((n + 1) / 2) value digests
from-even hash i n value digests small some =
    let z = trailing_ones w64 i in
    let t : trailing_ones w64 (suc i + suc i - 1) ≡ suc z =
    ap (λ (x : ℕ). trailing_ones w64 x) (let q : suc i + suc i - 1 ≡ i + i + 1 = omega arith in q)
    ∙ ones_of_odd i (omega arith) in
    let o : trailing_ones w64 (suc i - 1) ≡ z =
    ap (λ (x : ℕ). trailing_ones w64 x) (let q : suc i - 1 ≡ i = omega arith in q) in
    let halve : (x y : ℕ) → x / 2 ≡ y → x / 2 ^ suc z ≡ y / 2 ^ z = λ x y e.
    ap (λ (p : ℕ). x / p) (pow-succ' 2 z) ∙ sym (div-div-eq-div-mul x 2 (2 ^ z)) ∙ ap (λ (q : ℕ). q / 2 ^ z) e in
    let walk : ℕ → ℕ → Option (ℕ × List ℕ × List ℕ) = λ fn sn. consistency_walk hash digests fn sn value value in
    ap (λ (x : ℕ). walk ((suc i + suc i - 1) / 2 ^ x) ((n - 1) / 2 ^ x)) t
    ∙ ap (λ (x : ℕ). walk x ((n - 1) / 2 ^ suc z)) (halve (suc i + suc i - 1) (suc i - 1) (omega arith))
    ∙ ap (λ (x : ℕ). walk ((suc i - 1) / 2 ^ z) x) (halve (n - 1) ((n + 1) / 2 - 1) (omega arith))
    ∙ ap (λ (x : ℕ). walk ((suc i - 1) / 2 ^ x) (((n + 1) / 2 - 1) / 2 ^ x)) (sym o)

end-even : (hash : Hash) (i n : ℕ) (root : List ℕ) (digests : List (List ℕ)) (a b : List ℕ) → i ≤ 2 ^ 61 → 0 < n →
    consistency_end hash (suc i) ((n + 1) / 2) root digests ≡ Some (0, a, b) →
    consistency_end hash (suc i + suc i) n root digests ≡ Some (0, a, b)
end-even hash i n root [] a b small some h = let z = (end_of h).0 in absurd (omega arith)
end-even hash i n root (c ∷ digests) a b small some h = by (is_power_of_two (suc i)) refl
  where
    by : (v : Bool) → is_power_of_two (suc i) ≡ v →
        consistency_end hash (suc i + suc i) n root (c ∷ digests) ≡ Some (0, a, b)
    by true e =
        end-at hash (suc i + suc i) n root c digests true (power_of_double (suc i) ∙ e)
        ∙ from-even hash i n root (c ∷ digests) small some
        ∙ sym (end-at hash (suc i) ((n + 1) / 2) root c digests true e) ∙ h
    by false e =
        end-at hash (suc i + suc i) n root c digests false (power_of_double (suc i) ∙ e)
        ∙ from-even hash i n c digests small some
        ∙ sym (end-at hash (suc i) ((n + 1) / 2) root c digests false e) ∙ h

-- between an odd size and a greater one the walk begins at the last old leaf
from-odd : (hash : Hash) (i n : ℕ) (value : List ℕ) (digests : List (List ℕ)) → i ≤ 2 ^ 61 →
    consistency_from hash (suc (i + i)) n value digests ≡ consistency_walk hash digests (i + i) (n - 1) value value
from-odd hash i n value digests small =
    let t : trailing_ones w64 (suc (i + i) - 1) ≡ 0 =
    ap (λ (x : ℕ). trailing_ones w64 x) (let q : suc (i + i) - 1 ≡ i + i = omega arith in q)
    ∙ ones_of_double i (omega arith) in
    let fn : (suc (i + i) - 1) / 2 ^ 0 ≡ i + i = omega arith in
    let sn : (n - 1) / 2 ^ 0 ≡ n - 1 = omega arith in
    let walk : ℕ → ℕ → Option (ℕ × List ℕ × List ℕ) = λ fn sn. consistency_walk hash digests fn sn value value in
    ap (λ (x : ℕ). walk ((suc (i + i) - 1) / 2 ^ x) ((n - 1) / 2 ^ x)) t
    ∙ ap (λ (x : ℕ). walk x ((n - 1) / 2 ^ 0)) fn ∙ ap (λ (x : ℕ). walk (i + i) x) sn

-- from one entry
end-one : (hash : Hash) (n : ℕ) (root : List ℕ) (digests : List (List ℕ)) (a b : List ℕ) → 1 < n →
    consistency_walk hash digests 0 (n - 1) root root ≡ Some (0, a, b) →
    consistency_end hash 1 n root digests ≡ Some (0, a, b)
unfolding consistency_walk
end-one hash n root [] a b more h = let z = (end_of h).0 in absurd (omega arith)
end-one hash n root (c ∷ digests) a b more h =
    end-at hash 1 n root c digests true power_of_one ∙ from-odd hash 0 n root (c ∷ digests) (omega arith) ∙ h

-- ---- no depth below the length changes anything

pub root_depth : {X : Type 0} (depth : ℕ) (hash : Hash) (leaf : X → List ℕ) (L : List X) → length L ≤ depth →
    mth_within depth hash leaf L ≡ mth hash leaf L
unfolding mth_within
root_depth depth hash leaf [] enough = refl
root_depth depth hash leaf (x ∷ L) enough =
    mth-above depth _ hash leaf (x ∷ L) (omega arith) enough (omega arith)
    ∙ sym (mth_above hash leaf (x ∷ L) (omega arith))

pub path_depth : {X : Type 0} (depth : ℕ) (hash : Hash) (leaf : X → List ℕ) (m : ℕ) (L : List X) → m < length L →
    length L ≤ depth → path_within depth hash leaf m L ≡ path hash leaf m L
path_depth depth hash leaf m L within enough =
    path-above depth _ hash leaf m L within enough (omega arith) ∙ sym (path_above hash leaf m L within)

pub sub_depth : {X : Type 0} (depth other : ℕ) (hash : Hash) (leaf : X → List ℕ) (m : ℕ) (L : List X) (b : Bool) →
    0 < m →
    m ≤ length L → length L ≤ depth → length L ≤ other →
    subproof_within depth hash leaf m L b ≡ subproof_within other hash leaf m L b
unfolding subproof_within
sub_depth zero other hash leaf m L b some within enough upper = absurd (omega arith)
sub_depth (suc depth) zero hash leaf m L b some within enough upper = absurd (omega arith)
sub_depth (suc depth) (suc other) hash leaf m L b some within enough upper =
    elim (eqb_tells m (length L)) [
      | inl (t, e) ↦ rw (t, subproof_within)
      | inr (f, e) ↦
          let s = split_is (length L) (omega arith) in
          let positive = s.some in let below = s.below in
          let lt = length-take-le (split (length L)) L (omega arith) in
          let ld = length-drop (split (length L)) L in
          let here = sub-more depth hash leaf m L b (omega arith) in
          let there = sub-more other hash leaf m L b (omega arith) in
          elim (leb_tells m (split (length L))) [
            | inl (t, h) ↦
                rw (
                  here,
                  there,
                  t,
                  sub_depth depth other hash leaf m (take (split (length L)) L) b some (omega arith) (omega arith)
                      (omega arith),
                )
            | inr (g, h) ↦
                rw (
                  here,
                  there,
                  g,
                  sub_depth depth other hash leaf (m - split (length L)) (drop (split (length L)) L) false
                      (omega arith) (omega arith) (omega arith) (omega arith),
                )
          ]
    ]

pub sub_whole : {X : Type 0} (hash : Hash) (leaf : X → List ℕ) (L : List X) (b : Bool) → 0 < length L →
    subproof hash leaf (length L) L b ≡ elim b [ true ↦ [] | false ↦ mth hash leaf L ∷ [] ]
unfolding subproof_within
sub_whole hash leaf [] b some = absurd (omega arith)
sub_whole hash leaf (x ∷ L) b some =
    let t : (length (x ∷ L) == length (x ∷ L)) ≡ true = grind (arith, nat_tests) in rw (t, subproof_within)

pub root_of_none : {X : Type 0} (hash : Hash) (leaf : X → List ℕ) (L : List X) → length L ≡ 0 →
    mth hash leaf L ≡ hash []
unfolding mth_within
root_of_none hash leaf [] e = refl
root_of_none hash leaf (x ∷ L) e = absurd (omega arith)

-- the standard's equations
module _ {X : Type 0} (hash : Hash) (leaf : X → List ℕ) where
  pub root_more : (L : List X) → 1 < length L →
      mth hash leaf L
      ≡ node_hash hash (mth hash leaf (take (split (length L)) L)) (mth hash leaf (drop (split (length L)) L))
  root_more L more =
      let below = (split_is (length L) more).below in
      let left = length-take-le (split (length L)) L (omega arith) in
      let right = length-drop (split (length L)) L in
      sym (root_depth (suc (length L)) hash leaf L (omega arith)) ∙ mth-more (length L) hash leaf L more
      ∙ rw (
        root_depth (length L) hash leaf (take (split (length L)) L) (omega arith),
        root_depth (length L) hash leaf (drop (split (length L)) L) (omega arith),
      )

  pub path_left : (m : ℕ) (L : List X) → 1 < length L → m < split (length L) → path hash leaf m L
      ≡ path hash leaf m (take (split (length L)) L) ++ mth hash leaf (drop (split (length L)) L) ∷ []
  path_left m L more h =
      let below = (split_is (length L) more).below in
      let left = length-take-le (split (length L)) L (omega arith) in
      let t : nat_lt m (split (length L)) ≡ true = grind (arith, nat_tests) in
      sym (path_depth (suc (length L)) hash leaf m L (omega arith) (omega arith))
      ∙ path-more (length L) hash leaf m L more
      ∙ rw (t, path_depth (length L) hash leaf m (take (split (length L)) L) (omega arith) (omega arith))

  pub path_right : (m : ℕ) (L : List X) → 1 < length L → split (length L) ≤ m → m < length L → path hash leaf m L
      ≡ path hash leaf (m - split (length L)) (drop (split (length L)) L)
      ++ mth hash leaf (take (split (length L)) L) ∷ []
  path_right m L more h within =
      let right = length-drop (split (length L)) L in
      let f : nat_lt m (split (length L)) ≡ false = grind (arith, nat_tests) in
      sym (path_depth (suc (length L)) hash leaf m L within (omega arith)) ∙ path-more (length L) hash leaf m L more
      ∙ rw (
        f,
        path_depth (length L) hash leaf (m - split (length L)) (drop (split (length L)) L) (omega arith)
            (omega arith),
      )

  pub sub_left : (m : ℕ) (L : List X) (b : Bool) → 0 < m → m < length L → m ≤ split (length L) →
      subproof hash leaf m L b
      ≡ subproof hash leaf m (take (split (length L)) L) b ++ mth hash leaf (drop (split (length L)) L) ∷ []
  sub_left m L b some within h =
      let below = (split_is (length L) (omega arith)).below in
      let left = length-take-le (split (length L)) L (omega arith) in
      let t : nat_le m (split (length L)) ≡ true = grind (arith, nat_tests) in
      sub_depth (length L) (suc (length L)) hash leaf m L b some (omega arith) (omega arith) (omega arith)
      ∙ sub-more (length L) hash leaf m L b within
      ∙ rw (
        t,
        sub_depth (length L) (length (take (split (length L)) L)) hash leaf m (take (split (length L)) L) b some
            (omega arith) (omega arith) (omega arith),
      )

  pub sub_right : (m : ℕ) (L : List X) (b : Bool) → m < length L → split (length L) < m →
      subproof hash leaf m L b
      ≡ subproof hash leaf (m - split (length L)) (drop (split (length L)) L) false
      ++ mth hash leaf (take (split (length L)) L) ∷ []
  sub_right m L b within h =
      let right = length-drop (split (length L)) L in
      let f : nat_le m (split (length L)) ≡ false = grind (arith, nat_tests) in
      sub_depth (length L) (suc (length L)) hash leaf m L b (omega arith) (omega arith) (omega arith) (omega arith)
      ∙ sub-more (length L) hash leaf m L b within
      ∙ rw (
        f,
        sub_depth (length L) (length (drop (split (length L)) L)) hash leaf (m - split (length L))
            (drop (split (length L)) L) false (omega arith) (omega arith) (omega arith) (omega arith),
      )

-- ---- inclusion

climb_one : {X : Type 0} (hash : Hash) (leaf : X → List ℕ) (m : ℕ) (L : List X) (d : X) → m < length L →
    length L < 2 → climb_end hash 0 m (length L) (leaf (get_or L m d)) (path hash leaf m L)
    ≡ Some (0, mth hash leaf (take (suc m) L), mth hash leaf L)
unfolding consistency_walk path_within mth_within
climb_one hash leaf m [] d within one = absurd (omega arith)
climb_one hash leaf zero (x ∷ []) d within one = refl
climb_one hash leaf (suc m) (x ∷ []) d within one = absurd (omega arith)
climb_one hash leaf m (x ∷ (y ∷ L)) d within one = absurd (omega arith)

-- the walk from an entry along its path ends with the roots of the entries up to it, and of all
climb : {X : Type 0} (depth : ℕ) (hash : Hash) (leaf : X → List ℕ) (m n : ℕ) (L : List X) (d : X) → n ≡ length L →
    m < n → n ≤ depth → n ≤ 2 ^ 62 → climb_end hash 0 m n (leaf (get_or L m d)) (path hash leaf m L)
    ≡ Some (0, mth hash leaf (take (suc m) L), mth hash leaf L)
climb zero hash leaf m n L d is within enough small = absurd (omega arith)
climb (suc depth) hash leaf m n L d is within enough small = rw is (elim (leb_tells 2 (length L)) [
  | inr (f, one) ↦ climb_one hash leaf m L d (omega arith) (omega arith)
  | inl (t, more) ↦
      let k = split (length L) in
      let s = split_is (length L) more in
      let below = s.below in let some = s.some in
      let front = length-take-le k L (omega arith) in
      let back = length-drop k L in
      let root = root_more hash leaf L more in
      let whole : k / 2 ^ 0 ≡ k = omega arith in
      elim (leb_tells (suc m) k) [
        | inl (y, h) ↦
            let up = climb depth hash leaf m k (take k L) d (sym front) h (omega arith) (omega arith) in
            rw (path_left hash leaf m L more h)
            ((climb_left hash 0 m (length L) _ _ _ _ _ (omega arith) (omega arith) (omega arith)).1
            (mth hash leaf (take k L), rw (get_or-take k L m d h, take-take (suc m) k L h) at up, root))
        | inr (n, h) ↦
            let up = climb depth hash leaf (m - k) (length L - k) (drop k L) d (sym back) (omega arith)
            (omega arith) (omega arith) in
            let T = take (suc m) L in
            let at : k + (m - k) ≡ m = omega arith in
            let rest : k + suc (m - k) ≡ suc m = omega arith in
            let taken = length-take-le (suc m) L (omega arith) in
            let same : split (length T) ≡ k =
            ap split taken ∙ same_split (suc m) (length L) more (omega arith) (omega arith) in
            let old : mth hash leaf T
            ≡ node_hash hash (mth hash leaf (take k L)) (mth hash leaf (take (suc (m - k)) (drop k L))) =
            root_more hash leaf T (omega arith)
            ∙ rw (same, take-take k (suc m) L (omega arith), ← rest, drop-take k (suc (m - k)) L) in
            rw (path_right hash leaf m L more (omega arith) (omega arith))
            ((climb_right hash 0 m (length L) _ _ _ _ _ (omega arith) (omega arith) (omega arith) (omega arith)).1
            (_, mth hash leaf (drop k L), rw whole (rw (get_or-drop k L (m - k) d, at) at up), old, root))
      ]
])

-- the walk from the last entry of an old tree of m entries
from_last : {X : Type 0} (hash : Hash) (leaf : X → List ℕ) (m : ℕ) (L : List X) (d : X) → m < length L →
    length L ≤ 2 ^ 62 →
    consistency_walk hash (path hash leaf m L) m (length L - 1) (leaf (get_or L m d)) (leaf (get_or L m d))
    ≡ Some (0, mth hash leaf (take (suc m) L), mth hash leaf L)
from_last hash leaf m L d within small =
    let base : (length L - 1) / 2 ^ 0 ≡ length L - 1 = omega arith in
    rw base at (climb (length L) hash leaf m (length L) L d refl within (omega arith) small)

pub included : {X : Type 0} (hash : Hash) (leaf : X → List ℕ) (L : List X) (m : ℕ) (d : X) → m < length L →
    length L ≤ 2 ^ 62 →
    inclusion_end hash m (length L) (leaf (get_or L m d)) (path hash leaf m L) ≡ Some (0, mth hash leaf L)
included hash leaf L m d within small =
    as_inclusion hash _ m (length L - 1) _ _ 0 (mth hash leaf (take (suc m) L)) _
    (from_last hash leaf m L d within small)

-- ---- consistency

first_root : {X : Type 0} (hash : Hash) (leaf : X → List ℕ) (L : List X) (d : X) → 0 < length L →
    mth hash leaf (take 1 L) ≡ leaf (get_or L 0 d)
unfolding mth_within
first_root hash leaf [] d some = absurd (omega arith)
first_root hash leaf (x ∷ L) d some = refl

consistent-one : {X : Type 0} (hash : Hash) (leaf : X → List ℕ) (L : List X) (d : X) → 1 < length L →
    length L ≤ 2 ^ 62 →
    consistency_end hash 1 (length L) (mth hash leaf (take 1 L)) (consistency_proof hash leaf 1 L)
    ≡ Some (0, mth hash leaf (take 1 L), mth hash leaf L)
consistent-one hash leaf L d within small =
    let digests : consistency_proof hash leaf 1 L ≡ path hash leaf 0 L =
    sub-one (length L) hash leaf L (omega arith) (omega arith) in
    let root = first_root hash leaf L d (omega arith) in
    rw digests (end-one hash (length L) (mth hash leaf (take 1 L)) (path hash leaf 0 L) _ _ within
    (let P : List ℕ → Type 0 = λ x. consistency_walk hash (path hash leaf 0 L) 0 (length L - 1) x x
    ≡ Some (0, mth hash leaf (take 1 L), mth hash leaf L) in
    subst P (sym root) (from_last hash leaf 0 L d (omega arith) small)))

consistent-odd : {X : Type 0} (hash : Hash) (leaf : X → List ℕ) (i : ℕ) (L : List X) (d : X) → 0 < i →
    suc (i + i) < length L → length L ≤ 2 ^ 62 → (root : List ℕ) →
    consistency_end hash (suc (i + i)) (length L) root (consistency_proof hash leaf (suc (i + i)) L)
    ≡ Some (0, mth hash leaf (take (suc (i + i)) L), mth hash leaf L)
consistent-odd hash leaf i L d some within small root =
    let digests : consistency_proof hash leaf (suc (i + i)) L
    ≡ leaf (get_or L (i + i) d) ∷ path hash leaf (i + i) L =
    sub-odd (length L) hash leaf i L true d (inr some) (inl within) (omega arith) (omega arith) in
    let power : is_power_of_two (suc (i + i)) ≡ false =
    ap is_power_of_two (let q : suc (i + i) ≡ i + i + 1 = omega arith in q) ∙ power_of_odd i some in
    rw digests (end-at hash (suc (i + i)) (length L) root (leaf (get_or L (i + i) d)) (path hash leaf
    (i + i) L) false power
    ∙ from-odd hash i (length L) (leaf (get_or L (i + i) d)) (path hash leaf (i + i) L) (omega arith)
    ∙ from_last hash leaf (i + i) L d (omega arith) small)

consistent-even : {X : Type 0} (hash : Hash) (leaf : X → List ℕ) (i : ℕ) (L : List X) → suc i + suc i < length L →
    length L ≤ 2 ^ 62 →
    consistency_end hash (suc i) (length (above hash leaf L)) (mth hash itself (take (suc i) (above hash leaf L)))
    (consistency_proof hash itself (suc i) (above hash leaf L))
    ≡ Some (0, mth hash itself (take (suc i) (above hash leaf L)), mth hash itself (above hash leaf L)) →
    consistency_end hash (suc i + suc i) (length L) (mth hash leaf (take (suc i + suc i) L))
    (consistency_proof hash leaf (suc i + suc i) L)
    ≡ Some (0, mth hash leaf (take (suc i + suc i) L), mth hash leaf L)
consistent-even hash leaf i L within small up =
    let digests : consistency_proof hash leaf (suc i + suc i) L
    ≡ consistency_proof hash itself (suc i) (above hash leaf L) =
    sub-even (length L) (length (above hash leaf L)) hash leaf (suc i) L true (omega arith) (omega arith) (omega arith)
    (omega arith) in
    let len = length-take-le (suc i + suc i) L (omega arith) in
    let old : mth hash leaf (take (suc i + suc i) L) ≡ mth hash itself (take (suc i) (above hash leaf L)) =
    mth_above hash leaf (take (suc i + suc i) L) (omega arith)
    ∙ ap (λ (L : List (List ℕ)). mth hash itself L) (above_parts hash leaf (suc i) (suc i + suc i) L refl).0 in
    let new = mth_above hash leaf L (omega arith) in
    let P : ℕ → Type 0 = λ n. consistency_end hash (suc i) n (mth hash itself (take (suc i) (above hash leaf L)))
    (consistency_proof hash itself (suc i) (above hash leaf L))
    ≡ Some (0, mth hash itself (take (suc i) (above hash leaf L)), mth hash itself (above hash leaf L)) in
    let there = end-even hash i (length L) _ _ _ _ (omega arith) (omega arith)
    (subst P (length-above hash leaf L) up) in
    rw (digests, old, new) there

pub consistent : {X : Type 0} (depth : ℕ) (hash : Hash) (leaf : X → List ℕ) (m : ℕ) (L : List X) (d : X) → 0 < m →
    m < length L → length L ≤ depth → length L ≤ 2 ^ 62 →
    consistency_end hash m (length L) (mth hash leaf (take m L)) (consistency_proof hash leaf m L)
    ≡ Some (0, mth hash leaf (take m L), mth hash leaf L)
consistent zero hash leaf m L d some within enough small = absurd (omega arith)
consistent (suc depth) hash leaf m L d some within enough small =
    let P : ℕ → Type 0 = λ m. consistency_end hash m (length L) (mth hash leaf (take m L))
    (consistency_proof hash leaf m L)
    ≡ Some (0, mth hash leaf (take m L), mth hash leaf L) in
    elim (parity m) [
      | inl (zero, e) ↦ absurd (omega arith)
      | inl (suc i, e) ↦
          let len = length-above hash leaf L in
          subst P (sym e) (consistent-even hash leaf i L (omega arith) small
          (consistent depth hash itself (suc i) (above hash leaf L) (leaf d) (omega arith) (omega arith) (omega arith)
          (omega arith)))
      | inr (zero, e) ↦ subst P (sym e) (consistent-one hash leaf L d (omega arith) small)
      | inr (suc i, e) ↦
          subst P (sym e) (consistent-odd hash leaf (suc i) L d (omega arith) (omega arith) small
          (mth hash leaf (take (suc (suc i + suc i)) L)))
    ]

-- PROOF(m, D) is accepted
pub honest_grown : (hash : Hash) (D : List (List ℕ)) (m : ℕ) → 0 < m → m ≤ length D → length D ≤ size_limit →
    IsConsistent hash m (length D) (proof_of hash m D) (root_of hash (take m D)) (root_of hash D)
honest_grown hash D m some within small = record {
  ordered = within;
  from_nothing = λ z. absurd (omega arith);
  unchanged = λ p same. (
    ap (λ (x : ℕ). proof_of hash x D) same ∙ sub_whole hash (leaf_hash hash) D true (omega arith),
    ap (λ (L : List (List ℕ)). root_of hash L) (take_all m D (omega arith)),
  );
  grown = λ p l. consistent (length D) hash (leaf_hash hash) m D [] some l (omega arith) small;
}
