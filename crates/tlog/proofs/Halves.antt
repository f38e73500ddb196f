-- Walks up to a root, by the children of the root: the last digest is the root of the other half.
use Rattle.std.proofs.Common.{◌≡◌, ℕ, zero, suc, ◌+◌, ◌-◌, ◌/◌, ◌%◌, ◌^◌, ◌<◌, ◌≤◌, refl, sym, ap, ◌∙◌, arith, inl, inr}
use Rattle.std.proofs.Common.{List, [], ◌∷◌, ◌++◌, length, length-append, Some, None, true, false}
use Rattle.std.specs.Prelude.{◌==◌, ◌↔◌, ◌⊎◌}
use Rattle.std.specs.Int.{w64, trailing_zeros}
use Rattle.std.proofs.lemmas.Bool.{cases_eq}
use Rattle.std.proofs.lemmas.Bool.Decides.{nat_tests}
use Rattle.tlog.specs.Rfc9162.{Hash, consistency_walk, is_left, node_hash, split}
use Rattle.tlog.proofs.Bits.{half_pow, zeros_of_double, zeros_of_odd}
use Rattle.tlog.proofs.Splits.{split_is, split_of_half, split_of_two}
use Rattle.tlog.proofs.Walks.{end_of}

-- ---- one layer

module _ (hash : Hash) (c : List ℕ) (digests : List (List ℕ)) (fn sn : ℕ) (fr sr : List ℕ) where
  pub step_odd : fn % 2 ≡ 1 → 0 < sn → fn ≤ 2 ^ 62 → consistency_walk hash (c ∷ digests) fn sn fr sr
      ≡ consistency_walk hash digests (fn / 2) (sn / 2) (node_hash hash c fr) (node_hash hash c sr)
  unfolding consistency_walk
  step_odd odd some small =
      let z : (sn == 0) ≡ false = grind (arith, nat_tests) in
      let l : is_left fn sn ≡ true = grind (arith, nat_tests) in
      let t : trailing_zeros w64 fn ≡ 0 =
      ap (λ (x : ℕ). trailing_zeros w64 x) (omega arith) ∙ zeros_of_odd (fn / 2) (omega arith) in
      let f : fn / 2 ^ 0 ≡ fn = omega arith in
      let s : sn / 2 ^ 0 ≡ sn = omega arith in
      rw (z, consistency_walk, l, consistency_walk, t, f, s)

  pub step_even : fn % 2 ≡ 0 → fn < sn → consistency_walk hash (c ∷ digests) fn sn fr sr
      ≡ consistency_walk hash digests (fn / 2) (sn / 2) fr (node_hash hash sr c)
  unfolding consistency_walk
  step_even even within =
      let z : (sn == 0) ≡ false = grind (arith, nat_tests) in
      let e : (fn % 2 == 1) ≡ false = grind (arith, nat_tests) in
      let u : (fn == sn) ≡ false = grind (arith, nat_tests) in
      let l : is_left fn sn ≡ false = rw (e, u) in
      rw (z, consistency_walk, l, consistency_walk)

  -- an only child: the walk is that from the node above
  skip : fn % 2 ≡ 0 → 0 < fn → fn ≤ 2 ^ 62 → consistency_walk hash (c ∷ digests) fn fn fr sr
      ≡ consistency_walk hash (c ∷ digests) (fn / 2) (fn / 2) fr sr
  unfolding consistency_walk
  skip even some small =
      let z : (fn == 0) ≡ false = grind (arith, nat_tests) in
      let y : (fn / 2 == 0) ≡ false = grind (arith, nat_tests) in
      let l : is_left fn fn ≡ true = grind (arith, nat_tests) in
      let m : is_left (fn / 2) (fn / 2) ≡ true = grind (arith, nat_tests) in
      let t : trailing_zeros w64 fn ≡ suc (trailing_zeros w64 (fn / 2)) =
      ap (λ (x : ℕ). trailing_zeros w64 x) (omega arith) ∙ zeros_of_double (fn / 2) (omega arith) (omega arith) in
      rw (
        z,
        consistency_walk,
        l,
        consistency_walk,
        t,
        half_pow fn (trailing_zeros w64 (fn / 2)),
        y,
        consistency_walk,
        m,
        consistency_walk,
      )

module _ (hash : Hash) (fr sr : List ℕ) where
  past_root : (digests : List (List ℕ)) (fn : ℕ) → 0 < length digests →
      consistency_walk hash digests fn 0 fr sr ≡ None
  unfolding consistency_walk
  past_root [] fn some = absurd (omega arith)
  past_root (c ∷ digests) fn some = refl

  pub skip_end : (digests : List (List ℕ)) (n : ℕ) (a b : List ℕ) → n % 2 ≡ 0 → n ≤ 2 ^ 62 →
      (consistency_walk hash digests n n fr sr ≡ Some (0, a, b))
      ↔ (consistency_walk hash digests (n / 2) (n / 2) fr sr ≡ Some (0, a, b))
  unfolding consistency_walk
  skip_end digests zero a b even small = (λ h. h, λ h. h)
  skip_end [] (suc n) a b even small =
      (λ h. let z = (end_of h).0 in absurd (omega arith), λ h. let z = (end_of h).0 in absurd (omega arith))
  skip_end (c ∷ digests) (suc n) a b even small =
      let e = skip hash c digests (suc n) 0 fr sr even (omega arith) small in (λ h. sym e ∙ h, λ h. e ∙ h)

past_two : (hash : Hash) (c : List ℕ) (digests : List (List ℕ)) (fn : ℕ) (fr sr : List ℕ) → fn < 2 →
    0 < length digests → consistency_walk hash (c ∷ digests) fn 1 fr sr ≡ None
past_two hash c digests zero fr sr h some =
    step_even hash c digests 0 1 fr sr refl (omega arith) ∙ past_root hash _ _ digests 0 some
past_two hash c digests (suc zero) fr sr h some =
    step_odd hash c digests 1 1 fr sr refl (omega arith) (omega arith) ∙ past_root hash _ _ digests 0 some
past_two hash c digests (suc (suc fn)) fr sr h some = absurd (omega arith)

-- ---- the half of a tree that has the node

module _ (hash : Hash) (last : List ℕ) (p q : List ℕ → List ℕ) (a b : List ℕ) where
  -- the walk from node fn ends as that from node i of its half does, whose old and new root p and q lead on from
  abbrev Half : List (List ℕ) → ℕ → ℕ → ℕ → ℕ → List ℕ → List ℕ → Type 0
  Half rest fn sn i s fr sr =
      (consistency_walk hash (rest ++ last ∷ []) fn sn fr sr ≡ Some (0, a, b))
      ↔ ((o : List ℕ) × (w : List ℕ) × (consistency_walk hash rest i s fr sr ≡ Some (0, o, w)) × (a ≡ p o) × (b ≡ q w))

  -- the halves are single nodes
  two : (rest : List (List ℕ)) (fn : ℕ) (fr sr : List ℕ) → fn < 2 →
      consistency_walk hash (last ∷ []) fn 1 fr sr ≡ Some (0, p fr, q sr) → Half rest fn 1 0 0 fr sr
  unfolding consistency_walk
  two [] fn fr sr small at = (
    λ h. let e = end_of (sym at ∙ h) in (fr, sr, refl, sym e.1, sym e.2),
    λ (o, w, h, x, y). let e = end_of h in at ∙ rw (x, y, ← e.1, ← e.2),
  )
  two (c ∷ rest) fn fr sr small at = (
    λ h. let more = length-append rest (last ∷ []) in
        let none = past_two hash c (rest ++ last ∷ []) fn fr sr small (omega (arith, more)) in absurd cc,
    λ (o, w, h, x, y). absurd cc,
  )

  joined : (c : List ℕ) (rest : List (List ℕ)) (fn sn i s : ℕ) (fr sr v w : List ℕ) →
      consistency_walk hash (c ∷ (rest ++ last ∷ [])) fn sn fr sr
      ≡ consistency_walk hash (rest ++ last ∷ []) (fn / 2) (sn / 2) v w →
      consistency_walk hash (c ∷ rest) i s fr sr ≡ consistency_walk hash rest (i / 2) (s / 2) v w →
      Half rest (fn / 2) (sn / 2) (i / 2) (s / 2) v w → Half (c ∷ rest) fn sn i s fr sr
  joined c rest fn sn i s fr sr v w outer inner above = (
    λ h. let r = above.0 (sym outer ∙ h) in (r.0, r.1, inner ∙ r.2, r.3, r.4),
    λ (o, m, h, x, y). outer ∙ above.1 (o, m, sym inner ∙ h, x, y),
  )

  -- both nodes are right children, or left ones with a sibling
  abbrev Alike : ℕ → ℕ → ℕ → ℕ → Type 0
  Alike fn sn i s =
      ((fn % 2 ≡ 1) × (i % 2 ≡ 1)) ⊎ ((fn % 2 ≡ 0) × (i % 2 ≡ 0) × (fn < sn) × (i < s))

  up : (rest : List (List ℕ)) (fn sn i s : ℕ) (fr sr : List ℕ) → Alike fn sn i s → 2 ≤ sn → 0 < s → fn ≤ 2 ^ 62 →
      i ≤ 2 ^ 62 → ((rest : List (List ℕ)) (v w : List ℕ) → Half rest (fn / 2) (sn / 2) (i / 2) (s / 2) v w) →
      Half rest fn sn i s fr sr
  unfolding consistency_walk
  up [] fn sn i s fr sr (inl (odd, alike)) two some small fits above = (
    λ h. let s = step_odd hash last [] fn sn fr sr odd (omega arith) small in
        let z = (end_of (sym s ∙ h)).0 in absurd (omega arith),
    λ (o, w, h, x, y). let z = (end_of h).0 in absurd (omega arith),
  )
  up [] fn sn i s fr sr (inr (even, alike, l, m)) two some small fits above = (
    λ h. let z = (end_of (sym (step_even hash last [] fn sn fr sr even l) ∙ h)).0 in absurd (omega arith),
    λ (o, w, h, x, y). let z = (end_of h).0 in absurd (omega arith),
  )
  up (c ∷ rest) fn sn i s fr sr (inl (odd, alike)) two some small fits above =
      joined c rest fn sn i s fr sr _ _ (step_odd hash c (rest ++ last ∷ []) fn sn fr sr odd (omega arith) small)
      (step_odd hash c rest i s fr sr alike some fits) (above rest (node_hash hash c fr) (node_hash hash c sr))
  up (c ∷ rest) fn sn i s fr sr (inr (even, alike, l, m)) two some small fits above =
      joined c rest fn sn i s fr sr _ _ (step_even hash c (rest ++ last ∷ []) fn sn fr sr even l)
      (step_even hash c rest i s fr sr alike m) (above rest fr (node_hash hash sr c))

  -- both are only children
  passed : (rest : List (List ℕ)) (n i : ℕ) (fr sr : List ℕ) → n % 2 ≡ 0 → i % 2 ≡ 0 → 0 < n → n ≤ 2 ^ 62 → i ≤ n →
      Half rest (n / 2) (n / 2) (i / 2) (i / 2) fr sr → Half rest n n i i fr sr
  passed rest n i fr sr even alike some small less above =
      let outer = skip_end hash fr sr (rest ++ last ∷ []) n a b even small in (
        λ h. let r = above.0 (outer.0 h) in
            (r.0, r.1, (skip_end hash fr sr rest i r.0 r.1 alike (omega arith)).1 r.2, r.3, r.4),
        λ (o, w, h, x, y). outer.1 (above.1 (o, w, (skip_end hash fr sr rest i o w alike (omega arith)).0 h, x, y)),
      )

split_of_one : (sn : ℕ) → sn ≡ 1 → split (sn + 1) ≡ 1
split_of_one sn one = ap (λ (n : ℕ). split (n + 1)) one ∙ split_of_two

pub left_half : (depth : ℕ) (hash : Hash) (rest : List (List ℕ)) (last : List ℕ) (fn sn : ℕ) (fr sr a b : List ℕ) →
    sn ≤ depth → 0 < sn → sn ≤ 2 ^ 62 → fn < split (sn + 1) →
    Half hash last (λ o. o) (λ w. node_hash hash w last) a b rest fn sn fn (split (sn + 1) - 1) fr sr
unfolding consistency_walk
left_half zero hash rest last fn sn fr sr a b enough some small below = absurd (omega arith)
left_half (suc depth) hash rest last fn sn fr sr a b enough some small below = elim (cases_eq sn 1) [
  | inl one ↦
      let first : fn ≡ 0 = omega (arith, split_of_one sn one) in
      rw (split_of_one sn one, first, one)
      (two hash last _ _ a b rest 0 fr sr (omega arith) (step_even hash last [] 0 1 fr sr refl (omega arith)))
  | inr other ↦
      let less = (split_is (sn + 1) (omega arith)).below in
      let k : split (sn + 1) ≡ split (sn / 2 + 1) + split (sn / 2 + 1) =
      split_of_half (sn + 1) (sn / 2 + 1) (omega arith) (omega arith) in
      let half : (split (sn + 1) - 1) / 2 ≡ split (sn / 2 + 1) - 1 = omega arith in
      let alike : ((fn % 2 ≡ 1) × (fn % 2 ≡ 1))
      ⊎ ((fn % 2 ≡ 0) × (fn % 2 ≡ 0) × (fn < sn) × (fn < split (sn + 1) - 1)) = elim (cases_eq (fn % 2) 1) [
        | inl odd ↦ inl (odd, odd)
        | inr even ↦ inr (omega arith, omega arith, omega arith, omega arith)
      ] in
      up hash last _ _ a b rest fn sn fn (split (sn + 1) - 1) fr sr alike (omega arith) (omega arith) (omega arith)
      (omega arith)
      (λ rest v w. rw half (left_half depth hash rest last (fn / 2) (sn / 2) v w a b (omega arith) (omega arith)
      (omega arith) (omega arith)))
]

pub right_half : (depth : ℕ) (hash : Hash) (rest : List (List ℕ)) (last : List ℕ) (fn sn : ℕ) (fr sr a b : List ℕ) →
    sn ≤ depth → 0 < sn → sn ≤ 2 ^ 62 → split (sn + 1) ≤ fn → fn ≤ sn →
    Half hash last (node_hash hash last) (node_hash hash last) a b rest fn sn (fn - split (sn + 1))
    (sn - split (sn + 1)) fr sr
unfolding consistency_walk
right_half zero hash rest last fn sn fr sr a b enough some small beyond within = absurd (omega arith)
right_half (suc depth) hash rest last fn sn fr sr a b enough some small beyond within = elim (cases_eq sn 1) [
  | inl one ↦
      let first : fn ≡ 1 = omega (arith, split_of_one sn one) in
      rw (split_of_one sn one, first, one) (two hash last _ _ a b rest 1 fr sr (omega arith)
      (step_odd hash last [] 1 1 fr sr refl (omega arith) (omega arith)))
  | inr other ↦
      let k : split (sn + 1) ≡ split (sn / 2 + 1) + split (sn / 2 + 1) =
      split_of_half (sn + 1) (sn / 2 + 1) (omega arith) (omega arith) in
      let i : (fn - split (sn + 1)) / 2 ≡ fn / 2 - split (sn / 2 + 1) = omega arith in
      let s : (sn - split (sn + 1)) / 2 ≡ sn / 2 - split (sn / 2 + 1) = omega arith in
      let above : (rest : List (List ℕ)) (v w : List ℕ) →
      Half hash last (node_hash hash last) (node_hash hash last) a b rest (fn / 2) (sn / 2)
      ((fn - split (sn + 1)) / 2) ((sn - split (sn + 1)) / 2) v w = λ rest v w.
      rw (i, s) (right_half depth hash rest last (fn / 2) (sn / 2) v w a b (omega arith) (omega arith) (omega arith)
      (omega arith) (omega arith)) in
      elim (cases_eq (fn % 2) 1) [
        | inl odd ↦
            up hash last _ _ a b rest fn sn _ _ fr sr (inl (odd, omega arith)) (omega arith) (omega arith) (omega arith)
            (omega arith) above
        | inr even ↦ elim (cases_eq fn sn) [
          | inl same ↦
              rw same (passed hash last _ _ a b rest sn (sn - split (sn + 1)) fr sr (omega arith) (omega arith) some
              small (omega arith) (rw same at (above rest fr sr)))
          | inr unlike ↦
              up hash last _ _ a b rest fn sn _ _ fr sr
              (inr (omega arith, omega arith, omega arith, omega arith)) (omega arith) (omega arith) (omega arith)
              (omega arith) above
        ]
      ]
]
