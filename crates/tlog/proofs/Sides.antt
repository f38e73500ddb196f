-- The way up from a node of any layer, by the halves of the tree.
use Rattle.std.proofs.Common.{◌≡◌, ℕ, zero, suc, ◌+◌, ◌-◌, ◌*◌, ◌/◌, ◌%◌, ◌^◌, ◌<◌, ◌≤◌, refl, sym, ap, subst, ◌∙◌}
use Rattle.std.proofs.Common.{arith, inl, inr, List, [], ◌∷◌, ◌++◌, Some}
use Rattle.std.proofs.lemmas.Bool.Decides.{leb_tells}
use Rattle.std.proofs.lemmas.Nat.{div-add-mod', div-mul-add, le-div, pow_pos}
use Rattle.std.proofs.Math.Nat.{add-mul, div-le_self, mod-lt, mul-div_cancel, mul_left_comm}
use Rattle.std.proofs.Math.Nat.{mul-le-mul_right, pow-le-pow_right, pow-succ'}
use Rattle.std.specs.Prelude.{◌↔◌}
use Rattle.tlog.specs.Climbs.{climb_end}
use Rattle.tlog.specs.Rfc9162.{Hash, node_hash, split}
use Rattle.tlog.proofs.Bits.{half_pow}
use Rattle.tlog.proofs.Splits.{split_by_power, split_is, split_of_half}
use Rattle.tlog.proofs.Halves.{left_half, right_half}

-- ---- the split, in nodes of a layer

split_at : (t size : ℕ) → 0 < (size - 1) / 2 ^ t → split size ≡ split ((size - 1) / 2 ^ t + 1) * 2 ^ t
split_at zero size some =
    let e : (size - 1) / 2 ^ 0 + 1 ≡ size = omega arith in
    rw e (let one : split size ≡ split size * 2 ^ 0 = omega arith in one)
split_at (suc t) size some =
    let p = pow-succ' 2 t in
    let low = div-le_self ((size - 1) / 2) (2 ^ t) in
    let e : (size - 1) / 2 ≡ (size + 1) / 2 - 1 = omega arith in
    let d : (size - 1) / 2 ^ suc t ≡ ((size + 1) / 2 - 1) / 2 ^ t =
    half_pow (size - 1) t ∙ ap (λ (q : ℕ). q / 2 ^ t) e in
    let up = split_at t ((size + 1) / 2) (subst (λ n. 0 < n) d some) in
    let twice = split_of_half size ((size + 1) / 2) (omega arith) refl in
    let q : split (((size + 1) / 2 - 1) / 2 ^ t + 1) * (2 * 2 ^ t)
    ≡ 2 * (split (((size + 1) / 2 - 1) / 2 ^ t + 1) * 2 ^ t) = mul_left_comm _ 2 (2 ^ t) in
    rw (d, p) (twice ∙ omega (arith, up, q))

-- of a tree with more than a node in a layer
pub record AtLayer (t size : ℕ) : Type 0 where
  pub there : split ((size - 1) / 2 ^ t + 1) ≡ split size / 2 ^ t
  pub whole : split size ≡ split size / 2 ^ t * 2 ^ t
  pub left_last : (split size - 1) / 2 ^ t ≡ split size / 2 ^ t - 1
  pub right_last : (size - split size - 1) / 2 ^ t ≡ (size - 1) / 2 ^ t - split size / 2 ^ t

-- the same of numbers: s is k times q, and x has more
parts : (q k s x : ℕ) → 0 < q → 0 < k → s ≡ k * q → s ≤ x →
    (s / q ≡ k) × ((s - 1) / q ≡ k - 1) × ((x - s) / q ≡ x / q - k)
parts q zero s x some more is within = absurd (omega arith)
parts q (suc k) s x some more is within =
    let step = add-mul k 1 q in
    let one : suc k * q ≡ k * q + q = ap (λ (n : ℕ). n * q) (let e : suc k ≡ k + 1 = omega arith in e) ∙ step ∙ omega
    arith in
    let pred : s - 1 ≡ k * q + (q - 1) = omega arith in
    let low = div-add-mod' x q in
    let small = mod-lt x some in
    let enough : suc k ≤ x / q = le-div (suc k) x q some (omega (arith, is, within)) in
    let back : x / q - suc k + suc k ≡ x / q = omega arith in
    let times = add-mul (x / q - suc k) (suc k) q in
    let all : x / q * q ≡ (x / q - suc k) * q + suc k * q = ap (λ (n : ℕ). n * q) (sym back) ∙ times in
    let rest : x - s ≡ (x / q - suc k) * q + x % q = omega (arith, all, low, is) in
    let exact : suc k * q / q ≡ suc k = mul-div_cancel (suc k) some in
    let pred_k : suc k - 1 ≡ k = omega arith in (
      ap (λ (n : ℕ). n / q) is ∙ exact,
      ap (λ (n : ℕ). n / q) pred ∙ div-mul-add k q (q - 1) (omega arith) ∙ sym pred_k,
      ap (λ (n : ℕ). n / q) rest ∙ div-mul-add (x / q - suc k) q (x % q) small,
    )

pub at_layer : (t size : ℕ) → 0 < (size - 1) / 2 ^ t → AtLayer t size
at_layer t size some =
    let low = div-le_self (size - 1) (2 ^ t) in
    let s = split_is size (omega arith) in
    let below = s.below in
    let k = split_is ((size - 1) / 2 ^ t + 1) (omega arith) in
    let e = split_at t size some in
    let p = parts (2 ^ t) (split ((size - 1) / 2 ^ t + 1)) (split size) (size - 1) (pow_pos t) k.some e (omega arith) in
    let swap : size - split size - 1 ≡ size - 1 - split size = omega arith in
    record {
      there = sym p.0;
      whole = e ∙ ap (λ (n : ℕ). n * 2 ^ t) (sym p.0);
      left_last = p.1 ∙ ap (λ (n : ℕ). n - 1) (sym p.0);
      right_last = ap (λ (n : ℕ). n / 2 ^ t) swap ∙ p.2 ∙ ap (λ (n : ℕ). (size - 1) / 2 ^ t - n) (sym p.0);
    }

-- ---- the halves

pub climb_left : (hash : Hash) (t node size : ℕ) (value : List ℕ) (rest : List (List ℕ)) (last a b : List ℕ) →
    0 < (size - 1) / 2 ^ t → size ≤ 2 ^ 62 → node < split size / 2 ^ t →
    (climb_end hash t node size value (rest ++ last ∷ []) ≡ Some (0, a, b))
    ↔ ((w : List ℕ) × (climb_end hash t node (split size) value rest ≡ Some (0, a, w)) × (b ≡ node_hash hash w last))
climb_left hash t node size value rest last a b some small below =
    let f = at_layer t size some in
    let low = div-le_self (size - 1) (2 ^ t) in
    let there = f.there in
    let half = left_half ((size - 1) / 2 ^ t) hash rest last node ((size - 1) / 2 ^ t) value value a b (omega arith)
    some (omega arith) (omega arith) in
    rw (f.left_last, ← there) (
      λ h. let r = half.0 h in (r.1, r.2 ∙ ap (λ (x : List ℕ). Some (0, x, r.1)) (sym r.3), r.4),
      λ (w, h, q). half.1 (a, w, h, refl, q),
    )

pub climb_right : (hash : Hash) (t node size : ℕ) (value : List ℕ) (rest : List (List ℕ)) (last a b : List ℕ) →
    0 < (size - 1) / 2 ^ t → size ≤ 2 ^ 62 → split size / 2 ^ t ≤ node → node ≤ (size - 1) / 2 ^ t →
    (climb_end hash t node size value (rest ++ last ∷ []) ≡ Some (0, a, b))
    ↔ ((o : List ℕ) × (w : List ℕ)
    × (climb_end hash t (node - split size / 2 ^ t) (size - split size) value rest ≡ Some (0, o, w))
    × (a ≡ node_hash hash last o) × (b ≡ node_hash hash last w))
climb_right hash t node size value rest last a b some small beyond within =
    let f = at_layer t size some in
    let low = div-le_self (size - 1) (2 ^ t) in
    let there = f.there in
    rw (f.right_last, ← there)
    (right_half ((size - 1) / 2 ^ t) hash rest last node ((size - 1) / 2 ^ t) value value a b (omega arith) some
    (omega arith) (omega arith) within)

-- ---- whole nodes

-- a node whose leaves are all there
abbrev pub IsWhole : ℕ → ℕ → ℕ → Type 0
IsWhole t node size = (node + 1) * 2 ^ t ≤ size

pub next : (t node : ℕ) → (node + 1) * 2 ^ t ≡ node * 2 ^ t + 2 ^ t
next t node = add-mul node 1 (2 ^ t) ∙ omega arith

pub whole_within : (t node size : ℕ) → IsWhole t node size → (0 < size) × (node ≤ (size - 1) / 2 ^ t)
whole_within t node size whole =
    let n = next t node in let some = pow_pos t in
    (omega (arith, n, whole, some), le-div node (size - 1) (2 ^ t) some (omega (arith, n, whole, some)))

-- a larger tree has more nodes in its layer
pub more_nodes : (t node size new : ℕ) → IsWhole t node size → size < new → 0 < (new - 1) / 2 ^ t
more_nodes t node size new whole more =
    let n = next t node in let some = pow_pos t in
    le-div 1 (new - 1) (2 ^ t) some (omega (arith, n, whole, some, more))

pub left_of : (t node size s : ℕ) → IsWhole t node size → s ≡ s / 2 ^ t * 2 ^ t → size ≤ s → node < s / 2 ^ t
left_of t node size s whole is within = elim (leb_tells (suc node) (s / 2 ^ t)) [
  | inl (y, h) ↦ h
  | inr (n, h) ↦
      let m : s / 2 ^ t * 2 ^ t ≤ node * 2 ^ t = mul-le-mul_right (2 ^ t) (omega arith) in
      let e = next t node in let some = pow_pos t in absurd (omega (arith, m, e, whole, is, within, some))
]

pub right_of : (t node size s : ℕ) → (node + 1) * 2 ^ t ≡ size → s ≡ s / 2 ^ t * 2 ^ t → s < size → s / 2 ^ t ≤ node
right_of t node size s last is beyond = elim (leb_tells (s / 2 ^ t) node) [
  | inl (y, h) ↦ h
  | inr (n, h) ↦
      let m : (node + 1) * 2 ^ t ≤ s / 2 ^ t * 2 ^ t = mul-le-mul_right (2 ^ t) (omega arith) in
      absurd (omega (arith, m, last, is, beyond))
]

-- the right half has the node, less the nodes of the left one
pub in_right : (t node s : ℕ) → s ≡ s / 2 ^ t * 2 ^ t → s / 2 ^ t ≤ node →
    (node - s / 2 ^ t + 1) * 2 ^ t ≡ (node + 1) * 2 ^ t - s
in_right t node s is beyond =
    let back : node - s / 2 ^ t + 1 + s / 2 ^ t ≡ node + 1 = omega arith in
    let times = add-mul (node - s / 2 ^ t + 1) (s / 2 ^ t) (2 ^ t) in
    let all : (node + 1) * 2 ^ t ≡ (node - s / 2 ^ t + 1) * 2 ^ t + s / 2 ^ t * 2 ^ t =
    ap (λ (n : ℕ). n * 2 ^ t) (sym back) ∙ times in
    omega (arith, all, is)

-- ---- two trees that are split at one place

pub same_split : (size new : ℕ) → 1 < new → split new < size → size ≤ new → split size ≡ split new
same_split size new more beyond within =
    let s = split_is new more in
    let half = s.half in let some = s.some in
    let j = s.power.0 in
    let e : split new ≡ 2 ^ j = s.power.1 in
    sym (split_by_power size j (omega arith) (omega arith) (omega arith)) ∙ sym e

-- the smaller one has more than a node in the layer of a whole node, too
pub room : (t node size new : ℕ) → IsWhole t node size → split new < size → size < new → 0 < (size - 1) / 2 ^ t
room t node size new whole beyond more =
    let s = split_is new (omega arith) in
    let half = s.half in
    let j = s.power.0 in
    let e : split new ≡ 2 ^ j = s.power.1 in
    let n = next t node in let some = pow_pos t in
    elim (leb_tells (suc j) t) [
      | inl (y, h) ↦
          let p : 2 ^ suc j ≤ 2 ^ t = pow-le-pow_right (omega arith) h in
          let d : 2 ^ suc j ≡ 2 * 2 ^ j = pow-succ' 2 j in absurd (omega (arith, p, d, e, half, n, whole, more))
      | inr (f, h) ↦
          let p : 2 ^ t ≤ 2 ^ j = pow-le-pow_right (omega arith) (omega arith) in
          le-div 1 (size - 1) (2 ^ t) some (omega (arith, p, e, beyond))
    ]
