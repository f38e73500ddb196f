-- The walk of inclusion past one level, along siblings some of which are absent.
use Rattle.std.proofs.Common.{◌≡◌, ℕ, suc, ◌+◌, ◌-◌, ◌*◌, ◌/◌, ◌%◌, ◌^◌, ◌<◌, ◌≤◌, List, [], ◌∷◌, Some}
use Rattle.std.proofs.Common.{insert, refl, sym, ap, ◌∙◌, arith, inl, inr}
use Rattle.std.proofs.lemmas.Bool.{cases_eq, cases_lt}
use Rattle.std.proofs.lemmas.Nat.{pow_pos}
use Rattle.std.proofs.Math.Nat.{div-div-eq-div-mul, div-le_self, div-mul-le_self, le-div_iff_mul-le, pow-suc}
use Rattle.tlog.specs.Rfc9162.{Hash as HashFunction, inclusion_walk, node_hash}
use Rattle.tlog.proofs.Climbs.{inclusion_even, inclusion_odd, inclusion_skip}
use Rattle.tlog_multiproof.specs.Nodes.{parent_digest}
use Rattle.tlog_multiproof.specs.Instance.{sibling_slot, IsLogDigest, present}
use Rattle.tlog_multiproof.specs.declared.tree.Node.{Node}
use Rattle.tlog_multiproof.specs.declared.tree.Node.TheVariants.{Absent, Hash}

-- what one level gives: the digest of the group, and the walk from below it
abbrev pub IsPassed : HashFunction → List (List Node) → List Node → ℕ → ℕ → List ℕ → Type 0
IsPassed hash path digest j last r =
    (up : List ℕ) × (parent_digest hash (insert (digest ∷ []) (j % 2) (Hash r ∷ [])) ≡ Hash up ∷ []) ×
    ((end : List ℕ) → inclusion_walk hash (present path) (j / 2) (last / 2) up ≡ Some (0, end) →
    inclusion_walk hash (present (digest ∷ path)) j last r ≡ Some (0, end))

-- by the nodes of both layers, the last of which is at `last`
passed : (hash : HashFunction) (path : List (List Node)) (digest : List Node) (j last : ℕ) (r : List ℕ) → 0 < last →
    j ≤ last → last ≤ 2 ^ 62 →
    (2 * (j / 2) + (1 - j % 2) ≤ last → (value : List ℕ) × (digest ≡ Hash value ∷ [])) →
    (last < 2 * (j / 2) + (1 - j % 2) → digest ≡ Absent ∷ []) → IsPassed hash path digest j last r
passed hash path digest j last r some within small node padding = elim (cases_eq (j % 2) 1) [
  | inl odd ↦
      let v = node (omega arith) in
      rw (odd, v.1)
      (node_hash hash v.0 r, refl, λ end h. inclusion_odd hash v.0 (present path) j last r odd some (omega arith) ∙ h)
  | inr other ↦
      let even : j % 2 ≡ 0 = omega arith in
      elim (cases_eq j last) [
        | inl only ↦
            let d = padding (omega arith) in
            rw (even, d, only)
            (r, refl, λ end h. inclusion_skip hash (present path) last r end (omega arith) small h)
        | inr less ↦
            let v = node (omega arith) in
            rw (even, v.1) (
              node_hash hash r v.0,
              refl,
              λ end h.
                  inclusion_even hash v.0 (present path) j last r even (omega arith) ∙ h,
            )
      ]
]

-- half of an ancestor
pub half_of : (n l : ℕ) → n / 2 ^ suc l ≡ n / 2 ^ l / 2
half_of n l = ap (λ p. n / p) (pow-suc 2 l) ∙ sym (div-div-eq-div-mul n (2 ^ l) 2)

-- a level of a log of so many entries
pub level_passed : (hash : HashFunction) (path : List (List Node)) (digest : List Node) (size i l : ℕ) (r : List ℕ) →
    i < size → size ≤ 2 ^ 62 → 2 ^ l < size → IsLogDigest size l (sibling_slot i l) digest →
    IsPassed hash path digest (i / 2 ^ l) ((size - 1) / 2 ^ l) r
level_passed hash path digest size i l r inside small more filled =
    let k = 2 ^ l in
    let pos : 0 < k = pow_pos l in
    let slot : sibling_slot i l ≡ 2 * (i / k / 2) + (1 - i / k % 2) =
    ap (λ j. 2 * j + (1 - i / k % 2)) (half_of i l) in
    let w : IsLogDigest size l (2 * (i / k / 2) + (1 - i / k % 2)) digest = rw slot at filled in
    passed hash path digest (i / k) ((size - 1) / k) r
    ((le-div_iff_mul-le pos).1 (omega arith))
    ((le-div_iff_mul-le pos).1 (omega (arith, div-mul-le_self i k)))
    (omega (arith, div-le_self (size - 1) k))
    (λ le. let up = (le-div_iff_mul-le pos).0 le in w.node (omega arith))
    (λ past. w.padding (elim (cases_lt ((2 * (i / k / 2) + (1 - i / k % 2)) * k) size) [
      | inl below ↦
          let le = (le-div_iff_mul-le {x = 2 * (i / k / 2) + (1 - i / k % 2)} {y = size - 1} pos).1 (omega arith) in
          absurd (omega arith)
      | inr above ↦ above
    ]))
