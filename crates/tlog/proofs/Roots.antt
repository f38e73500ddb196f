-- Roots are hashes, or leaf hashes, and the digests of a proof of growth are few roots.
use Rattle.std.proofs.Common.{◌≡◌, ◌≤◌, ◌<◌, ◌-◌, ◌^◌, ℕ, zero, suc, List, [], ◌∷◌, ◌++◌, length, take, drop, All}
use Rattle.std.proofs.Common.{arith, eq-eqb, inl, inr, sym, subst, length-append, length-drop}
use Rattle.std.proofs.lemmas.Bool.{cases_lt}
use Rattle.std.proofs.lemmas.Bool.Decides.{leb_tells}
use Rattle.std.proofs.lemmas.List.{length-take-le}
use Rattle.std.proofs.lemmas.List.Elements.{All-append, All-cons, All-head, All-nil}
use Rattle.std.proofs.Math.Nat.{pow-le-pow_right}
use Rattle.std.specs.Prelude.{Bool, true, false}
use Rattle.tlog.specs.Rfc9162.{Hash, leaf_hash, mth, mth_within, proof_of, root_of, split, subproof_within}
use Rattle.tlog.proofs.Honest.{root_more, sub-more}
use Rattle.tlog.proofs.Splits.{split_is}

-- what holds of hashes and of leaf hashes holds of roots
pub root_is : {X : Type 0} (P : List ℕ → Type 0) (hash : Hash) (leaf : X → List ℕ) (L : List X) →
    ((message : List ℕ) → P (hash message)) → All (λ x. P (leaf x)) L → P (mth hash leaf L)
unfolding mth_within
root_is P hash leaf [] hashes leaves = hashes []
root_is P hash leaf (x ∷ []) hashes leaves = All-head (λ x. P (leaf x)) x [] leaves
root_is P hash leaf (x ∷ (y ∷ rest)) hashes leaves =
    let L = x ∷ (y ∷ rest) in
    let k = split (length L) in
    subst P (sym (root_more hash leaf L (omega arith)))
    (hashes (1 ∷ (mth hash leaf (take k L) ++ mth hash leaf (drop k L))))

-- at most so many digests, and P holds of each
pub record AreFew (P : List ℕ → Type 0) (most : ℕ) (digests : List (List ℕ)) : Type 0 where
  pub few : length digests ≤ most
  pub each : All P digests

-- both parts of a list are at most half as long
halves : (n j : ℕ) → 2 ≤ n → n ≤ 2 ^ suc j → (split n ≤ 2 ^ j) × (n - split n ≤ 2 ^ j)
halves n j two within =
    let s = split_is n two in
    let p = s.power.0 in
    let is : split n ≡ 2 ^ p = s.power.1 in
    let below = s.below in
    let half = s.half in
    let small : split n ≤ 2 ^ j = elim (cases_lt j p) [
      | inl more ↦ let far : 2 ^ suc j ≤ 2 ^ p = pow-le-pow_right (omega arith) more in absurd (omega arith)
      | inr less ↦ let near : 2 ^ p ≤ 2 ^ j = pow-le-pow_right (omega arith) less in omega arith
    ] in
    (small, omega arith)

module _ (P : List ℕ → Type 0) (hash : Hash) (roots : (D : List (List ℕ)) → P (root_of hash D)) where
  one_more : (most : ℕ) (digests D : List (List ℕ)) → AreFew P most digests →
      AreFew P (suc most) (digests ++ root_of hash D ∷ [])
  one_more most digests D are =
      let root = root_of hash D in
      record {
        few = omega (arith, are.few, length-append digests (root ∷ []));
        each = All-append P digests (root ∷ []) are.each (All-cons P root [] (roots D) (All-nil P));
      }

  all_known : (j : ℕ) (b : Bool) (depth m : ℕ) (D : List (List ℕ)) → m ≡ length D →
      AreFew P (suc j) (subproof_within (suc depth) hash (leaf_hash hash) m D b)
  unfolding subproof_within
  all_known j true depth m D is =
      rw (eq-eqb m (length D) is, subproof_within) (record { few = omega arith; each = All-nil P })
  all_known j false depth m D is =
      rw (eq-eqb m (length D) is, subproof_within)
      (record { few = omega arith; each = All-cons P (root_of hash D) [] (roots D) (All-nil P) })

  few_within : (depth j m : ℕ) (D : List (List ℕ)) (b : Bool) → 0 < m → m ≤ length D → length D ≤ 2 ^ j →
      length D ≤ depth → AreFew P (suc j) (subproof_within depth hash (leaf_hash hash) m D b)
  few_within zero j m D b some inside small enough = absurd (omega arith)
  few_within (suc depth) zero m D b some inside small enough = all_known 0 b depth m D (omega arith)
  few_within (suc depth) (suc j) m D b some inside small enough =
      let n = length D in
      let k = split n in
      let leaf = leaf_hash hash in
      elim (cases_lt m n) [
        | inr all ↦ all_known (suc j) b depth m D (omega arith)
        | inl part ↦
            let parts = halves n j (omega arith) small in
            let s = split_is n (omega arith) in
            let below = s.below in
            let front = length-take-le k D (omega arith) in
            let back = length-drop k D in
            subst (AreFew P (suc (suc j))) (sym (sub-more depth hash leaf m D b part))
            (elim (leb_tells m k) [
              | inl (t, left) ↦
                  rw t (one_more (suc j) (subproof_within depth hash leaf m (take k D) b) (drop k D)
                  (few_within depth j m (take k D) b some (omega arith) (omega (arith, parts.0)) (omega arith)))
              | inr (f, right) ↦
                  rw f (one_more (suc j) (subproof_within depth hash leaf (m - k) (drop k D) false) (take k D)
                  (few_within depth j (m - k) (drop k D) false (omega arith) (omega arith) (omega (arith, parts.1))
                  (omega arith)))
            ])
      ]

  -- PROOF has at most 63 digests, each a root
  pub proof_few : (m : ℕ) (D : List (List ℕ)) → 0 < m → m ≤ length D → length D ≤ 2 ^ 62 →
      AreFew P 63 (proof_of hash m D)
  proof_few m D some inside small = few_within (length D) 62 m D true some inside small (omega arith)
