-- SUBPROOF of entries is that of their leaf hashes.
use Rattle.std.proofs.Common.{◌≡◌, ◌-◌, ◌==◌, ◌∙◌, ℕ, zero, suc, List, [], ◌∷◌, ◌++◌, drop, length, map, refl, sym}
use Rattle.std.proofs.Common.{take}
use Rattle.std.specs.Prelude.{Bool, true, false, nat_le}
use Rattle.std.proofs.lemmas.List.{drop-map, length-map, take-map}
use Rattle.tlog.specs.Rfc9162.{Hash, mth, split, subproof_within}
use Rattle.tlog.proofs.Layers.{itself}
use Rattle.tlog_multiproof.proofs.Leaves.{mth_map}

-- a subproof by those of both parts
cut : Bool → Bool → Bool → List ℕ → List (List ℕ) → List ℕ → List (List ℕ) → List ℕ → List (List ℕ)
cut t b u root left right_root right left_root = elim t [
  | true ↦ elim b [ true ↦ [] | false ↦ root ∷ [] ]
  | false ↦ elim u [ true ↦ left ++ right_root ∷ [] | false ↦ right ++ left_root ∷ [] ]
]

sub_cut : {X : Type 0} (depth : ℕ) (hash : Hash) (leaf : X → List ℕ) (m : ℕ) (L : List X) (b : Bool) →
    let k = split (length L) in
    subproof_within (suc depth) hash leaf m L b
    ≡ cut (m == length L) b (nat_le m k) (mth hash leaf L) (subproof_within depth hash leaf m (take k L) b)
    (mth hash leaf (drop k L)) (subproof_within depth hash leaf (m - k) (drop k L) false) (mth hash leaf (take k L))
unfolding cut subproof_within
sub_cut depth hash leaf m L b = refl

module _ {X : Type 0} (hash : Hash) (leaf : X → List ℕ) where
  pub subproof_map : (depth m : ℕ) (D : List X) (b : Bool) →
      subproof_within depth hash itself m (map leaf D) b ≡ subproof_within depth hash leaf m D b
  unfolding subproof_within
  subproof_map zero m D b = refl
  subproof_map (suc depth) m D b =
      let k = split (length D) in
      sub_cut depth hash itself m (map leaf D) b
      ∙ rw (
        mth_map hash leaf D,
        length-map D leaf,
        take-map leaf k D,
        drop-map leaf k D,
        subproof_map depth m (take k D) b,
        subproof_map depth (m - k) (drop k D) false,
        mth_map hash leaf (take k D),
        mth_map hash leaf (drop k D),
      )
      (sym (sub_cut depth hash leaf m D b))
