-- The root of the roots of parts is that of all their leaf hashes.
use Rattle.std.proofs.Common.{◌≡◌, ◌<◌, ◌+◌, ◌^◌, ◌∙◌, ℕ, zero, suc, List, [], ◌∷◌, ◌++◌, ap, arith, length, map, refl}
use Rattle.std.proofs.Common.{subst, sym, append-nil, length-append}
use Rattle.std.proofs.lemmas.Nat.{pow_pos}
use Rattle.std.proofs.Math.Nat.{pow-succ'}
use Rattle.std.specs.List.{flat_map}
use Rattle.tlog.specs.Rfc9162.{Hash, mth_within, node_hash}
use Rattle.tlog.proofs.Layers.{above, itself, length-above, mth_above}
use Rattle.tlog_tree.specs.Parts.{HaveSize, RootIsOfParts}
use Rattle.tlog_tree.specs.Trees.{leaves_root}

abbrev Parts : Type 0
Parts = List (List (List ℕ))

abbrev lengths : Parts → List ℕ
lengths parts = map (λ (part : List (List ℕ)). length part) parts

abbrev all_of : Parts → List (List ℕ)
all_of parts = flat_map (λ (part : List (List ℕ)). part) parts

module _ (hash : Hash) where
  above-append : (j : ℕ) (L M : List (List ℕ)) → length L ≡ j + j →
      above hash itself (L ++ M) ≡ above hash itself L ++ above hash itself M
  above-append j [] M even = refl
  above-append j (x ∷ []) M even = absurd (omega arith)
  above-append zero (x ∷ (y ∷ L)) M even = absurd (omega arith)
  above-append (suc j) (x ∷ (y ∷ L)) M even =
      ap (λ nodes. node_hash hash x y ∷ nodes) (above-append j L M (omega arith))

  -- the layer above, part by part
  abbrev up : Parts → Parts
  up parts = map (above hash itself) parts

  abbrev roots : Parts → List (List ℕ)
  roots parts = map (leaves_root hash) parts

  up_sizes : (size : ℕ) (parts : Parts) → 0 < size → HaveSize (size + size) (lengths parts) →
      HaveSize size (lengths (up parts))
  up_sizes size [] some have = tt
  up_sizes size (part ∷ []) some have =
      let len = length-above hash itself part in (omega (arith, len, have.0), omega (arith, len, have.1))
  up_sizes size (part ∷ next ∷ parts) some have =
      let len = length-above hash itself part in
      (omega (arith, len, have.0), up_sizes size (next ∷ parts) some have.1)

  up_all : (size : ℕ) (parts : Parts) → HaveSize (size + size) (lengths parts) →
      above hash itself (all_of parts) ≡ all_of (up parts)
  up_all size [] have = refl
  up_all size (part ∷ []) have =
      ap (above hash itself) (append-nil part) ∙ sym (append-nil (above hash itself part))
  up_all size (part ∷ next ∷ parts) have =
      above-append size part (all_of (next ∷ parts)) have.0
      ∙ ap (λ nodes. above hash itself part ++ nodes) (up_all size (next ∷ parts) have.1)

  up_roots : (size : ℕ) (parts : Parts) → 0 < size → HaveSize size (lengths parts) → roots parts ≡ roots (up parts)
  up_roots size [] some have = refl
  up_roots size (part ∷ []) some have = ap (λ root. root ∷ []) (mth_above hash itself part (omega (arith, have.0)))
  up_roots size (part ∷ next ∷ parts) some have =
      let own = mth_above hash itself part (omega (arith, have.0, some)) in
      let more = up_roots size (next ∷ parts) some have.1 in
      (λ i. own i ∷ more i)

  -- parts of one leaf
  one : (part : List (List ℕ)) → length part ≡ 1 → leaves_root hash part ∷ [] ≡ part
  unfolding mth_within
  one [] len = absurd (omega arith)
  one (x ∷ []) len = refl
  one (x ∷ y ∷ rest) len = absurd (omega arith)

  one_each : (parts : Parts) → HaveSize 1 (lengths parts) → roots parts ≡ all_of parts
  one_each [] have = refl
  one_each (part ∷ []) have = one part (omega (arith, have.0, have.1)) ∙ sym (append-nil part)
  one_each (part ∷ next ∷ parts) have =
      let own = one part have.0 in
      let more = one_each (next ∷ parts) have.1 in
      (λ i. own i ++ more i)

  some_leaf : (size : ℕ) (part : List (List ℕ)) (parts : Parts) → 0 < size → HaveSize size (lengths (part ∷ parts)) →
      0 < length (all_of (part ∷ parts))
  some_leaf size part [] some have = omega (arith, length-append part [], have.0)
  some_leaf size part (next ∷ parts) some have =
      omega (arith, length-append part (all_of (next ∷ parts)), have.0, some)

pub root_is_of_parts : RootIsOfParts
root_is_of_parts hash zero parts have = ap (leaves_root hash) (one_each hash parts have)
root_is_of_parts hash (suc power) [] have = refl
root_is_of_parts hash (suc power) (part ∷ parts) have =
    let size = 2 ^ power in
    let some : 0 < size = pow_pos power in
    let twice : 2 ^ suc power ≡ size + size = omega (arith, pow-succ' 2 power) in
    let all = part ∷ parts in
    let own : HaveSize (size + size) (lengths all) = subst (λ n. HaveSize n (lengths all)) twice have in
    ap (leaves_root hash) (up_roots hash (size + size) all (omega arith) own)
    ∙ root_is_of_parts hash power (up hash all) (up_sizes hash size all some own)
    ∙ ap (leaves_root hash) (sym (up_all hash size all own))
    ∙ sym (mth_above hash itself (all_of all) (some_leaf hash (size + size) part parts (omega arith) own))
