-- MTH and PATH of entries are those of their leaf hashes.
use Rattle.std.proofs.Common.{◌≡◌, ℕ, zero, suc, ◌<◌, List, [], ◌∷◌, length, map, refl, sym, ap, ◌∙◌, arith}
use Rattle.std.proofs.lemmas.List.{length-map}
use Rattle.tlog.specs.Rfc9162.{Hash as HashFunction, mth, mth_within, node_hash, path}
use Rattle.tlog.proofs.Climbs.{path_above}
use Rattle.tlog.proofs.Layers.{above, itself, mth_above, sibling}

module _ {X : Type 0} (hash : HashFunction) (leaf : X → List ℕ) where
  above_map : (D : List X) → above hash itself (map leaf D) ≡ above hash leaf D
  above_map [] = refl
  above_map (d ∷ []) = refl
  above_map (d ∷ (e ∷ rest)) = ap (λ nodes. node_hash hash (leaf d) (leaf e) ∷ nodes) (above_map rest)

  sibling_map : (m : ℕ) (D : List X) → sibling itself m (map leaf D) ≡ sibling leaf m D
  sibling_map m [] = refl
  sibling_map m (d ∷ []) = refl
  sibling_map zero (d ∷ (e ∷ rest)) = refl
  sibling_map (suc zero) (d ∷ (e ∷ rest)) = refl
  sibling_map (suc (suc m)) (d ∷ (e ∷ rest)) = sibling_map m rest

  pub mth_map : (D : List X) → mth hash itself (map leaf D) ≡ mth hash leaf D
  unfolding mth_within
  mth_map [] = refl
  mth_map (d ∷ rest) =
      mth_above hash itself (map leaf (d ∷ rest)) (omega arith)
      ∙ ap (mth hash itself) (above_map (d ∷ rest)) ∙ sym (mth_above hash leaf (d ∷ rest) (omega arith))

  pub path_map : (m : ℕ) (D : List X) → m < length D → path hash itself m (map leaf D) ≡ path hash leaf m D
  path_map m D inside =
      path_above hash itself m (map leaf D) (omega (arith, length-map D leaf))
      ∙ rw (sibling_map m D, above_map D) (sym (path_above hash leaf m D inside))
