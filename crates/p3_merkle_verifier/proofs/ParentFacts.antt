-- The queries of parents: of each run of nodes under one parent the first node's query.
use Rattle.std.proofs.Common.{◌≡◌, ◌∙◌, ℕ, ◌+◌, ◌-◌, ◌/◌, ◌<◌, ◌⊎◌, eqb, List, [], ◌∷◌, ◌++◌, map, ap, sym, arith, inl}
use Rattle.std.proofs.Common.{inr, length, get_or, take}
use Rattle.std.specs.List.{dedup}
use Rattle.std.proofs.lemmas.List.{get_or-map, length-map, map-append}
use Rattle.p3_merkle_core.proofs.Lists.DedupFacts.{dropped, stays}

-- what one more node leaves of the queries: its own, if its parent is not that of the node before
pub queries_next : (nodes queries above next : List ℕ) (step i : ℕ) (node : ℕ → ℕ) → i < length queries → length queries
    ≡ length nodes → nodes ≡ map node queries →
    map (λ k. node k / step) above ≡ dedup eqb (take i (map (λ j. j / step) nodes)) →
    ((next ≡ above ++ get_or queries i 0 ∷ []) ×
    (0 < i → get_or nodes (i - 1) 0 / step ≡ get_or nodes i 0 / step → ⊥)) ⊎
    ((next ≡ above) × (0 < i) × (get_or nodes (i - 1) 0 / step ≡ get_or nodes i 0 / step)) →
    map (λ k. node k / step) next ≡ dedup eqb (take (i + 1) (map (λ j. j / step) nodes))
queries_next nodes queries above next step i node h e are so_far turn =
    let ys = map (λ j. j / step) nodes in
    let long : length ys ≡ length nodes = length-map nodes (λ j. j / step) in
    let at : (k : ℕ) → k < length nodes → get_or ys k 0 ≡ get_or nodes k 0 / step =
    λ k l. get_or-map (λ j. j / step) nodes k 0 0 l in
    let here : get_or ys i 0 ≡ get_or nodes i 0 / step = at i (omega arith) in
    let before : get_or ys (i - 1) 0 ≡ get_or nodes (i - 1) 0 / step = at (i - 1) (omega arith) in
    let mine : get_or nodes i 0 ≡ node (get_or queries i 0) = ap (λ xs. get_or xs i 0) are
    ∙ get_or-map node queries i 0 0 h in
    elim turn [
      | inl k ↦
          let stays = stays ys i (omega arith) (λ p q. k.1 p (sym before ∙ q ∙ here)) in
          rw (k.0, map-append (λ k. node k / step) above (get_or queries i 0 ∷ []), so_far)
          (sym (stays ∙ ap (λ y. dedup eqb (take i ys) ++ y ∷ []) (here ∙ ap (λ x. x / step) mine)))
      | inr k ↦ rw (k.0, so_far) (sym (dropped ys i (omega arith) k.1 (before ∙ k.2 ∙ sym here)))
    ]
