-- The layers of a pruned opening, and the paths out of them.
use Rattle.std.proofs.Common.{◌≡◌, ◌∙◌, ℕ, suc, ◌+◌, ◌/◌, ◌<◌, List, [], ◌∷◌, ◌++◌, add-one, ap, arith, drop, get_or}
use Rattle.std.proofs.Common.{inl, inr, length, length-append, map, refl, sym}
use Rattle.std.proofs.lemmas.Bool.{cases_lt}
use Rattle.std.proofs.lemmas.List.{drop-append-le, get_or_append_left, get_or_default, map-append}
use Rattle.std.proofs.lemmas.List.FromFn.{map-range_with_len_more}
use Rattle.std.proofs.Math.Seq.{get_or-append_seam}
use Rattle.p3_merkle_core.specs.Geometry.{Shape, step}
use Rattle.p3_merkle_core.specs.Nodes.{Functions}
use Rattle.p3_merkle_core.specs.Pruning.{CanQuery, PrunedOpening, value_of}
use Rattle.p3_merkle_core.specs.declared.pruning.CoveredLayer.{CoveredLayer}
use Rattle.p3_merkle_core.specs.Checks.{params}
use Rattle.p3_merkle_core.proofs.Covered.CoveredFacts.{covered_listed, listed_covered}
use Rattle.p3_merkle_core.proofs.Covered.KeptFacts.{covered_up_list, level_of}
use Rattle.p3_merkle_core.proofs.Covered.Under.{covered_up}
use Rattle.p3_merkle_verifier.specs.Inner.RestoredLevels.{AreLayers, AreLeaves, IsLayer}
use Rattle.p3_merkle_verifier.proofs.LayerFacts.{covers, leaves_are}

-- the leaves alone
pub layers_start : {T W : Type 0} {f : Functions T W} {s : Shape} {t : ℕ} {p : PrunedOpening T W}
    {layers : List (CoveredLayer (List W))} {leaves : CoveredLayer (List W)} → layers ≡ leaves ∷ [] →
    AreLeaves s p.indices leaves → AreLayers f s t p 0 layers
layers_start is at = rw is (record {
  climb = record { count = refl; leaves = λ x. at; linked = λ l h. absurd (omega arith) };
  top = λ x. leaves_are at;
  levels_are = refl;
})

-- what a layer has
abbrev shown_layer : {X : Type 0} → CoveredLayer X → List ℕ × ℕ × List X
shown_layer layer = (layer.covered.nodes.items, layer.step, layer.children.items)

-- one layer more
pub layers_more : {T W : Type 0} {f : Functions T W} {s : Shape} {t : ℕ} {p : PrunedOpening T W} {l : ℕ}
    {old new : List (CoveredLayer (List W))} {below above : CoveredLayer (List W)} → AreLayers f s t p l old →
    below ≡ get_or old l below → CanQuery s p.indices t → l < t → IsLayer f s t p (suc l) above →
    new ≡ old ++ above ∷ [] → AreLayers f s t p (l + 1) new
layers_more {W = W} {f} {s} {t} {p} {l} {old} {below = below} {above} w is_below asked inside layer is =
    let X = List W in
    let count = w.climb.count in
    let grown : length (old ++ above ∷ []) ≡ l + 1 + 1 = length-append old (above ∷ []) ∙ ap (λ (n : ℕ). n + 1) count in
    let kept = λ (k : ℕ) (x : CoveredLayer X) (h : k < l + 1). get_or_append_left old (above ∷ []) x k (omega arith) in
    let last : (x : CoveredLayer X) → get_or (old ++ above ∷ []) (l + 1) x ≡ above =
    λ x. ap (λ (k : ℕ). get_or (old ++ above ∷ []) k x) (sym count) ∙ get_or-append_seam old above [] x in
    let z : 0 + l ≡ l = omega arith in
    let here = level_of s p.indices (value_of (params f s t) p) in
    let shown : shown_layer above ≡ here l = λ i. (
      (covers layer.coverage).nodes_are i,
      layer.family.step_is i,
      layer.family.values_are i,
    ) in
    rw is (record {
      climb = record {
        count = grown;
        leaves = λ x. rw (kept 0 x (omega arith)) (w.climb.leaves x);
        linked = λ k h x. elim (cases_lt k l) [
          | inl less ↦ rw (kept k x (omega arith), kept (k + 1) x (omega arith)) (w.climb.linked k (omega arith) x)
          | inr rest ↦
              let top : k ≡ l = omega arith in
              let there : get_or old l x ≡ below = get_or_default old l x below (omega arith) ∙ sym is_below in
              rw (top, kept l x (omega arith), there, last x) (record {
                some = layer.wide (omega arith);
                full = layer.family.full;
                ascending = rw (covers layer.coverage).nodes_are (covered_up_list s p.indices (suc l));
                parents = λ j c.
                    let here = listed_covered s p.indices l j
                    (rw (covers (w.top x).coverage).nodes_are at (rw (← there) at c)) in
                    rw ((covers layer.coverage).nodes_are, layer.family.step_is)
                    (covered_listed s p.indices t asked (suc l) (j / step s l) inside
                    (covered_up s p.indices l j here));
              })
        ];
      };
      top = λ x. rw (last x, add-one) layer;
      levels_are = ap (map shown_layer) (drop-append-le 1 old (above ∷ []) (omega arith))
          ∙ map-append shown_layer (drop 1 old) (above ∷ [])
          ∙ rw (w.levels_are, shown) (sym (map-range_with_len_more here 0 l l z));
    })
