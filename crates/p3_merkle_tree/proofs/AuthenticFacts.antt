-- A matrix is authenticated exactly if its exponent is no less than that of the cap's layer.
use Rattle.std.proofs.Common.{◌≡◌, ◌↔◌, ℕ, ◌+◌, ◌-◌, ◌<◌, ◌≤◌, leb, sym, ◌∙◌, arith, inl, inr, length, get_or}
use Rattle.std.proofs.lemmas.Bool.{cases_lt, le-leb, lt-leb}
use Rattle.p3_merkle_core.specs.Geometry.{Shape, IsArity, exponent, heights, layer_exponent, layer_of, levels}
use Rattle.p3_merkle_core.proofs.Shapes.LeastFacts.{least_le}
use Rattle.p3_merkle_core.proofs.Shapes.LadderFacts.{layer_of_is}
use Rattle.p3_merkle_core.proofs.Shapes.FallFacts.{exponents_fall, falls_above}

-- the matrices with at least the exponent of layer t belong to it, or to a layer below it
at_or_below : (s : Shape) (t k : ℕ) → IsArity s.arity → t ≤ levels s → k < length (heights s) →
    (layer_exponent s t ≤ exponent (get_or (heights s) k 0)) ↔ (layer_of s (get_or (heights s) k 0) ≤ t)
at_or_below s t k w in_tree inside =
    let h = get_or (heights s) k 0 in
    let l = layer_of s h in
    let is = layer_of_is s w k inside in
    let top : l ≤ levels s = least_le _ (levels s) in (
      λ enough. elim (cases_lt t l) [
        | inl above ↦ absurd (omega (arith, falls_above s t l w (omega arith) above))
        | inr low ↦ low
      ],
      λ low.
          let sum : l + (t - l) ≡ t = omega arith in
          let further = rw sum at (exponents_fall s l (t - l)) in
          omega arith,
    )

pub authenticated_is : (s : Shape) (t k : ℕ) → IsArity s.arity → t ≤ levels s → k < length (heights s) →
    leb (layer_exponent s t) (exponent (get_or (heights s) k 0)) ≡ leb (layer_of s (get_or (heights s) k 0)) t
authenticated_is s t k w in_tree inside =
    let h = get_or (heights s) k 0 in
    let both = at_or_below s t k w in_tree inside in
    elim (cases_lt (exponent h) (layer_exponent s t)) [
      | inl less ↦
          let above : t < layer_of s h = elim (cases_lt t (layer_of s h)) [
            | inl a ↦ a
            | inr low ↦ let z = both.1 low in
                absurd (omega arith)
          ] in
          lt-leb (layer_exponent s t) (exponent h) less ∙ sym (lt-leb (layer_of s h) t above)
      | inr enough ↦ le-leb (layer_exponent s t) (exponent h) enough ∙ sym (le-leb (layer_of s h) t (both.0 enough))
    ]
