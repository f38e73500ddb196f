-- The cap of an own tree is the definition's layer.
use Rattle.std.proofs.Common.{◌≡◌, ℕ, suc, List, [], arith, length, slice_get, Some}
use Rattle.std.proofs.lemmas.List.FromFn.{length-map-range_with_len, get_or-map-range_with_len}
use Rattle.std.proofs.lemmas.Option.{slice_get-get_or}
use Rattle.p3_merkle_core.specs.Caps.{cap_layer}
use Rattle.p3_merkle_core.specs.Geometry.{levels}
use Rattle.p3_merkle_core.specs.Nodes.{Functions, Batch, shape, layer, layers}
use Rattle.p3_merkle_core.specs.declared.cap.CapRule.{CapRule}

-- a tree over a, and the layer of its cap
pub cap_is : {T W : Type 0} (f : Functions T W) (a : Batch T) (own : List (List (List W))) (rule : CapRule)
    (c t : ℕ) (roots : List (List W)) → own ≡ layers f a → t ≡ cap_layer (shape a) rule c →
    slice_get own t ≡ Some roots → roots ≡ layer f a (cap_layer (shape a) rule c)
cap_is f a own rule c t roots is at found =
    let n = levels (shape a) in
    let k = cap_layer (shape a) rule c in
    let long : length (layers f a) ≡ suc n = length-map-range_with_len (layer f a) 0 (suc n) in
    let there = slice_get-get_or (layers f a) k [] (omega arith) in
    let read = get_or-map-range_with_len (layer f a) 0 (suc n) k k [] (omega arith) (omega arith) in
    let shown : slice_get (layers f a) k ≡ Some roots = rw (← is, ← at) found in
    cc
