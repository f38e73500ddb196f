-- A node out of the compression of its children and the digest of its rows.
use Rattle.std.proofs.Common.{◌≡◌, ℕ, suc, ◌+◌, ◌-◌, ◌*◌, ◌<◌, ◌≤◌, List, ◌∷◌, ◌++◌, length, take, drop, replicate}
use Rattle.std.proofs.Common.{true, false, sym, ap, ◌∙◌, arith, length-drop}
use Rattle.std.proofs.Math.Nat.{mul-add, mul-le-mul_left, mul-suc}
use Rattle.std.proofs.lemmas.Bool.{lt-ltb}
use Rattle.std.proofs.lemmas.List.{drop-drop, length-take-le, take_all}
use Rattle.p3_merkle_core.specs.Nodes.{Functions, compress_padded}
use Rattle.p3_merkle_core.specs.declared.layer_shape.LayerShape.{LayerShape}
use Rattle.p3_merkle_prover.specs.Inner.Levels.{slot_above, HasChildren}

-- the children of node j in the layer from those of the first node on
pub children_from : {T W : Type 0} (f : Functions T W) (n : ℕ) (v : LayerShape) (below : List (List W)) (first j : ℕ) →
    f.compression (take v.step (drop (v.step * j)
    (take (length below - v.step * first) (drop (v.step * first) below))) ++ replicate (n - v.step) f.default_digest)
    ≡ f.compression (take v.step (drop (v.step * (first + j)) below) ++ replicate (n - v.step) f.default_digest)
children_from f n v below first j =
    let from : ℕ = v.step * first in
    let all : take (length below - from) (drop from below) ≡ drop from below =
    take_all (length below - from) (drop from below) (omega (arith, length-drop from below)) in
    ap (λ l. f.compression (take v.step l ++ replicate (n - v.step) f.default_digest))
    (ap (drop (v.step * j)) all ∙ drop-drop (v.step * j) from below
    ∙ ap (λ i. drop i below) (sym (mul-add v.step first j)))

module _ {T W : Type 0} (f : Functions T W) (n : ℕ) (leaf : ℕ → List W) (v : LayerShape) (below : List (List W))
    (w : HasChildren n v (length below)) (j : ℕ) (inside : j < v.raw_len)
  where
    -- the children of node j
    abbrev pub children : List (List W)
    children = take v.step (drop (v.step * j) below)

    -- they end within the layer
    children_fit : v.step * suc j ≤ length below
    children_fit = let more : v.step * suc j ≤ v.step * v.raw_len = mul-le-mul_left v.step inside in
        omega (arith, more, w.fits)

    -- and are as many as the step
    children_count : length children ≡ v.step
    children_count = length-take-le v.step (drop (v.step * j) below)
        (omega (arith, length-drop (v.step * j) below, mul-suc v.step j, children_fit))

    -- the compression of its children
    folded_is : (folded : List W) →
        folded ≡ f.compression (children ++ replicate (n - v.step) f.default_digest) → folded
        ≡ compress_padded f n children
    folded_is folded is = is ∙ ap (λ l. f.compression (children ++ replicate (n - l) f.default_digest))
        (sym children_count)

    -- a node that no rows belong to
    pub node_alone : (folded : List W) → v.has_rows ≡ false → folded
        ≡ f.compression (children ++ replicate (n - v.step) f.default_digest) → folded ≡ slot_above f n leaf v below j
    node_alone folded none is = rw (lt-ltb j v.raw_len inside, none) (folded_is folded is)

    -- and one that rows belong to
    pub node_with : (folded rows joined : List W) → v.has_rows ≡ true → folded
        ≡ f.compression (children ++ replicate (n - v.step) f.default_digest) → rows ≡ leaf j →
        joined ≡ f.compression (folded ∷ rows ∷ replicate (n - 2) f.default_digest) → joined
        ≡ slot_above f n leaf v below j
    node_with folded rows joined has is are_rows made =
        rw (lt-ltb j v.raw_len inside, has)
        (made ∙ ap (λ c. f.compression (c ∷ rows ∷ replicate (n - 2) f.default_digest)) (folded_is folded is)
        ∙ ap (λ r. f.compression (compress_padded f n children ∷ r ∷ replicate (n - 2) f.default_digest)) are_rows)
