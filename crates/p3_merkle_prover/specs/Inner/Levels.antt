-- What is built of a layer, out of the layer below it.
use Rattle.std.specs.Prelude.{◌≡◌, ℕ, ◌*◌, ◌≤◌, Bool, if◌then◌else◌, nat_lt, List, take, drop}
use Rattle.p3_support.specs.declared.matrix.Dimensions.{Dimensions}
use Rattle.p3_merkle_core.specs.Geometry.{heights, IsArity, IsLawful}
use Rattle.p3_merkle_core.specs.Nodes.{Functions, Batch, shape, compress_padded, dimensions_of, with_rows}
use Rattle.p3_merkle_core.specs.declared.layer_shape.LayerShape.{LayerShape}

-- a batch that is not refused, and the dimensions of its matrices
pub record CanBuild {T : Type 0} (b : Batch T) (dimensions : List Dimensions) : Type 0 where
  pub arity : IsArity b.arity
  pub lawful : IsLawful (heights (shape b))
  pub same : dimensions ≡ dimensions_of b.matrices

-- a layer of so many slots has the children of the level's nodes, at most n of each
pub record HasChildren (n : ℕ) (v : LayerShape) (slots : ℕ) : Type 0 where
  pub wide : 2 ≤ v.step
  pub narrow : v.step ≤ n
  pub fits : v.step * v.raw_len ≤ slots

-- node j over some children, compressed once more with leaf j, the digest of its rows, if it has rows
abbrev pub node_above : {T W : Type 0} → Functions T W → ℕ → (ℕ → List W) → Bool → ℕ → List (List W) → List W
node_above f n leaf has j children = with_rows f n has (compress_padded f n children) (leaf j)

-- slot j of the layer above a layer, with these digests of rows
abbrev pub slot_above : {T W : Type 0} → Functions T W → ℕ → (ℕ → List W) → LayerShape → List (List W) → ℕ → List W
slot_above f n leaf v below j = if nat_lt j v.raw_len
    then node_above f n leaf v.has_rows j (take v.step (drop (v.step * j) below)) else f.default_digest
