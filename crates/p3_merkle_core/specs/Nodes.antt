-- The value of each node of a tree.
use Rattle.std.specs.Prelude.{◌≡◌, ℕ, zero, suc, ◌+◌, ◌-◌, ◌*◌, ◌<◌, ◌==◌, Bool, nat_lt, if◌then◌else◌, List, [], ◌∷◌}
use Rattle.std.specs.Prelude.{◌++◌, map, length, replicate, filter, flat_map, All}
use Rattle.std.specs.List.{list_all, range_with_len}
use Rattle.p3_support.specs.Batches.{dimensions_in}
use Rattle.p3_support.specs.declared.matrix.Dimensions.{Dimensions}
use Rattle.p3_merkle_core.specs.Geometry.{Shape, exponent, layer_exponent, step, levels, raw_len, layer_len, has_rows}

-- the hash of words, the compression of digests, and the default digest
pub record Functions (T W : Type 0) : Type 0 where
  pub hash : List T → List W
  pub compression : List (List W) → List W
  pub default_digest : List W

-- the functions of a hash and a compression
abbrev pub functions_of : {T W : Type 0} → (List T → List W) → (List (List W) → List W) → List W → Functions T W
functions_of hash compression default_digest =
    record { hash = hash; compression = compression; default_digest = default_digest }

-- a matrix by its height, its width and its rows
pub record Matrix (T : Type 0) : Type 0 where
  pub height : ℕ
  pub width : ℕ
  pub row : ℕ → List T

-- how many children a node may have, and the matrices in input order
pub record Batch (T : Type 0) : Type 0 where
  pub arity : ℕ
  pub matrices : List (Matrix T)

-- the dimensions of matrices
abbrev pub dimensions_of : {T : Type 0} → List (Matrix T) → List Dimensions
dimensions_of ms = dimensions_in (λ m. m.height) (λ m. m.width) ms

-- the arity and the dimensions of a batch
abbrev pub shape : {T : Type 0} → Batch T → Shape
shape b = record { arity = b.arity; dimensions = dimensions_of b.matrices }

-- each row that a matrix has is of its width
abbrev pub HasFullRows : {T : Type 0} → Batch T → Type 0
HasFullRows b = All (λ m. (j : ℕ) → j < m.height → length (m.row j) ≡ m.width) b.matrices

-- the matrices that belong to layer l, in input order
abbrev pub at_layer : {T : Type 0} → Batch T → ℕ → List (Matrix T)
at_layer b l = filter (λ m. exponent m.height == layer_exponent (shape b) l) b.matrices

-- row j of each of the matrices, one after another
abbrev pub joined_rows : {T : Type 0} → List (Matrix T) → ℕ → List T
joined_rows ms j = flat_map (λ m. m.row j) ms

-- some elements, followed by default elements up to n
abbrev pub padded : {X : Type 0} → ℕ → X → List X → List X
padded n default_element xs = xs ++ replicate (n - length xs) default_element

-- the compression of some digests, padded by default digests
abbrev pub compress_padded : {T W : Type 0} → Functions T W → ℕ → List (List W) → List W
compress_padded f n ds = f.compression (padded n f.default_digest ds)

-- the digest of the rows j of the matrices, or the default digest past their end
abbrev pub row_digest : {T W : Type 0} → Functions T W → List (Matrix T) → ℕ → List W
row_digest f ms j = if list_all (λ m. nat_lt j m.height) ms then f.hash (joined_rows ms j) else f.default_digest

-- the digest of a node's children beside that of rows, followed by default digests: what is compressed where a node
-- has rows
abbrev pub pair : {T W : Type 0} → Functions T W → ℕ → List W → List W → List (List W)
pair f n c r = padded n f.default_digest (c ∷ r ∷ [])

-- the digest c of a node's children, compressed once more with the digest r of rows if the node has rows
abbrev pub with_rows : {T W : Type 0} → Functions T W → ℕ → Bool → List W → List W → List W
with_rows f n has c r = if has then f.compression (pair f n c r) else c

-- node j of layer l: the hash of rows for a leaf, else the compression of its children, with its rows if the layer
-- has any; the default digest for padding
unfoldable pub node : {T W : Type 0} → Functions T W → Batch T → ℕ → ℕ → List W
node f b zero j = if nat_lt j (raw_len (shape b) 0) then f.hash (joined_rows (at_layer b 0) j) else f.default_digest
node f b (suc l) j =
    let s = step (shape b) l in
    if nat_lt j (raw_len (shape b) (suc l))
    then with_rows f b.arity (has_rows (shape b) (suc l))
    (compress_padded f b.arity (map (λ i. node f b l (s * j + i)) (range_with_len 0 s)))
    (row_digest f (at_layer b (suc l)) j)
    else f.default_digest

-- layer l, padding included
abbrev pub layer : {T W : Type 0} → Functions T W → Batch T → ℕ → List (List W)
layer f b l = map (node f b l) (range_with_len 0 (layer_len (shape b) l))

-- all layers, from the leaves to the root
abbrev pub layers : {T W : Type 0} → Functions T W → Batch T → List (List (List W))
layers f b = map (layer f b) (range_with_len 0 (suc (levels (shape b))))
