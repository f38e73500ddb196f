-- What the builders of layers compute with and write.
use Rattle.std.specs.Prelude.{ℕ, List, map, replicate}
use Rattle.std.specs.List.{range_with_len}
use Rattle.std.specs.declared.default.Default as default
use Rattle.std.specs.declared.cmp.PartialEq as equality
use Rattle.p3_support.specs.declared.compress.PseudoCompressionFunction as compressor
use Rattle.p3_support.specs.declared.hasher.CryptographicHasher as hasher
use Rattle.p3_support.specs.declared.matrix.Matrix as matrix
use Rattle.p3_support.specs.declared.packed.PackedValue as packed
use Rattle.p3_support.specs.Lists.{rows_of_height}
use Rattle.p3_merkle_core.specs.declared.layer_shape.LayerShape.{LayerShape}
use Rattle.p3_merkle_core.specs.Nodes.{Batch, Functions, functions_of}
use Rattle.p3_merkle_core.specs.Views.{batch_of}
use Rattle.p3_merkle_hashing.specs.Inner.Slots.{leaf_over, rows_over}
use Rattle.p3_merkle_prover.specs.Inner.Levels.{slot_above}
use Rattle.p3_merkle_prover.specs.declared.layer.GenericLayerBuilder.{GenericLayerBuilder}
use Rattle.p3_merkle_prover.specs.declared.layers.GenericTreeBuilder.{GenericTreeBuilder}

module _ {P PW H C M G V W : Type 0} {N D : ℕ} {p : packed.Ghosts P V} {pd : default.Ghosts V}
    {pe : equality.Ghosts V} {q : packed.Ghosts PW W} {qd : default.Ghosts W} {qe : equality.Ghosts W}
    {h : hasher.Ghosts H P PW D V W} {c : compressor.Ghosts C PW N D W} {m : matrix.Ghosts M V} where
  -- what the hasher and the compression of all layers compute, and the digest of default words
  abbrev pub functions_for : GenericTreeBuilder P PW H C M G N D V W p pd pe q qd qe h c m → Functions V W
  functions_for builder =
      functions_of (h.hash builder.hash.now) (c.compression builder.compress.now) (replicate D q.default_value)

  -- the matrices of all layers, under the arity
  abbrev pub batch_for : GenericTreeBuilder P PW H C M G N D V W p pd pe q qd qe h c m → Batch V
  batch_for builder = batch_of m.height_of m.width_of m.row_of N builder.matrices.now

  -- the layer above a layer, at a level
  abbrev pub layer_above : GenericTreeBuilder P PW H C M G N D V W p pd pe q qd qe h c m → LayerShape →
      List (List W) → List (List W)
  layer_above builder v below =
      let f = functions_for builder in
      let rows = λ (j : ℕ). rows_of_height m.height_of m.row_of v.height j builder.matrices.now in
      let leaf = leaf_over f.hash f.default_digest rows v.height in
      map (slot_above f N leaf v below) (range_with_len 0 v.layer_len)

  -- the same functions, of one layer
  abbrev pub functions_in : GenericLayerBuilder P PW H C M (List W) G N D V W p pd pe q qd qe h c m → Functions V W
  functions_in builder =
      functions_of (h.hash builder.rows.hash.now) (c.compression builder.compress.now) (replicate D q.default_value)

  -- the digest of row j of the layer's matrices, or the default digest past their height
  abbrev pub leaf_in : GenericLayerBuilder P PW H C M (List W) G N D V W p pd pe q qd qe h c m → ℕ → List W
  leaf_in builder =
      let f = functions_in builder in
      leaf_over f.hash f.default_digest (rows_over m.row_of builder.rows.matrices.now) builder.rows.height

  -- slot j of the layer
  abbrev pub slot_of : GenericLayerBuilder P PW H C M (List W) G N D V W p pd pe q qd qe h c m → ℕ → List W
  slot_of builder = slot_above (functions_in builder) N (leaf_in builder) builder.level builder.below.now
