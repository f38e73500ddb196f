-- A tree, layer by layer.
use Rattle.std.proofs.Common.{◌≡◌, ℕ, suc, ◌+◌, ◌<◌, ◌≤◌, cond, nat_lt, List, [], ◌∷◌, ◌++◌, map, refl, ap, sym, ◌∙◌}
use Rattle.std.proofs.Common.{subst, arith, length, get_or, Vec}
use Rattle.std.specs.List.{range_with_len}
use Rattle.std.proofs.lemmas.List.FromFn.{map-range_with_len_more, length-map-range_with_len, get_or-map-range_with_len}
use Rattle.std.proofs.lemmas.List.{length-map, get_or-map}
use Rattle.p3_support.specs.Lists.{rows_of_height}
use Rattle.p3_support.specs.Batches.{heights_of, greatest}
use Rattle.p3_support.specs.declared.matrix.Dimensions.{Dimensions}
use Rattle.p3_merkle_core.specs.Geometry.{Shape, shape_of, heights, layer_exponent, levels, raw_len, layer_len}
use Rattle.p3_merkle_core.specs.Geometry.{padded_len, height_limit, IsLawful}
use Rattle.p3_merkle_core.specs.Inner.Levels.{IsBelowTop, IsLevel}
use Rattle.p3_merkle_core.specs.Nodes.{Functions, Batch, shape, layer, layers, node}
use Rattle.p3_merkle_core.specs.Views.{batch_of}
use Rattle.p3_merkle_core.specs.declared.layer_shape.LayerShape.{LayerShape}
use Rattle.p3_merkle_core.proofs.Shapes.LevelFacts.{low}
use Rattle.p3_merkle_prover.specs.Inner.Levels.{CanBuild}
use Rattle.p3_merkle_prover.proofs.LayerFacts.{layer_first}

-- the layers up to layer l, which has the exponent x and len nodes
pub record IsBuilt {T W : Type 0} (f : Functions T W) (b : Batch T) (l x len : ℕ) (made : List (List (List W))) :
    Type 0 where
  pub at_x : x ≡ layer_exponent (shape b) l
  pub at_raw : len ≡ raw_len (shape b) l
  pub are_layers : made ≡ map (layer f b) (range_with_len 0 (suc l))

-- a level of the batch's tree, and the layer below it
pub record CanRaise {T W : Type 0} (f : Functions T W) (b : Batch T) (v : LayerShape) (below : List (List W))
    : Type 0 where
  pub lawful : IsLawful (heights (shape b))
  pub level : IsLevel (shape b) v
  pub is_below : below ≡ layer f b v.below

-- the leaves are as many as the rows of the tallest matrices
raw_start : (s : Shape) → raw_len s 0 ≡ greatest (heights s)
unfolding raw_len
raw_start s = refl

module _ {T : Type 0} {b : Batch T} {ds : List Dimensions} (w : CanBuild b ds) where
  -- the dimensions give the shape of the batch
  same_shape : shape_of b.arity ds ≡ shape b
  same_shape = ap (shape_of b.arity) w.same

  -- none of the heights is above the limit
  pub tallest_low : greatest (heights_of ds) ≤ height_limit
  tallest_low = subst (λ (z : Shape). greatest (heights z) ≤ height_limit) (sym same_shape) (low (shape b) w.lawful)

-- the digests of the tallest matrices' rows are the leaves
pub leaves_are : {T W M : Type 0} (f : Functions T W) (n : ℕ) (height width : M → ℕ) (row : M → ℕ → List T)
    (ms : List M) {ds : List Dimensions} → CanBuild (batch_of height width row n ms) ds → (top : ℕ) →
    top ≡ greatest (heights_of ds) →
    map (λ j. cond (nat_lt j top) (f.hash (rows_of_height height row top j ms)) f.default_digest)
    (range_with_len 0 (padded_len top n)) ≡ layer f (batch_of height width row n ms) 0
leaves_are f n height width row ms w top t =
    let b = batch_of height width row n ms in
    let is : top ≡ greatest (heights (shape b)) = t ∙ ap (λ (s : Shape). greatest (heights s)) (same_shape w) in
    layer_first f n height width row ms top (padded_len top n) is
    (ap (λ q. padded_len q n) (is ∙ sym (raw_start (shape b)))) w.lawful

-- the leaves alone
pub built_first : {T W : Type 0} {f : Functions T W} {b : Batch T} {ds : List Dimensions} → CanBuild b ds →
    (x top : ℕ) (nodes : List (List W)) → x ≡ layer_exponent (shape_of b.arity ds) 0 → top ≡ greatest (heights_of ds) →
    nodes ≡ layer f b 0 → IsBuilt f b 0 x top (nodes ∷ [])
built_first {b} w x top nodes e t is = record {
  at_x = e ∙ ap (λ (s : Shape). layer_exponent s 0) (same_shape w);
  at_raw = t ∙ ap (λ (s : Shape). greatest (heights s)) (same_shape w) ∙ sym (raw_start (shape b));
  are_layers = ap (λ (z : List (List _)). z ∷ []) is;
}

module _ {T W : Type 0} {f : Functions T W} {b : Batch T} {l x len : ℕ} where
  -- what is built is below the top
  pub below_top : {made : List (List (List W))} {ds : List Dimensions} → CanBuild b ds → IsBuilt f b l x len made →
      l < levels (shape_of b.arity ds) → IsBelowTop (shape_of b.arity ds) l x len
  below_top w k h =
      subst (λ (z : Shape). IsBelowTop z l x len) (sym (same_shape w))
      (record {
        arity = w.arity;
        lawful = w.lawful;
        at_x = k.at_x;
        at_raw = k.at_raw;
        in_tree = subst (λ (z : Shape). l < levels z) (same_shape w) h;
      })

  -- one layer more
  pub built_more : {made : List (List (List W))} → IsBuilt f b l x len made → (below nodes : List (List W))
      (level : LayerShape) → CanRaise f b level below → level.below ≡ l → nodes ≡ layer f b (suc level.below) →
      IsBuilt f b (l + 1) level.exponent level.raw_len (made ++ nodes ∷ [])
  built_more k below nodes level w at e =
      let next : suc level.below ≡ l + 1 = omega (arith, at) in
      let more : suc l + 1 ≡ suc (l + 1) = omega arith in
      let here : suc l ≡ l + 1 = omega arith in
      record {
        at_x = w.level.exponent_is ∙ ap (layer_exponent (shape b)) next;
        at_raw = w.level.raw_is ∙ ap (raw_len (shape b)) next;
        are_layers =
            ap (λ (z : List (List (List W))). z ++ nodes ∷ []) k.are_layers
            ∙ ap (λ (z : List (List W)). map (layer f b) (range_with_len 0 (suc l)) ++ z ∷ [])
            (e ∙ ap (layer f b) (next ∙ sym here))
            ∙ sym (map-range_with_len_more (layer f b) 0 (suc l) (suc l) (omega arith))
            ∙ ap (λ q. map (layer f b) (range_with_len 0 q)) more;
      }

  -- at the top all layers are built
  pub built_all : {made : List (List (List W))} {ds : List Dimensions} → CanBuild b ds → IsBuilt f b l x len made →
      l ≡ levels (shape_of b.arity ds) → made ≡ layers f b
  built_all w k top = k.are_layers
      ∙ ap (λ q. map (layer f b) (range_with_len 0 (suc q))) (top ∙ ap levels (same_shape w))

-- there is one layer more than the number of the last
pub layers_long : {T W A : Type 0} {f : Functions T W} {b : Batch T} {l x len : ℕ} (vs : List (Vec (List W) A)) →
    IsBuilt f b l x len (map (λ nodes. nodes.items) vs) → length vs ≡ suc l
layers_long {f = f} {b = b} {l = l} vs k = sym (length-map vs (λ nodes. nodes.items)) ∙ ap length k.are_layers
    ∙ length-map-range_with_len (layer f b) 0 (suc l)

-- the last of the layers so far, and the level above it
pub can_raise : {T W A : Type 0} {f : Functions T W} {b : Batch T} {ds : List Dimensions} {l x len arity : ℕ}
    (vs : List (Vec (List W) A)) {v : Vec (List W) A} {below : List (List W)} {level : LayerShape} → CanBuild b ds →
    IsBuilt f b l x len (map (λ nodes. nodes.items) vs) → arity ≡ b.arity → IsLevel (shape_of arity ds) level →
    level.below ≡ l → v ≡ get_or vs l v → below ≡ v.items → CanRaise f b level below
can_raise {f = f} {b = b} {ds = ds} {l = l} vs {v = v} {level = level} w k of is at read shown =
    let many = layers_long vs k in
    record {
      lawful = w.lawful;
      level = subst (λ (s : Shape). IsLevel s level) (ap (λ n. shape_of n ds) of ∙ same_shape w) is;
      is_below =
          shown ∙ ap (λ nodes. nodes.items) read
          ∙ sym (get_or-map (λ nodes. nodes.items) vs l v v.items (omega arith))
          ∙ ap (λ (z : List (List (List _))). get_or z l v.items) k.are_layers
          ∙ get_or-map-range_with_len (layer f b) 0 (suc l) l l v.items (omega arith) (omega arith)
          ∙ ap (layer f b) (sym at);
    }

-- which has as many slots as the dimensions give it
pub slots_are : {T W : Type 0} {f : Functions T W} {b : Batch T} {ds : List Dimensions} {arity : ℕ} {level : LayerShape}
    {below : List (List W)} → CanBuild b ds → arity ≡ b.arity → CanRaise f b level below →
    length below ≡ layer_len (shape_of arity ds) level.below
slots_are {f = f} {b = b} {ds = ds} {level = level} w of k =
    ap length k.is_below ∙ length-map-range_with_len (node f b level.below) 0 (layer_len (shape b) level.below)
    ∙ ap (λ (s : Shape). layer_len s level.below) (sym (ap (λ n. shape_of n ds) of ∙ same_shape w))
