-- How far the checks of openings have come.
use Rattle.std.specs.Prelude.{◌≡◌, ◌+◌, ◌-◌, ◌/◌, ◌<◌, ◌≤◌, ◌==◌, ℕ, suc, List, [], ◌∷◌, Bool, Option, None}
use Rattle.std.specs.Prelude.{if◌then◌else◌, drop, length, nat_lt, replicate, take}
use Rattle.std.specs.declared.default.Default as default
use Rattle.std.specs.declared.cmp.PartialEq as equality
use Rattle.p3_support.specs.declared.compress.PseudoCompressionFunction as compressor
use Rattle.p3_support.specs.declared.hasher.CryptographicHasher as hasher
use Rattle.p3_support.specs.declared.packed.PackedValue as packed
use Rattle.p3_merkle_core.specs.Extraction.{last_difference}
use Rattle.p3_merkle_core.specs.Geometry.{Shape, ancestor, heights, layer_exponent, shape_of}
use Rattle.p3_merkle_core.specs.Nodes.{Functions}
use Rattle.p3_merkle_core.specs.Openings.{Opening, opening_of}
use Rattle.p3_merkle_core.specs.Checks.{Input, Params, inputs_at, params, path_digest, layer_words, siblings_below}
use Rattle.p3_merkle_core.specs.Checks.{leaf_input}
use Rattle.p3_merkle_core.specs.declared.collision.InputPair.{InputPair}
use Rattle.p3_merkle_core.specs.Gate.{gate_refusal}
use Rattle.p3_merkle_core.specs.Refusals.{row_width_refusal, sibling_count_refusal, size_refusal}
use Rattle.p3_merkle_core.specs.declared.error.MerkleTreeError.{MerkleTreeError}
use Rattle.p3_merkle_core.specs.declared.error.MerkleTreeError.TheVariants.{IndexOutOfBounds}
use Rattle.p3_answers.specs.Answers.{first_some, unless}
use Rattle.p3_support.specs.Batches.{greatest, widened, widths_of}
use Rattle.p3_support.specs.Rows.{rows_in}
use Rattle.p3_merkle_verifier.specs.declared.openings.OpeningRef.{OpeningRef}
use Rattle.p3_merkle_verifier.specs.declared.path.PathLevel.{PathLevel}
use Rattle.p3_merkle_verifier.specs.declared.checker.Checker.{Checker}
use Rattle.p3_merkle_verifier.specs.declared.path.PathState.{PathState}
use Rattle.p3_merkle_verifier.specs.Inner.Collisions.{level_inputs, Shows}

module _ {P PW H C G V W : Type 0} {N D : ℕ} {p : packed.Ghosts P V} {pd : default.Ghosts V} {pe : equality.Ghosts V}
    {q : packed.Ghosts PW W} {qd : default.Ghosts W} {qe : equality.Ghosts W} {h : hasher.Ghosts H P PW D V W}
    {c : compressor.Ghosts C PW N D W} where
  -- what a checker's hasher and compression compute, and the digest of default words
  abbrev pub functions_of : Checker P PW H C G N D V W p pd pe q qd qe h c → Functions V W
  functions_of checker =
      record {
        hash = h.hash checker.hash.now;
        compression = c.compression checker.compress.now;
        default_digest = replicate D q.default_value;
      }

  -- the shape of a checker's tree
  abbrev pub shape_in : Checker P PW H C G N D V W p pd pe q qd qe h c → Shape
  shape_in checker = shape_of checker.schedule.arity checker.schedule.dimensions.now

  -- what a checker checks openings against
  abbrev pub params_in : Checker P PW H C G N D V W p pd pe q qd qe h c → Params V W
  params_in checker = params (functions_of checker) (shape_in checker) checker.cap_layer

  -- the same of rows with e salts each, which count as columns
  abbrev pub salted_params_in : ℕ → Checker P PW H C G N D V W p pd pe q qd qe h c → Params V W
  salted_params_in e checker =
      params (functions_of checker) (shape_of checker.schedule.arity (widened e checker.schedule.dimensions.now))
      checker.cap_layer

-- a borrowed opening with its index
abbrev pub opening_in : {T W : Type 0} → OpeningRef T (List W) → Opening T W
opening_in opening = opening_of opening.index (rows_in opening.rows) opening.siblings.now

-- why an opening is refused before it is hashed, where each row has e salts after the words of its matrix
abbrev pub salted_form_refusal : {T : Type 0} → ℕ → Shape → ℕ → ℕ → List (List T) → ℕ → Option MerkleTreeError
salted_form_refusal e s t index rows siblings =
    first_some (
    size_refusal (length s.dimensions) (length rows)
    ∷ gate_refusal (heights s)
    ∷ sibling_count_refusal (siblings_below s t) siblings
    ∷ row_width_refusal (widths_of (widened e s.dimensions)) rows
    ∷ unless (nat_lt index (greatest (heights s))) (IndexOutOfBounds (greatest (heights s)) index)
    ∷ [])

-- enough siblings are left for a step
pub record CanStep (arity step used count : ℕ) : Type 0 where
  pub wide : 2 ≤ step
  pub narrow : step ≤ arity
  pub enough : used + (step - 1) ≤ count

-- the siblings of a step, after those that are used
abbrev pub step_siblings : {X : Type 0} → ℕ → List X → ℕ → List X
step_siblings step siblings used = take (step - 1) (drop used siblings)

-- one step higher, at a layer of this exponent, with this digest
pub record IsAbove {X : Type 0} (step exponent : ℕ) (digest : X) (state above : PathState X) : Type 0 where
  pub at_exponent : above.exponent ≡ exponent
  pub at_node : above.node ≡ state.node / step
  pub taken : above.used ≡ state.used + (step - 1)
  pub reached : above.digest ≡ digest

-- how far the check of an opening is at layer l: at the node above the leaf, with the digest that the path reaches
pub record IsPathState {T W : Type 0} (f : Functions T W) (s : Shape) (o : Opening T W) (l : ℕ)
    (state : PathState (List W)) : Type 0 where
  pub at_exponent : state.exponent ≡ layer_exponent s l
  pub at_node : state.node ≡ ancestor s l o.index
  pub taken : state.used ≡ siblings_below s l
  pub reached : state.digest ≡ path_digest f s o l

-- level l of the check of an opening: it has the level's inputs, and reaches the next layer
pub record IsLevelOfCheck {T W : Type 0} (f : Functions T W) (s : Shape) (o : Opening T W) (l : ℕ)
    (level : PathLevel (List W) (List (List W))) : Type 0 where
  pub at_level : level.level ≡ l
  pub inputs_are : level_inputs l (layer_words s o.rows (suc l)) level ≡ inputs_at f s o l
  pub state : IsPathState f s o (suc l) level.above

-- the inputs of the leaf, if the checks of o and u share it and they differ
abbrev pub leaf_difference : {T W : Type 0} → (Input T W → Input T W → Bool) → Shape → Opening T W → Opening T W →
    Option (Input T W × Input T W)
leaf_difference test s o u =
    if o.index == u.index then last_difference test (leaf_input s o ∷ []) (leaf_input s u ∷ []) else None

-- the last inputs of level l that differ, if the checks of o and u share the level
abbrev pub level_difference : {T W : Type 0} → (Input T W → Input T W → Bool) → Functions T W → Shape → ℕ →
    Opening T W → Opening T W → Option (Input T W × Input T W)
level_difference test f s l o u =
    if ancestor s (suc l) o.index == ancestor s (suc l) u.index then last_difference test (inputs_at f s o l)
    (inputs_at f s u l) else None

-- what is found of two levels, where these are the words of the matrices above them, shows their last difference
abbrev pub ShowsLevel : {T W : Type 0} → (Input T W → Input T W → Bool) → List T → List T →
    PathLevel (List W) (List (List W)) → PathLevel (List W) (List (List W)) → Option (InputPair T (List W)) →
    Type 0
ShowsLevel {T} {W} test a b first second found =
    (f : Functions T W) (s : Shape) (l : ℕ) (o u : Opening T W) → IsLevelOfCheck f s o l first →
    IsLevelOfCheck f s u l second → a ≡ layer_words s o.rows (suc l) → b ≡ layer_words s u.rows (suc l) →
    Shows found (level_difference test f s l o u)

-- the checks of o and u agree below level l: they have the same words at a leaf that both share, and the same inputs at
-- each level that both share
pub record AgreeBelow {T W : Type 0} (f : Functions T W) (s : Shape) (o u : Opening T W) (l : ℕ) : Type 0 where
  pub leaf : o.index ≡ u.index → layer_words s o.rows 0 ≡ layer_words s u.rows 0
  pub levels : (k : ℕ) → k < l → ancestor s (suc k) o.index ≡ ancestor s (suc k) u.index →
      inputs_at f s o k ≡ inputs_at f s u k

-- two levels, where these are the words of the matrices above them, have the same inputs if their checks share them
abbrev pub AgreeOnLevel : {T W : Type 0} → List T → List T → PathLevel (List W) (List (List W)) →
    PathLevel (List W) (List (List W)) → Type 0
AgreeOnLevel {T} {W} a b first second =
    (f : Functions T W) (s : Shape) (l : ℕ) (o u : Opening T W) → IsLevelOfCheck f s o l first →
    IsLevelOfCheck f s u l second → a ≡ layer_words s o.rows (suc l) → b ≡ layer_words s u.rows (suc l) →
    ancestor s (suc l) o.index ≡ ancestor s (suc l) u.index → inputs_at f s o l ≡ inputs_at f s u l
