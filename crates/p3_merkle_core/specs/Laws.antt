-- What holds of the definitions, whatever the hash, the compression, the batch, the openings and the cap.
use Rattle.std.specs.Prelude.{◌≡◌, ◌≢◌, ◌↔◌, ◌⊎◌, ℕ, suc, ◌+◌, ◌*◌, ◌<◌, ◌≤◌, true, Bool, IsTrue, List, [], ◌∷◌}
use Rattle.std.specs.Prelude.{◌++◌, None, Ok, Err, length, take, slice_index, All, map}
use Rattle.std.specs.List.{count_by, range_with_len}
use Rattle.p3_merkle_core.specs.Geometry.{Shape, heights, levels, layer_exponent, exponent, layer_of, layer_len}
use Rattle.p3_merkle_core.specs.Geometry.{halved_index, step, ancestor, arity_schedule, schedule_below}
use Rattle.p3_merkle_core.specs.Geometry.{layer_below_root, raw_len, is_arity, IsArity, IsLawful}
use Rattle.p3_merkle_core.specs.Caps.{cap_layer}
use Rattle.p3_merkle_core.specs.Nodes.{Functions, Batch, HasFullRows, joined_rows, shape, node, layer, layers}
use Rattle.p3_merkle_core.specs.OneHeight.{HasHeight, cap_layer_of_height, levels_of_height, nodes_of_height}
use Rattle.p3_merkle_core.specs.Openings.{Opening, honest, siblings_by, opening_in_layers}
use Rattle.p3_merkle_core.specs.Checks.{Input, AgreeWhereShared, HasDigests, IsAccepted, IsAtOnePlace, IsLastShared}
use Rattle.p3_merkle_core.specs.Checks.{inputs, is_authenticated, opened_row, path_digest, input_digest, check_digest}
use Rattle.p3_merkle_core.specs.Checks.{last_input, params, Params}
use Rattle.p3_merkle_core.specs.Pruning.{PrunedOpening, CanQuery, IsHonestQuery, IsCapped, IsUncovered, EachAccepted}
use Rattle.p3_merkle_core.specs.Pruning.{Suffices, boundary, honest_query, is_covered, is_in, is_under, opening_at}
use Rattle.p3_merkle_core.specs.Pruning.{restored_node, restored_path, IsGivenUnder, IsLeast, IsRestorable}
use Rattle.p3_merkle_core.specs.Pruning.{IsPrunedAccepted, restored_paths, pruned_in_layers, pruned_len}
use Rattle.p3_merkle_core.specs.Refusals.{IsEquality, answer_under, pruned_answer, pruned_answer_under}
use Rattle.p3_merkle_core.specs.Extraction.{IsExtraction, extraction, RowsAgreeWhereAuthenticated}
use Rattle.p3_merkle_core.specs.Presented.{presented, presented_pruned}
use Rattle.p3_merkle_core.specs.Sizes.{IsFew}
use Rattle.p3_merkle_core.specs.Views.{batch_of}
use Rattle.p3_merkle_core.specs.declared.error.MerkleTreeError.{MerkleTreeError}
use Rattle.p3_merkle_core.specs.declared.error.MerkleTreeError.TheVariants.{CapMismatch}
use Rattle.p3_merkle_core.specs.Gate.{gate_refusal}
use Rattle.p3_merkle_core.specs.declared.cap.CapRule.{CapRule}
use Rattle.p3_merkle_core.specs.declared.cap.CapRule.TheVariants.{Lowered, Fixed}
use Rattle.p3_support.specs.Batches.{dimensions_in, greatest}

-- ---- shapes

-- a number passes the test of arities exactly if it is an arity
abbrev pub TestedIsArity : Type 0
TestedIsArity = (n : ℕ) → IsTrue (is_arity n) ↔ IsArity n

-- the walk from the leaves ends at the exponent 0, after at most as many steps as the tallest height has halvings,
-- and the schedule has one step a level
abbrev pub WalkEnds : Type 0
WalkEnds =
    (s : Shape) → IsArity s.arity →
    (layer_exponent s (levels s) ≡ 0) × (length (arity_schedule s) ≡ levels s) ×
    (levels s ≤ exponent (greatest (heights s)))

-- the steps below the cap are the first of the schedule, and at most as many as the tallest height has halvings
abbrev pub ScheduleStopsAtCap : Type 0
ScheduleStopsAtCap =
    (s : Shape) (rule : CapRule) (cap_height : ℕ) →
    (schedule_below s (cap_layer s rule cap_height) ≡ take (cap_layer s rule cap_height) (arity_schedule s))
    × (length (schedule_below s (cap_layer s rule cap_height)) ≤ exponent (greatest (heights s)))

-- the last layer is one node, and the last step is of the whole arity
abbrev pub RootIsAlone : Type 0
RootIsAlone =
    (s : Shape) → IsArity s.arity → 0 < greatest (heights s) →
    (layer_len s (levels s) ≡ 1) × ((l : ℕ) → levels s ≡ suc l → step s l ≡ s.arity)

-- each matrix has a layer of its exponent
abbrev pub MatricesHaveLayers : Type 0
MatricesHaveLayers =
    (s : Shape) (k : ℕ) → IsArity s.arity → k < length (heights s) →
    layer_exponent s (layer_of s (slice_index (heights s) k)) ≡ exponent (slice_index (heights s) k)

-- the row of a matrix that belongs to an index is below its height, and is the index's ancestor at the matrix's layer
abbrev pub RowsAreAncestors : Type 0
RowsAreAncestors =
    (s : Shape) (k i : ℕ) → IsArity s.arity → IsLawful (heights s) → k < length (heights s) → i < greatest (heights s) →
    let h = slice_index (heights s) k in
    (halved_index (greatest (heights s)) h i < h) ×
    (halved_index (greatest (heights s)) h i ≡ ancestor s (layer_of s h) i)

-- the gate refuses nothing exactly if the heights are lawful
abbrev pub UnrefusedIsLawful : Type 0
UnrefusedIsLawful = (hs : List ℕ) → (gate_refusal hs ≡ None) ↔ IsLawful hs

-- the dimensions in the shape of a batch of matrices are those that the matrices show
abbrev pub BatchHasDimensions : {T M : Type 0} → (M → ℕ) → (M → ℕ) → (M → ℕ → List T) → ℕ → Type 0
BatchHasDimensions {M = M} height width row arity =
    (ms : List M) → (shape (batch_of height width row arity ms)).dimensions ≡ dimensions_in height width ms

-- ---- caps

-- under the rule Lowered each matrix is authenticated
abbrev pub LoweredLeavesNoneOut : Type 0
LoweredLeavesNoneOut =
    (s : Shape) (cap_height k : ℕ) → IsArity s.arity → k < length (heights s) →
    IsTrue (is_authenticated s (cap_layer s Lowered cap_height) k)

-- where the rule Fixed leaves no matrix out, both rules have one cap layer
abbrev pub RulesAgree : Type 0
RulesAgree =
    (s : Shape) (cap_height : ℕ) → IsArity s.arity →
    ((k : ℕ) → k < length (heights s) → IsTrue (is_authenticated s (cap_layer s Fixed cap_height) k)) →
    cap_layer s Lowered cap_height ≡ cap_layer s Fixed cap_height

-- under the rule Fixed the cap is the layer so many levels below the root
abbrev pub FixedIsBelowRoot : Type 0
FixedIsBelowRoot = (s : Shape) (cap_height : ℕ) → cap_layer s Fixed cap_height ≡ layer_below_root s cap_height

-- ---- one height

-- over matrices of one height the height says which steps there are, how many nodes a layer has, and which layer is the
-- cap's by both rules
abbrev pub OneHeightIsEnough : Type 0
OneHeightIsEnough =
    (s : Shape) (h : ℕ) → IsArity s.arity → 0 < h → HasHeight s h →
    (levels s ≡ levels_of_height s.arity h) × ((l : ℕ) → step s l ≡ s.arity) ×
    ((l : ℕ) → l ≤ levels s → raw_len s l ≡ nodes_of_height s.arity h l) ×
    ((rule : CapRule) (cap_height : ℕ) → cap_layer s rule cap_height ≡ cap_layer_of_height s.arity h cap_height)

-- ---- pruned proofs

-- the boundary suffices
abbrev pub BoundarySuffices : Type 0
BoundarySuffices =
    (s : Shape) (queries : List ℕ) (t : ℕ) → CanQuery s queries t → Suffices s queries t (boundary s queries t)

-- a list of uncovered nodes that suffices is no shorter than the boundary
abbrev pub BoundaryIsSmallest : Type 0
BoundaryIsSmallest =
    (s : Shape) (queries : List ℕ) (t : ℕ) (given : List (ℕ × ℕ)) → IsArity s.arity → IsUncovered s queries t given →
    Suffices s queries t given →
    length (boundary s queries t) ≤ length given

-- a list of uncovered nodes that suffices and is as short as the boundary has just its nodes
abbrev pub BoundaryIsAlone : Type 0
BoundaryIsAlone =
    (s : Shape) (queries : List ℕ) (t : ℕ) (given : List (ℕ × ℕ)) → IsArity s.arity → IsUncovered s queries t given →
    Suffices s queries t given →
    length given ≤ length (boundary s queries t) → (l j : ℕ) → is_in given l j ≡ is_in (boundary s queries t) l j

-- the boundary is least: it suffices, and each other list of uncovered nodes that suffices is longer
abbrev pub BoundaryIsLeast : Type 0
BoundaryIsLeast =
    (s : Shape) (queries : List ℕ) (t : ℕ) → CanQuery s queries t → IsLeast s queries t (pruned_len s queries t)

-- the boundary has at most as many nodes as the openings of the distinct indices have siblings, and just as many for
-- one index
abbrev pub BoundaryIsFew : Type 0
BoundaryIsFew =
    (s : Shape) (queries : List ℕ) (t : ℕ) → CanQuery s queries t → IsFew s queries t (pruned_len s queries t)

-- no node is under two boundary nodes
abbrev pub BoundaryNodesAreApart : Type 0
BoundaryNodesAreApart =
    (s : Shape) (queries : List ℕ) (t : ℕ) (x : ℕ × ℕ) →
    count_by (λ (l, j). is_under s l j x) (boundary s queries t) ≤ 1

-- a list of uncovered nodes that suffices has each boundary node, or two different nodes under it
abbrev pub BoundaryNodesAreHeld : Type 0
BoundaryNodesAreHeld =
    (s : Shape) (queries : List ℕ) (t : ℕ) (given : List (ℕ × ℕ)) → IsArity s.arity → IsUncovered s queries t given →
    Suffices s queries t given →
    (l j : ℕ) → is_in (boundary s queries t) l j ≡ true →
    (is_in given l j ≡ true) ⊎ ((x : ℕ × ℕ) × (y : ℕ × ℕ) × IsGivenUnder s given l j x × IsGivenUnder s given l j y ×
    (x ≢ y))

module _ (T W : Type 0) where
  -- ---- one height

  -- a leaf is the hash of its rows, and a node the compression of its children, as many as the arity
  abbrev pub OneHeightNodesAreChildren : Type 0
  OneHeightNodesAreChildren =
      (f : Functions T W) (b : Batch T) (h : ℕ) → IsArity b.arity → 0 < h → HasHeight (shape b) h →
      ((j : ℕ) → j < h → node f b 0 j ≡ f.hash (joined_rows b.matrices j)) ×
      ((l j : ℕ) → l < levels (shape b) → j < nodes_of_height b.arity h (suc l) →
      node f b (suc l) j
      ≡ f.compression (map (λ i. node f b l (b.arity * j + i)) (range_with_len 0 b.arity)))

  -- ---- honest openings

  -- the honest opening of each index of a lawful batch is accepted under each cap layer
  abbrev pub HonestIsAccepted : Type 0
  HonestIsAccepted =
      (f : Functions T W) (b : Batch T) (t i : ℕ) → IsArity b.arity → IsLawful (heights (shape b)) →
      i < greatest (heights (shape b)) → t ≤ levels (shape b) → HasFullRows b →
      IsAccepted (params f (shape b) t) (layer f b t) (honest f b t i)

  -- the honest pruned opening of each list of indices is answered Ok
  abbrev pub HonestQueryIsAccepted : Type 0
  HonestQueryIsAccepted =
      (row_eq : T → T → Bool) (digest_eq : W → W → Bool) (f : Functions T W) (b : Batch T) (t : ℕ)
      (indices : List ℕ) → IsEquality row_eq → IsEquality digest_eq → IsHonestQuery b t indices → HasFullRows b →
      pruned_answer_under row_eq digest_eq (params f (shape b) t) (layer f b t) (honest_query f b t indices) ≡ Ok tt

  -- an honest pruned opening restores each covered node
  abbrev pub HonestNodesAreRestored : Type 0
  HonestNodesAreRestored =
      (f : Functions T W) (b : Batch T) (t : ℕ) (indices : List ℕ) → IsHonestQuery b t indices → (l j : ℕ) → l ≤ t →
      is_covered (shape b) indices l j ≡ true →
      restored_node (params f (shape b) t) (honest_query f b t indices) l j ≡ node f b l j

  -- an honest pruned opening restores the honest siblings of each query
  abbrev pub HonestPathsAreRestored : Type 0
  HonestPathsAreRestored =
      (f : Functions T W) (b : Batch T) (t : ℕ) (indices : List ℕ) → IsHonestQuery b t indices → (k : ℕ) →
      k < length indices →
      restored_path (params f (shape b) t) (honest_query f b t indices) (slice_index indices k) ≡ siblings_by
      (node f b) (shape b) t (slice_index indices k)

  -- so the restored paths of all queries, in order, have the honest siblings
  abbrev pub HonestPathsInOrder : Type 0
  HonestPathsInOrder =
      (f : Functions T W) (b : Batch T) (t : ℕ) (indices : List ℕ) → IsHonestQuery b t indices →
      restored_paths (params f (shape b) t) (honest_query f b t indices) ≡ map
      (λ i. (i, siblings_by (node f b) (shape b) t i)) indices

  -- the opening of an index whose siblings are read out of the layers of a batch's tree is the honest one
  abbrev pub OwnOpeningIsHonest : Type 0
  OwnOpeningIsHonest =
      (f : Functions T W) (b : Batch T) (t i : ℕ) → IsArity b.arity → IsLawful (heights (shape b)) →
      i < greatest (heights (shape b)) → t ≤ levels (shape b) →
      opening_in_layers b (layers f b) t i ≡ honest f b t i

  -- so is the pruned opening of some indices
  abbrev pub OwnPrunedOpeningIsHonest : Type 0
  OwnPrunedOpeningIsHonest =
      (f : Functions T W) (b : Batch T) (t : ℕ) (indices : List ℕ) → IsHonestQuery b t indices →
      pruned_in_layers b (layers f b) t indices ≡ honest_query f b t indices

  -- under an honest pruned opening the cap has each covered node of its layer
  abbrev pub HonestQueryIsCapped : Type 0
  HonestQueryIsCapped =
      (f : Functions T W) (b : Batch T) (t : ℕ) (indices : List ℕ) → IsHonestQuery b t indices →
      IsCapped (params f (shape b) t) (layer f b t) (honest_query f b t indices)

  -- ---- what is answered Ok

  -- an opening is answered Ok exactly if it is accepted
  abbrev pub OkIsAccepted : Type 0
  OkIsAccepted =
      (digest_eq : W → W → Bool) (c : Params T W) (cap : List (List W)) (o : Opening T W) → IsEquality digest_eq →
      (answer_under digest_eq c cap o ≡ Ok tt) ↔ IsAccepted c cap o

  -- a pruned opening is answered Ok, whatever the cap, exactly if it is restorable
  abbrev pub OkIsRestorable : Type 0
  OkIsRestorable =
      (row_eq : T → T → Bool) (s : Shape) (t : ℕ) (p : PrunedOpening T W) → IsEquality row_eq →
      (pruned_answer row_eq s t p ≡ Ok tt) ↔ IsRestorable s t p

  -- a pruned opening is answered Ok under a cap exactly if it is restorable and each query is accepted with its
  -- restored path
  abbrev pub OkIsEachAccepted : Type 0
  OkIsEachAccepted =
      (row_eq : T → T → Bool) (digest_eq : W → W → Bool) (c : Params T W) (cap : List (List W))
      (p : PrunedOpening T W) → IsEquality row_eq → IsEquality digest_eq → IsArity c.shape.arity →
      (pruned_answer_under row_eq digest_eq c cap p ≡ Ok tt) ↔ IsPrunedAccepted c cap p

  -- a pruned opening is answered Ok under a cap exactly if it is restorable and the cap has each covered node of its
  -- layer
  abbrev pub OkIsCapped : Type 0
  OkIsCapped =
      (row_eq : T → T → Bool) (digest_eq : W → W → Bool) (c : Params T W) (cap : List (List W))
      (p : PrunedOpening T W) → IsEquality row_eq → IsEquality digest_eq →
      (pruned_answer_under row_eq digest_eq c cap p ≡ Ok tt) ↔ (IsRestorable c.shape c.layer p × IsCapped c cap p)

  -- ---- pruned openings and their restored paths

  -- a restorable opening fits the cap exactly if each query is accepted with its restored path
  abbrev pub CappedIsEachAccepted : Type 0
  CappedIsEachAccepted =
      (c : Params T W) (cap : List (List W)) (p : PrunedOpening T W) → IsArity c.shape.arity →
      IsRestorable c.shape c.layer p →
      IsCapped c cap p ↔ EachAccepted c cap p

  -- a pruned opening that is refused whatever the cap is refused alike under each cap
  abbrev pub RefusedUnderEachCap : Type 0
  RefusedUnderEachCap =
      (row_eq : T → T → Bool) (digest_eq : W → W → Bool) (c : Params T W) (cap : List (List W)) (p : PrunedOpening T W)
      (e : MerkleTreeError) →
      pruned_answer row_eq c.shape c.layer p ≡ Err e → pruned_answer_under row_eq digest_eq c cap p ≡ Err e

  -- what is not refused whatever the cap is answered Ok under a cap exactly if each query with its restored path is
  abbrev pub AnsweredAsEachPath : Type 0
  AnsweredAsEachPath =
      (row_eq : T → T → Bool) (digest_eq : W → W → Bool) (c : Params T W) (cap : List (List W))
      (p : PrunedOpening T W) → IsEquality row_eq → IsEquality digest_eq → IsArity c.shape.arity →
      pruned_answer row_eq c.shape c.layer p ≡ Ok tt →
      (pruned_answer_under row_eq digest_eq c cap p ≡ Ok tt) ↔ ((k : ℕ) → k < length p.indices →
      answer_under digest_eq c cap (opening_at c p k) ≡ Ok tt)

  -- what is not refused whatever the cap is answered Ok under a cap, or CapMismatch
  abbrev pub OkOrCapMismatch : Type 0
  OkOrCapMismatch =
      (row_eq : T → T → Bool) (digest_eq : W → W → Bool) (c : Params T W) (cap : List (List W))
      (p : PrunedOpening T W) → pruned_answer row_eq c.shape c.layer p ≡ Ok tt →
      (pruned_answer_under row_eq digest_eq c cap p ≡ Ok tt) ⊎
      (pruned_answer_under row_eq digest_eq c cap p ≡ Err CapMismatch)

  -- ---- two openings under one cap

  -- the last inputs that two accepted openings share and that differ stand at one place and have one digest
  abbrev pub LastDifferenceCollides : Type 0
  LastDifferenceCollides =
      (c : Params T W) (cap : List (List W)) (o u : Opening T W) → IsArity c.shape.arity → IsAccepted c cap o →
      IsAccepted c cap u →
      (x y : Input T W) → IsLastShared c o u x y →
      IsAtOnePlace x y × (x ≢ y) × (input_digest c.functions x ≡ input_digest c.functions y)

  -- where two accepted openings agree wherever they share a place, they have the same words for each row of an
  -- authenticated matrix
  abbrev pub RowsAreBound : Type 0
  RowsAreBound =
      (c : Params T W) (cap : List (List W)) (o u : Opening T W) → IsArity c.shape.arity → IsAccepted c cap o →
      IsAccepted c cap u →
      AgreeWhereShared c o u →
      (k : ℕ) → k < length (heights c.shape) → IsTrue (is_authenticated c.shape c.layer k) →
      let h = slice_index (heights c.shape) k in
      halved_index (greatest (heights c.shape)) h o.index ≡ halved_index (greatest (heights c.shape)) h u.index →
      opened_row o k ≡ opened_row u k

  -- two accepted openings of one index agree wherever they share a place exactly if their siblings do, and their rows
  -- of each authenticated matrix
  abbrev pub OneIndexIsBound : Type 0
  OneIndexIsBound =
      (c : Params T W) (cap : List (List W)) (o u : Opening T W) → IsArity c.shape.arity → IsAccepted c cap o →
      IsAccepted c cap u → o.index ≡ u.index →
      AgreeWhereShared c o u ↔ RowsAgreeWhereAuthenticated c o u

  -- each input of an accepted opening that consists of digests has as many of them as the arity
  abbrev pub InputsAreFull : Type 0
  InputsAreFull =
      (c : Params T W) (cap : List (List W)) (o : Opening T W) → IsArity c.shape.arity → IsAccepted c cap o →
      All (HasDigests c.shape.arity) (inputs c o)

  -- the walk up the path reaches, at the cap's layer, the digest of the check's last input, and no input is after it
  abbrev pub LastInputIsReached : Type 0
  LastInputIsReached =
      (c : Params T W) (o : Opening T W) →
      (path_digest c.functions c.shape o c.layer ≡ check_digest c o) ×
      ((before : List (Input T W)) × (inputs c o ≡ before ++ last_input c o ∷ []))

  -- the definition's answer to two openings of one cap is what an extraction has to be: the refusals in order,
  -- nothing where all checks agree, and else the first collision
  abbrev pub AnswerIsExtraction : Type 0
  AnswerIsExtraction =
      (row_eq : T → T → Bool) (digest_eq : W → W → Bool) (f : Functions T W) (s : Shape) (rule : CapRule)
      (cap_height : ℕ) (cap : List (List W)) (o u : Opening T W) → IsEquality row_eq → IsEquality digest_eq →
      IsArity s.arity →
      let c = params f s (cap_layer s rule cap_height) in
      let first = presented digest_eq c cap o in
      let second = presented digest_eq c cap u in
      IsExtraction row_eq digest_eq rule c first second (extraction row_eq digest_eq c first second)

  -- the same of two pruned openings
  abbrev pub PrunedAnswerIsExtraction : Type 0
  PrunedAnswerIsExtraction =
      (row_eq : T → T → Bool) (digest_eq : W → W → Bool) (f : Functions T W) (s : Shape) (rule : CapRule)
      (cap_height : ℕ) (cap : List (List W)) (p r : PrunedOpening T W) → IsEquality row_eq →
      IsEquality digest_eq → IsArity s.arity →
      let c = params f s (cap_layer s rule cap_height) in
      let first = presented_pruned row_eq digest_eq c cap p in
      let second = presented_pruned row_eq digest_eq c cap r in
      IsExtraction row_eq digest_eq rule c first second (extraction row_eq digest_eq c first second)
