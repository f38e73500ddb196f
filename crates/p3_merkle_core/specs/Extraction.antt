-- What two openings of one cap lead to: the last difference of two of their checks, which is a collision.
use Rattle.std.specs.Prelude.{◌≡◌, ◌≢◌, ◌⊎◌, ◌↔◌, ◌<◌, ℕ, ◌==◌, ◌&&◌, Bool, true, false, IsTrue, IsNone, IsSome, IfOk}
use Rattle.std.specs.Prelude.{IsOk}
use Rattle.std.specs.Prelude.{IfSome, List, [], ◌∷◌, Option, None, Result, length, slice_index, slice_index_or}
use Rattle.std.specs.Prelude.{option_map}
use Rattle.std.specs.List.{range_with_len}
use Rattle.std.specs.Option.{option_or}
use Rattle.std.specs.Cmp.Lexicographic.{pointwise}
use Rattle.p3_merkle_core.specs.Geometry.{Shape, heights, halved_index}
use Rattle.p3_merkle_core.specs.Openings.{Opening}
use Rattle.p3_merkle_core.specs.Checks.{AgreeWhereShared, Content, Digests, HasDigests, Input, IsAtOnePlace}
use Rattle.p3_merkle_core.specs.Checks.{IsLastShared, Params, Words, input_digest, is_authenticated, opened_row}
use Rattle.p3_merkle_core.specs.Checks.{shared_inputs}
use Rattle.p3_merkle_core.specs.Presented.{Presented}
use Rattle.p3_merkle_core.specs.Pruning.{PrunedOpening}
use Rattle.p3_merkle_core.specs.Refusals.{AnswersUnlessMemory, Refuses}
use Rattle.p3_answers.specs.Answers.{first_of, ok_unless, unless}
use Rattle.p3_merkle_core.specs.declared.cap.CapRule.{CapRule}
use Rattle.p3_merkle_core.specs.declared.cap.CapRule.TheVariants.{Lowered}
use Rattle.p3_merkle_core.specs.declared.collision.Place.{Place}
use Rattle.p3_merkle_core.specs.declared.collision.Place.TheVariants.{Leaf, Group, Rows, Pair}
use Rattle.p3_merkle_core.specs.declared.error.MerkleTreeError.{MerkleTreeError}
use Rattle.p3_support.specs.Batches.{greatest}

-- ---- the last difference of two checks

-- whether two places are one
abbrev pub place_eq : Place → Place → Bool
place_eq Leaf Leaf = true
place_eq (Group l) (Group m) = l == m
place_eq (Rows l) (Rows m) = l == m
place_eq (Pair l) (Pair m) = l == m
place_eq p q = false

-- whether two contents are one, by tests on words
abbrev pub content_eq : {T W : Type 0} → (T → T → Bool) → (W → W → Bool) → Content T W → Content T W → Bool
content_eq row_eq digest_eq (Words x) (Words y) = pointwise row_eq x y
content_eq row_eq digest_eq (Digests x) (Digests y) = pointwise (pointwise digest_eq) x y
content_eq row_eq digest_eq x y = false

-- whether two inputs are one: their places and their contents
abbrev pub input_eq : {T W : Type 0} → (T → T → Bool) → (W → W → Bool) → Input T W → Input T W → Bool
input_eq row_eq digest_eq x y = place_eq x.place y.place && content_eq row_eq digest_eq x.content y.content

-- both elements at the last place at which two lists differ
abbrev pub last_difference : {X : Type 0} → (X → X → Bool) → List X → List X → Option (X × X)
last_difference test [] ys = None
last_difference test (x ∷ xs) [] = None
last_difference test (x ∷ xs) (y ∷ ys) = option_or (last_difference test xs ys) (unless (test x y) (x, y))

-- the last inputs that the checks of o and u share and that differ
abbrev pub difference_of : {T W : Type 0} → (T → T → Bool) → (W → W → Bool) → Params T W → Opening T W → Opening T W →
    Option (Input T W × Input T W)
difference_of row_eq digest_eq c o u =
    let shared = shared_inputs c o.index u.index in last_difference (input_eq row_eq digest_eq) (shared o) (shared u)

-- a collision of two openings: the last inputs that their checks share and that differ; they stand at one place, have
-- as many digests as the arity if they consist of digests, and have one digest
pub record IsCollision {T W : Type 0} (c : Params T W) (o u : Opening T W)
    (found : Input T W × Input T W) : Type 0 where
  pub last : IsLastShared c o u found.0 found.1
  pub at_one_place : IsAtOnePlace found.0 found.1
  pub different : found.0 ≢ found.1
  pub first_full : HasDigests c.shape.arity found.0
  pub second_full : HasDigests c.shape.arity found.1
  pub one_digest : input_digest c.functions found.0 ≡ input_digest c.functions found.1

-- ---- rows in which two openings conflict

-- the row that query a of a pruned opening has for matrix k
abbrev pub row_at : {T W : Type 0} → PrunedOpening T W → ℕ → ℕ → List T
row_at p a k = slice_index_or (slice_index_or p.rows a []) k []

-- two openings have the same siblings, and the same row of each authenticated matrix
pub record RowsAgreeWhereAuthenticated {T W : Type 0} (c : Params T W) (o u : Opening T W) : Type 0 where
  pub siblings : o.siblings ≡ u.siblings
  pub rows : (k : ℕ) → k < length (heights c.shape) → IsTrue (is_authenticated c.shape c.layer k) →
      opened_row o k ≡ opened_row u k

-- two openings conflict in matrix k: they have different words for one row of it
pub record RowsConflictAt {T W : Type 0} (s : Shape) (o u : Opening T W) (k : ℕ) : Type 0 where
  pub exists : k < length (heights s)
  pub one_row : halved_index (greatest (heights s)) (slice_index (heights s) k) o.index ≡
      halved_index (greatest (heights s)) (slice_index (heights s) k) u.index
  pub two_ways : opened_row o k ≢ opened_row u k

-- two openings conflict in an authenticated matrix
abbrev pub RowsConflictWhereAuthenticated : {T W : Type 0} → Params T W → Opening T W → Opening T W → Type 0
RowsConflictWhereAuthenticated c o u =
    (k : ℕ) × IsTrue (is_authenticated c.shape c.layer k) × RowsConflictAt c.shape o u k

-- two openings conflict in some matrix
abbrev pub RowsConflictSomewhere : {T W : Type 0} → Params T W → Opening T W → Opening T W → Type 0
RowsConflictSomewhere c o u = (k : ℕ) × RowsConflictAt c.shape o u k

-- two pruned openings have the same digests, and in each row set the same row of each authenticated matrix
pub record ProofsAgreeWhereAuthenticated {T W : Type 0} (c : Params T W) (p q : PrunedOpening T W) : Type 0 where
  pub digests : p.digests ≡ q.digests
  pub rows : (a k : ℕ) → a < length p.indices → k < length (heights c.shape) →
      IsTrue (is_authenticated c.shape c.layer k) → row_at p a k ≡ row_at q a k

-- ---- pairs of queries

-- each query of the one and each of the other
abbrev pub EachPair : {T W : Type 0} → Presented T W → Presented T W → (Opening T W → Opening T W → Type 0) → Type 0
EachPair first second Holds =
    (a b : ℕ) → a < first.queries → b < second.queries → Holds (first.query a) (second.query b)

-- some query of the one and some of the other
abbrev pub SomePair : {T W : Type 0} → Presented T W → Presented T W → (Opening T W → Opening T W → Type 0) → Type 0
SomePair first second Holds =
    (a : ℕ) × (b : ℕ) × (a < first.queries) × (b < second.queries) × Holds (first.query a) (second.query b)

-- each pair of queries before the pair (a, b), by the first list, then by the second
abbrev pub EachPairBefore : {T W : Type 0} → Presented T W → Presented T W → ℕ → ℕ →
    (Opening T W → Opening T W → Type 0) → Type 0
EachPairBefore first second a b Holds =
    (i j : ℕ) → (i < a) ⊎ ((i ≡ a) × (j < b)) → j < second.queries → Holds (first.query i) (second.query j)

-- two queries collide, and each pair of queries before them agrees wherever their checks share a place
pub record IsFirstCollision {T W : Type 0} (c : Params T W) (first second : Presented T W)
    (found : ℕ × ℕ × (Input T W × Input T W)) : Type 0 where
  pub first_query : found.0 < first.queries
  pub second_query : found.1 < second.queries
  pub collision : IsCollision c (first.query found.0) (second.query found.1) found.2
  pub agree_before : EachPairBefore first second found.0 found.1 (AgreeWhereShared c)

-- ---- the result

-- the first pair of positions for which d gives a value, in the order of the first, then of the second
abbrev pub first_pair : {X : Type 0} → (ℕ → ℕ → Option X) → ℕ → ℕ → Option (ℕ × ℕ × X)
first_pair d n m =
    first_of (λ a. first_of (λ b. option_map (λ x. (a, b, x)) (d a b)) (range_with_len 0 m)) (range_with_len 0 n)

-- the first two queries whose checks differ, with their last difference
abbrev pub first_difference : {T W : Type 0} → (T → T → Bool) → (W → W → Bool) → Params T W → Presented T W →
    Presented T W → Option (ℕ × ℕ × (Input T W × Input T W))
first_difference row_eq digest_eq c first second =
    first_pair (λ a b. difference_of row_eq digest_eq c (first.query a) (second.query b)) first.queries second.queries

-- the result of an extraction from two openings under one cap: the refusal of the first, else of the second, else the
-- first difference
abbrev pub extraction : {T W : Type 0} → (T → T → Bool) → (W → W → Bool) → Params T W → Presented T W →
    Presented T W → Result (Option (ℕ × ℕ × (Input T W × Input T W))) MerkleTreeError
extraction row_eq digest_eq c first second =
    ok_unless (option_or first.refusal second.refusal) (first_difference row_eq digest_eq c first second)

-- what a call returns that extracts a collision from two openings under a cap of a rule
pub record IsExtraction {T W : Type 0} (row_eq : T → T → Bool) (digest_eq : W → W → Bool) (rule : CapRule)
    (c : Params T W) (first second : Presented T W)
    (result : Result (Option (ℕ × ℕ × (Input T W × Input T W))) MerkleTreeError) : Type 0 where
  -- for two accepted openings the result is Ok, unless memory runs out
  pub answered : first.is_accepted → second.is_accepted → AnswersUnlessMemory result None
  -- Ok means that both openings are accepted
  pub both_accepted : IfOk result (λ found. first.is_accepted × second.is_accepted)
  -- two different inputs with one digest are found, of the first two queries whose checks differ
  pub collision : IfOk result (λ found. IfSome found (IsFirstCollision c first second))
  -- nothing is found exactly where all checks agree
  pub none : IfOk result (λ found. IsNone found ↔ EachPair first second (AgreeWhereShared c))
  -- openings that conflict in an authenticated matrix give a collision
  pub two_ways : SomePair first second (RowsConflictWhereAuthenticated c) → IfOk result (λ found. IsSome found)
  -- of openings of one index nothing is found exactly where siblings and authenticated rows agree
  pub one_index : EachPair first second (λ o u. o.index ≡ u.index) →
      IfOk result (λ found. IsNone found ↔ EachPair first second (RowsAgreeWhereAuthenticated c))
  -- under the lowered rule, openings that conflict in any matrix give a collision
  pub lowered_two_ways : rule ≡ Lowered → SomePair first second (RowsConflictSomewhere c) →
      IfOk result (λ found. IsSome found)
  -- under the lowered rule, of openings of one index nothing is found exactly where they are the same
  pub lowered_one_index : rule ≡ Lowered → EachPair first second (λ o u. o.index ≡ u.index) →
      IfOk result (λ found. IsNone found ↔ EachPair first second (λ o u. o ≡ u))
  -- an opening that is not accepted is refused: the first one's refusal comes before the second's
  pub answer : AnswersUnlessMemory result (option_or first.refusal second.refusal)
  -- what is found is the first difference, by tests on words
  pub found : IfOk result (λ found. found ≡ first_difference row_eq digest_eq c first second)

-- what such a call also returns for two openings of one index each, whose checks take no memory: what is refused is
-- refused whatever memory there is, and so is the answer Ok for two accepted openings that agree where their checks
-- share a place; so memory runs out only for accepted ones that differ there
pub record IsExactExtraction {T W Found : Type 0} (c : Params T W) (first second : Presented T W)
    (result : Result (Option Found) MerkleTreeError) : Type 0 where
  pub checked : Refuses result (option_or first.refusal second.refusal)
  pub agreed : first.is_accepted → second.is_accepted → EachPair first second (AgreeWhereShared c) → IsOk result

-- what such a call also says of two pruned openings, one of which is thus the only one: of one list of indices, nothing
-- is found exactly where their digests and authenticated rows agree
pub record IsOnlyOpening {T W Found : Type 0} (rule : CapRule) (c : Params T W) (p q : PrunedOpening T W)
    (result : Result (Option Found) MerkleTreeError) : Type 0 where
  pub one_list : p.indices ≡ q.indices → IfOk result (λ found. IsNone found ↔ ProofsAgreeWhereAuthenticated c p q)
  -- under the lowered rule, exactly where they are the same
  pub lowered_one_list : rule ≡ Lowered → p.indices ≡ q.indices → IfOk result (λ found. IsNone found ↔ (p ≡ q))
