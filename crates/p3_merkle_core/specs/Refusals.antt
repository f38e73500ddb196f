-- Why an opening is refused: the first reason that applies.
use Rattle.std.specs.Prelude.{◌≡◌, ℕ, suc, false, slice_get, ◌==◌, ◌&&◌, nat_lt, Bool, if◌then◌else◌, List, [], ◌∷◌}
use Rattle.std.specs.Prelude.{◌-◌, ◌^◌, length, min, filter, zip, unwrap_or, option_map, slice_index, slice_index_or}
use Rattle.std.specs.Prelude.{Option}
use Rattle.std.specs.Prelude.{IfSome, None, Result, Some, Decides}
use Rattle.std.specs.List.{list_all, range_with_len, enumerate_from}
use Rattle.std.specs.Option.{option_or}
use Rattle.std.specs.Result.{result_err}
use Rattle.std.specs.Cmp.Lexicographic.{pointwise}
use Rattle.p3_merkle_core.specs.Geometry.{Shape, exponent, layer_exponent, ancestor, least, heights, widths}
use Rattle.p3_merkle_core.specs.Gate.{gate_refusal}
use Rattle.p3_merkle_core.specs.Openings.{Opening}
use Rattle.p3_merkle_core.specs.Checks.{Params, siblings_below, path_digest}
use Rattle.p3_merkle_core.specs.Pruning.{PrunedOpening, boundary, first_rows, restored_node}
use Rattle.p3_merkle_core.specs.declared.error.PrunedProofError.TheVariants.{SiblingCountMismatch}
use Rattle.p3_merkle_core.specs.declared.error.PrunedProofError.TheVariants.{InconsistentDuplicateOpenings}
use Rattle.p3_merkle_core.specs.declared.error.PrunedProofError.TheVariants.{InconsistentGroupOpening}
use Rattle.p3_merkle_core.specs.declared.error.MerkleTreeError.{MerkleTreeError}
use Rattle.p3_merkle_core.specs.declared.error.MerkleTreeError.TheVariants.{WrongBatchSize, WrongWidth, WrongHeight}
use Rattle.p3_merkle_core.specs.declared.error.MerkleTreeError.TheVariants.{CapMismatch, IndexOutOfBounds}
use Rattle.p3_merkle_core.specs.declared.error.MerkleTreeError.TheVariants.{MalformedPrunedProof, OutOfMemory}
use Rattle.p3_answers.specs.Answers.{AnswersUnless, first_of, first_some, ok_unless, unless}
use Rattle.p3_support.specs.Batches.{greatest, widths_of}
use Rattle.p3_support.specs.declared.matrix.Dimensions.{Dimensions}
use Rattle.p3_support.specs.Lists.{is_among}

-- the test decides equality
abbrev pub IsEquality : {T : Type 0} → (T → T → Bool) → Type 0
IsEquality {T} test = (x y : T) → Decides (test x y) (x ≡ y)

-- ---- what a call returns

-- Ok only where nothing is refused; an error is the refusal, or says that memory ran out
abbrev pub AnswersUnlessMemory : {V : Type 0} → Result V MerkleTreeError → Option MerkleTreeError → Type 0
AnswersUnlessMemory result refusal = AnswersUnless (λ e. e ≡ OutOfMemory) result refusal

-- what is refused is refused whatever memory there is: the error is the refusal
abbrev pub Refuses : {V : Type 0} → Result V MerkleTreeError → Option MerkleTreeError → Type 0
Refuses result refusal = IfSome refusal (λ e. result_err result ≡ Some e)

-- ---- slots

-- the distinct indices below m, ascending
abbrev pub slots_below : ℕ → List ℕ → List ℕ
slots_below m indices = filter (is_among indices) (range_with_len 0 m)

-- the place of an index among them
abbrev pub slot_of : List ℕ → ℕ → ℕ
slot_of indices i = length (slots_below i indices)

-- the row set of the first query of index i
abbrev pub rows_of : {T W : Type 0} → PrunedOpening T W → ℕ → List (List T)
rows_of p i = first_rows (λ q. q == i) p

-- the lowest queried index under node j of layer l
abbrev pub lead : Shape → List ℕ → ℕ → ℕ → ℕ
lead s indices l j = least (λ i. is_among indices i && (ancestor s l i == j)) (greatest (heights s))

-- the places in input order of the matrices of layer l
abbrev pub matrices_at : Shape → ℕ → List ℕ
matrices_at s l =
    filter (λ m. exponent (slice_index (heights s) m) == layer_exponent s l) (range_with_len 0 (length (heights s)))

-- ---- the reasons

-- the refusal of rows or row sets that are not as many as they should be
abbrev pub size_refusal : ℕ → ℕ → Option MerkleTreeError
size_refusal expected got = unless (expected == got) (WrongBatchSize expected got)

-- a number, or the greatest usize where it is above that
abbrev pub in_usize : ℕ → ℕ
in_usize n = min n (2 ^ 64 - 1)

-- the refusal of a row that has not the width w of matrix m
abbrev pub width_fault : {T : Type 0} → ℕ × (ℕ × List T) → Option MerkleTreeError
width_fault (m, (w, row)) = unless (w == length row) (WrongWidth m w (in_usize (length row)))

-- the first row that has not the width of its matrix
abbrev pub row_width_refusal : {T : Type 0} → List ℕ → List (List T) → Option MerkleTreeError
row_width_refusal widths rows = first_of width_fault (enumerate_from 0 (zip widths rows))

-- a wrong number of rows, else the first row that has not the width of its matrix
abbrev pub width_refusal : {T : Type 0} → List Dimensions → List (List T) → Option MerkleTreeError
width_refusal dimensions rows =
    option_or (size_refusal (length dimensions) (length rows)) (row_width_refusal (widths_of dimensions) rows)

-- the refusal of digests of a pruned proof that are not as many as they should be
abbrev pub digest_count_refusal : ℕ → ℕ → Option MerkleTreeError
digest_count_refusal expected got = unless (expected == got) (MalformedPrunedProof (SiblingCountMismatch expected got))

-- the refusal of a digest where there is no query, before the indices are looked at
abbrev pub idle_refusal : ℕ → ℕ → Option MerkleTreeError
idle_refusal queries digests = if queries == 0 then digest_count_refusal 0 digests else None

-- the refusal of the highest index, which is not below the tallest height m
abbrev pub queries_refusal : ℕ → List ℕ → Option MerkleTreeError
queries_refusal m indices = unless (nat_lt (greatest indices) m) (IndexOutOfBounds m (greatest indices))

-- why a query is refused whose rows are not those of the first query of its index
abbrev pub duplicate_refusal : {T W : Type 0} → (T → T → Bool) → PrunedOpening T W → Option MerkleTreeError
duplicate_refusal row_eq p =
    first_of (λ (i, rows). unless (pointwise (pointwise row_eq) rows (rows_of p i))
    (MalformedPrunedProof (InconsistentDuplicateOpenings (slot_of p.indices i)))) (zip p.indices p.rows)

-- the refusal of a row of matrix m, of layer l, that is not that of the lowest queried index under the same node
abbrev pub row_refusal : {T W : Type 0} → (T → T → Bool) → Shape → PrunedOpening T W → ℕ → ℕ → ℕ →
    Option MerkleTreeError
row_refusal row_eq s p l i m =
    unless (pointwise row_eq (slice_index_or (rows_of p i) m [])
    (slice_index_or (rows_of p (lead s p.indices l (ancestor s l i))) m []))
    (MalformedPrunedProof (InconsistentGroupOpening (slot_of p.indices i) m))

-- the first row of index i, of the matrices of layer l, that is not that of the lowest queried index under the same
-- node
abbrev pub slot_refusal : {T W : Type 0} → (T → T → Bool) → Shape → PrunedOpening T W → ℕ → ℕ → Option MerkleTreeError
slot_refusal row_eq s p l i = first_of (row_refusal row_eq s p l i) (matrices_at s l)

-- the first such row of layer l, by ascending indices
abbrev pub layer_refusal : {T W : Type 0} → (T → T → Bool) → Shape → PrunedOpening T W → ℕ → Option MerkleTreeError
layer_refusal row_eq s p l = first_of (slot_refusal row_eq s p l) (slots_below (greatest (heights s)) p.indices)

-- the first such row of the layers up to t, from the leaves on
abbrev pub group_refusal : {T W : Type 0} → (T → T → Bool) → Shape → ℕ → PrunedOpening T W → Option MerkleTreeError
group_refusal row_eq s t p = first_of (layer_refusal row_eq s p) (range_with_len 0 (suc t))

-- whether the digest is the cap's entry j
abbrev pub is_entry : {X : Type 0} → (X → X → Bool) → List X → ℕ → X → Bool
is_entry eq cap j digest = unwrap_or (option_map (λ entry. eq entry digest) (slice_get cap j)) false

-- ---- single openings

-- the refusal of siblings that are not as many as they should be; the name of the error is the Rust crate's
abbrev pub sibling_count_refusal : ℕ → ℕ → Option MerkleTreeError
sibling_count_refusal expected got = unless (expected == got) (WrongHeight expected got)

-- why an opening of an index, rows and a number of siblings is refused before it is hashed, where the cap is layer
-- t: the first of these reasons
abbrev pub form_refusal : {T : Type 0} → Shape → ℕ → ℕ → List (List T) → ℕ → Option MerkleTreeError
form_refusal s t index rows siblings =
    first_some (
    size_refusal (length s.dimensions) (length rows)
    ∷ gate_refusal (heights s)
    ∷ sibling_count_refusal (siblings_below s t) siblings
    ∷ row_width_refusal (widths s) rows
    ∷ unless (nat_lt index (greatest (heights s))) (IndexOutOfBounds (greatest (heights s)) index)
    ∷ [])

-- why an opening is refused under a cap: its form, else a cap whose entry is not the digest that the check reaches
abbrev pub refusal_under : {T W : Type 0} → (W → W → Bool) → Params T W → List (List W) → Opening T W →
    Option MerkleTreeError
refusal_under digest_eq c cap o =
    option_or (form_refusal c.shape c.layer o.index o.rows (length o.siblings))
    (unless (is_entry (pointwise digest_eq) cap (ancestor c.shape c.layer o.index)
    (path_digest c.functions c.shape o c.layer)) CapMismatch)

-- the result of checking an opening under a cap
abbrev pub answer_under : {T W : Type 0} → (W → W → Bool) → Params T W → List (List W) → Opening T W →
    Result (Unit {0}) MerkleTreeError
answer_under digest_eq c cap o = ok_unless (refusal_under digest_eq c cap o) tt

-- why a replay of an index is refused, for a proof of a number of siblings: the first of these reasons
abbrev pub replay_refusal : Shape → ℕ → ℕ → ℕ → Option MerkleTreeError
replay_refusal s t index siblings =
    first_some (
    gate_refusal (heights s)
    ∷ unless (nat_lt index (greatest (heights s))) (IndexOutOfBounds (greatest (heights s)) index)
    ∷ sibling_count_refusal (siblings_below s t) siblings
    ∷ [])

-- ---- pruned openings

-- why so many row sets and digests are refused for some indices before anything takes memory: the first of these
-- reasons
abbrev pub early_refusal : List ℕ → List ℕ → ℕ → ℕ → Option MerkleTreeError
early_refusal heights indices sets digests =
    first_some (gate_refusal heights ∷ size_refusal (length indices) sets ∷ idle_refusal (length indices) digests ∷
    queries_refusal (greatest heights) indices ∷ [])

-- the same of a pruned opening
abbrev pub pruned_early : {T W : Type 0} → Shape → PrunedOpening T W → Option MerkleTreeError
pruned_early s p = early_refusal (heights s) p.indices (length p.rows) (length p.digests)

-- why a pruned opening is refused, whatever the cap, which is layer t: the first of these reasons
abbrev pub pruned_refusal : {T W : Type 0} → (T → T → Bool) → Shape → ℕ → PrunedOpening T W → Option MerkleTreeError
pruned_refusal row_eq s t p =
    first_some (
    gate_refusal (heights s)
    ∷ size_refusal (length p.indices) (length p.rows)
    ∷ idle_refusal (length p.indices) (length p.digests)
    ∷ queries_refusal (greatest (heights s)) p.indices
    ∷ duplicate_refusal row_eq p
    ∷ digest_count_refusal (length (boundary s p.indices t)) (length p.digests)
    ∷ first_of (λ i. width_refusal s.dimensions (rows_of p i)) (slots_below (greatest (heights s)) p.indices)
    ∷ group_refusal row_eq s t p
    ∷ [])

-- the result of checking a pruned opening, whatever the cap
abbrev pub pruned_answer : {T W : Type 0} → (T → T → Bool) → Shape → ℕ → PrunedOpening T W →
    Result (Unit {0}) MerkleTreeError
pruned_answer row_eq s t p = ok_unless (pruned_refusal row_eq s t p) tt

-- a covered node of the cap's layer whose value is not the cap's entry
abbrev pub cap_refusal : {T W : Type 0} → (W → W → Bool) → Params T W → List (List W) → PrunedOpening T W →
    Option MerkleTreeError
cap_refusal digest_eq c cap p =
    unless (list_all (λ i. let j = ancestor c.shape c.layer i in
    is_entry (pointwise digest_eq) cap j (restored_node c p c.layer j)) p.indices) CapMismatch

-- why a pruned opening is refused under a cap
abbrev pub pruned_refusal_under : {T W : Type 0} → (T → T → Bool) → (W → W → Bool) → Params T W → List (List W) →
    PrunedOpening T W → Option MerkleTreeError
pruned_refusal_under row_eq digest_eq c cap p =
    option_or (pruned_refusal row_eq c.shape c.layer p) (cap_refusal digest_eq c cap p)

-- the result of checking a pruned opening under a cap
abbrev pub pruned_answer_under : {T W : Type 0} → (T → T → Bool) → (W → W → Bool) → Params T W → List (List W) →
    PrunedOpening T W → Result (Unit {0}) MerkleTreeError
pruned_answer_under row_eq digest_eq c cap p = ok_unless (pruned_refusal_under row_eq digest_eq c cap p) tt

-- why the number of digests of a pruned proof is refused: the heights, else the highest index, if it is not below the
-- greatest height
abbrev pub pruned_len_refusal : Shape → List ℕ → Option MerkleTreeError
pruned_len_refusal s indices = option_or (gate_refusal (heights s)) (queries_refusal (greatest (heights s)) indices)
