-- Why an opening with salts is refused: the first reason that applies.
use Rattle.std.specs.Prelude.{ℕ, ◌+◌, ◌^◌, nat_le, List, length, zip, Option, Bool, position, option_map, slice_index}
use Rattle.std.specs.Option.{option_or}
use Rattle.p3_support.specs.declared.matrix.Dimensions.{Dimensions}
use Rattle.p3_support.specs.Batches.{heights_of, widths_of}
use Rattle.p3_merkle_core.specs.Gate.{gate_refusal}
use Rattle.p3_merkle_core.specs.Checks.{Params}
use Rattle.p3_merkle_core.specs.Geometry.{Shape}
use Rattle.p3_merkle_core.specs.Refusals.{pruned_refusal, pruned_refusal_under, refusal_under, size_refusal}
use Rattle.p3_merkle_core.specs.Refusals.{width_refusal}
use Rattle.p3_answers.specs.Answers.{first_of}
use Rattle.p3_merkle_core.specs.declared.error.MerkleTreeError.{MerkleTreeError}
use Rattle.p3_merkle_core.specs.declared.error.MerkleTreeError.TheVariants.{TooLarge}
use Rattle.p3_merkle_tree.specs.SaltedOpenings.{SaltedOpening, SaltedPruned, joined, joined_sets}

-- the place of the first matrix whose width with e more columns does not fit usize
abbrev pub first_too_wide : ℕ → List ℕ → Option ℕ
first_too_wide e widths = position (λ w. nat_le (2 ^ 64) (w + e)) widths

-- the first matrix whose width with e more columns does not fit usize: its place, and its width without them
abbrev pub widening_refusal : ℕ → List Dimensions → Option MerkleTreeError
widening_refusal e dimensions =
    option_map (λ m. TooLarge m (slice_index (widths_of dimensions) m)) (first_too_wide e (widths_of dimensions))

-- rows that are not one for each of the dimensions, of that width; else lists of salts that are not as many as rows
abbrev pub row_and_salt_form_refusal : {T : Type 0} → List Dimensions → List (List T) → List (List T) →
    Option MerkleTreeError
row_and_salt_form_refusal dimensions rows salts =
    option_or (width_refusal dimensions rows) (size_refusal (length rows) (length salts))

-- salt sets that are not as many as row sets; else the first row set, in query order, that is refused with its salt set
abbrev pub set_and_salt_form_refusal : {T : Type 0} → List Dimensions → List (List (List T)) → List (List (List T)) →
    Option MerkleTreeError
set_and_salt_form_refusal dimensions sets salts =
    option_or (size_refusal (length sets) (length salts))
    (first_of (λ (rows, salt). row_and_salt_form_refusal dimensions rows salt) (zip sets salts))

-- why a commitment to matrices with e salts for each row is refused: their heights, else a width
abbrev pub salted_commit_refusal : ℕ → List Dimensions → Option MerkleTreeError
salted_commit_refusal e dimensions = option_or (gate_refusal (heights_of dimensions)) (widening_refusal e dimensions)

-- why rows and salts are refused before they are joined
abbrev pub salted_rows_refusal : {T : Type 0} → ℕ → List Dimensions → List (List T) → List (List T) →
    Option MerkleTreeError
salted_rows_refusal e dimensions rows salts =
    option_or (row_and_salt_form_refusal dimensions rows salts) (widening_refusal e dimensions)

-- the same of row sets and salt sets
abbrev pub salted_sets_refusal : {T : Type 0} → ℕ → List Dimensions → List (List (List T)) → List (List (List T)) →
    Option MerkleTreeError
salted_sets_refusal e dimensions sets salts =
    option_or (set_and_salt_form_refusal dimensions sets salts) (widening_refusal e dimensions)

-- why an opening with e salts a row is refused under a cap: rows and salts, else the rows followed by their salts,
-- under the parameters of matrices that have e more columns
abbrev pub salted_refusal_under : {T W : Type 0} → (W → W → Bool) → ℕ → List Dimensions → Params T W → List (List W) →
    SaltedOpening T W → Option MerkleTreeError
salted_refusal_under digest_eq e dimensions c cap o =
    option_or (salted_rows_refusal e dimensions o.rows o.salts) (refusal_under digest_eq c cap (joined o))

-- the same of several indices
abbrev pub salted_pruned_refusal_under : {T W : Type 0} → (T → T → Bool) → (W → W → Bool) → ℕ → List Dimensions →
    Params T W → List (List W) → SaltedPruned T W → Option MerkleTreeError
salted_pruned_refusal_under row_eq digest_eq e dimensions c cap p =
    option_or (salted_sets_refusal e dimensions p.rows p.salts)
    (pruned_refusal_under row_eq digest_eq c cap (joined_sets p))

-- the same whatever the cap, which is layer t of a shape
abbrev pub salted_pruned_refusal : {T W : Type 0} → (T → T → Bool) → ℕ → List Dimensions → Shape → ℕ →
    SaltedPruned T W → Option MerkleTreeError
salted_pruned_refusal row_eq e dimensions s t p =
    option_or (salted_sets_refusal e dimensions p.rows p.salts) (pruned_refusal row_eq s t (joined_sets p))
