-- What the call about openings takes, and what it returns.
use Rattle.std.specs.Prelude.{ℕ, ℤ, pos, ◌==◌, ◌||◌, Bool, if◌then◌else◌, List, [], ◌∷◌, take, drop, replicate, nat_lt}
use Rattle.std.specs.Prelude.{nat_eq, Option, None, Some}
use Rattle.std.specs.Option.{option_map}
use Rattle.p3_support.specs.Batches.{widths_of}
use Rattle.p3_support.specs.declared.matrix.Dimensions.{Dimensions}
use Rattle.p3_hashes.specs.Sha.{sha256_nodes, sha256_rows}
use Rattle.p3_merkle_core.specs.Caps.{cap_layer}
use Rattle.p3_merkle_core.specs.Checks.{Params, params}
use Rattle.p3_merkle_core.specs.Geometry.{shape_of}
use Rattle.p3_merkle_core.specs.Nodes.{functions_of}
use Rattle.p3_merkle_core.specs.Openings.{Opening, opening_of}
use Rattle.p3_merkle_core.specs.Refusals.{refusal_under}
use Rattle.p3_merkle_core.specs.declared.cap.CapRule.{CapRule}
use Rattle.p3_merkle_core.specs.declared.cap.CapRule.TheVariants.{Lowered, Fixed}
use Rattle.p3_merkle_core.specs.declared.error.MerkleTreeError.{MerkleTreeError}
use Rattle.p3_merkle_core.specs.declared.error.MerkleTreeError.TheVariants.{WrongBatchSize, WrongWidth, WrongHeight}
use Rattle.p3_merkle_core.specs.declared.error.MerkleTreeError.TheVariants.{IncompatibleHeights, IndexOutOfBounds}
use Rattle.p3_merkle_core.specs.declared.error.MerkleTreeError.TheVariants.{EmptyBatch, CapMismatch, TooLarge}
use Rattle.p3_merkle_core.specs.declared.error.MerkleTreeError.TheVariants.{OutOfMemory, MalformedPrunedProof}
use Rattle.fohlazu_c.specs.declared.setting.MatrixSize.{MatrixSize}
use Rattle.fohlazu_c.specs.declared.setting.TreeSetting.{TreeSetting}

-- the dimensions of a size
abbrev pub size_shown : MatrixSize → Dimensions
size_shown s = record { width = s.width; height = s.height }

-- the rule of caps of a number
abbrev pub rule_shown : ℕ → Option CapRule
rule_shown n = if n == 0 then Some Lowered else if n == 1 then Some Fixed else None

-- whether a tree may have so many children
abbrev pub is_arity_taken : ℕ → Bool
is_arity_taken n = n == 2 || (n == 4 || n == 8)

-- what openings are checked against: SHA-256, over matrices of these dimensions, under a cap of this height by a rule
abbrev pub params_at : ℕ → ℕ → CapRule → List Dimensions → Params ℕ ℕ
params_at arity cap_height rule dimensions =
    let s = shape_of arity dimensions in
    params (functions_of sha256_rows sha256_nodes (replicate 32 0)) s (cap_layer s rule cap_height)

-- the same of a setting, if its arity is taken and its number is one of a rule
abbrev pub params_shown : TreeSetting → List Dimensions → Option (Params ℕ ℕ)
params_shown t dimensions =
    if is_arity_taken t.arity then option_map (λ rule. params_at t.arity t.cap_height rule dimensions)
    (rule_shown t.cap_rule) else None

-- bytes cut into rows of these widths: a row is short where the bytes end, and bytes that are left are a row too many
unfoldable pub cut_rows : List ℕ → List ℕ → List (List ℕ)
cut_rows [] [] = []
cut_rows [] (b ∷ bytes) = (b ∷ bytes) ∷ []
cut_rows (w ∷ widths) bytes = take w bytes ∷ cut_rows widths (drop w bytes)

-- the opening of an index whose rows lie one after another
abbrev pub presented_opening : List Dimensions → ℕ → List ℕ → List (List ℕ) → Opening ℕ ℕ
presented_opening dimensions index bytes siblings = opening_of index (cut_rows (widths_of dimensions) bytes) siblings

-- why an opening is refused under a cap
abbrev pub refusal_at : Params ℕ ℕ → List (List ℕ) → Opening ℕ ℕ → Option MerkleTreeError
refusal_at c roots opening = refusal_under nat_eq c roots opening

-- 0 without a refusal, else the number of its reason
abbrev pub opening_status : Option MerkleTreeError → ℤ
opening_status None = pos 0
opening_status (Some (TooLarge matrix size)) = pos 1
opening_status (Some (IndexOutOfBounds max_height index)) = pos 2
opening_status (Some (WrongHeight expected got)) = if nat_lt got expected then pos 4 else pos 5
opening_status (Some CapMismatch) = pos 7
opening_status (Some (MalformedPrunedProof e)) = pos 7
opening_status (Some EmptyBatch) = pos 9
opening_status (Some (IncompatibleHeights height max_height expected bits)) = pos 10
opening_status (Some (WrongBatchSize expected got)) = pos 11
opening_status (Some (WrongWidth matrix expected got)) = pos 11
opening_status (Some OutOfMemory) = pos 12
