-- Nothing is refused exactly if all is taken.
use Rattle.std.proofs.Common.{◌≡◌, ℕ, ◌<◌, ltb, List, [], ◌∷◌, Option, Some, None, refl, ap, arith}
use Rattle.std.proofs.lemmas.Bool.{lt-ltb}
use Rattle.std.proofs.lemmas.List.Elements.{All-head, All-tail}
use Rattle.std.specs.Prelude.{All, length}
use Rattle.std.specs.Option.{option_or}
use Rattle.p3_merkle_core.specs.Geometry.{Shape, heights, IsLawful}
use Rattle.p3_merkle_core.specs.Gate.{gate_refusal}
use Rattle.p3_merkle_core.specs.Nodes.{shape}
use Rattle.p3_merkle_core.specs.Refusals.{queries_refusal, pruned_len_refusal}
use Rattle.p3_merkle_core.specs.declared.error.MerkleTreeError.TheVariants.{IndexOutOfBounds}
use Rattle.p3_support.specs.Batches.{greatest}
use Rattle.p3_merkle_core.proofs.Shapes.GateFacts.{gate_lawful}
use Rattle.p3_answers.proofs.AnswerFacts.{none_unless}
use Rattle.p3_merkle_core.proofs.Pruned.NoneFacts.{below_from}
use Rattle.mmcs_engine.specs.Matrices.{batch_of_rows}
use Rattle.mmcs_engine.specs.Program.{heights_of_rows}

-- where both of two reasons fail
both_none : {E : Type 0} (x y : Option E) → option_or x y ≡ None → (x ≡ None) × (y ≡ None)
both_none None y none = (refl, none)
both_none (Some x) y none = absurd cc

-- the greatest of indices below a number is below it
tallest_below : (m : ℕ) (indices : List ℕ) → 0 < m → All (λ i. i < m) indices → greatest indices < m
tallest_below m [] some below = some
tallest_below m (i ∷ indices) some below = let first = All-head (λ j. j < m) i indices below in
    let rest = tallest_below m indices some (All-tail (λ j. j < m) i indices below) in omega (arith, first, rest)

pub taken_from_none : (s : Shape) (indices : List ℕ) → pruned_len_refusal s indices ≡ None → IsLawful (heights s) ×
    All (λ i. i < greatest (heights s)) indices
taken_from_none s indices none =
    let parts = both_none (gate_refusal (heights s)) (queries_refusal (greatest (heights s)) indices) none in
    ((gate_lawful (heights s)).0 parts.0, below_from (greatest (heights s)) indices parts.1)

pub taken_unrefused : (s : Shape) (indices : List ℕ) → IsLawful (heights s) →
    All (λ i. i < greatest (heights s)) indices → pruned_len_refusal s indices ≡ None
taken_unrefused s indices lawful below =
    let m = greatest (heights s) in
    let index : queries_refusal m indices
    ≡ None = none_unless (ltb (greatest indices) m) (IndexOutOfBounds m (greatest indices))
    (lt-ltb (greatest indices) m (tallest_below m indices lawful.some_above_0 below)) in
    λ i. option_or ((gate_lawful (heights s)).1 lawful i) (index i)

-- the heights of matrices that are made of rows
pub heights_are : (matrices : List (List (List ℕ))) (arity : ℕ) → heights (shape (batch_of_rows arity matrices))
    ≡ heights_of_rows matrices
heights_are [] arity = refl
heights_are (rows ∷ matrices) arity = ap (λ hs. length rows ∷ hs) (heights_are matrices arity)
