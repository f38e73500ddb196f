-- The shape of salted matrices: they are wider, and as high.
use Rattle.std.proofs.Common.{◌≡◌, ◌*◌, ◌+◌, ◌<◌, ℕ, List, [], ◌∷◌, ap, refl}
use Rattle.std.specs.Prelude.{All, Err, IfErr, None, Ok, Result, slice_index}
use Rattle.std.proofs.lemmas.List.Elements.{All-head}
use Rattle.p3_support.specs.Batches.{widened}
use Rattle.rand_core.specs.Stream.{Stream}
use Rattle.p3_support.specs.Batches.{heights_of}
use Rattle.p3_support.specs.Salts.{after_words}
use Rattle.p3_support.specs.declared.matrix.Dimensions.{Dimensions}
use Rattle.p3_merkle_tree.specs.MerkleTreeError.{MerkleTreeError}
use Rattle.p3_merkle_tree.specs.MerkleTreeError.TheVariants.{OutOfMemory}
use Rattle.p3_merkle_tree.specs.Nodes.{Matrix, dimensions_of}
use Rattle.p3_merkle_tree.specs.Presented.{IsVerdict, Presented}
use Rattle.p3_merkle_tree.specs.Salted.{salted_matrices}
use Rattle.end_to_end.proofs.RefusalFacts.{memory_alone}

-- salted matrices are so much wider
pub salted_widened : {T : Type 0} (of_word : ℕ → T) (e : ℕ) (ms : List (Matrix T)) (s : Stream) →
    dimensions_of (salted_matrices of_word e ms s) ≡ widened e (dimensions_of ms)
salted_widened of_word e [] s = refl
salted_widened of_word e (m ∷ ms) s =
    ap (λ (ds : List Dimensions). record { width = m.width + e; height = m.height } ∷ ds)
    (salted_widened of_word e ms (after_words (m.height * e) s))

-- wider matrices have their heights
pub heights_stay : (e : ℕ) (ds : List Dimensions) → heights_of (widened e ds) ≡ heights_of ds
heights_stay e [] = refl
heights_stay e (d ∷ ds) = ap (λ (hs : List ℕ). d.height ∷ hs) (heights_stay e ds)

-- the first of some indices below m is below m, and so is 0, where there is none
pub first_below : (m : ℕ) (indices : List ℕ) → 0 < m → All (λ i. i < m) indices → slice_index indices 0 < m
first_below m [] some below = some
first_below m (i ∷ indices) some below = All-head (λ (i : ℕ). i < m) i indices below

-- ---- verdicts

-- an accepted opening is answered Ok, or memory runs out
pub memory_left : {T W V : Type 0} (presented : Presented T W) (r : Result V MerkleTreeError) → IsVerdict presented r →
    presented.is_accepted → IfErr r (λ e. e ≡ OutOfMemory)
memory_left presented (Ok v) is accepted = tt
memory_left presented (Err e) is accepted = memory_alone e None refl (is.accepted_is_ok accepted)
