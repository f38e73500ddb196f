-- What the plain commitment to pairs says of the salted matrices.
use Rattle.std.proofs.Common.{◌≡◌, ◌⊎◌, ◌*◌, ◌+◌, ℕ, List, [], ◌∷◌, ap, refl, inl, Result}
use Rattle.std.specs.Prelude.{Ok, Err, IfErr, IfOk, IsErr, OnOk}
use Rattle.p3_support.specs.Batches.{widened}
use Rattle.rand_core.specs.Stream.{Stream}
use Rattle.p3_support.specs.Salts.{after_words}
use Rattle.p3_support.specs.declared.matrix.Dimensions.{Dimensions}
use Rattle.p3_merkle_core.specs.Nodes.{Matrix, dimensions_of}
use Rattle.p3_merkle_core.specs.declared.error.MerkleTreeError.{MerkleTreeError}
use Rattle.p3_merkle_core.specs.declared.error.MerkleTreeError.TheVariants.{OutOfMemory}
use Rattle.p3_merkle_tree.specs.Salted.{salted_matrices}

-- salted matrices are so much wider
pub salted_widened : {T : Type 0} (of_word : ℕ → T) (e : ℕ) (ms : List (Matrix T)) (s : Stream) →
    dimensions_of (salted_matrices of_word e ms s) ≡ widened e (dimensions_of ms)
salted_widened of_word e [] s = refl
salted_widened of_word e (m ∷ ms) s =
    ap (λ (ds : List Dimensions). record { width = m.width + e; height = m.height } ∷ ds)
    (salted_widened of_word e ms (after_words (m.height * e) s))

module _ {A : Type 0} where
  -- an error for want of memory leaves open what else is one
  pub memory_or : (P : Type 0) (r : Result A MerkleTreeError) → IfErr r (λ e. e ≡ OutOfMemory) →
      IfErr r (λ e. (e ≡ OutOfMemory) ⊎ P)
  memory_or P (Ok v) m = tt
  memory_or P (Err e) m = inl m

  pub on_ok : (P : Type 0) (r : Result A MerkleTreeError) → P → OnOk r P
  on_ok P (Ok v) holds = holds
  on_ok P (Err e) holds = tt

  -- an error says nothing of what is drawn
  pub nothing_drawn : (P : Type 0) (r : Result A MerkleTreeError) → IsErr r → OnOk r P
  nothing_drawn P (Ok v) err = absurd cc
  nothing_drawn P (Err e) err = tt

  -- what two facts of what is made say together
  pub both_made : (P Q R : A → Type 0) (r : Result A MerkleTreeError) → ((made : A) → P made → Q made → R made) →
      IfOk r P → IfOk r Q → IfOk r R
  both_made P Q R (Ok v) both first second = both v first second
  both_made P Q R (Err e) both first second = tt
