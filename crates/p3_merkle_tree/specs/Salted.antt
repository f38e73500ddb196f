-- Matrices whose rows are followed by salts.
use Rattle.std.specs.Prelude.{◌≡◌, ℕ, ◌+◌, ◌*◌, List, [], ◌∷◌, ◌++◌, take}
use Rattle.rand_core.specs.Stream.{Stream}
use Rattle.p3_support.specs.Lists.{message}
use Rattle.p3_support.specs.Salts.{after_words, salts}
use Rattle.p3_merkle_core.specs.Nodes.{Batch, Matrix}

-- a matrix, each row followed by its n values of a list, which has those of the first row first, then those of the
-- second, and so on
abbrev pub salted : {T : Type 0} → ℕ → List T → Matrix T → Matrix T
salted n values m = record { height = m.height; width = m.width + n; row = λ j. m.row j ++ message n values j }

module _ {T : Type 0} (of_word : ℕ → T) (n : ℕ) where
  -- the matrices in input order, each with n salts for each of its rows, which words of the stream make
  abbrev pub salted_matrices : List (Matrix T) → Stream → List (Matrix T)
  salted_matrices [] s = []
  salted_matrices (m ∷ ms) s =
      salted n (salts of_word (m.height * n) s) m ∷ salted_matrices ms (after_words (m.height * n) s)

  -- their batch
  abbrev pub salted_batch : Batch T → Stream → Batch T
  salted_batch b s = record { arity = b.arity; matrices = salted_matrices b.matrices s }

-- what is left of the stream after n salts for each row of the matrices
abbrev pub after_salts : {T : Type 0} → ℕ → List (Matrix T) → Stream → Stream
after_salts n [] s = s
after_salts n (m ∷ ms) s = after_salts n ms (after_words (m.height * n) s)

-- the new stream is what is left of the old one after the salts of the first k matrices, for some number k
abbrev pub IsAfterSome : {T : Type 0} → ℕ → List (Matrix T) → Stream → Stream → Type 0
IsAfterSome n ms old new = (k : ℕ) × (new ≡ after_salts n (take k ms) old)
