-- Values that are drawn into a vector.
use Rattle.std.specs.{Prelude.◌≡◌, Prelude.ℕ, Prelude.◌+◌, Prelude.◌++◌, Prelude.vec_len, Prelude.vec_capacity}
use Rattle.std.specs.declared.vec.Vec.{Vec}
use Rattle.rand_core.specs.Stream.{Stream}
use Rattle.p3_support.specs.Salts.{after_words, salts}

-- new is old with the values of the next n words of s after it, in the same memory, and t is what is left of s
pub record AreDrawn {T A : Type 0} (of_word : ℕ → T) (n : ℕ) (old new : Vec T A) (s t : Stream) : Type 0 where
  pub items : new.items ≡ old.items ++ salts of_word n s
  pub len : vec_len new ≡ vec_len old + n
  pub capacity : vec_capacity new ≡ vec_capacity old
  pub rest : t ≡ after_words n s
