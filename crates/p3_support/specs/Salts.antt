-- Values computed from the words of a generator's stream.
use Rattle.std.specs.Prelude.{ℕ, zero, suc, List, [], ◌∷◌}
use Rattle.rand_core.specs.Stream.{Stream, next_u64}

-- what is left of a stream after n words
abbrev pub after_words : ℕ → Stream → Stream
after_words zero s = s
after_words (suc n) s = after_words n (next_u64 s).1

-- the values computed from the next n words, one from each
abbrev pub salts : {A : Type 0} → (ℕ → A) → ℕ → Stream → List A
salts of_word zero s = []
salts of_word (suc n) s = of_word (next_u64 s).0 ∷ salts of_word n (next_u64 s).1
