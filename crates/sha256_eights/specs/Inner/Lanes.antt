-- Eight messages side by side: each word is a vector, with a lane for each message.
use Rattle.std.specs.Prelude.{ℕ, List, map, slice_index}

-- the words of message j
abbrev pub lane : ℕ → List (List ℕ) → List ℕ
lane j words = map (λ v. slice_index v j) words
