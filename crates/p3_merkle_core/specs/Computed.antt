-- That a type has a hash and a compression.
use Rattle.std.specs.Prelude.{List}

-- what is hashed and compressed with, for a type to name: of itself it says nothing
abbrev pub Computes : {T W : Type 0} → (List T → List W) → (List (List W) → List W) → W → Type 0
Computes hash compression default_word = Unit {0}
