-- The digests and words in the values that a commitment scheme returns: `.items` is the list in a Vec, `.now` what a
-- reference refers to.
use Rattle.std.specs.Prelude.{List, map}
use Rattle.std.specs.declared.vec.Vec.{Vec}
use Rattle.p3_support.specs.declared.opening.DigestRef.{DigestRef}
use Rattle.p3_support.specs.declared.opening.MerkleCap.{MerkleCap}

-- the digest that a reference holds
abbrev pub digest_of_ref : {F X : Type 0} → DigestRef F X → X
digest_of_ref reference = reference.value.now

-- the digests of a cap
abbrev pub roots_of : {F X : Type 0} → MerkleCap F X → List X
roots_of cap = cap.roots.items

-- each row as a list of words
abbrev pub row_lists : {T A : Type 0} → List (Vec T A) → List (List T)
row_lists rows = map (λ row. row.items) rows

-- each row set, one for a query, as a list of rows
abbrev pub row_sets : {T A B : Type 0} → List (Vec (Vec T A) B) → List (List (List T))
row_sets sets = map (λ rows. row_lists rows.items) sets
