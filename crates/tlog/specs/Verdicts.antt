-- What the verifiers accept, and why they refuse: the first reason that applies.
use Rattle.std.specs.Prelude.{◌≡◌, ℕ, ◌==◌, nat_eq, ◌^◌, ◌<◌, ◌≤◌, nat_lt, Bool, true, false, List, [], ◌∷◌, Option}
use Rattle.std.specs.Prelude.{Some, None}
use Rattle.std.specs.Cmp.Lexicographic.{pointwise}
use Rattle.tlog.specs.Rfc9162.{Hash, inclusion_end, consistency_end}
use Rattle.tlog.specs.declared.error.ProofError.{ProofError}
use Rattle.tlog.specs.declared.error.ProofError.TheVariants.{SizeTooLarge, IndexPastEnd, SmallerNewSize, TooFewDigests}
use Rattle.tlog.specs.declared.error.ProofError.TheVariants.{TooManyDigests, OldRootMismatch, RootMismatch}

-- the greatest size that is taken
abbrev pub size_limit : ℕ
size_limit = 2 ^ 62

-- whether two byte strings are one
abbrev pub is_same : List ℕ → List ℕ → Bool
is_same = pointwise nat_eq

-- ---- inclusion

-- the algorithm of 2.1.3.2 accepts
pub record IsIncluded (hash : Hash) (index size : ℕ) (leaf : List ℕ) (path : List (List ℕ))
    (root : List ℕ) : Type 0 where
  pub within : index < size
  pub ends : inclusion_end hash index size leaf path ≡ Some (0, root)

-- why it refuses an end: it stopped before a value, sn is not 0, or r is another root
abbrev pub inclusion_end_refusal : Option (ℕ × List ℕ) → List ℕ → Option ProofError
inclusion_end_refusal None root = Some TooManyDigests
inclusion_end_refusal (Some (sn, r)) root = elim (sn == 0) [
  | true ↦ elim (is_same r root) [ true ↦ None | false ↦ Some RootMismatch ]
  | false ↦ Some TooFewDigests
]

-- why a proof of inclusion is refused
unfoldable pub inclusion_refusal : Hash → ℕ → ℕ → List ℕ → List (List ℕ) → List ℕ → Option ProofError
inclusion_refusal hash index size leaf path root = elim (nat_lt size_limit size) [
  | true ↦ Some SizeTooLarge
  | false ↦ elim (nat_lt index size) [
    | true ↦ inclusion_end_refusal (inclusion_end hash index size leaf path) root
    | false ↦ Some IndexPastEnd
  ]
]

-- ---- consistency

-- the algorithm of 2.1.4.2 accepts for 0 < old < new; from size 0, whose root is that of nothing, and between equal
-- sizes, whose roots are equal, there are no digests
pub record IsConsistent (hash : Hash) (old new : ℕ) (path : List (List ℕ)) (old_root new_root : List ℕ) : Type 0 where
  pub ordered : old ≤ new
  pub from_nothing : old ≡ 0 → (path ≡ []) × (old_root ≡ hash []) × (new ≡ 0 → new_root ≡ hash [])
  pub unchanged : 0 < old → old ≡ new → (path ≡ []) × (old_root ≡ new_root)
  pub grown : 0 < old → old < new → consistency_end hash old new old_root path ≡ Some (0, old_root, new_root)

-- why the algorithm refuses an end
abbrev pub consistency_end_refusal : Option (ℕ × List ℕ × List ℕ) → List ℕ → List ℕ → Option ProofError
consistency_end_refusal None old_root new_root = Some TooManyDigests
consistency_end_refusal (Some (sn, fr, sr)) old_root new_root = elim (sn == 0) [
  | true ↦ elim (is_same fr old_root) [
    | true ↦ elim (is_same sr new_root) [ true ↦ None | false ↦ Some RootMismatch ]
    | false ↦ Some OldRootMismatch
  ]
  | false ↦ Some TooFewDigests
]

-- this end if there are no digests, else none
abbrev pub end_of_no_digests : List (List ℕ) → List ℕ → List ℕ → Option (ℕ × List ℕ × List ℕ)
end_of_no_digests [] fr sr = Some (0, fr, sr)
end_of_no_digests (c ∷ path) fr sr = None

-- the end between any sizes. From 0: no digests, the old root is that of nothing, and so is the new one if the new size
-- is 0. Between equal sizes: no digests, and both roots are the old one. Else that of 2.1.4.2.
unfoldable pub growth_end : Hash → ℕ → ℕ → List (List ℕ) → List ℕ → List ℕ → Option (ℕ × List ℕ × List ℕ)
growth_end hash old new path old_root new_root = elim (old == 0) [
  | true ↦ end_of_no_digests path (hash []) (elim (new == 0) [ true ↦ hash [] | false ↦ new_root ])
  | false ↦ elim (old == new) [
    | true ↦ end_of_no_digests path old_root old_root
    | false ↦ consistency_end hash old new old_root path
  ]
]

-- why a proof of consistency is refused
unfoldable pub consistency_refusal : Hash → ℕ → ℕ → List (List ℕ) → List ℕ → List ℕ → Option ProofError
consistency_refusal hash old new path old_root new_root = elim (nat_lt size_limit new) [
  | true ↦ Some SizeTooLarge
  | false ↦ elim (nat_lt new old) [
    | true ↦ Some SmallerNewSize
    | false ↦
        consistency_end_refusal (growth_end hash old new path old_root new_root) old_root new_root
  ]
]
