-- What the calls return of a verdict, and what each status says.
use Rattle.std.specs.Prelude.{ℕ, ℤ, pos, negsuc, List, [], ◌∷◌, ◌++◌, codes, drop, length, slice_index_or, take}
use Rattle.std.specs.Prelude.{Option, Some, None}
use Rattle.tlog.specs.declared.error.ProofError.{ProofError}
use Rattle.tlog.specs.declared.error.ProofError.TheVariants.{SizeTooLarge, IndexPastEnd, SmallerNewSize, TooFewDigests}
use Rattle.tlog.specs.declared.error.ProofError.TheVariants.{TooManyDigests, OldRootMismatch, RootMismatch}

-- 0 without a refusal, else the number of its reason
abbrev pub status_of : Option ProofError → ℤ
status_of None = pos 0
status_of (Some SizeTooLarge) = pos 1
status_of (Some IndexPastEnd) = pos 2
status_of (Some SmallerNewSize) = pos 3
status_of (Some TooFewDigests) = pos 4
status_of (Some TooManyDigests) = pos 5
status_of (Some OldRootMismatch) = pos 6
status_of (Some RootMismatch) = pos 7

-- what the statuses from 0 on say
abbrev pub texts : List (List ℕ)
texts =
    codes "no error"
    ∷ codes "the size is above 2^62"
    ∷ codes "the index is not below the size"
    ∷ codes "the new size is below the old size"
    ∷ codes "the proof has too few digests"
    ∷ codes "the proof has too many digests"
    ∷ codes "the proof is of another old root"
    ∷ codes "the proof is of another root"
    ∷ codes "no tree has this arity or this rule"
    ∷ codes "no matrix has a row"
    ∷ codes "no tree is over these heights"
    ∷ codes "the rows have more or fewer bytes than their widths"
    ∷ codes "out of memory"
    ∷ codes "there are not as many leaf hashes as lengths"
    ∷ codes "the lengths do not add up to that of the bytes"
    ∷ []

-- what a status says
abbrev pub status_text : ℤ → List ℕ
status_text (pos n) = slice_index_or texts n (codes "no such status")
status_text (negsuc n) = codes "no such status"

-- a text and a zero at the head of a buffer: of the text as many bytes as leave room for the zero
abbrev pub placed : List ℕ → List ℕ → List ℕ
placed text [] = []
placed text (byte ∷ rest) = take (length rest) text ++ 0 ∷ drop (length text) rest
