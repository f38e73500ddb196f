-- What is printed is read again, and what is read was printed, but for extension lines and signatures.
use Rattle.std.specs.Prelude.{◌≡◌, ◌≢◌, ◌↔◌, ℕ, ◌≤◌, ◌==◌, List, ◌∷◌, ◌++◌, length, count_by, Ok}
use Rattle.tlog_text.specs.Lines.{part_origin}
use Rattle.tlog_text.specs.Reading.{checkpoint_in, consistency_in, entries_in, part_in}
use Rattle.tlog_text.specs.Texts.{CheckpointFields, ConsistencyFields, EntriesFields, IsCheckpoint, IsConsistencyProof}
use Rattle.tlog_text.specs.Texts.{IsEntriesProof, IsNote, checkpoint_text, consistency_text, entries_text, AreLines}
use Rattle.tlog_text.specs.Texts.{signature_lines}
use Rattle.tlog_text.specs.declared.error.Expected.TheVariants.{Signature}

-- a note is read as a checkpoint exactly if it is that checkpoint as it is published, perhaps with extension lines and
-- signatures, and no part
abbrev pub NotesAreReadExactly : Type 0
NotesAreReadExactly =
    (note : List ℕ) (c : CheckpointFields) →
    (checkpoint_in note ≡ Ok c) ↔
    ((extensions : List (List ℕ)) × (signatures : List (List ℕ)) × IsNote note c extensions signatures
    × (c.origin ≢ part_origin))

-- a note is read as a part exactly if it is that part as it is published, perhaps with extension lines and signatures
abbrev pub PartsAreReadExactly : Type 0
PartsAreReadExactly =
    (note : List ℕ) (c : CheckpointFields) →
    (part_in note ≡ Ok c) ↔
    ((extensions : List (List ℕ)) × (signatures : List (List ℕ)) × IsNote note c extensions signatures
    × (c.origin ≡ part_origin))

-- what is printed is read again
abbrev pub CheckpointsAreReadAgain : Type 0
CheckpointsAreReadAgain =
    (c : CheckpointFields) → IsCheckpoint c →
    (c.origin ≢ part_origin → checkpoint_in (checkpoint_text c) ≡ Ok c)
    × (c.origin ≡ part_origin → part_in (checkpoint_text c) ≡ Ok c)

-- a checkpoint of three lines is printed as it was read
abbrev pub ThreeLinesArePrintedAsRead : Type 0
ThreeLinesArePrintedAsRead =
    (note : List ℕ) (c : CheckpointFields) → checkpoint_in note ≡ Ok c → count_by (λ b. b == 10) note ≡ 3 →
    note ≡ checkpoint_text c

-- no two line feeds stand side by side: no line is blank but the first, if that is
abbrev pub HasNoBlankLineInside : List ℕ → Type 0
HasNoBlankLineInside text = (front rest : List ℕ) → text ≢ front ++ (10 ∷ 10 ∷ rest)

-- a text that is read as a checkpoint, and has no blank line inside, is read as the same with up to 100 signature lines
-- after it, if all together have at most 1000000 bytes
abbrev pub SignaturesChangeNothing : Type 0
SignaturesChangeNothing =
    (text : List ℕ) (signatures : List (List ℕ)) (c : CheckpointFields) → checkpoint_in text ≡ Ok c →
    HasNoBlankLineInside text → AreLines Signature signatures → length signatures ≤ 100 →
    length (text ++ signature_lines signatures) ≤ 1000000 → checkpoint_in (text ++ signature_lines signatures) ≡ Ok c

-- a text is read as a proof of entries exactly if it is the text of that proof
abbrev pub EntriesProofsAreReadExactly : Type 0
EntriesProofsAreReadExactly =
    (text : List ℕ) (p : EntriesFields) → (entries_in text ≡ Ok p) ↔ (IsEntriesProof p × (text ≡ entries_text p))

-- a text is read as a consistency proof exactly if it is the text of that proof
abbrev pub ConsistencyProofsAreReadExactly : Type 0
ConsistencyProofsAreReadExactly =
    (text : List ℕ) (p : ConsistencyFields) →
    (consistency_in text ≡ Ok p) ↔ (IsConsistencyProof p × (text ≡ consistency_text p))
