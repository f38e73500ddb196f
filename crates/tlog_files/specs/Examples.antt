-- Files and their entries, which the checker computes.
use Rattle.std.specs.Prelude.{◌≡◌, true, false, [], ◌∷◌, None, Some, refl}
use Rattle.tlog_files.specs.declared.framing.Framing.TheVariants.{Lines, Blocks}
use Rattle.tlog_files.specs.declared.framing.PartialLine.TheVariants.{Refuse, LeaveOut, Include}
use Rattle.tlog_files.specs.declared.error.ReadError.TheVariants.{EndsInsideLine}
use Rattle.tlog_files.specs.Entries.{entries_in, is_refused, read_refusal, wanted_of}

-- ---- lines: 97, 98 and 99 are `a`, `b` and `c`; 10 is an LF, 13 a CR

-- no bytes, no lines
pub nothing : entries_in (Lines Include) [] ≡ []
nothing = refl

pub whole : entries_in (Lines Refuse) (97 ∷ 98 ∷ 10 ∷ 99 ∷ 10 ∷ []) ≡ (97 ∷ 98 ∷ []) ∷ (99 ∷ []) ∷ []
whole = refl

-- a partial line
pub included : entries_in (Lines Include) (97 ∷ 98 ∷ 10 ∷ 99 ∷ []) ≡ (97 ∷ 98 ∷ []) ∷ (99 ∷ []) ∷ []
included = refl

pub left_out : entries_in (Lines LeaveOut) (97 ∷ 98 ∷ 10 ∷ 99 ∷ []) ≡ (97 ∷ 98 ∷ []) ∷ []
left_out = refl

pub refused : is_refused (Lines Refuse) None (97 ∷ 98 ∷ 10 ∷ 99 ∷ []) ≡ true
refused = refl

-- what follows the limit is not read
pub read_no_further : is_refused (Lines Refuse) (Some 1) (97 ∷ 98 ∷ 10 ∷ 99 ∷ []) ≡ false
read_no_further = refl

pub read_further : is_refused (Lines Refuse) (Some 2) (97 ∷ 98 ∷ 10 ∷ 99 ∷ []) ≡ true
read_further = refl

pub why_refused : read_refusal (Lines Refuse) None (97 ∷ 98 ∷ 10 ∷ 99 ∷ []) ≡ Some EndsInsideLine
why_refused = refl

-- an empty line is an entry of no bytes, also the last one
pub empty_lines : entries_in (Lines Include) (10 ∷ 97 ∷ 10 ∷ 10 ∷ []) ≡ [] ∷ (97 ∷ []) ∷ [] ∷ []
empty_lines = refl

-- a CR stays
pub returned : entries_in (Lines Refuse) (97 ∷ 13 ∷ 10 ∷ []) ≡ (97 ∷ 13 ∷ []) ∷ []
returned = refl

-- ---- blocks

pub no_blocks : entries_in (Blocks 2) [] ≡ []
no_blocks = refl

-- the last may be shorter
pub two_and_one : entries_in (Blocks 2) (1 ∷ 2 ∷ 3 ∷ []) ≡ (1 ∷ 2 ∷ []) ∷ (3 ∷ []) ∷ []
two_and_one = refl

pub two_twice : entries_in (Blocks 2) (1 ∷ 10 ∷ 3 ∷ 4 ∷ []) ≡ (1 ∷ 10 ∷ []) ∷ (3 ∷ 4 ∷ []) ∷ []
two_twice = refl

-- ---- wanted entries

pub wanted : wanted_of ((97 ∷ []) ∷ (98 ∷ []) ∷ []) (1 ∷ 0 ∷ 1 ∷ []) ≡ (98 ∷ []) ∷ (97 ∷ []) ∷ (98 ∷ []) ∷ []
wanted = refl

pub not_there : wanted_of ((97 ∷ []) ∷ []) (0 ∷ 1 ∷ []) ≡ []
not_there = refl
