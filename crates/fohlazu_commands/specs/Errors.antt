-- Errors and their exit codes.
use Rattle.std.specs.Prelude.{ℕ, None, Option, Some}
use Rattle.tlog_files.specs.declared.error.ReadError.{ReadError}
use Rattle.tlog_files.specs.declared.error.ReadError.TheVariants.{EndsInsideLine, OutOfMemory as NoFileMemory}
use Rattle.tlog_files.specs.declared.error.ReadError.TheVariants.{Read as FailedRead, TooManyEntries}
use Rattle.tlog_text.specs.declared.error.TextError.{TextError}
use Rattle.tlog_text.specs.declared.error.TextError.TheVariants.{Line as WrongLine, OutOfMemory as NoTextMemory}
use Rattle.tlog_multiproof.specs.declared.error.EntriesError.{EntriesError}
use Rattle.tlog_multiproof.specs.declared.error.EntriesError.TheVariants.{OutOfMemory as NoEntriesMemory}
use Rattle.fohlazu_commands.specs.declared.error.Error.{Error}
use Rattle.fohlazu_commands.specs.declared.error.Error.TheVariants.{OutOfMemory, Read, Refused}
use Rattle.fohlazu_commands.specs.declared.error.Refusal.TheVariants.{CheckpointLine, TooManyEntries as TooMany}
use Rattle.fohlazu_commands.specs.declared.error.Refusal.TheVariants.{EndsInsideLine as InsideLine, Entries, Line}
use Rattle.fohlazu_commands.specs.declared.error.Refusal.TheVariants.{TooLong}
use Rattle.fohlazu_commands.specs.declared.error.Source.{Source}
use Rattle.fohlazu_commands.specs.declared.error.Source.TheVariants.{Checkpoint, File, New, Old, Part, Proof}

-- 2 for a checkpoint or part that is too long or has a wrong line, 1 for any other refusal, 2 for what is no refusal
abbrev pub exit_code_of : Error → ℕ
exit_code_of (Refused Checkpoint (Line line)) = 2
exit_code_of (Refused Old (Line line)) = 2
exit_code_of (Refused New (Line line)) = 2
exit_code_of (Refused (Part k) (Line line)) = 2
exit_code_of (Refused Checkpoint (TooLong most)) = 2
exit_code_of (Refused Old (TooLong most)) = 2
exit_code_of (Refused New (TooLong most)) = 2
exit_code_of (Refused (Part k) (TooLong most)) = 2
exit_code_of (Refused source refusal) = 1
exit_code_of error = 2

-- the input that is refused or cannot be read
abbrev pub source_of : Error → Option Source
source_of (Refused source refusal) = Some source
source_of (Read source) = Some source
source_of error = None

-- the error of an input whose text is wrong
abbrev pub text_error : Source → TextError → Error
text_error source (WrongLine line) = Refused source (Line line)
text_error source NoTextMemory = OutOfMemory

-- the error of a consistency proof whose checkpoint is wrong
abbrev pub checkpoint_error : TextError → Error
checkpoint_error (WrongLine line) = Refused Proof (CheckpointLine line)
checkpoint_error NoTextMemory = OutOfMemory

-- the error of a proof whose entries the verifier refuses
abbrev pub entries_error : EntriesError → Error
entries_error NoEntriesMemory = OutOfMemory
entries_error error = Refused Proof (Entries error)

-- the error of a file that is not read
abbrev pub read_error : ReadError → Error
read_error FailedRead = Read File
read_error TooManyEntries = Refused File TooMany
read_error EndsInsideLine = Refused File InsideLine
read_error NoFileMemory = OutOfMemory
