-- Reads that fail.
use Rattle.std.specs.Prelude.{Option, None, Some}
use Rattle.std.specs.declared.io.ErrorKind.{ErrorKind}
use Rattle.std.specs.declared.io.ErrorKind.TheVariants.{Interrupted, OutOfMemory as NoMemory}
use Rattle.tlog_files.specs.declared.error.ReadError.{ReadError}
use Rattle.tlog_files.specs.declared.error.ReadError.TheVariants.{OutOfMemory, Read}

-- what ends the reading after a read that failed so: nothing if it was interrupted, and is tried again
abbrev pub failure_of : ErrorKind → Option ReadError
failure_of Interrupted = None
failure_of NoMemory = Some OutOfMemory
failure_of kind = Some Read
