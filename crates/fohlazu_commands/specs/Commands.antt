-- What a run of the program ends in.
use Rattle.std.specs.Prelude.{◌≡◌, ◌⊎◌, ◌≤◌, ◌<◌, ◌+◌, ◌^◌, ℕ, List, [], ◌∷◌, ◌++◌, length, map, All, Option, None}
use Rattle.std.specs.Prelude.{Some, IfSome, option_map, string_bytes, true, Result, Ok, Err, nat_le}
use Rattle.std.specs.Io.KnownBytes.{Appends}
use Rattle.p3_answers.specs.Answers.{ok_unless, unless}
use Rattle.tlog_text.specs.Lines.{is_origin}
use Rattle.tlog_files.specs.Entries.{IsFraming}
use Rattle.tlog_files.specs.declared.framing.Framing.{Framing}
use Rattle.fohlazu_commands.specs.Outcomes.{and_then, bytes_from, compared, join_outcome, numbers_under, prove_growth}
use Rattle.fohlazu_commands.specs.Outcomes.{checkpoint_with, prove_under, seal_outcome, verify_consistency_outcome}
use Rattle.fohlazu_commands.specs.Outcomes.{verify_requested}
use Rattle.fohlazu_commands.specs.declared.error.Error.{Error}
use Rattle.fohlazu_commands.specs.declared.error.Error.TheVariants.{OutOfMemory, Refused, Write}
use Rattle.fohlazu_commands.specs.declared.error.Refusal.TheVariants.{TooLong}
use Rattle.fohlazu_commands.specs.declared.error.Source.{Source}
use Rattle.fohlazu_commands.specs.declared.error.Source.TheVariants.{Checkpoint, File, New, Old, Part, Proof}
use Rattle.fohlazu_commands.specs.declared.command.Command.{Command}
use Rattle.fohlazu_commands.specs.declared.command.Command.TheVariants.{Join, Prove}
use Rattle.fohlazu_commands.specs.declared.command.Command.TheVariants.{ProveConsistency, Seal, Verify}
use Rattle.fohlazu_commands.specs.declared.command.Command.TheVariants.{VerifyConsistency}
use Rattle.fohlazu_commands.specs.declared.verify.Print.{Print}
use Rattle.fohlazu_commands.specs.declared.verify.Print.TheVariants.{Blocks, Lines, Raw}
use Rattle.fohlazu_commands.specs.declared.verify.Requested.{Requested}
use Rattle.fohlazu_commands.specs.declared.verify.Requested.TheVariants.{All as AllEntries, Numbers}

-- ---- what can be run

-- the numbers of some entries, from 1 on
abbrev pub AreNumbers : List ℕ → Type 0
AreNumbers numbers = (0 < length numbers) × All (λ number. 1 ≤ number) numbers

-- any entries are printed as lines; blocks, if they are requested; raw bytes, if one number is
abbrev pub IsPrint : Print → Requested → Type 0
IsPrint Lines (Numbers numbers) = AreNumbers numbers.items
IsPrint Lines requested = Unit {0}
IsPrint (Blocks size) (Numbers numbers) = AreNumbers numbers.items × ((1 ≤ size) × (size ≤ 2 ^ 30))
IsPrint (Blocks size) AllEntries = (1 ≤ size) × (size ≤ 2 ^ 30)
IsPrint Raw (Numbers numbers) = AreNumbers numbers.items × (length numbers.items ≡ 1)
IsPrint print requested = ⊥

-- a lawful origin, blocks of 1 to 2 ^ 30 bytes, and numbers from 1 on where there are any
abbrev pub IsWellFormed : {Src : Type 0} → Command Src → Type 0
IsWellFormed (Seal origin framing file) = (is_origin (string_bytes origin) ≡ true) × IsFraming framing
IsWellFormed (Prove framing checkpoint file numbers) =
    IsFraming framing × IfSome (option_map (λ ns. ns.items) numbers) AreNumbers
IsWellFormed (Verify print checkpoint proof requested) = IsPrint print requested
IsWellFormed (ProveConsistency framing old new file) = IsFraming framing
IsWellFormed (VerifyConsistency old proof) = Unit {0}
IsWellFormed (Join origin parts) = is_origin (string_bytes origin) ≡ true

-- ---- inputs

-- an input is read as this: as its bytes, which are the known ones if any are known; or not, since a read fails
abbrev pub IsReadAs : Option (List ℕ) → Option (List ℕ) → Type 0
IsReadAs known None = Unit {0}
IsReadAs known (Some bytes) = IfSome known (λ all. bytes ≡ all)

-- a fact holds of what an input is read as
abbrev pub HoldsOfInput : Option (List ℕ) → (Option (List ℕ) → Type 0) → Type 0
HoldsOfInput known Holds = (input : Option (List ℕ)) × IsReadAs known input × Holds input

-- and of what inputs are read as
abbrev pub AreReadAs : List (Option (List ℕ)) → List (Option (List ℕ)) → Type 0
AreReadAs [] [] = Unit {0}
AreReadAs (known ∷ more) (input ∷ inputs) = IsReadAs known input × AreReadAs more inputs
AreReadAs known inputs = ⊥

abbrev pub HoldsOfInputs : List (Option (List ℕ)) → (List (Option (List ℕ)) → Type 0) → Type 0
HoldsOfInputs known Holds = (inputs : List (Option (List ℕ))) × AreReadAs known inputs × Holds inputs

-- the most bytes that a checkpoint or a part may have
abbrev pub max_note_bytes : ℕ
max_note_bytes = 1000000

-- the most bytes that a consistency proof may have: a line of 24 for the old size, 63 lines of 45 for digests, a blank
-- line, and a checkpoint
abbrev pub max_growth_bytes : ℕ
max_growth_bytes = 1002860

-- the bytes of an input that may have at most so many
abbrev pub limited_from : Source → ℕ → Option (List ℕ) → Result (List ℕ) Error
limited_from source limit input =
    and_then (bytes_from source input) (λ bytes.
    ok_unless (unless (nat_le (length bytes) limit) (Refused source (TooLong limit))) bytes)

-- the bytes of a checkpoint or a part
abbrev pub note_from : Source → Option (List ℕ) → Result (List ℕ) Error
note_from source input = limited_from source max_note_bytes input

-- the bytes of a consistency proof
abbrev pub growth_from : Option (List ℕ) → Result (List ℕ) Error
growth_from input = limited_from Proof max_growth_bytes input

-- the bytes of parts, counted from k, if all can be read
abbrev pub bytes_of_parts : ℕ → List (Option (List ℕ)) → Result (List (List ℕ)) Error
bytes_of_parts k [] = Ok []
bytes_of_parts k (input ∷ inputs) =
    and_then (note_from (Part k) input) (λ text. and_then (bytes_of_parts (k + 1) inputs) (λ texts. Ok (text ∷ texts)))

-- ---- the outcome

-- the outcomes by definition, from what the inputs are read as, in this order: a text to print, or an error
abbrev pub seal_file : List ℕ → Framing → Option (List ℕ) → Result (List ℕ) Error
seal_file origin framing file = and_then (bytes_from File file) (seal_outcome origin framing)

abbrev pub prove_file : Framing → (checkpoint file : Option (List ℕ)) → List ℕ → Result (List ℕ) Error
prove_file framing checkpoint file numbers =
    and_then (note_from Checkpoint checkpoint) (λ text. and_then (checkpoint_with text numbers) (λ c.
    and_then (bytes_from File file) (prove_under framing c numbers)))

-- of the requested entries, or of all of the checkpoint
abbrev pub prove_entries : Framing → (checkpoint file : Option (List ℕ)) → Option (List ℕ) → Result (List ℕ) Error
prove_entries framing checkpoint file numbers =
    and_then (note_from Checkpoint checkpoint) (λ text. and_then (numbers_under numbers text)
    (prove_file framing (Some text) file))

abbrev pub verify_proof : Print → (checkpoint proof : Option (List ℕ)) → Requested → Result (List ℕ) Error
verify_proof print checkpoint proof requested =
    and_then (note_from Checkpoint checkpoint) (λ text. and_then (bytes_from Proof proof) (λ shown.
    verify_requested print text shown requested))

abbrev pub prove_file_growth : Framing → (old new file : Option (List ℕ)) → Result (List ℕ) Error
prove_file_growth framing old new file =
    and_then (note_from Old old) (λ one. and_then (note_from New new) (λ other.
    and_then (compared one other) (λ (o, n). and_then (bytes_from File file) (prove_growth framing o n other))))

abbrev pub verify_growth : (old proof : Option (List ℕ)) → Result (List ℕ) Error
verify_growth old proof =
    and_then (note_from Old old) (λ one. and_then (growth_from proof) (λ shown.
    verify_consistency_outcome one shown))

abbrev pub join_parts : List ℕ → List (Option (List ℕ)) → Result (List ℕ) Error
join_parts origin parts = and_then (bytes_of_parts 0 parts) (join_outcome origin)

-- a command has this outcome
abbrev pub HasOutcome : {Src : Type 0} → (Src → Option (List ℕ)) → Command Src → Result (List ℕ) Error → Type 0
HasOutcome remaining (Seal origin framing file) outcome =
    HoldsOfInput (remaining file) (λ bytes. outcome ≡ seal_file (string_bytes origin) framing bytes)
HasOutcome remaining (Prove framing checkpoint file numbers) outcome =
    HoldsOfInput (remaining checkpoint) (λ text. HoldsOfInput (remaining file) (λ bytes.
    outcome ≡ prove_entries framing text bytes (option_map (λ ns. ns.items) numbers)))
HasOutcome remaining (Verify print checkpoint proof requested) outcome =
    HoldsOfInput (remaining checkpoint) (λ text. HoldsOfInput (remaining proof) (λ shown.
    outcome ≡ verify_proof print text shown requested))
HasOutcome remaining (ProveConsistency framing old new file) outcome =
    HoldsOfInput (remaining old) (λ one. HoldsOfInput (remaining new) (λ other. HoldsOfInput (remaining file) (λ bytes.
    outcome ≡ prove_file_growth framing one other bytes)))
HasOutcome remaining (VerifyConsistency old proof) outcome =
    HoldsOfInput (remaining old) (λ one. HoldsOfInput (remaining proof) (λ shown. outcome ≡ verify_growth one shown))
HasOutcome remaining (Join origin parts) outcome =
    HoldsOfInputs (map remaining parts.items) (λ texts. outcome ≡ join_parts (string_bytes origin) texts)

-- a run of this outcome ends so: the text is written, or after a failed write as much of it as was written; an error
-- is returned; or memory runs out
abbrev pub EndsIn : {V : Type 0} → Option (List ℕ) → Option (List ℕ) → Result (List ℕ) Error → Result V Error → Type 0
EndsIn old new (Ok text) (Ok done) = Appends old new text
EndsIn old new (Ok text) (Err error) =
    (error ≡ OutOfMemory)
    ⊎ ((error ≡ Write) × ((front : List ℕ) × (rest : List ℕ) × (text ≡ front ++ rest) × Appends old new front))
EndsIn old new (Err wanted) (Ok done) = ⊥
EndsIn old new (Err wanted) (Err error) = (error ≡ OutOfMemory) ⊎ (error ≡ wanted)
