-- What the program answers.
use Rattle.std.specs.Prelude.{◌≡◌, ◌⊎◌, ◌↔◌, ℕ, ◌+◌, ◌<◌, List, [], ◌∷◌, ◌++◌, length, map, replicate, flat_map, All}
use Rattle.std.specs.Prelude.{Option, Some, IfSome, IfErr, OnOk, OnErr, Result, Ok, Err}
use Rattle.std.specs.Io.KnownBytes.{Appends}
use Rattle.whole_writes.specs.Prefixes.{AppendsPrefix}
use Rattle.p3_hashes.specs.Fold.{fold_hash, fold_compress}
use Rattle.p3_hashes.specs.Sha.{sha256_rows, sha256_nodes}
use Rattle.p3_support.specs.Batches.{greatest}
use Rattle.p3_merkle_core.specs.Refusals.{pruned_len_refusal}
use Rattle.p3_merkle_core.specs.Pruning.{boundary_by, pruned_len}
use Rattle.p3_merkle_core.specs.Caps.{cap_layer}
use Rattle.p3_merkle_core.specs.Geometry.{Shape, IsLawful}
use Rattle.p3_merkle_core.specs.Nodes.{Batch, Functions, functions_of, layer, layers, shape}
use Rattle.p3_merkle_core.specs.Openings.{honest_rows, node_in}
use Rattle.p3_merkle_core.specs.declared.error.MerkleTreeError.{MerkleTreeError}
use Rattle.p3_merkle_core.specs.declared.error.MerkleTreeError.TheVariants.{OutOfMemory}
use Rattle.mmcs_engine.specs.declared.command.Action.{Action}
use Rattle.mmcs_engine.specs.declared.command.Action.TheVariants.{Commit, Open, Check}
use Rattle.mmcs_engine.specs.declared.command.CapChoice.{CapChoice}
use Rattle.mmcs_engine.specs.declared.command.Command.{Command}
use Rattle.mmcs_engine.specs.declared.command.HashName.{HashName}
use Rattle.mmcs_engine.specs.declared.command.HashName.TheVariants.{Fold, Sha256}
use Rattle.mmcs_engine.specs.declared.fault.Fault.{Fault}
use Rattle.mmcs_engine.specs.declared.fault.Fault.TheVariants.{Usage, Read, Tree, Write}
use Rattle.mmcs_engine.specs.Input.{pieces_of, IsFirstFault, StandsFor}
use Rattle.mmcs_engine.specs.Matrices.{batch_of_rows}
use Rattle.mmcs_engine.specs.Text.{digest_lines, hex_lines, ok_line, query_lines}
use Rattle.mmcs_engine.specs.Args.{arity_number, max_word, AreNoCommand, AreArgs}

-- ---- what is printed

-- the hash and the compression of `fold`, with digests of one word
abbrev pub fold_functions : Functions ℕ ℕ
fold_functions = functions_of (fold_hash 1) (fold_compress 1) (0 ∷ [])

-- the hash and the compression of `sha256`, with digests of 32 bytes
abbrev pub sha_functions : Functions ℕ ℕ
sha_functions = functions_of sha256_rows sha256_nodes (replicate 32 0)

-- the functions of a hash
abbrev pub functions_of_hash : HashName → Functions ℕ ℕ
functions_of_hash Fold = fold_functions
functions_of_hash Sha256 = sha_functions

-- how many digits a word of its digests has in hexadecimal
abbrev pub hex_digits : HashName → ℕ
hex_digits Fold = 8
hex_digits Sha256 = 2

-- the layer that is the cap
abbrev pub layer_of_cap : CapChoice → Shape → ℕ
layer_of_cap cap s = cap_layer s cap.rule cap.height

-- what an action prints for indices of a batch, under a hash, where the cap is layer t: for `commit` the cap; for
-- `open` the rows of each index and the proof digests for all of them; for `check` the count of proof digests
abbrev pub text_of : HashName → Action → List ℕ → Batch ℕ → ℕ → List ℕ
text_of hash Commit indices b t = hex_lines (hex_digits hash) (layer (functions_of_hash hash) b t)
text_of hash Open indices b t =
    flat_map (λ i. query_lines i (honest_rows b i)) indices
    ++ digest_lines (hex_digits hash)
    (boundary_by (node_in [] (layers (functions_of_hash hash) b)) (shape b) indices t)
text_of hash Check indices b t = ok_line (pruned_len (shape b) indices t)

-- the batch of a command and some matrices
abbrev pub batch_of_command : Command → List (List (List ℕ)) → Batch ℕ
batch_of_command command matrices = batch_of_rows (arity_number command.arity) matrices

-- what a command prints for matrices and indices
abbrev pub output_of : Command → List ℕ → List (List (List ℕ)) → List ℕ
output_of command indices matrices =
    let b = batch_of_command command matrices in
    text_of command.hash command.action indices b (layer_of_cap command.cap (shape b))

-- ---- what is refused

-- the heights of some matrices
abbrev pub heights_of_rows : List (List (List ℕ)) → List ℕ
heights_of_rows matrices = map length matrices

-- why the tree refuses matrices or indices: the heights, else the highest index
abbrev pub refusal_of : Command → List ℕ → List (List (List ℕ)) → Option MerkleTreeError
refusal_of command indices matrices = pruned_len_refusal (shape (batch_of_command command matrices)) indices

-- the tree takes matrices and indices: lawful heights, and indices below the greatest of them
abbrev pub AreTaken : List ℕ → List (List (List ℕ)) → Type 0
AreTaken indices matrices = let hs = heights_of_rows matrices in IsLawful hs × All (λ i. i < greatest hs) indices

-- ---- the outcome

-- the outcome of a command with indices for an input: a text, where the tree takes the matrices and indices; else its
-- refusal, or the error of the first faulty line
abbrev pub IsReply : Command → List ℕ → List ℕ → Result (List ℕ) Fault → Type 0
IsReply command indices input (Ok text) =
    (matrices : List (List (List ℕ))) × StandsFor (max_word command.hash + 1) input matrices ×
    AreTaken indices matrices × (text ≡ output_of command indices matrices)
IsReply command indices input (Err (Tree e)) =
    (matrices : List (List (List ℕ))) × StandsFor (max_word command.hash + 1) input matrices ×
    (refusal_of command indices matrices ≡ Some e)
IsReply command indices input (Err fault) = IsFirstFault (max_word command.hash + 1) (pieces_of input) fault

-- the outcome of arguments and an input: `Usage`, where the arguments are no command
abbrev pub IsOutcome : List (List ℕ) → List ℕ → Result (List ℕ) Fault → Type 0
IsOutcome args input (Err Usage) = AreNoCommand args
IsOutcome args input outcome =
    (command : Command) × (indices : List ℕ) × AreArgs args command indices × IsReply command indices input outcome

-- a fact holds of the bytes of the input, which are the known ones if any are known
abbrev pub HoldsOfInput : Option (List ℕ) → (List ℕ → Type 0) → Type 0
HoldsOfInput known Holds = (input : List ℕ) × IfSome known (λ all. input ≡ all) × Holds input

-- an error is the outcome for the bytes of the input, unless memory, a read or a write failed
abbrev pub IsReported : List (List ℕ) → Option (List ℕ) → Fault → Type 0
IsReported args known Read = Unit {0}
IsReported args known Write = Unit {0}
IsReported args known (Tree e) = (e ≡ OutOfMemory) ⊎ HoldsOfInput known (λ input. IsOutcome args input (Err (Tree e)))
IsReported args known fault = HoldsOfInput known (λ input. IsOutcome args input (Err fault))

-- the outcome for the bytes of the input is a text, and Holds holds of it
abbrev pub Prints : List (List ℕ) → Option (List ℕ) → (List ℕ → Type 0) → Type 0
Prints args known Holds =
    HoldsOfInput known (λ input. (text : List ℕ) × IsOutcome args input (Ok text) × Holds text)

-- the result is this one, unless a read failed or memory ran out
abbrev pub IsUnlessFailed : Result (Unit {0}) Fault → Result (Unit {0}) Fault → Type 0
IsUnlessFailed result due = (result ≡ due) ⊎ ((result ≡ Err Read) ⊎ (result ≡ Err (Tree OutOfMemory)))

-- the result that an outcome ends in: Ok for a text, unless the write fails; an error for itself
abbrev pub EndsIn : Result (List ℕ) Fault → Result (Unit {0}) Fault → Type 0
EndsIn (Ok text) result = (result ≡ Err Write) ⊎ IsUnlessFailed result (Ok tt)
EndsIn (Err fault) result = IsUnlessFailed result (Err fault)

-- what `run` returns for arguments, with its reader and writer before and after; `remaining` and `contents` are their
-- bytes, where they are known
pub record IsAnswer {S D : Type 0} (remaining : S → Option (List ℕ)) (contents : D → Option (List ℕ))
    (args : List (List ℕ)) (input input_left : S) (output output_left : D)
    (result : Result (Unit {0}) Fault) : Type 0 where
  -- `Usage` comes exactly where the arguments are no command, and then nothing is read
  pub usage : (result ≡ Err Usage) ↔ AreNoCommand args
  pub unread : result ≡ Err Usage → input_left ≡ input
  -- no error but a failed write leaves anything written
  pub silent : OnErr result ((result ≡ Err Write) ⊎ (output_left ≡ output))
  -- at Ok the outcome is a text, and it was written and nothing else
  pub ok : OnOk result (Prints args (remaining input) (λ text. Appends (contents output) (contents output_left) text))
  -- a write comes last: it fails only where the outcome is a text, and then the first bytes of it were written
  pub last : result ≡ Err Write →
      Prints args (remaining input) (λ text. AppendsPrefix (contents output) (contents output_left) text)
  -- an error is the outcome
  pub fault : IfErr result (IsReported args (remaining input))
  -- the outcome is what the call ends in
  pub ends : (bytes : List ℕ) (outcome : Result (List ℕ) Fault) → remaining input ≡ Some bytes →
      IsOutcome args bytes outcome → EndsIn outcome result
