-- Proofs of entries of a file.
use Rattle.std.proofs.Common.{◌≡◌, ◌≤◌, ◌<◌, ◌-◌, ◌*◌, ◌^◌, ℕ, List, [], ◌∷◌, ap, arith, length, map, get_or, refl}
use Rattle.std.proofs.Common.{subst, sym, zip, Option, None, Some, Result, Ok, Err, Vec, Global, ⊎_elim, true, false}
use Rattle.std.proofs.Common.{All, filter, max, nat_le, nat_lt, leb-true, lt-ltb}
use Rattle.std.proofs.Math.Nat.{le-max_right}
use Rattle.std.proofs.lemmas.List.FromFn.{get_or-range_with_len, length-range_with_len}
use Rattle.std.proofs.lemmas.Bool.{cases_Bool}
use Rattle.std.proofs.lemmas.List.{get_or-map, length-map}
use Rattle.std.proofs.lemmas.List.Sums.{list_all-from_AllPass}
use Rattle.p3_answers.specs.Answers.{first_of}
use Rattle.p3_merkle_core.specs.Geometry.{levels}
use Rattle.p3_merkle_core.specs.Pruning.{boundary}
use Rattle.p3_answers.proofs.AnswerFacts.{each_none, unless_none}
use Rattle.sha2.specs.Sha256.{sha256}
use Rattle.tlog.specs.Rfc9162.{Hash, leaf_hash}
use Rattle.tlog.specs.Verdicts.{size_limit}
use Rattle.tlog_tree.specs.Trees.{all_there, node_at, values_at}
use Rattle.tlog_tree.specs.declared.node_id.NodeId.{NodeId}
use Rattle.tlog_multiproof.specs.Entries.{is_node, proof_nodes}
use Rattle.tlog_multiproof.specs.Instance.{log_shape, nodes_at}
use Rattle.tlog_text.specs.Texts.{CheckpointFields, EntryFields}
use Rattle.tlog_text.specs.Reading.{checkpoint_in}
use Rattle.tlog_files.specs.Entries.{entry_at, wanted_of}
use Rattle.tlog_files.specs.declared.framing.Framing.{Framing}
use Rattle.tlog_files.specs.declared.reading.ReadLog.{ReadLog}
use Rattle.tlog_text.proofs.NoteLaws.{notes}
use Rattle.fohlazu_commands.specs.Commands.{AreNumbers, HoldsOfInput}
use Rattle.fohlazu_commands.specs.Inner.{entry_of, HasEntries, ReadsAs}
use Rattle.fohlazu_commands.specs.Outcomes.{all_numbers}
use Rattle.fohlazu_commands.specs.Outcomes.{bytes_in, Gives, and_then, bytes_from, entries_under, number_refusal}
use Rattle.fohlazu_commands.specs.Outcomes.{said_by}
use Rattle.fohlazu_commands.specs.declared.error.Error.{Error}
use Rattle.fohlazu_commands.specs.declared.error.Source.{Source}
use Rattle.fohlazu_commands.specs.declared.error.Source.TheVariants.{File}
use Rattle.fohlazu_commands.proofs.OutcomeFacts.{are_under, goes, said_ok, stepped, stops, whole}

-- ---- entries under a checkpoint are as many as it has

pub under_size : (framing : Framing) (c : CheckpointFields) (input : Option (List ℕ)) (entries : List (List ℕ)) →
    and_then (bytes_from File input) (entries_under framing c) ≡ Ok entries → length entries ≡ c.size
under_size framing c input entries is =
    let read = stepped (bytes_from File input) (entries_under framing c) entries is in
    (are_under framing c read.0 entries read.2).size

-- numbers that are not refused
pub numbers_inside : (size : ℕ) (numbers : List ℕ) → first_of (number_refusal size) numbers ≡ None →
    All (λ n. n ≤ size) numbers
numbers_inside size numbers none k d within =
    let n = get_or numbers k d in
    leb-true n size (unless_none (nat_le n size) _ (each_none (number_refusal size) numbers k d none within))

-- those of all entries of a log
pub all_are_numbers : (size : ℕ) → AreNumbers (all_numbers size)
all_are_numbers size =
    let n = max size 1 in
    let len = length-range_with_len 1 n in (
      omega (arith, len, le-max_right size 1),
      λ k d within. omega (arith, get_or-range_with_len 1 n k d (omega (arith, within, len))),
    )

-- ---- digests

-- nodes with entries below them have values
pub nodes_there : (hash : Hash) (L : List (List ℕ)) (slots : List (ℕ × ℕ)) →
    let nodes = nodes_at (filter (is_node (length L)) slots) in
    values_at hash L nodes ≡ all_there (map (λ (node : NodeId). node_at hash L node.layer node.slot) nodes)
nodes_there hash L [] = refl
nodes_there hash L (p ∷ ps) =
    ⊎_elim
    (λ (yes : nat_lt (p.1 * 2 ^ p.0) (length L) ≡ true).
    rw yes (rw yes (ap (λ xs. Some (node_at hash L p.0 p.1) ∷ xs) (nodes_there hash L ps))))
    (λ (no : nat_lt (p.1 * 2 ^ p.0) (length L) ≡ false). rw no (nodes_there hash L ps))
    (cases_Bool (nat_lt (p.1 * 2 ^ p.0) (length L)))

-- ---- entries

pub numbered_are : (entries : List (List ℕ)) (numbers : List ℕ) →
    map entry_of (zip numbers (map (entry_at entries) (map (λ n. n - 1) numbers)))
    ≡ map (λ n. record { number = n; bytes = entry_at entries (n - 1) }) numbers
numbered_are entries [] = refl
numbered_are entries (n ∷ ns) =
    ap (λ (es : List EntryFields). record { number = n; bytes = entry_at entries (n - 1) } ∷ es)
    (numbered_are entries ns)

-- numbers from 1 to the size are indices below it
pub within_size : (size : ℕ) (numbers : List ℕ) → All (λ n. 1 ≤ n) numbers → All (λ n. n ≤ size) numbers →
    All (λ index. index < size) (map (λ n. n - 1) numbers)
within_size size numbers from to k d within =
    let room : k < length numbers = omega (arith, length-map numbers (λ (n : ℕ). n - 1)) in
    let first : 1 ≤ get_or numbers k 0 = from k 0 room in
    let last : get_or numbers k 0 ≤ size = to k 0 room in
    let below : get_or numbers k 0 - 1 < size = omega arith in
    subst (λ (m : ℕ). m < size) (sym (get_or-map (λ (n : ℕ). n - 1) numbers k 0 d room)) below

pub wanted_is : (entries : List (List ℕ)) (numbers : List ℕ) (size : ℕ) → length entries ≡ size →
    All (λ n. 1 ≤ n) numbers → All (λ n. n ≤ size) numbers →
    wanted_of entries (map (λ n. n - 1) numbers) ≡ map (entry_at entries) (map (λ n. n - 1) numbers)
wanted_is entries numbers size is from to =
    let within = within_size size numbers from to in
    let all = list_all-from_AllPass (λ index. nat_lt index size) (map (λ n. n - 1) numbers)
    (λ k d h. lt-ltb _ size (within k d h)) in
    rw (is, all) refl

-- ---- the outcome under a checkpoint, by what is read

module _ {W V : Type 0} (read : List ℕ → Result (List (List ℕ)) Error) (next : List (List ℕ) → Result W Error)
    (view : V → W) (known : Option (List ℕ)) (nodes : List NodeId) (wanted : List ℕ) where
  pub whole_stops : (result : Result V Error) (e : Error) → result ≡ Err e →
      HoldsOfInput known (λ input. ReadsAs nodes wanted (Err e) (and_then (bytes_from File input) read)) →
      HoldsOfInput known (λ input. Gives view result (whole read next input))
  whole_stops result e is reads = rw is (stops read next known e reads)

  pub whole_goes : (log : ReadLog) (result : Result V Error) →
      HoldsOfInput known (λ input. ReadsAs nodes wanted (Ok log) (and_then (bytes_from File input) read)) →
      ((input : Option (List ℕ)) (entries : List (List ℕ)) → and_then (bytes_from File input) read ≡ Ok entries →
      HasEntries nodes wanted entries log → Gives view result (next entries)) →
      HoldsOfInput known (λ input. Gives view result (whole read next input))
  whole_goes log result reads each =
      goes read next known nodes wanted log (Gives view result) reads (λ bytes entries. each (Some bytes) entries)

-- a text that is made
pub gives_text : (text : Vec ℕ Global) (own : List ℕ) → text.items ≡ own → Gives bytes_in (Ok text) (Ok own)
gives_text text own is = ap Ok (sym is)

-- ---- the size of a checkpoint

pub limit_of : (source : Source) (text : List ℕ) (c : CheckpointFields) → said_by source (checkpoint_in text) ≡ Ok c →
    c.size ≤ size_limit
limit_of source text c is =
    let found = (notes text c).0 (said_ok source (checkpoint_in text) c is) in found.2.checkpoint.size

-- the values of the nodes of a proof are there
pub values_there : (entries : List (List ℕ)) (indices : List ℕ) →
    values_at sha256 (map (leaf_hash sha256) entries) (proof_nodes (length entries) indices)
    ≡ all_there (map (λ (node : NodeId). node_at sha256 (map (leaf_hash sha256) entries) node.layer node.slot)
    (proof_nodes (length entries) indices))
values_there entries indices =
    let s = log_shape (length entries) in
    let slots = boundary s indices (levels s) in
    subst (λ (n : ℕ). values_at sha256 (map (leaf_hash sha256) entries) (nodes_at (filter (is_node n) slots))
    ≡ all_there (map (λ (node : NodeId). node_at sha256 (map (leaf_hash sha256) entries) node.layer node.slot)
    (nodes_at (filter (is_node n) slots)))) (length-map entries (leaf_hash sha256))
    (nodes_there sha256 (map (leaf_hash sha256) entries) slots)
