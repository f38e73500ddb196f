-- Outcomes step by step: the entries of a file, alone and under a checkpoint; digests.
use Rattle.std.proofs.Common.{◌≡◌, ◌≤◌, ◌∙◌, ℕ, List, [], ◌∷◌, ◌++◌, ap, inl, inr, length, refl, subst, sym, ⊎_elim}
use Rattle.std.proofs.Common.{Option, None, Some, Result, Ok, Err, get_or, take, arith, ◌<◌, ◌+◌, ◌⊎◌, Bool, true}
use Rattle.std.proofs.Common.{false, if◌then◌else◌, nat_le, not, le-leb, ◌==◌, zero, suc, eq-eqb, length-append, ◌&&◌}
use Rattle.std.proofs.Common.{All, slice_index, eqb-true, le-ltb, leb-true, length-take, length-take-le, take_at, ◌-◌}
use Rattle.std.proofs.lemmas.List.Elements.{All-append, All-cons, All-head, All-nil, All-tail, All-get_or}
use Rattle.std.proofs.Common.{append-nil, ne_eqb}
use Rattle.std.proofs.lemmas.Bool.{not-true, and_from, cases_eq}
use Rattle.std.proofs.lemmas.List.{get_or-map, length-map, take_more}
use Rattle.std.proofs.lemmas.List.Sums.{list_all-from_AllPass}
use Rattle.std.specs.Int.{byte_at, byte_len, bytes_high_first, to_be_bytes, w32}
use Rattle.std.specs.Cmp.Lexicographic.{bytes_decides}
use Rattle.std.specs.List.{concat, flat_map}
use Rattle.p3_answers.proofs.AnswerFacts.{none_parts, unless_none}
use Rattle.p3_answers.specs.Answers.{first_some, ok_unless, unless, first_of}
use Rattle.tlog.proofs.Roots.{root_is as root_by}
use Rattle.tlog.specs.Rfc9162.{root_of, leaf_hash, mth}
use Rattle.tlog.specs.Verdicts.{size_limit, is_same}
use Rattle.tlog_tree.specs.Trees.{all_there}
use Rattle.tlog_tree.specs.declared.node_id.NodeId.{NodeId}
use Rattle.tlog_files.proofs.FramedFiles.{block_is, entries_grow, lines_lack, no_entries, no_rest, rest_grows}
use Rattle.tlog_files.specs.Entries.{entries_in, first_entries, is_refused, read_refusal, HoldsOfFile}
use Rattle.tlog_files.specs.Entries.{partial_of, refuses, rest_of, entry_at, IsFraming}
use Rattle.tlog_files.specs.Inner.Splitting.{LacksFeed}
use Rattle.tlog_files.specs.declared.framing.Framing.{Framing}
use Rattle.tlog_files.specs.declared.framing.Framing.TheVariants.{Blocks as InBlocks, Lines as InLines}
use Rattle.tlog_files.specs.declared.error.ReadError.{ReadError}
use Rattle.tlog_files.specs.declared.error.ReadError.TheVariants.{EndsInsideLine, TooManyEntries}
use Rattle.tlog_files.specs.declared.reading.ReadLog.{ReadLog}
use Rattle.sha2.proofs.Facts256.{length-sha256}
use Rattle.sha2.specs.Sha256.{sha256, digest_bytes}
use Rattle.tlog_text.proofs.Base64Facts.{all_bytes}
use Rattle.tlog_text.specs.Texts.{CheckpointFields, IsDigest}
use Rattle.tlog_text.specs.declared.error.TextError.{TextError}
use Rattle.fohlazu_commands.specs.Outcomes.{and_then, bytes_from, entries_read, tree_refusal, checkpoint_of}
use Rattle.fohlazu_commands.specs.Outcomes.{cut_refusal}
use Rattle.fohlazu_commands.specs.Laws.{BeginsWith, EndsWithEntry, EndWithEntries, FilesGrow, FitsCut}
use Rattle.fohlazu_commands.specs.Commands.{HoldsOfInput, IsReadAs}
use Rattle.fohlazu_commands.specs.Errors.{read_error}
use Rattle.fohlazu_commands.specs.Inner.{HasEntries, ReadsAs}
use Rattle.fohlazu_commands.specs.Outcomes.{entries_under, said_by, is_printable}
use Rattle.fohlazu_commands.specs.declared.error.Error.{Error}
use Rattle.fohlazu_commands.specs.declared.error.Error.TheVariants.{OutOfMemory, Refused}
use Rattle.fohlazu_commands.specs.declared.error.Refusal.TheVariants.{EndsInsideLine as InsideLine}
use Rattle.fohlazu_commands.specs.declared.error.Refusal.TheVariants.{TooManyEntries as TooMany}
use Rattle.fohlazu_commands.specs.declared.error.Source.{Source}
use Rattle.fohlazu_commands.specs.declared.error.Source.TheVariants.{File}
use Rattle.fohlazu_commands.specs.declared.verify.Print.{Print}
use Rattle.fohlazu_commands.specs.declared.verify.Print.TheVariants.{Blocks, Lines, Raw}

-- what holds of a file holds of bytes that the file is read as
pub file_known : (known : Option (List ℕ)) (P : List ℕ → Type 0) → HoldsOfFile known P →
    (bytes : List ℕ) × IsReadAs known (Some bytes) × P bytes
file_known None P holds = (holds.0, tt, holds.1)
file_known (Some bytes) P holds = (bytes, refl, holds)

both_pass : (few refused : Bool) → few ≡ true → refused ≡ false →
    ◌≡◌ {A = Option Error} (first_some (unless few (Refused File TooMany)
    ∷ unless (not refused) (Refused File InsideLine) ∷ [])) None
both_pass few refused is not_refused = rw (is, not_refused) refl

-- a file that is not refused
pub read_ok : (framing : Framing) (limit : Option ℕ) (bytes : List ℕ) →
    length (first_entries limit (entries_in framing bytes)) ≤ size_limit → is_refused framing limit bytes ≡ false →
    entries_read framing limit bytes ≡ Ok (first_entries limit (entries_in framing bytes))
read_ok framing limit bytes few not_refused =
    ap (λ r. ok_unless r (first_entries limit (entries_in framing bytes)))
    (both_pass (nat_le (length (first_entries limit (entries_in framing bytes))) size_limit)
    (is_refused framing limit bytes)
    (le-leb (length (first_entries limit (entries_in framing bytes))) size_limit few) not_refused)

some_refused : (few refused : Bool) (e : ReadError) →
    (if few then (if refused then Some EndsInsideLine else None) else Some TooManyEntries) ≡ Some e →
    first_some (unless few (Refused File TooMany) ∷ unless (not refused) (Refused File InsideLine) ∷ [])
    ≡ Some (read_error e)
some_refused true true e is = let same : EndsInsideLine ≡ e = cc in ap (λ x. Some (read_error x)) same
some_refused true false e is = cc
some_refused false refused e is = let same : TooManyEntries ≡ e = cc in ap (λ x. Some (read_error x)) same

-- a file that is refused
pub read_err : (framing : Framing) (limit : Option ℕ) (bytes : List ℕ) (e : ReadError) →
    read_refusal framing limit bytes ≡ Some e → entries_read framing limit bytes ≡ Err (read_error e)
read_err framing limit bytes e is =
    ap (λ r. ok_unless r (first_entries limit (entries_in framing bytes)))
    (some_refused (nat_le (length (first_entries limit (entries_in framing bytes))) size_limit)
    (is_refused framing limit bytes) e is)

-- ---- a step after the entries are read

module _ {W : Type 0} (read : List ℕ → Result (List (List ℕ)) Error) (next : List (List ℕ) → Result W Error) where
  abbrev pub whole : Option (List ℕ) → Result W Error
  whole input = and_then (bytes_from File input) (λ bytes. and_then (read bytes) next)

  -- they are not read
  pub stops : (known : Option (List ℕ)) (e : Error) →
      HoldsOfInput known (λ input. (e ≡ OutOfMemory) ⊎ (and_then (bytes_from File input) read ≡ Err e)) →
      HoldsOfInput known (λ input. (e ≡ OutOfMemory) ⊎ (whole input ≡ Err e))
  stops known e (None, is, why) = (None, is, ⊎_elim inl (λ failed. inr (ap (λ r. and_then r next) failed)) why)
  stops known e (Some bytes, is, why) =
      (Some bytes, is, ⊎_elim inl (λ failed. inr (ap (λ r. and_then r next) failed)) why)

  -- they are read
  pub goes : (known : Option (List ℕ)) (nodes : List NodeId) (wanted : List ℕ) (log : ReadLog)
      (Good : Result W Error → Type 0) →
      HoldsOfInput known (λ input. ReadsAs nodes wanted (Ok log) (and_then (bytes_from File input) read)) →
      ((bytes : List ℕ) (entries : List (List ℕ)) → read bytes ≡ Ok entries → HasEntries nodes wanted entries log →
      Good (next entries)) → HoldsOfInput known (λ input. Good (whole input))
  goes known nodes wanted log Good (None, is, (entries, failed, has)) each = absurd cc
  goes known nodes wanted log Good (Some bytes, is, (entries, read_is, has)) each =
      (Some bytes, is, subst (λ r. Good (and_then r next)) (sym read_is) (each bytes entries read_is has))

-- the entries of a checkpoint, if they are
abbrev pub checked : CheckpointFields → List (List ℕ) → Result (List (List ℕ)) Error
checked c first = ok_unless (tree_refusal c (length first) (root_of sha256 first)) first

pub checked_is : (c : CheckpointFields) (tree : ℕ × List ℕ) (first : List (List ℕ)) (refusal : Option Error) →
    tree ≡ (length first, root_of sha256 first) → tree_refusal c tree.0 tree.1 ≡ refusal →
    checked c first ≡ ok_unless refusal first
checked_is c tree first refusal is refused =
    ap (λ r. ok_unless r first) (ap (λ (t : ℕ × List ℕ). tree_refusal c t.0 t.1) (sym is) ∙ refused)

-- ---- digests that are there

-- the next digest
pub there_at : (digests : List (Option (List ℕ))) (all : List (List ℕ)) (k : ℕ) → digests ≡ all_there all →
    k < length digests → get_or digests k None ≡ Some (get_or all k [])
there_at digests all k is within =
    let some = λ (digest : List ℕ). Some digest in
    ap (λ ds. get_or ds k None) is ∙ get_or-map some all k [] None (omega (arith, ap length is, length-map all some))

pub there_more : (digests : List (Option (List ℕ))) (all : List (List ℕ)) (k : ℕ) (old new : List (List ℕ))
    (digest : List ℕ) → digests ≡ all_there all → k < length digests → old ≡ take k all → new ≡ old ++ digest ∷ [] →
    get_or digests k None ≡ Some digest → new ≡ take (k + 1) all
there_more digests all k old new digest is within old_is new_is digest_is =
    let there = there_at digests all k is within in
    let same : digest ≡ get_or all k [] = cc (there, digest_is) in
    let room : k < length all = omega (arith, ap length is, length-map all (λ (digest : List ℕ). Some digest)) in
    new_is ∙ (λ i. old_is i ++ same i ∷ []) ∙ sym (take_more all k [] room)

-- ---- results

pub stepped : {V W : Type 0} (r : Result V Error) (next : V → Result W Error) (w : W) → and_then r next ≡ Ok w →
    (v : V) × (r ≡ Ok v) × (next v ≡ Ok w)
stepped (Ok v) next w is = (v, refl, is)
stepped (Err error) next w is = absurd cc

pub ok_none : {V E : Type 0} (r : Option E) (v w : V) → ok_unless r v ≡ Ok w → (r ≡ None) × (v ≡ w)
ok_none None v w is = (refl, cc)
ok_none (Some e) v w is = absurd cc

pub said_ok : {V : Type 0} (source : Source) (r : Result V TextError) (v : V) → said_by source r ≡ Ok v → r ≡ Ok v
said_ok source (Ok w) v is = let same : w ≡ v = cc in ap Ok same
said_ok source (Err e) v is = absurd cc

-- nothing is refused of each
pub none_of : {X E : Type 0} (h : X → Option E) (xs : List X) → All (λ x. h x ≡ None) xs → first_of h xs ≡ None
none_of h [] each = refl
none_of h (x ∷ xs) each =
    rw (All-head (λ x. h x ≡ None) x xs each) (none_of h xs (All-tail (λ x. h x ≡ None) x xs each))

-- ---- files that are read

pub record IsRead (framing : Framing) (limit : Option ℕ) (file : List ℕ) (entries : List (List ℕ)) : Type 0 where
  pub few : length entries ≤ size_limit
  pub whole : is_refused framing limit file ≡ false
  pub first : first_entries limit (entries_in framing file) ≡ entries

pub is_read : (framing : Framing) (limit : Option ℕ) (file : List ℕ) (entries : List (List ℕ)) →
    entries_read framing limit file ≡ Ok entries → IsRead framing limit file entries
is_read framing limit file entries is =
    let all = first_entries limit (entries_in framing file) in
    let found = ok_none (cut_refusal framing limit file) all entries is in
    let many = none_parts (unless (nat_le (length all) size_limit) _) _ found.0 in
    let inside = none_parts (unless (not (is_refused framing limit file)) _) None many.1 in
    record {
      few = rw (← found.1) (leb-true (length all) size_limit (unless_none (nat_le (length all) size_limit) _ many.0));
      whole = not-true (is_refused framing limit file) (unless_none (not (is_refused framing limit file)) _ inside.0);
      first = found.1;
    }

-- ---- under a checkpoint

-- the first entries of a file are those of a checkpoint
pub record AreUnder (framing : Framing) (c : CheckpointFields) (file : List ℕ) (entries : List (List ℕ)) : Type 0 where
  pub first : take c.size (entries_in framing file) ≡ entries
  pub size : length entries ≡ c.size
  pub inside : c.size ≤ length (entries_in framing file)
  pub root : root_of sha256 entries ≡ c.root

pub are_under : (framing : Framing) (c : CheckpointFields) (file : List ℕ) (entries : List (List ℕ)) →
    entries_under framing c file ≡ Ok entries → AreUnder framing c file entries
are_under framing c file entries is =
    let (first, read_is, last) = stepped (entries_read framing (Some c.size) file)
    (λ first. ok_unless (tree_refusal c (length first) (root_of sha256 first)) first) entries is in
    let read = is_read framing (Some c.size) file first read_is in
    let (none, same) = ok_none (tree_refusal c (length first) (root_of sha256 first)) first entries last in
    let size = none_parts (unless (length first == c.size) _) _ none in
    let root = none_parts (unless (is_same (root_of sha256 first) c.root) _) None size.1 in
    let size_is = eqb-true (length first) c.size (unless_none (length first == c.size) _ size.0) in
    let root_is = unless_none (is_same (root_of sha256 first) c.root) _ root.0 in
    record {
      first = read.first ∙ same;
      size = ap length (sym same) ∙ size_is;
      inside = omega (arith, size_is, ap length read.first, length-take c.size (entries_in framing file));
      root = ap (root_of sha256) (sym same) ∙ (bytes_decides (root_of sha256 first) c.root).0 root_is;
    }

never : (a b : Bool) → (a && (b && false)) ≡ false
never true true = refl
never true false = refl
never false b = refl

-- of a file with as many entries as a checkpoint, and the same root
pub under_first : (framing : Framing) (c : CheckpointFields) (file : List ℕ) → c.size ≤ size_limit →
    c.size ≤ length (entries_in framing file) → root_of sha256 (take c.size (entries_in framing file)) ≡ c.root →
    entries_under framing c file ≡ Ok (take c.size (entries_in framing file))
under_first framing c file small inside root =
    let all = entries_in framing file in
    let first = take c.size all in
    let size : length first ≡ c.size = length-take-le c.size all inside in
    let long = le-ltb (length all) c.size inside in
    let whole : is_refused framing (Some c.size) file ≡ false =
    ap (λ short. refuses (partial_of framing) && (not (length (rest_of framing file) == 0) && short)) long
    ∙ never (refuses (partial_of framing)) (not (length (rest_of framing file) == 0)) in
    let read = read_ok framing (Some c.size) file (omega (arith, size)) whole in
    rw (read, eq-eqb (length first) c.size size, (bytes_decides (root_of sha256 first) c.root).1 root) refl

-- of a file that begins with the entries of the checkpoint
pub first_under : (framing : Framing) (origin file : List ℕ) (first : List (List ℕ)) → BeginsWith framing file first →
    length first ≤ size_limit → entries_under framing (checkpoint_of origin first) file ≡ Ok first
first_under framing origin file first begins small =
    let front : take (length first) (entries_in framing file) ≡ first =
    ap (take (length first)) begins.1 ∙ take_at first begins.0 (length first) refl in
    under_first framing (checkpoint_of origin first) file small
    (omega (arith, ap length begins.1, length-append first begins.0)) (ap (root_of sha256) front)
    ∙ ap Ok front

-- ---- digests

abbrev IsByte : ℕ → Type 0
IsByte b = b < 256

byte_small : (k n : ℕ) → byte_at k n < 256
byte_small zero n = omega arith
byte_small (suc k) n = omega arith

word_bytes : (k n : ℕ) → All IsByte (bytes_high_first k n)
word_bytes zero n = All-nil IsByte
word_bytes (suc k) n = All-cons IsByte (byte_at k n) (bytes_high_first k n) (byte_small k n) (word_bytes k n)

words_bytes : (h : List ℕ) (n : ℕ) → All IsByte (digest_bytes h n)
unfolding digest_bytes
words_bytes h zero = All-nil IsByte
words_bytes h (suc n) =
    All-append IsByte (digest_bytes h n) (to_be_bytes w32 (slice_index h n)) (words_bytes h n)
    (word_bytes (byte_len w32) (slice_index h n))

hash_bytes : (message : List ℕ) → All IsByte (sha256 message)
unfolding sha256
hash_bytes message = words_bytes _ 8

pub digest_is : (message : List ℕ) → IsDigest (sha256 message)
digest_is message = (length-sha256 message, all_bytes (sha256 message) (hash_bytes message))

-- roots are digests
pub root_is : {X : Type 0} (leaf : X → List ℕ) (L : List X) → All (λ x. IsDigest (leaf x)) L →
    IsDigest (mth sha256 leaf L)
root_is leaf L leaves = root_by IsDigest sha256 leaf L digest_is leaves

pub entries_root : (entries : List (List ℕ)) → IsDigest (root_of sha256 entries)
entries_root entries = root_is (leaf_hash sha256) entries (λ k d within. digest_is (0 ∷ get_or entries k d))

pub files_grow : FilesGrow
files_grow framing file more is end = entries_grow framing is file more end

-- files one after another
pub entries_of_all : (framing : Framing) (files : List (List ℕ)) → IsFraming framing → EndWithEntries framing files →
    entries_in framing (concat files) ≡ flat_map (entries_in framing) files
entries_of_all framing [] is end = no_entries framing is
entries_of_all framing (file ∷ []) is end =
    ap (entries_in framing) (append-nil file) ∙ sym (append-nil (entries_in framing file))
entries_of_all framing (file ∷ next ∷ files) is end =
    files_grow framing file (concat (next ∷ files)) is end.0
    ∙ ap (λ xs. entries_in framing file ++ xs) (entries_of_all framing (next ∷ files) is end.1)

-- what follows the last entry of all is what follows that of the last file
pub refused_as : (framing : Framing) (file more : List ℕ) → IsFraming framing → EndsWithEntry framing file →
    is_refused framing None (file ++ more) ≡ is_refused framing None more
refused_as framing file more is end =
    ap (λ rest. refuses (partial_of framing) && (not (length rest == 0) && true)) (rest_grows framing is file more end)

pub none_refused : (framing : Framing) → IsFraming framing → is_refused framing None [] ≡ false
none_refused framing is =
    ap (λ rest. refuses (partial_of framing) && (not (length rest == 0) && true)) (no_rest framing is)
    ∙ by (refuses (partial_of framing))
  where
    by : (b : Bool) → (b && false) ≡ false
    by true = refl
    by false = refl

-- an entry of a file by its number, under a checkpoint of so many entries
pub prints : (print : Print) (framing : Framing) (file : List ℕ) (size n : ℕ) → IsFraming framing →
    FitsCut print framing → 1 ≤ n →
    n ≤ size → size ≤ length (entries_in framing file) →
    is_printable print size (record { number = n; bytes = entry_at (entries_in framing file) (n - 1) }) ≡ true
prints Raw framing file size n is fits from to inside = refl
prints Lines (InBlocks len) file size n is fits from to inside = absurd fits
prints (Blocks len) (InLines partial) file size n is fits from to inside = absurd fits
prints Lines (InLines partial) file size n is fits from to inside =
    let entries = entries_in (InLines partial) file in
    let lacks = All-get_or LacksFeed entries (n - 1) [] (omega arith) (lines_lack partial file) in
    list_all-from_AllPass (λ b. not (b == 10)) (entry_at entries (n - 1)) (λ k d h. ap not (lacks k d h))
prints (Blocks len) (InBlocks block) file size n is fits from to inside =
    let bytes = entry_at (entries_in (InBlocks block) file) (n - 1) in
    let b = block_is block file (n - 1) is (omega arith) in
    elim (cases_eq n size) [
      | inl last ↦
          rw (eq-eqb n size last)
          (and_from (nat_le 1 (length bytes)) (nat_le (length bytes) len) (le-leb 1 (length bytes) b.some)
          (le-leb (length bytes) len (omega (arith, b.most, fits))))
      | inr other ↦
          let full : length bytes ≡ block = b.full (omega arith) in
          rw (ne_eqb n size other) (eq-eqb (length bytes) len (full ∙ sym fits))
    ]
