-- The whole entries at the front of a file, and where it is cut as its bytes come.
use Rattle.std.proofs.Common.{◌≡◌, ℕ, zero, suc, ◌+◌, ◌*◌, ◌/◌, ◌<◌, ◌==◌, List, [], ◌∷◌, ◌++◌, length, map, take, drop}
use Rattle.std.proofs.Common.{refl, sym, ap, ◌∙◌, arith, length-append, Bor, All, append_assoc, append-nil}
use Rattle.std.proofs.lemmas.List.Elements.{All-append, All-cons, All-head, All-nil, All-tail}
use Rattle.std.proofs.Math.Nat.{add-div_left, add-mul, div-eq_of_lt, zero-mul}
use Rattle.std.proofs.Math.Seq.{take-append_seam, drop-append-add}
use Rattle.std.proofs.lemmas.List.Splits.{length-slice_split, slice_split_at, slice_split_none}
use Rattle.std.proofs.lemmas.Grind.{flat_map-append}
use Rattle.std.specs.List.{range_with_len}
use Rattle.tlog_files.specs.Entries.{all_but_last, block_of, last_entry, last_of, pieces_of, rest_of, whole_entries}
use Rattle.tlog_files.specs.Inner.Splitting.{ending, IsOpen, IsWhole, LacksFeed, joined, AreAtHead, IsCutAt}
use Rattle.tlog_files.specs.Entries.{IsFraming, entries_in, partial_of}
use Rattle.tlog_files.specs.declared.framing.Framing.{Framing}
use Rattle.tlog_files.specs.declared.framing.Framing.TheVariants.{Lines, Blocks}
use Rattle.tlog_files.specs.declared.framing.PartialLine.{PartialLine}
use Rattle.tlog_files.specs.declared.framing.PartialLine.TheVariants.{Include, LeaveOut, Refuse}

-- the bytes of an entry that stands in a buffer
abbrev pub bytes_of : Bor (List ℕ) → List ℕ
bytes_of entry = entry.now

-- ---- lines

more_follow : (x : List ℕ) (xs : List (List ℕ)) → 0 < length xs → all_but_last (x ∷ xs) ≡ x ∷ all_but_last xs
more_follow x [] some = absurd (omega (arith, some))
more_follow x (y ∷ ys) some = refl

last_stays : (x : List ℕ) (xs : List (List ℕ)) → 0 < length xs → last_of (x ∷ xs) ≡ last_of xs
last_stays x [] some = absurd (omega (arith, some))
last_stays x (y ∷ ys) some = refl

some_piece : (bytes : List ℕ) → 0 < length (pieces_of bytes)
some_piece bytes = omega (arith, length-slice_split (λ b. b == 10) bytes)

first_piece : (line rest : List ℕ) → LacksFeed line → pieces_of (line ++ 10 ∷ rest) ≡ line ∷ pieces_of rest
first_piece line rest lacks = slice_split_at (λ b. b == 10) line 10 rest lacks refl

-- ---- blocks

-- a block more
one_more : (size : ℕ) (block rest : List ℕ) → 0 < size → length block ≡ size →
    length (block ++ rest) / size ≡ suc (length rest / size)
one_more size block rest some long =
    let all : length (block ++ rest) ≡ size + length rest = omega (arith, length-append block rest, long) in
    ap (λ n. n / size) all ∙ omega (arith, add-div_left (length rest) some)

-- after the first block stand the others
block_next : (size : ℕ) (block rest : List ℕ) (i : ℕ) → length block ≡ size →
    block_of size (block ++ rest) (i + 1) ≡ block_of size rest i
block_next size block rest i long =
    ap (λ n. take size (drop n (block ++ rest))) (omega (arith, add-mul i 1 size, long))
    ∙ ap (λ xs. take size xs) (drop-append-add block rest (i * size))

blocks_next : (size : ℕ) (block rest : List ℕ) (a n : ℕ) → length block ≡ size →
    map (block_of size (block ++ rest)) (range_with_len (a + 1) n) ≡ map (block_of size rest) (range_with_len a n)
blocks_next size block rest a zero long = refl
blocks_next size block rest a (suc n) long =
    rw (block_next size block rest a long)
    (ap (λ xs. block_of size rest a ∷ xs) (blocks_next size block rest (a + 1) n long))

block_first : (size : ℕ) (block rest : List ℕ) → length block ≡ size → block_of size (block ++ rest) 0 ≡ block
block_first size block rest long =
    ap (λ n. take size (drop n (block ++ rest))) (zero-mul size)
    ∙ ap (λ n. take n (block ++ rest)) (sym long)
    ∙ take-append_seam block rest

first_block : (size : ℕ) (block rest : List ℕ) → 0 < size → length block ≡ size →
    whole_entries (Blocks size) (block ++ rest) ≡ block ∷ whole_entries (Blocks size) rest
first_block size block rest some long =
    ap (λ n. map (block_of size (block ++ rest)) (range_with_len 0 n)) (one_more size block rest some long)
    ∙ rw (block_first size block rest long)
    (ap (λ xs. block ∷ xs) (blocks_next size block rest 0 (length rest / size) long))

rest_after_block : (size : ℕ) (block rest : List ℕ) → 0 < size → length block ≡ size →
    rest_of (Blocks size) (block ++ rest) ≡ rest_of (Blocks size) rest
rest_after_block size block rest some long =
    let q = length rest / size in
    let steps : suc q * size ≡ length block + q * size = omega (arith, add-mul q 1 size, long) in
    ap (λ n. drop (n * size) (block ++ rest)) (one_more size block rest some long)
    ∙ ap (λ n. drop n (block ++ rest)) steps
    ∙ drop-append-add block rest (q * size)

-- ---- both

-- no entry ends with an empty rest
pub no_last : (partial : PartialLine) → last_entry partial [] ≡ []
no_last Refuse = refl
no_last LeaveOut = refl
no_last Include = refl

-- an entry may be empty so far
pub none_open : (framing : Framing) → IsFraming framing → IsOpen framing []
none_open (Lines partial) is = λ k d h. absurd (omega (arith, h))
none_open (Blocks size) is = omega (arith, is.0)

pub first_entry : (framing : Framing) (entry rest : List ℕ) → IsFraming framing → IsWhole framing entry →
    whole_entries framing (entry ++ (ending framing ++ rest)) ≡ entry ∷ whole_entries framing rest
first_entry (Lines partial) entry rest is whole =
    ap all_but_last (first_piece entry rest whole) ∙ more_follow entry (pieces_of rest) (some_piece rest)
first_entry (Blocks size) entry rest is whole = first_block size entry rest (omega (arith, is.0)) whole

pub rest_after_entry : (framing : Framing) (entry rest : List ℕ) → IsFraming framing → IsWhole framing entry →
    rest_of framing (entry ++ (ending framing ++ rest)) ≡ rest_of framing rest
rest_after_entry (Lines partial) entry rest is whole =
    ap last_of (first_piece entry rest whole) ∙ last_stays entry (pieces_of rest) (some_piece rest)
rest_after_entry (Blocks size) entry rest is whole = rest_after_block size entry rest (omega (arith, is.0)) whole

pub no_entry : (framing : Framing) (bytes : List ℕ) → IsOpen framing bytes → whole_entries framing bytes ≡ []
no_entry (Lines partial) bytes opens = ap all_but_last (slice_split_none (λ b. b == 10) bytes opens)
no_entry (Blocks size) bytes opens =
    ap (λ n. map (block_of size bytes) (range_with_len 0 n)) (div-eq_of_lt opens)

pub all_rest : (framing : Framing) (bytes : List ℕ) → IsOpen framing bytes → rest_of framing bytes ≡ bytes
all_rest (Lines partial) bytes opens = ap last_of (slice_split_none (λ b. b == 10) bytes opens)
all_rest (Blocks size) bytes opens =
    ap (λ n. drop (n * size) bytes) (div-eq_of_lt opens) ∙ ap (λ n. drop n bytes) (zero-mul size)

-- at the start
pub cut_none : (framing : Framing) → IsFraming framing → IsCutAt framing [] [] []
cut_none framing is = record { opens = none_open framing is; whole = λ rest. refl; rest = λ rest. refl }

-- the open entry goes on
pub cut_more : (framing : Framing) (front more : List ℕ) (ended : List (List ℕ)) (open_bytes : List ℕ) →
    IsCutAt framing front ended open_bytes → IsOpen framing (open_bytes ++ more) →
    IsCutAt framing (front ++ more) ended (open_bytes ++ more)
cut_more framing front more ended open_bytes at opens =
    record {
      opens = opens;
      whole = λ rest. rw (append_assoc front more rest, append_assoc open_bytes more rest) (at.whole (more ++ rest));
      rest = λ rest. rw (append_assoc front more rest, append_assoc open_bytes more rest) (at.rest (more ++ rest));
    }

-- the open entry ends
pub cut_end : (framing : Framing) (front more : List ℕ) (ended : List (List ℕ)) (open_bytes : List ℕ) →
    IsFraming framing →
    IsCutAt framing front ended open_bytes → IsWhole framing (open_bytes ++ more) →
    IsCutAt framing (front ++ (more ++ ending framing)) (ended ++ (open_bytes ++ more) ∷ []) []
cut_end framing front more ended open_bytes is at whole =
    let entry = open_bytes ++ more in
    let moved = λ (rest : List ℕ). append_assoc front (more ++ ending framing) rest
    ∙ ap (λ xs. front ++ xs) (append_assoc more (ending framing) rest) in
    let entry_first = λ (rest : List ℕ). sym (append_assoc open_bytes more (ending framing ++ rest)) in
    record {
      opens = none_open framing is;
      whole = λ rest. ap (whole_entries framing) (moved rest) ∙ at.whole (more ++ (ending framing ++ rest))
          ∙ ap (λ xs. ended ++ whole_entries framing xs) (entry_first rest)
          ∙ ap (λ xs. ended ++ xs) (first_entry framing entry rest is whole)
          ∙ sym (append_assoc ended (entry ∷ []) (whole_entries framing rest));
      rest = λ rest. ap (rest_of framing) (moved rest) ∙ at.rest (more ++ (ending framing ++ rest))
          ∙ ap (rest_of framing) (entry_first rest) ∙ rest_after_entry framing entry rest is whole;
    }

-- whole entries follow
pub cut_whole : (framing : Framing) (front : List ℕ) (ended entries : List (List ℕ)) → IsFraming framing →
    IsCutAt framing front ended [] → All (IsWhole framing) entries →
    IsCutAt framing (front ++ joined framing entries) (ended ++ entries) []
cut_whole framing front ended [] is at whole =
    rw (append-nil front, append-nil ended) (at)
cut_whole framing front ended (entry ∷ entries) is at whole =
    let first = cut_end framing front entry ended [] is at (All-head (IsWhole framing) entry entries whole) in
    rw (append_assoc front (entry ++ ending framing) (joined framing entries), append_assoc ended (entry ∷ []) entries)
    at (cut_whole framing (front ++ (entry ++ ending framing)) (ended ++ entry ∷ []) entries is first
    (All-tail (IsWhole framing) entry entries whole))

-- after an entry's end fewer bytes are left
pub fewer_left : (framing : Framing) (open_bytes more rest left : List ℕ) → IsOpen framing open_bytes →
    IsWhole framing (open_bytes ++ more) → left ≡ more ++ (ending framing ++ rest) → length rest < length left
fewer_left (Lines partial) open_bytes more rest left opens whole parts =
    omega (arith, ap length parts, length-append {A = ℕ})
fewer_left (Blocks size) open_bytes more rest left opens whole parts =
    omega (arith, ap length parts, length-append {A = ℕ}, whole, opens)

-- ---- whole entries at the head of bytes

-- one more
pub more_at_head : (framing : Framing) (bytes left rest entry : List ℕ) (entries : List (List ℕ)) →
    AreAtHead framing bytes left entries → left ≡ entry ++ (ending framing ++ rest) → IsWhole framing entry →
    AreAtHead framing bytes rest (entries ++ entry ∷ [])
more_at_head framing bytes left rest entry entries at_head parts whole =
    record {
      parts = at_head.parts ∙ ap (λ xs. joined framing entries ++ xs) parts
          ∙ sym (
          rw (flat_map-append (λ e. e ++ ending framing) entries (entry ∷ [])) (simp (append_assoc, append-nil))
          );
      whole = All-append (IsWhole framing) entries (entry ∷ []) at_head.whole
          (All-cons (IsWhole framing) entry [] whole (All-nil (IsWhole framing)));
    }

-- ---- a file that ends

module _ (framing : Framing) (file : List ℕ) (ended : List (List ℕ)) (open_bytes : List ℕ)
    (at : IsCutAt framing file ended open_bytes) where
  pub rest_is : rest_of framing file ≡ open_bytes
  rest_is =
      ap (rest_of framing) (sym (append-nil file)) ∙ at.rest [] ∙ ap (rest_of framing) (append-nil open_bytes)
      ∙ all_rest framing open_bytes at.opens

  pub whole_is : whole_entries framing file ≡ ended
  whole_is =
      ap (whole_entries framing) (sym (append-nil file)) ∙ at.whole []
      ∙ ap (λ xs. ended ++ whole_entries framing xs) (append-nil open_bytes)
      ∙ ap (λ xs. ended ++ xs) (no_entry framing open_bytes at.opens)
      ∙ append-nil ended

  pub entries_are : entries_in framing file ≡ ended ++ last_entry (partial_of framing) open_bytes
  entries_are = λ i. whole_is i ++ last_entry (partial_of framing) (rest_is i)
