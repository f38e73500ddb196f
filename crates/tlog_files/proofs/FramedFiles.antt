-- The entries of a file by its bytes: further bytes after the end of an entry are further entries, lines have no LF,
-- and blocks have their size.
use Rattle.std.proofs.Common.{◌≡◌, ◌≤◌, ◌<◌, ◌+◌, ◌-◌, ◌==◌, ◌∙◌, ℕ, List, [], ◌∷◌, ◌++◌, ap, arith, eq-eqb, inl, inr}
use Rattle.std.proofs.Common.{length, refl, sym, subst, append_assoc, append-nil, length-append, false, All, ne_eqb}
use Rattle.std.proofs.lemmas.Bool.{cases_eq, cases_lt}
use Rattle.std.proofs.lemmas.Bool.Decides.{eqb_tells}
use Rattle.std.proofs.lemmas.List.{get_or-append_right, get_or_append_left}
use Rattle.std.proofs.lemmas.List.Elements.{All-append, All-cons, All-get_or, All-nil, All-push}
use Rattle.tlog_files.specs.Entries.{entries_in, entry_at, last_entry, partial_of, rest_of, whole_entries, IsFraming}
use Rattle.tlog_files.specs.Inner.Splitting.{ending, IsCutAt, IsWhole, LacksFeed}
use Rattle.tlog_files.specs.declared.framing.Framing.{Framing}
use Rattle.tlog_files.specs.declared.framing.Framing.TheVariants.{Blocks as InBlocks, Lines as InLines}
use Rattle.tlog_files.specs.declared.framing.PartialLine.{PartialLine}
use Rattle.tlog_files.specs.declared.framing.PartialLine.TheVariants.{Include, LeaveOut, Refuse}
use Rattle.tlog_files.proofs.FramingFacts.{cut_end, cut_more, cut_none, entries_are, rest_is}
use Rattle.tlog_files.proofs.FramingFacts.{all_rest, no_entry, no_last, none_open}

-- ---- a file, byte by byte

-- the whole entries of a file, and the bytes that follow them
record IsSplit (framing : Framing) (file : List ℕ) (ended : List (List ℕ)) (open_bytes : List ℕ) : Type 0 where
  at : IsCutAt framing file ended open_bytes
  whole : All (IsWhole framing) ended

abbrev Splits : Framing → List ℕ → Type 0
Splits framing file = (ended : List (List ℕ)) × (open_bytes : List ℕ) × IsSplit framing file ended open_bytes

module _ (framing : Framing) (front : List ℕ) (ended : List (List ℕ)) (open_bytes : List ℕ)
    (s : IsSplit framing front ended open_bytes) where
  ends : (more : List ℕ) → IsFraming framing → IsWhole framing (open_bytes ++ more) →
      Splits framing (front ++ (more ++ ending framing))
  ends more is whole = (
    ended ++ (open_bytes ++ more) ∷ [],
    [],
    record {
      at = cut_end framing front more ended open_bytes is s.at whole;
      whole = All-push (IsWhole framing) ended (open_bytes ++ more) s.whole whole;
    },
  )

next : (framing : Framing) (front : List ℕ) (b : ℕ) (ended : List (List ℕ)) (open_bytes : List ℕ) → IsFraming framing →
    IsSplit framing front ended open_bytes → Splits framing (front ++ b ∷ [])
next (InLines partial) front b ended open_bytes is s =
    let framing = InLines partial in
    elim (eqb_tells b 10) [
      | inl (t, feed) ↦
          subst (λ c. Splits framing (front ++ c ∷ [])) (sym feed)
          (ends framing front ended open_bytes s [] is (subst LacksFeed (sym (append-nil open_bytes)) s.at.opens))
      | inr (f, other) ↦
          let more = All-push (λ c. (c == 10) ≡ false) open_bytes b s.at.opens f in (
            ended,
            open_bytes ++ b ∷ [],
            record { at = cut_more framing front (b ∷ []) ended open_bytes s.at more; whole = s.whole },
          )
    ]
next (InBlocks size) front b ended open_bytes is s =
    let framing = InBlocks size in
    let len = length-append open_bytes (b ∷ []) in
    elim (cases_lt (length open_bytes + 1) size) [
      | inl short ↦ (
        ended,
        open_bytes ++ b ∷ [],
        record {
          at = cut_more framing front (b ∷ []) ended open_bytes s.at (omega (arith, len, short));
          whole = s.whole;
        },
      )
      | inr full ↦ ends framing front ended open_bytes s (b ∷ []) is (omega (arith, len, full, s.at.opens))
    ]

walk : (framing : Framing) (front rest : List ℕ) → IsFraming framing → Splits framing front →
    Splits framing (front ++ rest)
walk framing front [] is s = subst (Splits framing) (sym (append-nil front)) s
walk framing front (b ∷ rest) is s =
    subst (Splits framing) (append_assoc front (b ∷ []) rest)
    (walk framing (front ++ b ∷ []) rest is (next framing front b s.0 s.1 is s.2))

splits : (framing : Framing) (file : List ℕ) → IsFraming framing → Splits framing file
splits framing file is =
    walk framing [] file is ([], [], record { at = cut_none framing is; whole = All-nil (IsWhole framing) })

-- ---- files that grow

module _ (framing : Framing) (is : IsFraming framing) where
  pub no_rest : rest_of framing [] ≡ []
  no_rest = all_rest framing [] (none_open framing is)

  pub no_entries : entries_in framing [] ≡ []
  no_entries =
      (λ i. no_entry framing [] (none_open framing is) i ++ last_entry (partial_of framing) (no_rest i))
      ∙ no_last (partial_of framing)

  module _ (file more : List ℕ) (end : rest_of framing file ≡ []) where
    none : (splits framing file is).1 ≡ []
    none = let s = splits framing file is in sym (rest_is framing file s.0 s.1 s.2.at) ∙ end

    pub rest_grows : rest_of framing (file ++ more) ≡ rest_of framing more
    rest_grows = (splits framing file is).2.at.rest more ∙ ap (λ xs. rest_of framing (xs ++ more)) none

    pub entries_grow : entries_in framing (file ++ more) ≡ entries_in framing file ++ entries_in framing more
    entries_grow =
        let s = splits framing file is in
        let p = partial_of framing in
        let whole : whole_entries framing (file ++ more) ≡ s.0 ++ whole_entries framing more =
        s.2.at.whole more ∙ ap (λ xs. s.0 ++ whole_entries framing (xs ++ more)) none in
        (λ i. whole i ++ last_entry p (rest_grows i))
        ∙ append_assoc s.0 (whole_entries framing more) (last_entry p (rest_of framing more))
        ∙ ap (λ xs. xs ++ entries_in framing more)
        (sym (entries_are framing file s.0 s.1 s.2.at ∙ ap (λ xs. s.0 ++ last_entry p xs) none
        ∙ ap (λ xs. s.0 ++ xs) (no_last p)
        ∙ append-nil s.0))

-- ---- lines and blocks

-- the entry that ends with the file
last_is : (P : List (List ℕ) → Type 0) (bytes : List ℕ) → (length bytes ≡ 0 → P []) →
    ((length bytes ≡ 0 → ⊥) → P (bytes ∷ [])) → P (last_entry Include bytes)
last_is P bytes nothing one = elim (cases_eq (length bytes) 0) [
  | inl none ↦ rw (eq-eqb (length bytes) 0 none) (nothing none)
  | inr some ↦ rw (ne_eqb (length bytes) 0 some) (one some)
]

no_feeds : (partial : PartialLine) (bytes : List ℕ) → LacksFeed bytes → All LacksFeed (last_entry partial bytes)
no_feeds Refuse bytes lacks = All-nil LacksFeed
no_feeds LeaveOut bytes lacks = All-nil LacksFeed
no_feeds Include bytes lacks =
    last_is (All LacksFeed) bytes (λ none. All-nil LacksFeed)
    (λ some. All-cons LacksFeed bytes [] lacks (All-nil LacksFeed))

pub lines_lack : (partial : PartialLine) (file : List ℕ) → All LacksFeed (entries_in (InLines partial) file)
lines_lack partial file =
    let framing = InLines partial in
    let s = splits framing file tt in
    subst (All LacksFeed) (sym (entries_are framing file s.0 s.1 s.2.at))
    (All-append LacksFeed s.0 (last_entry partial s.1) s.2.whole (no_feeds partial s.1 s.2.at.opens))

-- block i of some has the size of all, or as the last one 1 byte to as many
pub record IsBlock (size : ℕ) (blocks : List (List ℕ)) (i : ℕ) : Type 0 where
  pub some : 1 ≤ length (entry_at blocks i)
  pub most : length (entry_at blocks i) ≤ size
  pub full : i + 1 < length blocks → length (entry_at blocks i) ≡ size

split_block : (size : ℕ) (ended : List (List ℕ)) (rest : List ℕ) (i : ℕ) → 1 ≤ size →
    All (λ block. length block ≡ size) ended → length rest < size → i < length (ended ++ last_entry Include rest) →
    IsBlock size (ended ++ last_entry Include rest) i
split_block size ended rest i some whole short within =
    elim (cases_lt i (length ended)) [
      | inl front ↦
          let long = All-get_or (λ block. length block ≡ size) ended i [] front whole in
          let own = ap length (get_or_append_left ended (last_entry Include rest) [] i front) in
          record {
            some = omega (arith, own, long, some);
            most = omega (arith, own, long);
            full = λ more. own ∙ long;
          }
      | inr back ↦
          last_is (λ last. i < length (ended ++ last) → IsBlock size (ended ++ last) i) rest
          (λ none inside. absurd (omega (arith, inside, back, length-append ended [])))
          (λ any inside.
          let count = length-append ended (rest ∷ []) in
          let at : i - length ended ≡ 0 = omega (arith, inside, back, count) in
          let own = ap length (get_or-append_right ended (rest ∷ []) (length ended) i [] refl back
          ∙ ap (entry_at (rest ∷ [])) at) in
          record {
            some = omega (arith, own, any);
            most = omega (arith, own, short);
            full = λ more. absurd (omega (arith, more, back, count));
          })
          within
    ]

pub block_is : (size : ℕ) (file : List ℕ) (i : ℕ) → IsFraming (InBlocks size) →
    i < length (entries_in (InBlocks size) file) → IsBlock size (entries_in (InBlocks size) file) i
block_is size file i is within =
    let framing = InBlocks size in
    let s = splits framing file is in
    let all = entries_are framing file s.0 s.1 s.2.at in
    subst (λ blocks. IsBlock size blocks i) (sym all)
    (split_block size s.0 s.1 i is.0 s.2.whole s.2.at.opens (omega (arith, within, ap length all)))
