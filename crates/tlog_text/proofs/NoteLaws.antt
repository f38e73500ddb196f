-- The laws of notes.
use Rattle.std.proofs.Common.{◌≡◌, ◌<◌, ◌≤◌, true, false, ℕ, List, [], ◌∷◌, ◌++◌, length, refl, ap, ◌∙◌, subst, arith}
use Rattle.std.proofs.Common.{inl, inr, append_assoc, length-append, flat_map, eqb-true, ne_eqb, append-nil, Ok, Err}
use Rattle.std.proofs.Common.{sym, decimal, nat_lt, ◌+◌, ◌==◌, cond, count_by}
use Rattle.std.proofs.lemmas.List.Elements.{All-cons, All-head, All-nil, All-tail}
use Rattle.std.proofs.lemmas.Bool.{or_from, or_right}
use Rattle.std.proofs.lemmas.Bool.Decides.{Decides-ltb}
use Rattle.std.proofs.lemmas.Fmt.{length-decimal-le}
use Rattle.std.proofs.lemmas.List.{nil_from_length}
use Rattle.std.proofs.lemmas.List.Sums.{sum_by-append}
use Rattle.std.specs.List.{sum_by}
use Rattle.base64.specs.Rfc4648.{padding_len, unpadded_len}
use Rattle.tlog_text.specs.Reading.{at_end, at_text_end, extensions_by, line_that, signatures_by, after_origin, note_by}
use Rattle.tlog_text.specs.Reading.{part_origin_by, then_read, Reads, checkpoint_in, error_of, log_origin_by}
use Rattle.tlog_text.specs.Texts.{line, signature_lines, AreLines, checkpoint_text, digest_line, CheckpointFields}
use Rattle.tlog_text.specs.declared.error.Expected.TheVariants.{Blank, Digest, Extension, PartOrigin, Signature}
use Rattle.tlog_text.specs.declared.error.Expected.TheVariants.{Size}
use Rattle.tlog_text.specs.Lines.{is_origin, part_origin, base64, is_line}
use Rattle.tlog_text.specs.Laws.{ThreeLinesArePrintedAsRead, CheckpointsAreReadAgain, NotesAreReadExactly}
use Rattle.tlog_text.specs.Laws.{PartsAreReadExactly}
use Rattle.tlog_text.specs.Inner.Rests.{rest_of}
use Rattle.tlog_text.specs.Laws.{SignaturesChangeNothing}
use Rattle.tlog_text.specs.Texts.{IsNote, IsCheckpoint}
use Rattle.tlog_text.proofs.LineFacts.{blank_decided, is_solid, that_spelled, Fits, IsPlain, digest_spelled}
use Rattle.tlog_text.proofs.LineFacts.{number_spelled, part_decided, IsLogOrigin, log_origin_spelled, origin_parts}
use Rattle.tlog_text.proofs.ReadFacts.{either, gives, in_turn, read_as, turn, IsRead, IsSpelled, ends, passes, says}
use Rattle.tlog_text.proofs.Base64Facts.{length-base64}
use Rattle.tlog_text.proofs.LineFacts.{part_is_origin}
use Rattle.tlog_text.proofs.ReadFacts.{many_spelled}

-- a line that is plain and not blank is no stop
goes_on : (l left : List ℕ) → (1 ≤ length l) × IsPlain l → at_text_end (line l ++ left) ≡ false
goes_on [] left is = absurd (omega (arith, is.0))
goes_on (b ∷ bs) left is =
    let high : 32 ≤ b = All-head (λ c. 32 ≤ c) b bs is.1 in
    or_from _ _ (ne_eqb (length (line (b ∷ bs) ++ left)) 0 (λ none. omega (arith, none)))
    (ne_eqb b 10 (λ feed. omega (arith, feed, high)))

-- ---- extension lines

lines_long : (ls : List (List ℕ)) → length ls ≤ length (flat_map line ls)
lines_long [] = omega arith
lines_long (l ∷ ls) =
    omega (arith, lines_long ls, length-append (line l) (flat_map line ls), length-append l (10 ∷ []))

pub extensions_read : (left : List ℕ) → IsRead (extensions_by left) (λ r. (AreLines Extension r.0
    × (length r.0 < length left → at_text_end r.1 ≡ true)) × (left ≡ flat_map line r.0 ++ r.1))
unfolding extensions_by
extensions_read left =
    read_as (many_spelled at_text_end (line_that Extension) (Fits Extension) line (that_spelled
    Extension) (λ l rest is. goes_on l rest (is_solid Extension (inl refl) l is)) (length left) left)
    (λ r ((are, few, stop), parts). ((are, stop), parts))
    (λ r ((are, stop), parts).
    ((are, omega (arith, ap length parts, length-append (flat_map line r.0) r.1, lines_long r.0), stop), parts))

-- ---- signatures

pub signatures_stop : (signatures : List (List ℕ)) → at_text_end (signature_lines signatures) ≡ true
signatures_stop [] = refl
signatures_stop (s ∷ ss) = or_right (at_end (signature_lines (s ∷ ss))) true refl

-- signatures, if there are any, ahead of what may follow them
abbrev pub AreSigned : List (List ℕ) → List ℕ → Type 0
AreSigned ss rest =
    AreLines Signature ss × (length ss ≤ 100) × (length ss < 100 → at_text_end rest ≡ true)
    × (length ss ≡ 0 → rest ≡ [])

pub signatures_spelled : IsSpelled signatures_by AreSigned signature_lines
unfolding signatures_by
signatures_spelled left =
    either (at_end left)
    (λ end.
    let none = nil_from_length left (eqb-true (length left) 0 end) in
    read_as (gives ([], left))
    (λ r same. subst (λ (q : List (List ℕ) × List ℕ). AreSigned q.0 q.1 × (left ≡ signature_lines q.0 ++ q.1)) same
    ((All-nil (Fits Signature), omega arith, λ few. ap at_text_end none, λ _. none), refl))
    (λ r said. only_none r.0 r.1 none said))
    (λ some.
    read_as (in_turn _ _ (that_spelled Blank left) (λ blank left. in_turn _ _ (that_spelled Signature left)
    (λ s left. in_turn _ _ (many_spelled at_text_end (line_that Signature) (Fits Signature) line
    (that_spelled Signature) (λ l rest is. goes_on l rest (is_solid Signature (inr refl) l is)) 99 left)
    (λ ss end. gives (s ∷ ss, end)))))
    (λ r (blank, l1, (none, t1), (s, l2, (is, t2), (ss, end, ((are, few, stop), t3), same))).
    let t4 = (blank_decided blank).0 none in
    let all = append_assoc (line s) (flat_map line ss) end in
    subst (λ (q : List (List ℕ) × List ℕ). AreSigned q.0 q.1 × (left ≡ signature_lines q.0 ++ q.1)) same (
      (
        All-cons (Fits Signature) s ss is are,
        omega (arith, few),
        λ less. stop (omega (arith, less)),
        λ nil. absurd (omega (arith, nil)),
      ),
      cc,
    ))
    (λ r said. some_read r.0 r.1 some said))
  where
    some_read : (ss : List (List ℕ)) (end : List ℕ) → at_end left ≡ false →
        AreSigned ss end × (left ≡ signature_lines ss ++ end) → (blank l1 : List ℕ)
        × (Fits Blank blank × (left ≡ line blank ++ l1)) × ((s l2 : List ℕ)
        × (Fits Signature s × (l1 ≡ line s ++ l2)) × ((more : List (List ℕ)) × (l3 : List ℕ)
        × (((AreLines Signature more) × (length more ≤ 99) × (length more < 99 → at_text_end l3 ≡ true))
        × (l2 ≡ flat_map line more ++ l3)) × (◌≡◌ {A = List (List ℕ) × List ℕ} (s ∷ more, l3) (ss, end))))
    some_read [] end some ((are, few, stop, none), parts) =
        let nil = ap at_end (parts ∙ none refl) in absurd cc
    some_read (s ∷ ss) end some ((are, few, stop, none), parts) =
        let first = All-head (Fits Signature) s ss are in
        let more = All-tail (Fits Signature) s ss are in
        turn [] (flat_map line (s ∷ ss) ++ end) ((blank_decided []).1 refl, parts) (turn s (flat_map line ss ++ end)
        (first, append_assoc (line s) (flat_map line ss) end) (turn ss end
        ((more, omega (arith, few), λ less. stop (omega (arith, less))), refl) refl))

    only_none : (ss : List (List ℕ)) (rest : List ℕ) → left ≡ [] →
        AreSigned ss rest × (left ≡ signature_lines ss ++ rest) →
        ◌≡◌ {A = List (List ℕ) × List ℕ} ([], left) (ss, rest)
    only_none [] rest none said = ap (λ t. ([], t)) said.1
    only_none (s ∷ ss) rest none said = absurd cc

-- what is read after the origin of a part
pub part_next : (text rest : List ℕ) → rest_of (part_origin_by text) ≡ Ok rest →
    then_read (part_origin_by text) after_origin ≡ after_origin part_origin rest
part_next text rest is = by_read (part_origin_by text) refl is
  where
    by_read : (o : Reads (List ℕ)) → part_origin_by text ≡ o → rest_of o ≡ Ok rest →
        then_read o after_origin ≡ after_origin part_origin rest
    by_read (Err stop) read told = cc
    by_read (Ok found) read told =
        let part = (that_spelled PartOrigin text).only found read in
        let end : found.1 ≡ rest = cc in
        λ i. after_origin ((part_decided found.0).0 part.0 i) (end i)

note_parts : (c : CheckpointFields) (end : List ℕ) →
    checkpoint_text c ++ end ≡ line c.origin ++ (line (decimal c.size) ++ (digest_line c.root ++ end))
note_parts c end = simp append_assoc

module _ (origin_by : List ℕ → Reads (List ℕ)) (Is : List ℕ → Type 0)
    (spelled : IsSpelled origin_by (λ o rest. Is o) line)
    (origins : (o : List ℕ) → Is o → is_origin o ≡ true) where
  abbrev IsNoteOf : List ℕ → CheckpointFields → Type 0
  IsNoteOf note c =
      (extensions signatures : List (List ℕ)) × IsNote note c extensions signatures × Is c.origin

  pub note_read : (note : List ℕ) → IsRead (note_by origin_by note) (IsNoteOf note)
  unfolding after_origin
  note_read note =
      read_as (passes _ (nat_lt 1000000 (length note)) (Decides-ltb 1000000 (length note))
      (in_turn (origin_by note) after_origin (spelled note) (λ origin left.
      in_turn _ _ (number_spelled Size [] refl left) (λ size left.
      in_turn _ _ (digest_spelled Digest left) (λ root left.
      in_turn _ _ (extensions_read left) (λ extensions left. in_turn _ _ (signatures_spelled left) (λ signatures left.
      ends (record { origin = origin; size = size; root = root }) left)))))))
      (λ c (short, (origin, l1, (own, t1), said)).
      let (size, l2, (small, t2), said) = said in
      let (root, l3, (digest, t3), said) = said in
      let (extensions, l4, ((are, _), t4), said) = said in
      let (signatures, l5, ((are_signed, few, _, _), t5), (t6, same)) = said in
      subst (IsNoteOf note) same (
        extensions,
        signatures,
        record {
          checkpoint = record { origin = origins origin own; size = small; root = digest };
          extensions_are = are;
          signatures_are = are_signed;
          few_signatures = few;
          short = omega (arith, short);
          spelled = let all = note_parts (record { origin = origin; size = size; root = root })
              (flat_map line extensions ++ signature_lines signatures) in
              let nil = append-nil (signature_lines signatures) in cc;
        },
        own,
      ))
      (λ c (extensions, signatures, is, own).
      let end = signature_lines signatures in
      let lines = flat_map line extensions ++ end in
      let digest = digest_line c.root ++ lines in (
        λ long. omega (arith, is.short, long),
        turn c.origin (line (decimal c.size) ++ digest)
            (own, is.spelled ∙ note_parts c lines) (turn c.size digest (is.checkpoint.size, refl) (turn c.root lines
            (is.checkpoint.root, refl) (turn extensions end ((is.extensions_are, λ _. signatures_stop signatures), refl)
            (turn signatures [] ((is.signatures_are, is.few_signatures, (λ _. refl), λ _. refl), sym (append-nil end))
            (refl, refl))))),
      ))

-- ---- notes

pub notes : NotesAreReadExactly
notes note c =
    let (read, back) = says (error_of note) (note_by log_origin_by note) c
    (note_read log_origin_by IsLogOrigin log_origin_spelled (λ o is. is.0) note) in (
      λ is. let (extensions, signatures, note_is, own) = read is in (extensions, signatures, note_is, own.1),
      λ (extensions, signatures, is, log). back (extensions, signatures, is, (is.checkpoint.origin, log)),
    )

abbrev IsPart : List ℕ → Type 0
IsPart origin = is_line PartOrigin origin ≡ true

pub parts : PartsAreReadExactly
parts note c =
    let part = part_decided c.origin in
    let (read, back) = says (error_of note) (note_by part_origin_by note) c
    (note_read part_origin_by IsPart (that_spelled PartOrigin)
    (λ o is. ap is_origin ((part_decided o).0 is) ∙ part_is_origin) note) in (
      λ is. let (extensions, signatures, note_is, own) = read is in (extensions, signatures, note_is, part.0 own),
      λ (extensions, signatures, is, own). back (extensions, signatures, is, part.1 own),
    )

-- ---- what is printed

text_short : (c : CheckpointFields) → IsCheckpoint c → length (checkpoint_text c) ≤ 1000000
text_short c is =
    let root = length-base64 c.root ∙ ap (λ n. unpadded_len n + padding_len n) is.root.0 in
    let size = length-decimal-le 19 c.size (omega arith) (omega (arith, is.size)) (omega (arith, is.size)) in
    omega (arith, root, size, (origin_parts c.origin is.origin).1, length-append {A = ℕ})

printed : (c : CheckpointFields) → IsCheckpoint c → IsNote (checkpoint_text c) c [] []
printed c is =
    record {
      checkpoint = is;
      extensions_are = All-nil (λ l. is_line Extension l ≡ true);
      signatures_are = All-nil (λ l. is_line Signature l ≡ true);
      few_signatures = omega arith;
      short = text_short c is;
      spelled = sym (append-nil (checkpoint_text c));
    }

pub read_again : CheckpointsAreReadAgain
read_again c is = (
  λ log. (notes (checkpoint_text c) c).1 ([], [], printed c is, log),
  λ part. (parts (checkpoint_text c) c).1 ([], [], printed c is, part),
)

-- ---- three lines

pub three_lines : ThreeLinesArePrintedAsRead
three_lines note c read three =
    let found = (notes note c).0 read in
    by_lines found.0 found.1 found.2.spelled
  where
    feeds : {text : List ℕ} → note ≡ text → sum_by (λ b. cond (b == 10) 1 0) text ≡ 3
    feeds is = ap (count_by (λ b. b == 10)) (sym is) ∙ three

    by_lines : (extensions signatures : List (List ℕ)) →
        note ≡ checkpoint_text c ++ (flat_map line extensions ++ signature_lines signatures) → note ≡ checkpoint_text c
    by_lines [] [] is = is ∙ append-nil (checkpoint_text c)
    by_lines [] (s ∷ ss) is = absurd (omega (arith, simp sum_by-append at (feeds is)))
    by_lines (e ∷ es) signatures is = absurd (omega (arith, simp sum_by-append at (feeds is)))

-- ---- signatures

-- lines end in a line feed
ends_in_feed : (text : List ℕ) (ls : List (List ℕ)) → (front : List ℕ) × (text ≡ front ++ 10 ∷ []) →
    (front : List ℕ) × (text ++ flat_map line ls ≡ front ++ 10 ∷ [])
ends_in_feed text [] end = (end.0, append-nil text ∙ end.1)
ends_in_feed text (l ∷ ls) end =
    let more = ends_in_feed (text ++ line l) ls (text ++ l, sym (append_assoc text l (10 ∷ []))) in
    (more.0, sym (append_assoc text (line l) (flat_map line ls)) ∙ more.1)

text_end : (c : CheckpointFields) → (front : List ℕ) × (checkpoint_text c ≡ front ++ 10 ∷ [])
text_end c = (
  line c.origin ++ (line (decimal c.size) ++ base64 c.root),
  ap (λ t. line c.origin ++ t) (sym (append_assoc (line (decimal c.size)) (base64 c.root) (10 ∷ [])))
      ∙ sym (append_assoc (line c.origin) (line (decimal c.size) ++ base64 c.root) (10 ∷ [])),
)

pub signed : SignaturesChangeNothing
signed text signatures c read whole are few short =
    let found = (notes text c).0 read in
    by_signatures found.0 found.1 found.2 found.3
  where
    by_signatures : (extensions others : List (List ℕ)) → IsNote text c extensions others →
        (c.origin ≡ part_origin → ⊥) → checkpoint_in (text ++ signature_lines signatures) ≡ Ok c
    by_signatures extensions [] is log =
        let lines = flat_map line extensions in
        let end = signature_lines signatures in
        (notes (text ++ end) c).1 (
          extensions,
          signatures,
          record {
            checkpoint = is.checkpoint;
            extensions_are = is.extensions_are;
            signatures_are = are;
            few_signatures = few;
            short = short;
            spelled = ap (λ t. t ++ end) (is.spelled ∙ ap (λ t. checkpoint_text c ++ t) (append-nil lines))
                ∙ append_assoc (checkpoint_text c) lines end;
          },
          log,
        )
    by_signatures extensions (s ∷ ss) is log =
        let lines = flat_map line extensions in
        let rest = flat_map line (s ∷ ss) in
        let end = ends_in_feed (checkpoint_text c) extensions (text_end c) in
        absurd (whole end.0 rest
        (is.spelled
        ∙ sym (append_assoc (checkpoint_text c) lines (10 ∷ rest))
        ∙ ap (λ t. t ++ 10 ∷ rest) end.1
        ∙ append_assoc end.0 (10 ∷ []) (10 ∷ rest)))
