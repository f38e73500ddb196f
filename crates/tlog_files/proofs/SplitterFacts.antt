-- What a splitter has read, and its entries once all that is read has come.
use Rattle.std.proofs.Common.{◌≡◌, ◌∙◌, ◌∷◌, ◌++◌, ◌<◌, ◌==◌, [], ℕ, List, ap, append-nil, append_assoc, arith, length}
use Rattle.std.proofs.Common.{eqb-true, map, length-append, refl, subst, sym, true, length-take, ◌^◌, ◌≤◌, false, not}
use Rattle.std.proofs.Common.{if◌then◌else◌, take, Some, take_all, le-ltb, lt-ltb, ne_eqb}
use Rattle.std.proofs.lemmas.Bool.{and_from, and_left, and_right}
use Rattle.std.proofs.lemmas.List.{take-append-le}
use Rattle.std.proofs.lemmas.List.Elements.{All-head}
use Rattle.sha2.specs.Sha256.{sha256}
use Rattle.tlog.specs.Rfc9162.{leaf_hash}
use Rattle.tlog_files.specs.Entries.{IsFraming, entries_in, is_refused, last_entry, partial_of, refuses, rest_of}
use Rattle.tlog_files.specs.Inner.Splitting.{IsWhole, ending, joined, AreAtHead, HasRead, Holds, IsAt, IsCutAt, IsOpen}
use Rattle.tlog_files.specs.Inner.Splitting.{IsReady, AreAll, AreTooMany}
use Rattle.tlog_files.specs.Inner.Wanted.{HasPlaces, HoldsWanted}
use Rattle.tlog_files.specs.declared.framing.Framing.{Framing}
use Rattle.tlog_files.specs.declared.framing.PartialLine.TheVariants.{Include, LeaveOut, Refuse}
use Rattle.tlog_files.specs.declared.splitter.Splitter.{Splitter}
use Rattle.tlog_files.specs.declared.wanted.WantedEntries.{WantedEntries}
use Rattle.tlog_files.proofs.FramingFacts.{cut_end, cut_more, cut_whole, fewer_left, none_open, entries_are, rest_is}
use Rattle.tlog_files.proofs.FramingFacts.{no_last}
use Rattle.tlog_files.specs.Entries.{whole_entries}

pub none_of : (bytes : List ℕ) → (length bytes == 0) ≡ true → bytes ≡ []
none_of [] none = refl
none_of (b ∷ bytes) none = absurd (omega (arith, eqb-true (length (b ∷ bytes)) 0 none))

-- whole entries
pub whole_read : (wanted : List ℕ) (s t : Splitter) (front bytes rest : List ℕ) (ended entries hashes : List (List ℕ)) →
    IsFraming s.framing → t.framing ≡ s.framing → (b : IsAt wanted s front ended) → b.open_bytes ≡ [] →
    AreAtHead s.framing bytes rest entries → hashes ≡ map (leaf_hash sha256) entries →
    Holds wanted t (ended ++ entries) [] → HasRead wanted t front ended bytes rest hashes
whole_read wanted s t front bytes rest ended entries hashes is same b none head hashed holds =
    let at = cut_whole s.framing front ended entries is (subst (IsCutAt s.framing front ended) none b.at) head.whole in
    record {
      read = joined s.framing entries;
      more = entries;
      parts = head.parts;
      at = record {
        open_bytes = [];
        holds = holds;
        at = rw same at;
      };
      hashed = hashed;
    }

pub fewer_after_whole : (framing : Framing) (bytes rest : List ℕ) (entries : List (List ℕ)) → IsFraming framing →
    AreAtHead framing bytes rest entries → 0 < length entries → length rest < length bytes
fewer_after_whole framing bytes rest [] is head some = absurd (omega (arith, some))
fewer_after_whole framing bytes rest (entry ∷ entries) is head some =
    let parts = head.parts ∙ append_assoc (entry ++ ending framing) (joined framing entries) rest
    ∙ append_assoc entry (ending framing) (joined framing entries ++ rest) in
    let fewer = fewer_left framing [] entry (joined framing entries ++ rest) bytes (none_open framing is)
    (All-head (IsWhole framing) entry entries head.whole) parts in
    omega (arith, fewer, length-append (joined framing entries) rest)

-- the open entry, to its end
pub open_ended : (wanted : List ℕ) (s t : Splitter) (front bytes more rest : List ℕ) (ended : List (List ℕ)) →
    IsFraming s.framing → t.framing ≡ s.framing → (b : IsAt wanted s front ended) →
    bytes ≡ more ++ (ending s.framing ++ rest) →
    IsWhole s.framing (b.open_bytes ++ more) → Holds wanted t (ended ++ (b.open_bytes ++ more) ∷ []) [] →
    HasRead wanted t front ended bytes rest (leaf_hash sha256 (b.open_bytes ++ more) ∷ [])
open_ended wanted s t front bytes more rest ended is same b parts whole holds =
    let entry = b.open_bytes ++ more in
    record {
      read = more ++ ending s.framing;
      more = entry ∷ [];
      parts = parts ∙ sym (append_assoc more (ending s.framing) rest);
      at = record {
        open_bytes = [];
        holds = holds;
        at = rw same (cut_end s.framing front more ended b.open_bytes is b.at whole);
      };
      hashed = refl;
    }

-- the open entry goes on
pub open_grown : (wanted : List ℕ) (s t : Splitter) (front bytes rest : List ℕ) (ended : List (List ℕ)) →
    t.framing ≡ s.framing → (b : IsAt wanted s front ended) → rest ≡ [] → IsOpen s.framing (b.open_bytes ++ bytes) →
    Holds wanted t ended (b.open_bytes ++ bytes) → HasRead wanted t front ended bytes rest []
open_grown wanted s t front bytes rest ended same b none opens holds =
    let grown = b.open_bytes ++ bytes in
    record {
      read = bytes;
      more = [];
      parts = sym (append-nil bytes) ∙ ap (λ xs. bytes ++ xs) (sym none);
      at = subst (IsAt wanted t (front ++ bytes)) (sym (append-nil ended)) (record {
        open_bytes = grown;
        holds = holds;
        at = rw same (cut_more s.framing front bytes ended b.open_bytes b.at opens);
      });
      hashed = refl;
    }

-- it can read on
pub ready_after : (s t : Splitter) (bytes rest : List ℕ) (hashes : List (List ℕ)) → IsReady s → t.framing ≡ s.framing →
    HasPlaces t.wanted → ((wanted front : List ℕ) (ended : List (List ℕ)) → IsAt wanted s front ended →
    HasRead wanted t front ended bytes rest hashes) → IsReady t
ready_after s t bytes rest hashes ready same places step =
    let (wanted, front, ended, b) = ready.stands in
    let read = step wanted front ended b in
    record {
      framing = rw same ready.framing;
      places = places;
      stands = (wanted, front ++ read.read, ended ++ read.more, read.at);
    }

module _ (wanted : List ℕ) (s : Splitter) (front rest : List ℕ) (ended : List (List ℕ))
    (at : IsAt wanted s front ended) where
  abbrev entries : List (List ℕ)
  entries = entries_in s.framing (front ++ rest)

  abbrev last : List ℕ → List (List ℕ)
  last bytes = last_entry (partial_of s.framing) bytes

  abbrev AllOf : WantedEntries → List (List ℕ) → Type 0
  AllOf w hashes = AreAll wanted w s.framing s.limit ended (front ++ rest) hashes

  split : entries
      ≡ ended ++ (whole_entries s.framing (at.open_bytes ++ rest) ++ last (rest_of s.framing (front ++ rest)))
  split =
      let end = last (rest_of s.framing (front ++ rest)) in
      ap (λ xs. xs ++ end) (at.at.whole rest) ∙ append_assoc ended (whole_entries s.framing (at.open_bytes ++ rest)) end

  -- more entries have ended than a log may have
  pub many_at : 2 ^ 62 < length ended → AreTooMany s.framing s.limit (front ++ rest)
  many_at many =
      omega (arith, many, at.holds.within, ap length split, length-append {A = List ℕ}, length-take s.limit entries)

  -- without a last entry
  no_more : take s.limit entries ≡ ended → is_refused s.framing (Some s.limit) (front ++ rest) ≡ false →
      AllOf s.wanted []
  no_more all not_refused =
      record {
        more = [];
        open_bytes = at.open_bytes;
        all = all ∙ sym (append-nil ended);
        hashed = refl;
        kept = rw (append-nil ended) at.holds.kept;
        not_refused = not_refused;
      }

  -- as many entries have ended as are read
  pub all_when_full : s.limit ≤ s.count → AllOf s.wanted []
  all_when_full full =
      let reached : s.limit ≤ length ended = omega (arith, full, at.holds.counted) in
      no_more (ap (take s.limit) split ∙ take-append-le s.limit ended _ reached
      ∙ take_all s.limit ended at.holds.within)
      (and_right _ _ (and_right _ _ (le-ltb (length entries) s.limit
      (omega (arith, reached, ap length split, length-append {A = List ℕ})))))

  -- ---- the file has ended

  whole_file : rest ≡ [] → front ++ rest ≡ front
  whole_file none = ap (λ xs. front ++ xs) none ∙ append-nil front

  rest_at_end : rest ≡ [] → rest_of s.framing (front ++ rest) ≡ at.open_bytes
  rest_at_end none = ap (rest_of s.framing) (whole_file none) ∙ rest_is s.framing front ended at.open_bytes at.at

  entries_at_end : rest ≡ [] → entries ≡ ended ++ last at.open_bytes
  entries_at_end none =
      ap (entries_in s.framing) (whole_file none) ∙ entries_are s.framing front ended at.open_bytes at.at

  all_ended : rest ≡ [] → last at.open_bytes ≡ [] → entries ≡ ended
  all_ended none closed = entries_at_end none ∙ ap (λ xs. ended ++ xs) closed ∙ append-nil ended

  taken : entries ≡ ended → take s.limit entries ≡ ended
  taken all = ap (take s.limit) all ∙ take_all s.limit ended at.holds.within

  -- no entry is open
  pub all_when_closed : rest ≡ [] → at.open_bytes ≡ [] → AllOf s.wanted []
  all_when_closed none closed =
      no_more (taken (all_ended none (ap last closed ∙ no_last (partial_of s.framing))))
      (and_right _ _ (and_left _ _ (ap (λ xs. not (length xs == 0)) (rest_at_end none ∙ closed))))

  -- what is open is left out
  pub all_when_left_out : rest ≡ [] → partial_of s.framing ≡ LeaveOut → AllOf s.wanted []
  all_when_left_out none is =
      no_more (taken (all_ended none (ap (λ p. last_entry p at.open_bytes) is))) (and_left _ _ (ap refuses is))

  -- what is open is the last entry
  pub all_when_included : (w : WantedEntries) → rest ≡ [] → partial_of s.framing ≡ Include → s.count < s.limit →
      (length at.open_bytes ≡ 0 → ⊥) → HoldsWanted w wanted (ended ++ at.open_bytes ∷ []) [] →
      AllOf w (leaf_hash sha256 at.open_bytes ∷ [])
  all_when_included w none is room some kept =
      let included : last at.open_bytes ≡ at.open_bytes ∷ [] = ap (λ p. last_entry p at.open_bytes) is
      ∙ ap (λ b. if b then [] else at.open_bytes ∷ []) (ne_eqb (length at.open_bytes) 0 some) in
      record {
        more = at.open_bytes ∷ [];
        open_bytes = [];
        all = ap (take s.limit) (entries_at_end none ∙ ap (λ xs. ended ++ xs) included)
            ∙ take_all s.limit (ended ++ at.open_bytes ∷ [])
            (omega (arith, length-append {A = List ℕ}, room, at.holds.counted));
        hashed = refl;
        kept = kept;
        not_refused = and_left _ _ (ap refuses is);
      }

  -- what is open is refused
  pub refused_when_open : rest ≡ [] → partial_of s.framing ≡ Refuse → s.count < s.limit →
      (length at.open_bytes ≡ 0 → ⊥) →
      (is_refused s.framing (Some s.limit) (front ++ rest) ≡ true) × (take s.limit entries ≡ ended)
  refused_when_open none is room some =
      let all = all_ended none (ap (λ p. last_entry p at.open_bytes) is) in (
        and_from _ _ (ap refuses is) (and_from _ _
            (ap (λ xs. not (length xs == 0)) (rest_at_end none) ∙ ap not (ne_eqb (length at.open_bytes) 0 some))
            (lt-ltb (length entries) s.limit (omega (arith, ap length all, room, at.holds.counted)))),
        taken all,
      )
