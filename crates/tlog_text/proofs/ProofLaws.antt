-- A text is read as a proof exactly if it is the text of that proof.
use Rattle.std.proofs.Common.{◌≡◌, ◌<◌, ◌≤◌, ◌+◌, ◌==◌, true, false, ℕ, List, [], ◌∷◌, ◌++◌, length, get_or, take, drop}
use Rattle.std.proofs.Common.{refl, sym, ap, ◌∙◌, subst, arith, append-nil, append_assoc, inl, inr, length-append}
use Rattle.std.proofs.Common.{length-take, add-one, drop-cons, ◌&&◌, codes, decimal, flat_map, nat_lt, slice_index}
use Rattle.std.proofs.Common.{take-append-drop, All, ne_eqb}
use Rattle.std.proofs.Math.Seq.{drop-append-add, get_or-append_seam, take-append_seam}
use Rattle.std.proofs.lemmas.Bool.{cases_lt}
use Rattle.std.proofs.lemmas.Bool.Decides.{Decides-and, Decides-eqb, Decides-ltb}
use Rattle.std.proofs.lemmas.List.Elements.{All-head}
use Rattle.base64.specs.Rfc4648.{padding_len, unpadded_len}
use Rattle.tlog_text.specs.Texts.{IsEntry, digest_line, entries_text, entry_lines, line, EntryFields, IsDigest}
use Rattle.tlog_text.specs.Reading.{bytes_by, digests_by, digests_to_blank, entries_by, entry_by, error_of, never}
use Rattle.tlog_text.specs.Reading.{at_blank}
use Rattle.tlog_text.specs.declared.error.Expected.TheVariants.{Blank, Digest, DigestCount, DigestOrBlank}
use Rattle.tlog_text.specs.declared.error.Expected.TheVariants.{EntryCount, OldSize, ProofVersion}
use Rattle.tlog_text.specs.Laws.{EntriesProofsAreReadExactly, ConsistencyProofsAreReadExactly}
use Rattle.tlog_text.specs.Lines.{base64}
use Rattle.tlog_text.specs.Reading.{consistency_by}
use Rattle.tlog_text.specs.Texts.{IsEntriesProof, consistency_text, IsConsistencyProof}
use Rattle.tlog_text.proofs.LineFacts.{digest_spelled, head_bytes, head_spelled, number_spelled, that_spelled}
use Rattle.tlog_text.proofs.ReadFacts.{ends, gives, holds, in_turn, read_as, says, turn, IsSpelled, many_spelled}
use Rattle.tlog_text.proofs.Base64Facts.{base64_plain, length-base64}
use Rattle.tlog_text.proofs.LineFacts.{version_decided, blank_decided}

-- ---- entries

-- bytes and a line feed
bytes_spelled : (count : ℕ) → IsSpelled (bytes_by count) (λ bytes rest. length bytes ≡ count) line
unfolding bytes_by
bytes_spelled count left =
    read_as (holds _ (nat_lt count (length left) && (slice_index left count == 10))
    (Decides-and _ _ (Decides-ltb count (length left)) (Decides-eqb (slice_index left count) 10))
    (gives (take count left, drop (count + 1) left)))
    (λ r ((within, feed), same).
    subst (λ (q : List ℕ × List ℕ). (length q.0 ≡ count) × (left ≡ line q.0 ++ q.1)) same (
      omega (arith, length-take count left, within),
      sym (take-append-drop count left)
          ∙ rw (drop-cons left count 0 within) (λ i. take count left ++ (feed i ∷ drop (sym (add-one count) i) left))
          ∙ sym (append_assoc (take count left) (10 ∷ []) (drop (count + 1) left)),
    ))
    (λ r (long, is).
    let whole = is ∙ append_assoc r.0 (10 ∷ []) r.1 in
    let feed = (λ i. get_or (whole i) (sym long i) 0) ∙ get_or-append_seam r.0 10 r.1 0 in
    let front = (λ i. take (sym long i) (whole i)) ∙ take-append_seam r.0 (10 ∷ r.1) in
    let back = (λ i. drop (sym long i + 1) (whole i)) ∙ drop-append-add r.0 (10 ∷ r.1) 1 in
    ((omega (arith, ap length whole, length-append r.0 (10 ∷ r.1), long), feed), λ i. (front i, back i)))

pub entry_spelled : IsSpelled entry_by (λ e rest. IsEntry e) entry_lines
unfolding entry_by
entry_spelled left =
    read_as (in_turn _ _ (head_spelled left) (λ head left. in_turn _ _ (bytes_spelled head.1 left) (λ bytes left.
    gives (record { number = head.0; bytes = bytes }, left))))
    (λ r (head, l1, ((from_1, number, len), t1), (bytes, l2, (long, t2), same)).
    subst (λ (q : EntryFields × List ℕ). IsEntry q.0 × (left ≡ entry_lines q.0 ++ q.1)) same (
      record { from_1 = from_1; number = number; len = omega (arith, len, long) },
      t1
          ∙ (λ i. line (head_bytes (head.0, sym long i)) ++ t2 i)
          ∙ sym (append_assoc (line (head_bytes (head.0, length bytes))) (line bytes) l2),
    ))
    (λ r (is, parts).
    let head : ℕ × ℕ = (r.0.number, length r.0.bytes) in
    let text = parts ∙ append_assoc (line (head_bytes head)) (line r.0.bytes) r.1 in
    turn head (line r.0.bytes ++ r.1) ((is.from_1, is.number, is.len), text) (turn r.0.bytes r.1 (refl, refl) refl))

-- just so many
all_of : {n : ℕ} {m : ℕ} → n ≤ m → (n < m → false ≡ true) → n ≡ m
all_of {n} {m} few end =
    elim (cases_lt n m) [ inl less ↦ let none = end less in absurd cc | inr more ↦ omega (arith, few, more) ]

-- ---- proofs

pub entries_proofs : EntriesProofsAreReadExactly
unfolding entries_by digests_by
entries_proofs text p =
    let (read, back) = says (error_of text) (entries_by text) p
    (in_turn _ _ (that_spelled ProofVersion text) (λ version left.
    in_turn _ _ (number_spelled EntryCount (codes "entries ") refl left) (λ count left.
    in_turn _ _ (many_spelled never entry_by IsEntry entry_lines entry_spelled (λ e rest is. refl) count left)
    (λ entries left. in_turn _ _ (number_spelled DigestCount (codes "digests ") refl left) (λ digest_count left.
    in_turn _ _ (many_spelled _ _ IsDigest digest_line (digest_spelled Digest) (λ d rest is. refl) digest_count left)
    (λ digests left. ends (record { entries = entries; digests = digests }) left)))))) in (
      λ is.
          let (version, l1, (version_is, t1), said) = read is in
          let (count, l2, (small, t2), said) = said in
          let (entries, l3, ((are, few, full), t3), said) = said in
          let (digest_count, l4, (digests_small, t4), said) = said in
          let (digests, l5, ((digests_are, digests_few, digests_full), t5), (t6, same)) = said in
          let all_entries = all_of few full in
          let all_digests = all_of digests_few digests_full in
          let t0 = (version_decided version).0 version_is in
          let nil = append-nil (flat_map digest_line digests) in
          subst (λ q. IsEntriesProof q × (text ≡ entries_text q)) same (
            record {
              entries = are;
              entry_count = omega (arith, all_entries, small);
              digests = digests_are;
              digest_count = omega (arith, all_digests, digests_small);
            },
            cc,
          ),
      λ (is, t).
          let digests = flat_map digest_line p.digests in
          let count = line (codes "digests " ++ decimal (length p.digests)) ++ digests in
          let entries = flat_map entry_lines p.entries ++ count in
          back (turn (codes "fohlazu proof 1") (line (codes "entries " ++ decimal (length p.entries)) ++ entries)
          ((version_decided (codes "fohlazu proof 1")).1 refl, t)
          (turn (length p.entries) entries (is.entry_count, refl)
          (turn p.entries count ((is.entries, omega arith, λ less. absurd (omega (arith, less))), refl)
          (turn (length p.digests) digests (is.digest_count, refl) (turn p.digests []
          ((is.digests, omega arith, λ less. absurd (omega (arith, less))), sym (append-nil digests)) (refl, refl)))))),
    )

-- ---- digests up to a blank line

-- a digest is no blank line
digest_goes_on : (digest left : List ℕ) → IsDigest digest → at_blank (digest_line digest ++ left) ≡ false
digest_goes_on digest left is = by_symbols (base64 digest) (base64_plain digest is.1) (length-base64 digest)
  where
    by_symbols : (symbols : List ℕ) → All (λ c. 32 ≤ c) symbols →
        length symbols ≡ unpadded_len (length digest) + padding_len (length digest) →
        at_blank (line symbols ++ left) ≡ false
    by_symbols [] plain len =
        let none : 0 ≡ 44 = len ∙ ap (λ n. unpadded_len n + padding_len n) is.0 in
        absurd (omega (arith, none))
    by_symbols (s ∷ ss) plain len =
        let high = All-head (λ c. 32 ≤ c) s ss plain in
        ne_eqb s 10 (λ feed. omega (arith, feed, high))

-- ---- proofs

pub consistency_proofs : ConsistencyProofsAreReadExactly
unfolding consistency_by digests_to_blank
consistency_proofs text p =
    let (read, back) = says (error_of text) (consistency_by text) p
    (in_turn _ _ (number_spelled OldSize (codes "old ") refl text) (λ old_size left.
    in_turn _ _ (many_spelled _ _ IsDigest digest_line (digest_spelled DigestOrBlank) digest_goes_on 63 left)
    (λ digests left.
    in_turn _ _ (that_spelled Blank left) (λ blank left.
    gives (record { old_size = old_size; digests = digests; checkpoint = left }))))) in (
      λ is.
          let (old_size, left, (small, t1), (digests, end, ((are, few, stop), t2), (blank, new, (none, t3), same))) =
          read is in
          let t4 = (blank_decided blank).0 none in
          subst (λ q. IsConsistencyProof q × (text ≡ consistency_text q)) same
          (record { old_size = small; digests = are; few_digests = few }, cc),
      λ (is, t).
          let new = line [] ++ p.checkpoint in
          back (turn p.old_size (flat_map digest_line p.digests ++ new) (is.old_size, t) (turn p.digests new
          ((is.digests, is.few_digests, λ less. refl), refl)
          (turn [] p.checkpoint ((blank_decided []).1 refl, refl) refl))),
    )
