-- Proofs of entries are made, and are accepted.
use Rattle.std.proofs.Common.{◌≡◌, ◌≤◌, ◌<◌, ◌-◌, ◌∙◌, ℕ, List, [], ◌∷◌, ap, arith, get_or, length, map, refl, subst}
use Rattle.std.proofs.Common.{sym, take, None, Some, Ok, Option, ◌^◌, Bool, true, is_some, All, map-id, le-leb}
use Rattle.std.proofs.Common.{get_or-take, inl, inr, ne_eqb, ◌↔◌, Result}
use Rattle.std.proofs.lemmas.List.Elements.{All-drop, All-head, All-map, All-tail, All-take}
use Rattle.std.proofs.lemmas.Bool.{cases_eq, eq-eqb}
use Rattle.std.proofs.lemmas.List.{get_or-map, length-map}
use Rattle.std.proofs.lemmas.List.Folds.{flat_map-map}
use Rattle.std.proofs.lemmas.Simd.{map-map}
use Rattle.std.specs.List.{flat_map}
use Rattle.std.specs.Option.{option_map}
use Rattle.p3_answers.specs.Answers.{first_of, ok_unless}
use Rattle.sha2.specs.Sha256.{sha256}
use Rattle.tlog.specs.Rfc9162.{leaf_hash, root_of}
use Rattle.tlog.specs.Verdicts.{size_limit}
use Rattle.tlog_tree.specs.Trees.{leaves_root, node_at}
use Rattle.tlog_tree.specs.declared.node_id.NodeId.{NodeId}
use Rattle.tlog_multiproof.proofs.EntriesFacts.{unrefused as included_only}
use Rattle.tlog_multiproof.proofs.HonestEntries.{honest_included}
use Rattle.tlog_multiproof.proofs.Leaves.{mth_map}
use Rattle.tlog_multiproof.proofs.Smallest.{nodes_within}
use Rattle.tlog_multiproof.specs.Entries.{entries_refusal, proof_nodes}
use Rattle.tlog_text.specs.Texts.{IsEntriesProof, IsEntry, entries_text, CheckpointFields, EntriesFields, EntryFields}
use Rattle.tlog_text.proofs.NoteLaws.{notes}
use Rattle.tlog_text.proofs.ProofLaws.{entries_proofs}
use Rattle.tlog_text.specs.Reading.{checkpoint_in, entries_in as proof_in}
use Rattle.tlog_text.specs.Texts.{IsDigest}
use Rattle.tlog_files.specs.Entries.{entries_in, entry_at}
use Rattle.tlog_files.specs.declared.framing.Framing.{Framing}
use Rattle.fohlazu_commands.specs.Outcomes.{is_printable, said_by, checkpoint_of, entries_under, entry_refusal}
use Rattle.fohlazu_commands.specs.Outcomes.{number_refusal, checkpoint_with, first_other, numbers_refusal, printed}
use Rattle.fohlazu_commands.specs.Outcomes.{proof_over}
use Rattle.fohlazu_commands.specs.Laws.{printed_of, AreRequested, CanSay, NumbersAreCompared, ProofsAreAccepted}
use Rattle.fohlazu_commands.specs.Commands.{max_note_bytes, prove_file, AreNumbers}
use Rattle.fohlazu_commands.specs.Outcomes.{and_then}
use Rattle.fohlazu_commands.specs.declared.error.Error.{Error}
use Rattle.fohlazu_commands.specs.Errors.{entries_error}
use Rattle.fohlazu_commands.specs.Laws.{ProofsAreProved}
use Rattle.fohlazu_commands.specs.Outcomes.{proof_refusal, prove_under}
use Rattle.fohlazu_commands.specs.declared.error.Source.TheVariants.{Checkpoint}
use Rattle.fohlazu_commands.specs.declared.verify.Print.{Print}
use Rattle.fohlazu_commands.proofs.OutcomeFacts.{are_under, digest_is, first_under, none_of, ok_none, root_is, said_ok}
use Rattle.fohlazu_commands.proofs.OutcomeFacts.{prints, stepped}
use Rattle.fohlazu_commands.proofs.ProveFacts.{numbers_inside, within_size}
use Rattle.fohlazu_commands.proofs.RunFacts.{short_came, short_goes}

numbers_pass : (size : ℕ) (numbers : List ℕ) → All (λ n. n ≤ size) numbers →
    first_of (number_refusal size) numbers ≡ None
numbers_pass size numbers inside =
    none_of (number_refusal size) numbers (λ k d within.
    rw (le-leb (get_or numbers k d) size (inside k d within)) refl)

-- ---- what prove has printed

is_proved : (framing : Framing) (checkpoint file numbers proof : List ℕ) →
    prove_file framing (Some checkpoint) (Some file) numbers ≡ Ok proof →
    (c : CheckpointFields) × (entries : List (List ℕ)) × (checkpoint_in checkpoint ≡ Ok c)
    × (first_of (number_refusal c.size) numbers ≡ None) × (entries_under framing c file ≡ Ok entries)
    × (entries_text (proof_over entries numbers) ≡ proof)
is_proved framing checkpoint file numbers proof is =
    let next : List ℕ → Result (List ℕ) Error =
    λ text. and_then (checkpoint_with text numbers) (λ (c : CheckpointFields). prove_under framing c numbers file) in
    let came = short_came Checkpoint max_note_bytes checkpoint next proof is in
    let (c, asked, printed) =
    stepped (checkpoint_with checkpoint numbers) (λ c. prove_under framing c numbers file) proof came in
    let (a, said, few) = stepped (said_by Checkpoint (checkpoint_in checkpoint))
    (λ a. ok_unless (first_of (number_refusal a.size) numbers) a) c asked in
    let (inside, same) = ok_none (first_of (number_refusal a.size) numbers) a c few in
    let (entries, read, text) = stepped (entries_under framing c file)
    (λ entries. Ok (entries_text (proof_over entries numbers))) proof printed in
    let text_is : entries_text (proof_over entries numbers) ≡ proof = cc in (
      c,
      entries,
      said_ok Checkpoint (checkpoint_in checkpoint) a said ∙ ap Ok same,
      ap (λ (x : CheckpointFields). first_of (number_refusal x.size) numbers) (sym same) ∙ inside,
      read,
      text_is,
    )

pub proofs_are_proved : ProofsAreProved
proofs_are_proved framing origin checkpoint file first numbers said_is begins inside =
    let note = ((notes checkpoint (checkpoint_of origin first)).0 said_is).2 in
    let small = note.checkpoint.size in
    let next : List ℕ → Result (List ℕ) Error =
    λ text. and_then (checkpoint_with text numbers) (λ (c : CheckpointFields). prove_under framing c numbers file) in
    let proof = entries_text (proof_over first numbers) in
    let given : next checkpoint ≡ Ok proof =
    rw (said_is, numbers_pass (length first) numbers inside, first_under framing origin file first begins small) refl in
    (proof, short_goes Checkpoint max_note_bytes checkpoint next proof note.short given)

-- ---- what verify makes of it

map_same : {X Y : Type 0} (f g : X → Y) (xs : List X) → All (λ x. f x ≡ g x) xs → map f xs ≡ map g xs
map_same f g [] same = refl
map_same f g (x ∷ xs) same =
    let more = map_same f g xs (All-tail (λ y. f y ≡ g y) x xs same) in
    (λ i. All-head (λ y. f y ≡ g y) x xs same i ∷ more i)

-- what a proof says of an entry
abbrev entry_of : List (List ℕ) → ℕ → EntryFields
entry_of entries n = record { number = n; bytes = entry_at entries (n - 1) }

-- numbers are not refused exactly if they are the requested ones
same_numbers : (got ns : List ℕ) → (first_other got ns ≡ None) ↔ (got ≡ ns)
same_numbers [] [] = (λ none. refl, λ same. refl)
same_numbers [] (n ∷ ns) = (λ none. absurd cc, λ same. absurd cc)
same_numbers (m ∷ got) [] = (λ none. absurd cc, λ same. absurd cc)
same_numbers (m ∷ got) (n ∷ ns) =
    elim (cases_eq m n) [
      | inl first ↦
          rw (eq-eqb m n first) (
            λ none. (λ i. first i ∷ (same_numbers got ns).0 none i),
            λ same. (same_numbers got ns).1 cc,
          )
      | inr other ↦ rw (ne_eqb m n other) (λ none. absurd cc, λ same. absurd (other cc))
    ]

pub numbers_are_compared : NumbersAreCompared
numbers_are_compared entries = same_numbers (map (λ (e : EntryFields). e.number) entries)

module _ (entries : List (List ℕ)) (numbers : List ℕ) where
  requested_are : (asked : Option (List ℕ)) → AreRequested asked numbers →
      numbers_refusal asked (proof_over entries numbers).entries ≡ None
  requested_are None are = refl
  requested_are (Some ns) are =
      ap (λ ms. first_other ms ns)
      (map-map (λ (e : EntryFields). e.number) (entry_of entries) numbers ∙ map-id numbers ∙ sym are)
      ∙ (same_numbers ns ns).1 refl

  abbrev leaves : List (List ℕ)
  leaves = map (leaf_hash sha256) entries

  leaves_are : All IsDigest leaves
  leaves_are = All-map IsDigest (leaf_hash sha256) entries (λ k d within. digest_is (0 ∷ get_or entries k d))

  hashes_are : AreNumbers numbers → All (λ n. n ≤ length entries) numbers →
      map (λ i. get_or leaves i []) (map (λ n. n - 1) numbers)
      ≡ map (λ (e : EntryFields). leaf_hash sha256 e.bytes) (map (entry_of entries) numbers)
  hashes_are are inside =
      map-map (λ (i : ℕ). get_or leaves i []) (λ (n : ℕ). n - 1) numbers
      ∙ map_same (λ (n : ℕ). get_or leaves (n - 1) []) (λ (n : ℕ). leaf_hash sha256 (entry_at entries (n - 1))) numbers
      (λ k d within. get_or-map (leaf_hash sha256) entries (get_or numbers k d - 1) [] []
      (omega (arith, are.1 k d within, inside k d within)))
      ∙ sym (map-map (λ (e : EntryFields). leaf_hash sha256 e.bytes) (entry_of entries) numbers)

  -- nothing is refused of it under the root
  accepted : (c : CheckpointFields) → AreNumbers numbers → All (λ n. n ≤ length entries) numbers →
      length entries ≡ c.size → root_of sha256 entries ≡ c.root → c.size ≤ size_limit →
      proof_refusal c (proof_over entries numbers) ≡ None
  accepted c are inside size_is root_is small =
      let indices = map (λ n. n - 1) numbers in
      let len : length leaves ≡ length entries = length-map entries (leaf_hash sha256) in
      let first = are.1 0 0 are.0 in
      let last = inside 0 0 are.0 in
      let some : 0 < length leaves = omega (arith, len, first, last) in
      let within = within_size (length leaves) numbers are.1 (subst (λ n. All (λ k. k ≤ n) numbers) (sym len) inside) in
      let included = honest_included sha256 leaves some indices (omega (arith, are.0, length-map numbers (λ n. n - 1)))
      within (omega (arith, len, size_is, small)) in
      let none = (included_only sha256 (length leaves) indices
      (map (λ i. get_or leaves i []) indices)
      (map (λ (node : NodeId). node_at sha256 leaves node.layer node.slot) (proof_nodes (length leaves) indices))
      (leaves_root sha256 leaves)).1
      (omega (arith, len, size_is, small), included) in
      let size = len ∙ size_is in
      let ids = sym (map-map (λ (e : EntryFields). e.number - 1) (entry_of entries) numbers) in
      let hashes = hashes_are are inside in
      let root = mth_map sha256 (leaf_hash sha256) entries ∙ root_is in
      ap (option_map entries_error)
      (sym (λ i. entries_refusal sha256 (size i) (ids i) (hashes i)
      (map (λ (node : NodeId). node_at sha256 leaves node.layer node.slot) (proof_nodes (len i) indices)) (root i))
      ∙ none)

  -- it is the text of a proof
  is_text : AreNumbers numbers → All (λ n. n ≤ length entries) numbers → length entries ≤ size_limit →
      CanSay entries numbers → IsEntriesProof (proof_over entries numbers)
  is_text are inside small can =
      let indices = map (λ n. n - 1) numbers in
      let nodes = proof_nodes (length entries) indices in
      let value = λ (node : NodeId). node_at sha256 leaves node.layer node.slot in
      let count = nodes_within (length entries) indices (within_size (length entries) numbers are.1 inside) in
      record {
        entries = All-map IsEntry (entry_of entries) numbers (λ k d within. record {
          from_1 = are.1 k d within;
          number = omega (arith, inside k d within, small);
          len = can.lengths k d within;
        });
        entry_count = omega (arith, length-map numbers (entry_of entries), can.count);
        digests = All-map IsDigest value nodes (λ k d within.
            root_is (λ (leaf : List ℕ). leaf) _
            (All-take IsDigest _ _ (All-drop IsDigest _ leaves leaves_are)));
        digest_count = omega (arith, length-map nodes value, count, small);
      }

-- the entries of a file that are under a checkpoint
module _ (all : List (List ℕ)) (size : ℕ) where
  same_entry : (n : ℕ) → 1 ≤ n → n ≤ size → entry_at (take size all) (n - 1) ≡ entry_at all (n - 1)
  same_entry n from to = get_or-take size all (n - 1) [] (omega arith)

  same_printed : (print : Print) (is_requested : Bool) (ns : List ℕ) → All (λ n. 1 ≤ n) ns → All (λ n. n ≤ size) ns →
      flat_map (printed print is_requested) (map (entry_of (take size all)) ns) ≡ printed_of print is_requested all ns
  same_printed print is_requested ns from to =
      ap (flat_map (printed print is_requested)) (map_same (entry_of (take size all)) (entry_of all) ns
      (λ k d within i. record {
        number = get_or ns k d;
        bytes = same_entry (get_or ns k d) (from k d within) (to k d within) i;
      }))
      ∙ flat_map-map (printed print is_requested) (entry_of all) ns

  still_said : (numbers : List ℕ) → All (λ n. 1 ≤ n) numbers → All (λ n. n ≤ size) numbers → CanSay all numbers →
      CanSay (take size all) numbers
  still_said numbers from to can = record {
    count = can.count;
    lengths = λ k d within.
        subst (λ bytes. length bytes ≤ 2 ^ 62) (sym (same_entry (get_or numbers k d) (from k d within) (to k d within)))
        (can.lengths k d within);
  }

pub proofs_are_accepted : ProofsAreAccepted
proofs_are_accepted framing print checkpoint file numbers asked proof is fits are can are_requested done =
    let all = entries_in framing file in
    let (c, read_entries, said_is, few, under_is, text_is) = is_proved framing checkpoint file numbers proof done in
    let under = are_under framing c file read_entries under_is in
    let size = c.size in
    let small = ((notes checkpoint c).0 said_is).2.checkpoint.size in
    let entries = take size all in
    let len : length entries ≡ size = ap length under.first ∙ under.size in
    let root : root_of sha256 entries ≡ c.root = ap (root_of sha256) under.first ∙ under.root in
    let to = numbers_inside size numbers few in
    let inside : All (λ n. n ≤ length entries) numbers = subst (λ n. All (λ k. k ≤ n) numbers) (sym len) to in
    let q : EntriesFields = proof_over entries numbers in
    let fields =
    is_text entries numbers are inside (omega (arith, len, small)) (still_said all size numbers are.1 to can)
    in
    let read : proof_in proof ≡ Ok q =
    (entries_proofs proof q).1
    (fields, sym text_is ∙ ap (λ es. entries_text (proof_over es numbers)) (sym under.first)) in
    let same = requested_are entries numbers asked are_requested in
    let printable : first_of (entry_refusal print size) q.entries ≡ None =
    none_of (entry_refusal print size) q.entries
    (All-map (λ e. entry_refusal print size e ≡ None) (entry_of entries) numbers (λ k d within.
    let n = get_or numbers k d in
    let low = are.1 k d within in
    let high = to k d within in
    let own : is_printable print size (entry_of entries n) ≡ true =
    ap (λ bytes. is_printable print size (record { number = n; bytes = bytes })) (same_entry all size n low high)
    ∙ prints print framing file size n is fits low high under.inside in
    rw own refl)) in
    let verdict = accepted entries numbers c are inside len root small in
    rw (said_is, read, same, printable, verdict)
    (ap Ok (same_printed all size print (is_some asked) numbers are.1 to))
