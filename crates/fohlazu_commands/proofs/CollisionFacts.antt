-- What accepted texts show of files.
use Rattle.std.proofs.Common.{◌≡◌, ◌≤◌, ◌<◌, ◌-◌, ◌∙◌, ℕ, List, [], ◌∷◌, ap, arith, length, map, get_or, refl, subst}
use Rattle.std.proofs.Common.{sym, take, Option, None, Result, Ok, Err, ◌↔◌, All, IsNone, flat_map, is_some, nat_lt}
use Rattle.std.proofs.Common.{lt-ltb, length-take}
use Rattle.std.proofs.lemmas.List.{get_or-map, length-map, take_min}
use Rattle.std.proofs.lemmas.List.Elements.{All-weaker}
use Rattle.std.proofs.lemmas.List.FromFn.{fill_by_all, get_or-range_with_len, length-range_with_len}
use Rattle.std.proofs.lemmas.List.Sums.{list_all-from_AllPass}
use Rattle.std.specs.List.{range_with_len}
use Rattle.sha2.specs.Sha256.{sha256}
use Rattle.p3_answers.proofs.AnswerFacts.{map_none, none_parts}
use Rattle.p3_answers.specs.Answers.{first_of, first_some, ok_unless}
use Rattle.tlog.proofs.Accepted.{consistency_accepted}
use Rattle.tlog.specs.Collisions.{entries_of}
use Rattle.tlog.specs.Fixed.{RootsFixPrefix}
use Rattle.tlog.specs.Rfc9162.{leaf_hash, root_of}
use Rattle.tlog.specs.Verdicts.{IsConsistent, consistency_refusal, size_limit}
use Rattle.tlog.specs.declared.collision.Collision.{Collision}
use Rattle.tlog_multiproof.proofs.EntriesFacts.{unrefused}
use Rattle.tlog_multiproof.specs.Entries.{entries_refusal}
use Rattle.tlog_multiproof.specs.Fixed.{RootFixesLeaves}
use Rattle.tlog_text.specs.Texts.{CheckpointFields, ConsistencyFields, EntriesFields, EntryFields, IsEntry}
use Rattle.tlog_text.proofs.NoteLaws.{notes}
use Rattle.tlog_text.proofs.ProofLaws.{entries_proofs}
use Rattle.tlog_text.specs.Reading.{checkpoint_in, consistency_in, entries_in as proof_in}
use Rattle.tlog_text.specs.declared.error.TextError.{TextError}
use Rattle.tlog_files.specs.Entries.{entries_in, entry_at, wanted_of}
use Rattle.tlog_files.specs.declared.framing.Framing.{Framing}
use Rattle.tlog_files.specs.declared.reading.ReadLog.{ReadLog}
use Rattle.fohlazu_commands.specs.Collisions.{AreEntriesOfFile, BeginsWithOldFile, IsCheckpointOf, IsCheckpointOfFile}
use Rattle.fohlazu_commands.specs.Inner.{AreProved, HasLeafIn, ReadsAs, entries_by}
use Rattle.fohlazu_commands.specs.Outcomes.{and_then, checkpoint_of, consistency_refused, entries_under, entry_refusal}
use Rattle.fohlazu_commands.specs.Outcomes.{growth_refusal, numbers_refusal, old_size_refusal, printed, proof_refusal}
use Rattle.fohlazu_commands.specs.Outcomes.{said_by, said_inside, verify_consistency_outcome, verify_outcome}
use Rattle.fohlazu_commands.specs.Collisions.{IsEntryOf}
use Rattle.fohlazu_commands.specs.Errors.{entries_error}
use Rattle.fohlazu_commands.specs.declared.error.Error.{Error}
use Rattle.fohlazu_commands.specs.declared.error.Error.TheVariants.{Refused}
use Rattle.fohlazu_commands.specs.declared.error.Refusal.TheVariants.{Consistency}
use Rattle.fohlazu_commands.specs.declared.error.Source.{Source}
use Rattle.fohlazu_commands.specs.declared.error.Source.TheVariants.{Checkpoint, Old, Proof}
use Rattle.fohlazu_commands.specs.declared.verify.Print.{Print}
use Rattle.fohlazu_commands.specs.declared.verify.Print.TheVariants.{Raw}
use Rattle.fohlazu_commands.proofs.OutcomeFacts.{are_under, ok_none, said_ok, stepped, under_first}

-- ---- results

pub same_ok : {V E : Type 0} (r : Result V E) (v w : V) → r ≡ Ok v → r ≡ Ok w → v ≡ w
same_ok {V = V} {E = E} r v w a b = let both : ◌≡◌ {A = Result V E} (Ok v) (Ok w) = sym a ∙ b in cc

pub not_both : {V E : Type 0} (r : Result V E) (v : V) (e : E) → r ≡ Ok v → r ≡ Err e → ⊥
not_both {V = V} {E = E} r v e a b = let both : ◌≡◌ {A = Result V E} (Ok v) (Err e) = sym a ∙ b in absurd cc

-- ---- the entries under a checkpoint

-- first entries of a file, where the checkpoint is theirs
pub under_of : (framing : Framing) (c : CheckpointFields) (bytes : List ℕ) (n : ℕ) →
    c ≡ checkpoint_of c.origin (take n (entries_in framing bytes)) → c.size ≤ size_limit →
    entries_under framing c bytes ≡ Ok (take n (entries_in framing bytes))
under_of framing c bytes n is small =
    let all = entries_in framing bytes in
    let size_is : c.size ≡ length (take n all) = ap (λ (x : CheckpointFields). x.size) is in
    let first_is : take c.size all ≡ take n all = ap (λ k. take k all) (size_is ∙ length-take n all) ∙ take_min n all in
    under_first framing c bytes small (omega (arith, size_is, length-take n all))
    (ap (root_of sha256) first_is ∙ sym (ap (λ (x : CheckpointFields). x.root) is))
    ∙ ap Ok first_is

-- the same by the text of the checkpoint
pub record ByText (framing : Framing) (text file : List ℕ) (entries : List (List ℕ)) : Type 0 where
  pub origin : List ℕ
  pub n : ℕ
  pub says : checkpoint_in text ≡ Ok (checkpoint_of origin entries)
  pub are : take n (entries_in framing file) ≡ entries
  pub small : length entries ≤ size_limit

pub by_text : (source : Source) (framing : Framing) (text file : List ℕ) (entries : List (List ℕ)) →
    entries_by source framing text file ≡ Ok entries → ByText framing text file entries
by_text source framing text file entries is =
    let (c, said, read) =
    stepped (said_by source (checkpoint_in text)) (λ c. entries_under framing c file) entries is in
    let u = are_under framing c file entries read in
    let says : checkpoint_in text ≡ Ok (checkpoint_of c.origin entries) = said_ok source (checkpoint_in text) c said
    ∙ (λ i. Ok (record { origin = c.origin; size = sym u.size i; root = sym u.root i })) in
    let small = ((notes text (checkpoint_of c.origin entries)).0 says).2.checkpoint.size in
    record { origin = c.origin; n = c.size; says = says; are = u.first; small = small }

pub of_text : (source : Source) (framing : Framing) (text file : List ℕ) (n : ℕ) →
    IsCheckpointOf (take n (entries_in framing file)) text →
    entries_by source framing text file ≡ Ok (take n (entries_in framing file))
of_text source framing text file n of =
    let c = checkpoint_of of.0 (take n (entries_in framing file)) in
    let limit = ((notes text c).0 of.1).2.checkpoint.size in
    ap (λ r. and_then (said_by source r) (λ x. entries_under framing x file)) of.1
    ∙ under_of framing c file n refl limit

-- a text whose entries are not those of a file is no checkpoint of it
pub not_of_file : (source : Source) (framing : Framing) (text file : List ℕ) (e : Error) →
    entries_by source framing text file ≡ Err e → IsCheckpointOfFile framing file text → ⊥
not_of_file source framing text file e is of =
    not_both (entries_by source framing text file) (take of.0 (entries_in framing file)) e
    (of_text source framing text file of.0 of.1) is

-- the checkpoint of the entries that were read
own_checkpoint : (framing : Framing) (text file : List ℕ) (entries : List (List ℕ))
    (by : ByText framing text file entries) →
    IsCheckpointOf (take by.n (entries_in framing file)) text
own_checkpoint framing text file entries by =
    subst (λ (es : List (List ℕ)). IsCheckpointOf es text) (sym by.are) (by.origin, by.says)

-- ---- entries

-- all entries, by their indices
pub all_wanted : (entries : List (List ℕ)) (n : ℕ) → length entries ≡ n →
    wanted_of entries (range_with_len 0 n) ≡ entries
all_wanted entries n is =
    let all = list_all-from_AllPass (λ i. nat_lt i (length entries)) (range_with_len 0 n) (λ k d h.
    let room = length-range_with_len 0 n in
    lt-ltb _ (length entries) (omega (arith, get_or-range_with_len 0 n k d (omega (arith, h, room)), h, room, is))) in
    rw all (sym (fill_by_all (entry_at entries) entries n [] is (λ k within. refl)))

-- all entries of a checkpoint, where all are wanted
pub read_all : (source : Source) (framing : Framing) (text file : List ℕ) (c : CheckpointFields) (indices : List ℕ)
    (log : ReadLog) → said_by source (checkpoint_in text) ≡ Ok c →
    ReadsAs [] indices (Ok log) (entries_under framing c file) → indices ≡ range_with_len 0 c.size →
    entries_by source framing text file ≡ Ok (entries_of log.entries.items)
read_all source framing text file c indices log says reads all =
    let (entries, is, has) = reads in
    ap (λ r. and_then r (λ x. entries_under framing x file)) says ∙ is
    ∙ ap Ok (sym (has.wanted_are ∙ ap (wanted_of entries) all
    ∙ all_wanted entries c.size (are_under framing c file entries is).size))

abbrev pub indices_in : List EntryFields → List ℕ
indices_in es = map (λ (e : EntryFields). e.number - 1) es

abbrev pub leaves_in : List EntryFields → List (List ℕ)
leaves_in es = map (λ (e : EntryFields). leaf_hash sha256 e.bytes) es

-- what the verifier accepts and prints, by what the texts say
pub verified : (print : Print) (checkpoint proof : List ℕ) (numbers : Option (List ℕ)) (c : CheckpointFields)
    (p : EntriesFields) (text : List ℕ) → checkpoint_in checkpoint ≡ Ok c → proof_in proof ≡ Ok p →
    verify_outcome print checkpoint proof numbers ≡ Ok text →
    (proof_refusal c p ≡ None) × (flat_map (printed print (is_some numbers)) p.entries ≡ text)
verified print checkpoint proof numbers c p text says shows is =
    let (none, prints) = ok_none (first_some (numbers_refusal numbers p.entries
    ∷ first_of (entry_refusal print c.size) p.entries ∷ proof_refusal c p ∷ []))
    (flat_map (printed print (is_some numbers)) p.entries) text (rw (says, shows) at is) in
    let behind = none_parts (numbers_refusal numbers p.entries) _ none in
    let last = none_parts (first_of (entry_refusal print c.size) p.entries) _ behind.1 in
    ((none_parts (proof_refusal c p) None last.1).0, prints)

module _ (framing : Framing) (checkpoint proof file text : List ℕ) (entries : List (List ℕ)) (p : EntriesFields)
    (out : verify_outcome Raw checkpoint proof None ≡ Ok text)
    (is : entries_by Checkpoint framing checkpoint file ≡ Ok entries)
    (says : said_by Proof (proof_in proof) ≡ Ok p) where
  by : ByText framing checkpoint file entries
  by = by_text Checkpoint framing checkpoint file entries is

  shows : proof_in proof ≡ Ok p
  shows = said_ok Proof (proof_in proof) p says

  -- the proof is accepted under the root of the file's entries
  pub proved : AreProved entries p
  proved = record {
    from_1 = All-weaker IsEntry (λ (e : EntryFields). 1 ≤ e.number) (λ e is. is.from_1) p.entries
        ((entries_proofs proof p).0 shows).0.entries;
    accepted = map_none entries_error (entries_refusal sha256 (length entries) (indices_in p.entries)
        (leaves_in p.entries) p.digests (root_of sha256 entries))
        (verified Raw checkpoint proof None (checkpoint_of by.origin entries) p text by.says shows out).0;
  }

  -- a collision is found unless the printed entries are the file's
  pub shown : (found : Option Collision) → (IsNone found ↔ All (IsEntryOf entries) p.entries) →
      IsNone found ↔ AreEntriesOfFile framing file checkpoint proof
  shown found iff = (
    λ none n q print numbers other of other_shows accepted.
        let same = same_ok (entries_by Checkpoint framing checkpoint file) entries (take n (entries_in framing file)) is
        (of_text Checkpoint framing checkpoint file n of) in (
          sym (verified print checkpoint proof numbers (checkpoint_of by.origin entries) q other by.says other_shows
              accepted).1,
          subst (λ (es : List (List ℕ)). All (IsEntryOf es) q.entries) same
              (subst (λ (x : EntriesFields). All (IsEntryOf entries) x.entries)
              (same_ok (proof_in proof) p q shows other_shows) (iff.0 none)),
        ),
    λ own. iff.1 (subst (λ (es : List (List ℕ)). All (IsEntryOf es) p.entries) by.are
        (own by.n p Raw None text (own_checkpoint framing checkpoint file entries by) shows out).1),
  )

-- ---- entries of an accepted proof

module _ (entries : List (List ℕ)) (p : EntriesFields) where
  index_at : (k : ℕ) (d : EntryFields) → k < length p.entries →
      get_or (indices_in p.entries) k 0 ≡ (get_or p.entries k d).number - 1
  index_at k d within = get_or-map (λ (e : EntryFields). e.number - 1) p.entries k d 0 within

  leaf_at : (k : ℕ) (d : EntryFields) → k < length p.entries →
      get_or (leaves_in p.entries) k [] ≡ leaf_hash sha256 (get_or p.entries k d).bytes
  leaf_at k d within = get_or-map (λ (e : EntryFields). leaf_hash sha256 e.bytes) p.entries k d [] within

  no_entry : EntryFields
  no_entry = record { number = 0; bytes = [] }

  -- entries of the file have its leaf hashes
  pub own_leaves : All (IsEntryOf entries) p.entries →
      RootFixesLeaves sha256 entries (indices_in p.entries) (leaves_in p.entries) p.digests
  own_leaves own small is k within =
      let room : k < length p.entries = omega (arith, length-map p.entries (λ (e : EntryFields). e.number - 1)) in
      leaf_at k no_entry room
      ∙ ap (leaf_hash sha256) (own k no_entry room).bytes
      ∙ ap (λ i. leaf_hash sha256 (get_or entries i [])) (sym (index_at k no_entry room))

  -- leaf hashes that are those of the file
  pub have_leaves : AreProved entries p →
      RootFixesLeaves sha256 entries (indices_in p.entries) (leaves_in p.entries) p.digests →
      All (HasLeafIn entries) p.entries
  have_leaves proof fixed k d room =
      let (small, is) = (unrefused sha256 (length entries) (indices_in p.entries) (leaves_in p.entries) p.digests
      (root_of sha256 entries)).0 proof.accepted in
      let within : k < length (indices_in p.entries) =
      omega (arith, length-map p.entries (λ (e : EntryFields). e.number - 1)) in
      let first : 1 ≤ (get_or p.entries k d).number = proof.from_1 k d room in
      let below : get_or (indices_in p.entries) k 0 < length entries = is.within k 0 within in
      record {
        from_1 = first;
        within = omega (arith, index_at k d room);
        leaf = sym (leaf_at k d room) ∙ fixed small is k within
            ∙ ap (λ i. leaf_hash sha256 (get_or entries i [])) (index_at k d room);
      }

-- what holds of each value holds of the one at k
pub mapped_at : {R V : Type 0} (P : V → Type 0) (f : R → V) (xs : List R) (k : ℕ) (x : R) → k < length xs →
    x ≡ get_or xs k x → All P (map f xs) → P (f x)
mapped_at P f xs k x within is all =
    subst P (get_or-map f xs k x (f x) within ∙ ap f (sym is)) (all k (f x) (omega (arith, length-map xs f)))

-- ---- consistency

inside_ok : {V : Type 0} (r : Result V TextError) (v : V) → said_inside r ≡ Ok v → r ≡ Ok v
inside_ok (Ok w) v is = let same : w ≡ v = cc in ap Ok same
inside_ok (Err e) v is = absurd cc

-- what the verifier accepts between two checkpoints, by what the texts say
pub grown : (old proof new : List ℕ) (o n : CheckpointFields) (p : ConsistencyFields) → checkpoint_in old ≡ Ok o →
    checkpoint_in new ≡ Ok n → consistency_in proof ≡ Ok p → verify_consistency_outcome old proof ≡ Ok new →
    consistency_refusal sha256 o.size n.size p.digests o.root n.root ≡ None
grown old proof new o n p old_says new_says shows is =
    let refused = λ (b : CheckpointFields).
    first_some (growth_refusal Proof o b ∷ consistency_refused o b p.digests ∷ []) in
    let with_new = λ (b : CheckpointFields). ok_unless (refused b) p.checkpoint in
    let (_, _, sized) = stepped (ok_unless (old_size_refusal o p) (tt {0}))
    (λ _. and_then (said_inside (checkpoint_in p.checkpoint)) with_new) new (rw (old_says, shows) at is) in
    let (b, said, last) = stepped (said_inside (checkpoint_in p.checkpoint)) with_new new sized in
    let (none, same) = ok_none (refused b) p.checkpoint new last in
    let b_is : b ≡ n = same_ok (checkpoint_in p.checkpoint) b n (inside_ok (checkpoint_in p.checkpoint) b said)
    (ap checkpoint_in same ∙ new_says) in
    let both = none_parts (growth_refusal Proof o b) _ none in
    subst (λ (x : CheckpointFields). consistency_refusal sha256 o.size x.size p.digests o.root x.root ≡ None) b_is
    (map_none (λ e. Refused Proof (Consistency e)) (consistency_refusal sha256 o.size b.size p.digests o.root b.root)
    (none_parts (consistency_refused o b p.digests) None both.1).0)

-- a collision is found unless the new file begins with the entries of the old one
module _ (framing : Framing) (old proof old_file new_file new : List ℕ) (D E : List (List ℕ)) (p : ConsistencyFields)
    (out : verify_consistency_outcome old proof ≡ Ok new) (old_is : entries_by Old framing old old_file ≡ Ok D)
    (new_is : entries_by Proof framing new new_file ≡ Ok E) (says : said_by Proof (consistency_in proof) ≡ Ok p) where
  old_by : ByText framing old old_file D
  old_by = by_text Old framing old old_file D old_is

  new_by : ByText framing new new_file E
  new_by = by_text Proof framing new new_file E new_is

  consistent : IsConsistent sha256 (length D) (length E) p.digests (root_of sha256 D) (root_of sha256 E)
  consistent =
      let none = grown old proof new (checkpoint_of old_by.origin D) (checkpoint_of new_by.origin E) p old_by.says
      new_by.says (said_ok Proof (consistency_in proof) p says) out in
      ((consistency_accepted sha256 (length D) (length E) p.digests (root_of sha256 D) (root_of sha256 E) (Ok tt)
      (sym none)).0 (search)).1

  pub begins : (found : Option Collision) → (IsNone found ↔ RootsFixPrefix sha256 D E p.digests) →
      IsNone found ↔ BeginsWithOldFile framing old_file new_file old proof
  begins found iff = (
    λ none m n other of_old other_out of_new.
        let new_same = same_ok (verify_consistency_outcome old proof) new other out other_out in
        let old_same = same_ok (entries_by Old framing old old_file) D (take m (entries_in framing old_file)) old_is
        (of_text Old framing old old_file m of_old) in
        let of =
        subst (λ (t : List ℕ). IsCheckpointOf (take n (entries_in framing new_file)) t) (sym new_same) of_new in
        let same = same_ok (entries_by Proof framing new new_file) E (take n (entries_in framing new_file)) new_is
        (of_text Proof framing new new_file n of) in
        let all = take m (entries_in framing old_file) in
        subst (λ (es : List (List ℕ)). all ≡ take (length all) es) same
        (subst (λ (ds : List (List ℕ)). ds ≡ take (length ds) E) old_same (iff.0 none new_by.small consistent)),
    λ all. iff.1 (λ small is.
        subst (λ (es : List (List ℕ)). D ≡ take (length D) es) new_by.are
        (subst (λ (ds : List (List ℕ)). ds ≡ take (length ds) (take new_by.n (entries_in framing new_file))) old_by.are
        (all old_by.n new_by.n new (own_checkpoint framing old old_file D old_by) out
        (own_checkpoint framing new new_file E new_by)))),
  )
