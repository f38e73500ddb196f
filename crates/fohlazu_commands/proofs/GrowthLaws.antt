-- Growth is proved, and its proofs are accepted.
use Rattle.std.proofs.Common.{◌≡◌, ◌≤◌, ◌<◌, ◌==◌, ◌∙◌, ℕ, zero, suc, List, [], ◌∷◌, ◌++◌, ap, arith, eq-eqb, inl, inr}
use Rattle.std.proofs.Common.{length, length-append, refl, sym, subst, None, Some, Ok, Err, Option, map, ◌||◌, not}
use Rattle.std.proofs.Common.{true, nat_le, le-leb, leb-true, ne_eqb, true≢false, append-nil, take_at, Result}
use Rattle.std.specs.Cmp.Lexicographic.{bytes_decides}
use Rattle.std.specs.Option.{option_map}
use Rattle.std.proofs.lemmas.Bool.{cases_eq}
use Rattle.std.proofs.lemmas.List.{nil_from_length, length-map}
use Rattle.std.proofs.lemmas.List.Elements.{All-nil}
use Rattle.p3_answers.specs.Answers.{ok_unless, unless}
use Rattle.p3_answers.proofs.AnswerFacts.{map_none, none_parts, unless_none}
use Rattle.sha2.specs.Sha256.{sha256}
use Rattle.tlog.specs.Rfc9162.{leaf_hash, proof_of, root_of, Hash, consistency_proof, subproof_within}
use Rattle.tlog.specs.Verdicts.{consistency_refusal, is_same, size_limit, IsConsistent}
use Rattle.tlog.specs.declared.error.ProofError.{ProofError}
use Rattle.tlog.proofs.Accepted.{consistency_accepted}
use Rattle.tlog.proofs.Layers.{itself}
use Rattle.tlog.proofs.Roots.{proof_few, AreFew}
use Rattle.tlog.proofs.Honest.{honest_grown, root_of_none, sub_whole}
use Rattle.tlog_text.specs.Reading.{checkpoint_in, consistency_in}
use Rattle.tlog_text.specs.Texts.{consistency_text, CheckpointFields, ConsistencyFields, IsConsistencyProof, IsDigest}
use Rattle.tlog_text.proofs.ProofLaws.{consistency_proofs}
use Rattle.tlog_text.proofs.NoteLaws.{notes}
use Rattle.tlog_files.specs.declared.framing.Framing.{Framing}
use Rattle.fohlazu_commands.specs.Commands.{max_note_bytes, note_from}
use Rattle.fohlazu_commands.specs.Laws.{GrowthIsAccepted, GrowthIsProved}
use Rattle.fohlazu_commands.specs.Outcomes.{verify_consistency_outcome}
use Rattle.fohlazu_commands.specs.Outcomes.{and_then, checkpoint_of, compared, consistency_refused, entries_under}
use Rattle.fohlazu_commands.specs.Outcomes.{growth_digests, growth_refusal, growth_text, prove_growth, said_by}
use Rattle.fohlazu_commands.specs.declared.error.Error.{Error}
use Rattle.fohlazu_commands.specs.declared.error.Error.TheVariants.{Refused}
use Rattle.fohlazu_commands.specs.declared.error.Source.{Source}
use Rattle.fohlazu_commands.specs.declared.error.Refusal.TheVariants.{Consistency, OtherOldEntries}
use Rattle.fohlazu_commands.specs.declared.error.Source.TheVariants.{File, New, Old, Proof}
use Rattle.fohlazu_commands.proofs.OutcomeFacts.{are_under, entries_root, first_under, ok_none, said_ok, stepped}
use Rattle.fohlazu_commands.proofs.RunFacts.{short_came, short_goes}
use Rattle.tlog_tree.specs.Trees.{all_there, values_at}
use Rattle.tlog_tree.specs.declared.node_id.NodeId.{NodeId}
use Rattle.tlog_multiproof.proofs.Subproofs.{subproof_map}

-- from a size above 0 the digests are PROOF
pub some_are : (old : ℕ) (entries : List (List ℕ)) → 0 < old → growth_digests old entries ≡ proof_of sha256 old entries
some_are old entries some =
    let other : old ≡ 0 → ⊥ = λ is. absurd (omega arith) in rw (ne_eqb old 0 other) refl

-- between equal sizes there are none
pub equal_nodes : (old new : ℕ) (entries : List (List ℕ)) (nodes : List NodeId) → 0 < old → old ≡ new →
    length entries ≡ new → nodes ≡ [] →
    values_at sha256 (map (leaf_hash sha256) entries) nodes ≡ all_there (growth_digests old entries)
equal_nodes old new entries nodes some same len none =
    let at : old ≡ length entries = same ∙ sym len in
    let known : proof_of sha256 old entries ≡ [] =
    ap (λ m. proof_of sha256 m entries) at ∙ sub_whole sha256 (leaf_hash sha256) entries true (omega arith) in
    ap (values_at sha256 (map (leaf_hash sha256) entries)) none
    ∙ sym (ap all_there (some_are old entries some ∙ known))

-- between others they are the values of nodes
pub other_nodes : (old new : ℕ) (entries : List (List ℕ)) (nodes : List NodeId) → 0 < old →
    length entries ≡ new →
    ((hash : Hash) (leaves : List (List ℕ)) → length leaves ≡ new →
    values_at hash leaves nodes ≡ all_there (consistency_proof hash itself old leaves)) →
    values_at sha256 (map (leaf_hash sha256) entries) nodes ≡ all_there (growth_digests old entries)
other_nodes old new entries nodes some len each =
    each sha256 (map (leaf_hash sha256) entries) (length-map entries (leaf_hash sha256) ∙ len)
    ∙ ap all_there
    (ap (λ n. subproof_within n sha256 itself old (map (leaf_hash sha256) entries) true)
    (length-map entries (leaf_hash sha256))
    ∙ subproof_map sha256 (leaf_hash sha256) (length entries) old entries true ∙ sym (some_are old entries some))

-- ---- two checkpoints

-- what is refused of two checkpoints does not depend on which of them is named
other_source : (a b : Source) (old new : CheckpointFields) → growth_refusal a old new ≡ None →
    growth_refusal b old new ≡ None
other_source a b old new none =
    let origin = none_parts (unless (is_same old.origin new.origin) _) _ none in
    let size = none_parts (unless (nat_le old.size new.size) _) _ origin.1 in
    let root = none_parts (unless (not (old.size == new.size) || is_same old.root new.root) _) None size.1 in
    let origin_is = unless_none (is_same old.origin new.origin) _ origin.0 in
    let size_is = unless_none (nat_le old.size new.size) _ size.0 in
    let root_is = unless_none (not (old.size == new.size) || is_same old.root new.root) _ root.0 in
    rw (origin_is, size_is, root_is) refl

-- two texts say checkpoints, and the new checkpoint may follow the old one
are_compared : (old new : List ℕ) (o n : CheckpointFields) → compared old new ≡ Ok (o, n) →
    (checkpoint_in old ≡ Ok o) × (checkpoint_in new ≡ Ok n) × (growth_refusal New o n ≡ None)
are_compared old new o n is =
    let with_new = λ (a b : CheckpointFields). ok_unless (growth_refusal New a b) (a, b) in
    let (a, one, more) = stepped (said_by Old (checkpoint_in old))
    (λ a. and_then (said_by New (checkpoint_in new)) (with_new a)) (o, n) is in
    let (b, other, last) = stepped (said_by New (checkpoint_in new)) (with_new a) (o, n) more in
    let (none, same) = ok_none (growth_refusal New a b) (a, b) (o, n) last in
    let a_is : a ≡ o = ap (λ (p : CheckpointFields × CheckpointFields). p.0) same in
    let b_is : b ≡ n = ap (λ (p : CheckpointFields × CheckpointFields). p.1) same in (
      said_ok Old (checkpoint_in old) a one ∙ ap Ok a_is,
      said_ok New (checkpoint_in new) b other ∙ ap Ok b_is,
      (λ i. growth_refusal New (sym a_is i) (sym b_is i)) ∙ none,
    )

same_itself : (bytes : List ℕ) → is_same bytes bytes ≡ true
same_itself bytes = (bytes_decides bytes bytes).1 refl

-- ---- accepted

size_of : (text : List ℕ) (c : CheckpointFields) → checkpoint_in text ≡ Ok c → c.size ≤ size_limit
size_of text c is = let found = (notes text c).0 is in found.2.checkpoint.size

short_of : (text : List ℕ) (c : CheckpointFields) → checkpoint_in text ≡ Ok c → length text ≤ max_note_bytes
short_of text c is = let found = (notes text c).0 is in found.2.short

-- the digests that are sent
sent : (old_size : ℕ) (entries : List (List ℕ)) → old_size ≤ length entries → length entries ≤ size_limit →
    AreFew IsDigest 63 (growth_digests old_size entries)
sent zero entries inside small = record { few = omega arith; each = All-nil IsDigest }
sent (suc k) entries inside small =
    subst (AreFew IsDigest 63) (sym (some_are (suc k) entries (omega arith)))
    (proof_few IsDigest sha256 entries_root (suc k) entries (omega arith) inside small)

-- a proof that is read, between checkpoints that fit
verified : (old proof : List ℕ) (o n : CheckpointFields) (p : ConsistencyFields) → checkpoint_in old ≡ Ok o →
    consistency_in proof ≡ Ok p → p.old_size ≡ o.size → checkpoint_in p.checkpoint ≡ Ok n →
    growth_refusal Proof o n ≡ None → consistency_refused o n p.digests ≡ None →
    verify_consistency_outcome old proof ≡ Ok p.checkpoint
verified old proof o n p old_is proof_is size_is new_is follows accepted =
    rw (old_is, proof_is, eq-eqb p.old_size o.size size_is, new_is, follows, accepted) refl

-- what follows the checkpoints as they are read
module _ (framing : Framing) (new file : List ℕ) where
  abbrev with_new : List ℕ → List ℕ → Result (List ℕ) Error
  with_new old text =
      and_then (compared old text) (λ (pair : CheckpointFields × CheckpointFields).
      prove_growth framing pair.0 pair.1 text file)

  abbrev with_old : List ℕ → Result (List ℕ) Error
  with_old text = and_then (note_from New (Some new)) (with_new text)

pub growth_is_accepted : GrowthIsAccepted
growth_is_accepted framing old new file proof is =
    let came = short_came New max_note_bytes new (with_new framing new file old) proof
    (short_came Old max_note_bytes old (with_old framing new file) proof is) in
    let ((o, n), pair, more) = stepped (compared old new) (λ (o, n). prove_growth framing o n new file) proof came in
    let (old_is, new_is, follows) = are_compared old new o n pair in
    let (entries, read, last) = stepped (entries_under framing n file) (growth_text o n new) proof more in
    let under = are_under framing n file entries read in
    let digests = growth_digests o.size entries in
    let p : ConsistencyFields = record { old_size = o.size; digests = digests; checkpoint = new } in
    let refusal = consistency_refusal sha256 o.size n.size digests o.root n.root in
    let (none, text_is) =
    ok_none (option_map (λ e. Refused File OtherOldEntries) refusal) (consistency_text p) proof last in
    let accepted = map_none (λ (e : ProofError). Refused File OtherOldEntries) refusal none in
    let ordered : o.size ≤ n.size =
    let size = none_parts (unless (nat_le o.size n.size) _) _
    (none_parts (unless (is_same o.origin n.origin) _) _ follows).1 in
    leb-true o.size n.size (unless_none (nat_le o.size n.size) _ size.0) in
    let are = sent o.size entries (omega (arith, under.size)) (omega (arith, under.size, size_of new n new_is)) in
    let fields : IsConsistencyProof p =
    record { old_size = size_of old o old_is; digests = are.each; few_digests = are.few } in
    verified old proof o n p old_is ((consistency_proofs proof p).1 (fields, sym text_is)) refl new_is
    (other_source New Proof o n follows) (ap (option_map (λ e. Refused Proof (Consistency e))) accepted)

-- ---- proved

none_refused : (old new : ℕ) (digests : List (List ℕ)) (old_root new_root : List ℕ) → new ≤ size_limit →
    IsConsistent sha256 old new digests old_root new_root →
    consistency_refusal sha256 old new digests old_root new_root ≡ None
none_refused old new digests old_root new_root small is =
    by (consistency_refusal sha256 old new digests old_root new_root) refl
  where
    by : (r : Option ProofError) → consistency_refusal sha256 old new digests old_root new_root ≡ r → r ≡ None
    by None e = refl
    by (Some error) e =
        absurd (true≢false (sym ((consistency_accepted sha256 old new digests old_root new_root (Err error) (sym e)).1
        (small, is))))

-- the first entries of a list, and all
grown : (first more : List (List ℕ)) → length (first ++ more) ≤ size_limit →
    IsConsistent sha256 (length first) (length (first ++ more)) (growth_digests (length first) (first ++ more))
    (root_of sha256 first) (root_of sha256 (first ++ more))
grown [] more small = record {
  ordered = omega arith;
  from_nothing = λ z.
      (refl, root_of_none sha256 (leaf_hash sha256) [] refl, root_of_none sha256 (leaf_hash sha256) more);
  unchanged = λ p same. absurd (omega arith);
  grown = λ p l. absurd (omega arith);
}
grown (x ∷ xs) more small =
    let first = x ∷ xs in
    let all = first ++ more in
    let m = length first in
    let inside : m ≤ length all = omega (arith, length-append first more) in
    let honest = honest_grown sha256 all m (omega arith) inside small in
    subst (λ digests. IsConsistent sha256 m (length all) digests (root_of sha256 first) (root_of sha256 all))
    (sym (some_are m all (omega arith)))
    (subst (λ ys. IsConsistent sha256 m (length all) (proof_of sha256 m all) (root_of sha256 ys) (root_of sha256 all))
    (take_at first more m refl) honest)

follows : (origin : List ℕ) (first more : List (List ℕ)) →
    growth_refusal New (checkpoint_of origin first) (checkpoint_of origin (first ++ more)) ≡ None
follows origin first more =
    let all = first ++ more in
    let inside : nat_le (length first) (length all) ≡ true =
    le-leb (length first) (length all) (omega (arith, length-append first more)) in
    let roots : (not (length first == length all) || is_same (root_of sha256 first) (root_of sha256 all)) ≡ true =
    elim (cases_eq (length first) (length all)) [
      | inl same ↦
          let nothing : more ≡ [] = nil_from_length more (omega (arith, length-append first more)) in
          let one : all ≡ first = ap (λ xs. first ++ xs) nothing ∙ append-nil first in
          rw (eq-eqb (length first) (length all) same)
          (ap (λ xs. is_same (root_of sha256 first) (root_of sha256 xs)) one ∙ same_itself (root_of sha256 first))
      | inr other ↦ rw (ne_eqb (length first) (length all) other) refl
    ] in
    rw (same_itself origin, inside, roots) refl

pub growth_is_proved : GrowthIsProved
growth_is_proved framing origin old new file first more old_is new_is begins =
    let all = first ++ more in
    let o = checkpoint_of origin first in
    let n = checkpoint_of origin all in
    let small = size_of new n new_is in
    let digests = growth_digests (length first) all in
    let proof = consistency_text (record { old_size = length first; digests = digests; checkpoint = new }) in
    let none = none_refused (length first) (length all) digests (root_of sha256 first) (root_of sha256 all) small
    (grown first more small) in
    let given : with_new framing new file old new ≡ Ok proof =
    rw (old_is, new_is, follows origin first more, first_under framing origin file all begins small, none) refl in (
      proof,
      short_goes Old max_note_bytes old (with_old framing new file) proof (short_of old o old_is)
          (short_goes New max_note_bytes new (with_new framing new file old) proof (short_of new n new_is) given),
    )
