-- What seal and join print is read again, and parts are joined to what seal prints of the whole file.
use Rattle.std.proofs.Common.{◌≡◌, ◌≤◌, ◌<◌, ◌+◌, ◌^◌, ◌==◌, ◌∙◌, ℕ, zero, suc, List, [], ◌∷◌, ◌++◌, ap, arith, eq-eqb}
use Rattle.std.proofs.Common.{get_or, inl, inr, length, map, refl, subst, sym, append-nil, None, Ok, All, true, false}
use Rattle.std.proofs.Common.{nat_le, eqb-true, le-leb, leb-true, ne_eqb}
use Rattle.std.specs.List.{concat, flat_map, range_with_len, sum}
use Rattle.std.proofs.lemmas.Bool.{and_parts, cases_eq}
use Rattle.std.proofs.lemmas.List.{length-map, map-append}
use Rattle.std.proofs.lemmas.List.Concat.{length-flat_map}
use Rattle.std.proofs.lemmas.List.Elements.{All-cons, All-map, All-nil}
use Rattle.std.proofs.lemmas.List.FromFn.{get_or-range_with_len, length-range_with_len}
use Rattle.std.proofs.lemmas.List.Sums.{sum-map}
use Rattle.std.proofs.lemmas.Simd.{map-map}
use Rattle.std.specs.Int.{is_power_of_two}
use Rattle.p3_answers.proofs.AnswerFacts.{none_parts, range_none, unless_none}
use Rattle.p3_merkle_core.proofs.Shapes.LeastFacts.{n_below_pow}
use Rattle.p3_answers.specs.Answers.{ok_unless, unless}
use Rattle.sha2.specs.Sha256.{sha256}
use Rattle.tlog.proofs.Powers.{power_is, power_only}
use Rattle.tlog.specs.Rfc9162.{leaf_hash, root_of}
use Rattle.tlog.specs.Verdicts.{size_limit}
use Rattle.tlog_tree.proofs.Parts.{root_is_of_parts}
use Rattle.tlog_tree.specs.Parts.{HaveSize}
use Rattle.tlog_tree.specs.Trees.{leaves_root}
use Rattle.tlog_multiproof.proofs.Leaves.{mth_map}
use Rattle.tlog_text.proofs.LineFacts.{part_is_origin}
use Rattle.tlog_text.proofs.NoteLaws.{parts, read_again}
use Rattle.tlog_text.specs.Lines.{part_origin}
use Rattle.tlog_text.specs.Reading.{part_in}
use Rattle.tlog_text.specs.Texts.{checkpoint_text, IsDigest}
use Rattle.tlog_files.specs.Entries.{entries_in, is_refused, IsFraming}
use Rattle.tlog_files.specs.declared.framing.Framing.{Framing}
use Rattle.fohlazu_commands.specs.Laws.{AreSealed, EndWithEntries, JoinsAreReadAgain, PartsJoin, Says}
use Rattle.fohlazu_commands.specs.Laws.{SealsAreReadAgain}
use Rattle.fohlazu_commands.specs.Outcomes.{and_then, checkpoint_of, entries_read, is_part_size, join_outcome}
use Rattle.fohlazu_commands.specs.Outcomes.{join_refusal}
use Rattle.fohlazu_commands.specs.Outcomes.{joined, part_refusal, parts_in, said_by, seal_outcome, sizes_refusal}
use Rattle.fohlazu_commands.specs.declared.error.Source.TheVariants.{Part}
use Rattle.fohlazu_commands.proofs.OutcomeFacts.{entries_of_all, none_refused, refused_as, read_ok, entries_root}
use Rattle.fohlazu_commands.proofs.OutcomeFacts.{is_read}
use Rattle.fohlazu_commands.proofs.OutcomeFacts.{none_of, ok_none, root_is, said_ok, stepped}

-- ---- seal

-- a file that is sealed, and the text
pub record IsSealed (origin : List ℕ) (framing : Framing) (file text : List ℕ) : Type 0 where
  pub few : length (entries_in framing file) ≤ size_limit
  pub whole : is_refused framing None file ≡ false
  pub text_is : text ≡ checkpoint_text (checkpoint_of origin (entries_in framing file))

pub is_sealed : (origin : List ℕ) (framing : Framing) (file text : List ℕ) →
    seal_outcome origin framing file ≡ Ok text →
    IsSealed origin framing file text
is_sealed origin framing file text is =
    let found = stepped (entries_read framing None file)
    (λ entries. Ok (checkpoint_text (checkpoint_of origin entries))) text is in
    let read = is_read framing None file found.0 found.1 in
    let same : checkpoint_text (checkpoint_of origin found.0) ≡ text = cc in
    record {
      few = rw read.first read.few;
      whole = read.whole;
      text_is = sym same ∙ ap (λ entries. checkpoint_text (checkpoint_of origin entries)) (sym read.first);
    }

pub seals_read : SealsAreReadAgain
seals_read origin framing file text is sealed =
    let c = checkpoint_of origin (entries_in framing file) in
    let s = is_sealed origin framing file text sealed in
    subst (λ t. Says t c) (sym s.text_is)
    (read_again c (record { origin = is; size = s.few; root = entries_root (entries_in framing file) }))

-- ---- join

-- parts that are joined, and the text
pub record IsJoined (origin : List ℕ) (texts : List (List ℕ)) (text : List ℕ) (fields : List (ℕ × List ℕ))
    : Type 0 where
  pub fields_are : parts_in 0 texts ≡ Ok fields
  pub sizes_fit : sizes_refusal (map (λ (p : ℕ × List ℕ). p.0) fields) ≡ None
  pub few : sum (map (λ (p : ℕ × List ℕ). p.0) fields) ≤ size_limit
  pub text_is : text ≡ checkpoint_text (joined origin fields)

pub is_joined : (origin : List ℕ) (texts : List (List ℕ)) (text : List ℕ) → join_outcome origin texts ≡ Ok text →
    (fields : List (ℕ × List ℕ)) × IsJoined origin texts text fields
is_joined origin texts text is =
    let (fields, fields_are, last) = stepped (parts_in 0 texts)
    (λ fields. ok_unless (join_refusal (map (λ p. p.0) fields)) (checkpoint_text (joined origin fields))) text is in
    let sizes = map (λ (p : ℕ × List ℕ). p.0) fields in
    let (none, text_is) = ok_none (join_refusal sizes) (checkpoint_text (joined origin fields)) text last in
    let fit = none_parts (sizes_refusal sizes) _ none in
    let few = none_parts (unless (nat_le (sum sizes) size_limit) _) None fit.1 in (
      fields,
      record {
        fields_are = fields_are;
        sizes_fit = fit.0;
        few = leb-true (sum sizes) size_limit (unless_none (nat_le (sum sizes) size_limit) _ few.0);
        text_is = sym text_is;
      },
    )

-- roots of parts are digests
parts_roots : (k : ℕ) (texts : List (List ℕ)) (fields : List (ℕ × List ℕ)) → parts_in k texts ≡ Ok fields →
    All (λ (p : ℕ × List ℕ). IsDigest p.1) fields
parts_roots k [] [] is = All-nil (λ (p : ℕ × List ℕ). IsDigest p.1)
parts_roots k [] (p ∷ ps) is = absurd cc
parts_roots k (text ∷ texts) fields is =
    let part = stepped (said_by (Part k) (part_in text))
    (λ c. and_then (parts_in (k + 1) texts) (λ ps. Ok ((c.size, c.root) ∷ ps))) fields is in
    let c = part.0 in
    let more = stepped (parts_in (k + 1) texts) (λ ps. Ok ((c.size, c.root) ∷ ps)) fields part.2 in
    let same : (c.size, c.root) ∷ more.0 ≡ fields = cc in
    let note = (parts text c).0 (said_ok (Part k) (part_in text) c part.1) in
    subst (All (λ (p : ℕ × List ℕ). IsDigest p.1)) same
    (All-cons (λ (p : ℕ × List ℕ). IsDigest p.1) (c.size, c.root) more.0 note.2.checkpoint.root
    (parts_roots (k + 1) texts more.0 more.1))

pub joins_read : JoinsAreReadAgain
joins_read origin texts text is done =
    let found = is_joined origin texts text done in
    let fields = found.0 in
    let j = found.1 in
    let roots = map (λ (p : ℕ × List ℕ). p.1) fields in
    let root : IsDigest (leaves_root sha256 roots) =
    root_is (λ (leaf : List ℕ). leaf) roots
    (All-map IsDigest (λ (p : ℕ × List ℕ). p.1) fields (parts_roots 0 texts fields j.fields_are)) in (
      fields,
      j.fields_are,
      subst (λ t. Says t (joined origin fields)) (sym j.text_is)
          (read_again (joined origin fields) (record { origin = is; size = j.few; root = root })),
    )

-- ---- sizes

-- part k of some has the size of all, or as the last one 1 to as many
record IsPart (size : ℕ) (sizes : List ℕ) (k : ℕ) : Type 0 where
  last : k + 1 ≡ length sizes → (1 ≤ get_or sizes k 0) × (get_or sizes k 0 ≤ size)
  other : k + 1 < length sizes → get_or sizes k 0 ≡ size

have_size : (size : ℕ) (sizes : List ℕ) → ((k : ℕ) → k < length sizes → IsPart size sizes k) → HaveSize size sizes
have_size size [] each = tt
have_size size (x ∷ []) each = let part = each 0 (omega arith) in part.last refl
have_size size (x ∷ y ∷ sizes) each = (
  (let part = each 0 (omega arith) in part.other (omega arith)),
  have_size size (y ∷ sizes) (λ k within.
      let part = each (suc k) (omega arith) in
      record { last = λ is. part.last (omega arith); other = λ is. part.other (omega arith) }),
)

parts_have : (size : ℕ) (sizes : List ℕ) (k : ℕ) → HaveSize size sizes → k < length sizes → IsPart size sizes k
parts_have size [] k have within = absurd (omega arith)
parts_have size (x ∷ []) zero have within = record { last = λ is. have; other = λ is. absurd (omega arith) }
parts_have size (x ∷ []) (suc k) have within = absurd (omega arith)
parts_have size (x ∷ y ∷ sizes) zero have within =
    record { last = λ is. absurd (omega arith); other = λ is. have.0 }
parts_have size (x ∷ y ∷ sizes) (suc k) have within =
    let part = parts_have size (y ∷ sizes) k have.1 (omega arith) in
    record { last = λ is. part.last (omega arith); other = λ is. part.other (omega arith) }

-- what the tests of one part say
test_from : (sizes : List ℕ) (k : ℕ) → is_part_size sizes k ≡ true → IsPart (get_or sizes 0 0) sizes k
test_from sizes k is =
    let first = get_or sizes 0 0 in
    let size = get_or sizes k 0 in
    record {
      last = λ end.
          let both = and_parts (nat_le 1 size) (nat_le size first) (rw (eq-eqb (k + 1) (length sizes) end) at is) in
          (leb-true 1 size both.0, leb-true size first both.1);
      other = λ more.
          let apart : k + 1 ≡ length sizes → ⊥ = λ e. absurd (omega arith) in
          let both =
          and_parts (size == first) (is_power_of_two first) (rw (ne_eqb (k + 1) (length sizes) apart) at is) in
          eqb-true size first both.0;
    }

first_power : (sizes : List ℕ) → 1 < length sizes → is_part_size sizes 0 ≡ true →
    is_power_of_two (get_or sizes 0 0) ≡ true
first_power sizes more is =
    let first = get_or sizes 0 0 in
    let apart : 0 + 1 ≡ length sizes → ⊥ = λ e. absurd (omega arith) in
    (and_parts (first == first) (is_power_of_two first) (rw (ne_eqb (0 + 1) (length sizes) apart) at is)).1

test_to : (size : ℕ) (sizes : List ℕ) (k : ℕ) → k < length sizes → is_power_of_two size ≡ true →
    IsPart size sizes k → IsPart size sizes 0 → is_part_size sizes k ≡ true
test_to size sizes k within power part front =
    let first = get_or sizes 0 0 in
    let own = get_or sizes k 0 in
    elim (cases_eq (k + 1) (length sizes)) [
      | inl end ↦
          let (low, high) = part.last end in
          let most : own ≤ first = elim (cases_eq k 0) [
            | inl none ↦ let same : own ≡ first = ap (λ j. get_or sizes j 0) none in omega arith
            | inr some ↦ omega (arith, high, front.other (omega arith))
          ] in
          rw (eq-eqb (k + 1) (length sizes) end, le-leb 1 own low, le-leb own first most) refl
      | inr more ↦
          let all : first ≡ size = front.other (omega arith) in
          rw (ne_eqb (k + 1) (length sizes) more, eq-eqb own first (part.other (omega arith) ∙ sym all))
          (ap is_power_of_two all ∙ power)
    ]

pub sizes_from : (sizes : List ℕ) → sizes_refusal sizes ≡ None → (power : ℕ) × HaveSize (2 ^ power) sizes
sizes_from [] none = (0, tt)
sizes_from (x ∷ []) none =
    let test = unless_none (is_part_size (x ∷ []) 0) _
    (range_none (part_refusal (x ∷ [])) 0 1 0 none (omega arith) (omega arith)) in
    let last = (test_from (x ∷ []) 0 test).last refl in
    (x, (last.0, omega (arith, n_below_pow x)))
sizes_from (x ∷ y ∷ rest) none =
    let sizes = x ∷ y ∷ rest in
    let each = λ (k : ℕ) (within : k < length sizes).
    unless_none (is_part_size sizes k) _
    (range_none (part_refusal sizes) 0 (length sizes) k none (omega arith) (omega arith)) in
    let p = power_only x (first_power sizes (omega arith) (each 0 (omega arith))) in
    let have = have_size x sizes (λ k within. test_from sizes k (each k within)) in
    (p.0, subst (λ n. HaveSize n sizes) p.1 have)

pub sizes_to : (power : ℕ) (sizes : List ℕ) → HaveSize (2 ^ power) sizes → sizes_refusal sizes ≡ None
sizes_to power sizes have =
    none_of (part_refusal sizes) (range_with_len 0 (length sizes)) (λ k d within.
    let room : k < length sizes = omega (arith, length-range_with_len 0 (length sizes)) in
    let at : get_or (range_with_len 0 (length sizes)) k d ≡ k =
    get_or-range_with_len 0 (length sizes) k d room ∙ omega arith in
    let test : is_part_size sizes k ≡ true =
    test_to (2 ^ power) sizes k room (power_is power) (parts_have (2 ^ power) sizes k have room)
    (parts_have (2 ^ power) sizes 0 have (omega arith)) in
    ap (part_refusal sizes) at ∙ rw test refl)

-- ---- parts

-- the size and the root of a file
abbrev fields_of : Framing → List ℕ → ℕ × List ℕ
fields_of framing file = (length (entries_in framing file), root_of sha256 (entries_in framing file))

abbrev sizes_of : Framing → List (List ℕ) → List ℕ
sizes_of framing files = map (λ file. length (entries_in framing file)) files

-- the leaf hashes of each file
abbrev leaves_of : Framing → List (List ℕ) → List (List (List ℕ))
leaves_of framing files = map (λ file. map (leaf_hash sha256) (entries_in framing file)) files

module _ (framing : Framing) (is : IsFraming framing) where
  -- what the parts say
  parts_say : (k : ℕ) (files texts : List (List ℕ)) → AreSealed framing files texts →
      parts_in k texts ≡ Ok (map (fields_of framing) files)
  parts_say k [] [] are = refl
  parts_say k [] (text ∷ texts) are = absurd are
  parts_say k (file ∷ files) [] are = absurd are
  parts_say k (file ∷ files) (text ∷ texts) are =
      let read : part_in text ≡ Ok (checkpoint_of part_origin (entries_in framing file)) =
      (seals_read part_origin framing file text part_is_origin are.0).1 refl in
      rw (read, parts_say (k + 1) files texts are.1) refl

  -- the whole file is read if its parts are
  whole : (files texts : List (List ℕ)) → AreSealed framing files texts → EndWithEntries framing files →
      is_refused framing None (concat files) ≡ false
  whole [] texts are end = none_refused framing is
  whole (file ∷ files) [] are end = absurd are
  whole (file ∷ []) (text ∷ texts) are end =
      ap (is_refused framing None) (append-nil file) ∙ (is_sealed part_origin framing file text are.0).whole
  whole (file ∷ next ∷ files) (text ∷ texts) are end =
      refused_as framing file (concat (next ∷ files)) is end.0 ∙ whole (next ∷ files) texts are.1 end.1

  sizes_say : (files : List (List ℕ)) → map (λ (p : ℕ × List ℕ). p.0) (map (fields_of framing) files)
      ≡ sizes_of framing files
  sizes_say files = map-map (λ (p : ℕ × List ℕ). p.0) (fields_of framing) files

  roots_say : (files : List (List ℕ)) →
      map (λ (p : ℕ × List ℕ). p.1) (map (fields_of framing) files)
      ≡ map (leaves_root sha256) (leaves_of framing files)
  roots_say files =
      map-map (λ (p : ℕ × List ℕ). p.1) (fields_of framing) files
      ∙ (λ i. map (λ file. sym (mth_map sha256 (leaf_hash sha256) (entries_in framing file)) i) files)
      ∙ sym (map-map (leaves_root sha256) (λ file. map (leaf_hash sha256) (entries_in framing file)) files)

  lengths_are : (files : List (List ℕ)) →
      map (λ (part : List (List ℕ)). length part) (leaves_of framing files) ≡ sizes_of framing files
  lengths_are files =
      map-map (λ (part : List (List ℕ)). length part) (λ file. map (leaf_hash sha256) (entries_in framing file)) files
      ∙ (λ i. map (λ file. length-map (entries_in framing file) (leaf_hash sha256) i) files)

  leaves_are : (files : List (List ℕ)) →
      flat_map (λ (part : List (List ℕ)). part) (leaves_of framing files)
      ≡ map (leaf_hash sha256) (flat_map (entries_in framing) files)
  leaves_are [] = refl
  leaves_are (file ∷ files) =
      ap (λ leaves. map (leaf_hash sha256) (entries_in framing file) ++ leaves) (leaves_are files)
      ∙ sym (map-append (leaf_hash sha256) (entries_in framing file) (flat_map (entries_in framing) files))

  total : (files : List (List ℕ)) → sum (sizes_of framing files) ≡ length (flat_map (entries_in framing) files)
  total files =
      sum-map (λ file. length (entries_in framing file)) files ∙ sym (length-flat_map (entries_in framing) files)

  module _ (files : List (List ℕ)) (end : EndWithEntries framing files) where
    abbrev entries : List (List ℕ)
    entries = entries_in framing (concat files)

    all_are : entries ≡ flat_map (entries_in framing) files
    all_are = entries_of_all framing files is end

    size_is : sum (map (λ (p : ℕ × List ℕ). p.0) (map (fields_of framing) files)) ≡ length entries
    size_is = ap sum (sizes_say files) ∙ total files ∙ ap length (sym all_are)

    whole_root : (power : ℕ) → HaveSize (2 ^ power) (sizes_of framing files) →
        leaves_root sha256 (map (λ (p : ℕ × List ℕ). p.1) (map (fields_of framing) files)) ≡ root_of sha256 entries
    whole_root power have =
        ap (leaves_root sha256) (roots_say files)
        ∙ root_is_of_parts sha256 power (leaves_of framing files)
        (subst (λ sizes. HaveSize (2 ^ power) sizes) (sym (lengths_are files)) have)
        ∙ ap (leaves_root sha256) (leaves_are files)
        ∙ mth_map sha256 (leaf_hash sha256) (flat_map (entries_in framing) files)
        ∙ ap (root_of sha256) (sym all_are)

    -- both texts are one
    text_is : (origin : List ℕ) (power : ℕ) → HaveSize (2 ^ power) (sizes_of framing files) →
        checkpoint_text (joined origin (map (fields_of framing) files)) ≡ checkpoint_text (checkpoint_of origin entries)
    text_is origin power have =
        let root = whole_root power have in
        (λ i. checkpoint_text (record { origin = origin; size = size_is i; root = root i }))

pub parts_join : PartsJoin
parts_join origin framing files texts text is are end = (
  λ done.
      let (fields, j) = is_joined origin texts text done in
      let same : fields ≡ map (fields_of framing) files =
      let e = sym j.fields_are ∙ parts_say framing is 0 files texts are in cc in
      let sizes_are = ap (λ fields. map (λ (p : ℕ × List ℕ). p.0) fields) same in
      let (power, fits) = sizes_from (map (λ (p : ℕ × List ℕ). p.0) fields) j.sizes_fit in
      let have : HaveSize (2 ^ power) (sizes_of framing files) =
      subst (λ ns. HaveSize (2 ^ power) ns) (sizes_are ∙ sizes_say framing is files) fits in
      let few : length (entries_in framing (concat files)) ≤ size_limit =
      subst (λ n. n ≤ size_limit) (ap sum sizes_are ∙ size_is framing is files end) j.few in (
        (power, have),
        rw (read_ok framing None (concat files) few (whole framing is files texts are end)) (ap Ok
            (sym (text_is framing is files end origin power have)
            ∙ ap (λ fields. checkpoint_text (joined origin fields)) (sym same) ∙ sym j.text_is)),
      ),
  λ ((power, have), sealed).
      let s = is_sealed origin framing (concat files) text sealed in
      let sizes = map (λ (p : ℕ × List ℕ). p.0) (map (fields_of framing) files) in
      let fit : sizes_refusal sizes ≡ None =
      sizes_to power sizes (subst (λ ns. HaveSize (2 ^ power) ns) (sym (sizes_say framing is files)) have) in
      let few : nat_le (sum sizes) size_limit ≡ true =
      le-leb (sum sizes) size_limit (omega (arith, size_is framing is files end, s.few)) in
      rw (parts_say framing is 0 files texts are, fit, few)
      (ap Ok (text_is framing is files end origin power have ∙ sym s.text_is)),
)
