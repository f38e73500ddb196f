-- The digests of slots: those of a proof, and padding.
use Rattle.std.proofs.Common.{◌≡◌, ℕ, suc, ◌+◌, ◌-◌, ◌*◌, ◌/◌, ◌^◌, ◌<◌, ◌≤◌, true, false, List, [], ◌∷◌, ◌++◌, map}
use Rattle.std.proofs.Common.{filter, refl, ap, sym, ◌∙◌, arith, inl, inr, length, take, drop, drop-cons, get_or, Some}
use Rattle.std.proofs.Common.{append_assoc, take-append-drop, length-append, length-drop, nat_le}
use Rattle.std.proofs.lemmas.Bool.{cases_Bool, cases_lt, lt-ltb, ltb-true, true≢false}
use Rattle.std.proofs.lemmas.Bool.Decides.{nat_tests}
use Rattle.std.proofs.lemmas.List.{drop-drop, take_more}
use Rattle.std.proofs.lemmas.List.Elements.{filter-append}
use Rattle.std.proofs.lemmas.Nat.{pow_pos}
use Rattle.std.proofs.Math.Nat.{le-div_iff_mul-le}
use Rattle.tlog_multiproof.specs.Entries.{digests_refusal, is_node, with_padding}
use Rattle.tlog_multiproof.specs.Instance.{AreLogDigests}
use Rattle.tlog_multiproof.specs.declared.error.EntriesError.TheVariants.{TooFewDigests}
use Rattle.tlog_multiproof.specs.declared.tree.Node.{Node}
use Rattle.tlog_multiproof.specs.declared.tree.Node.TheVariants.{Absent, Hash}
use Rattle.tlog_multiproof.proofs.Shapes.{one_taken}

-- ---- nodes

pub node_test : (size l j : ℕ) → 0 < size → nat_le j ((size - 1) / 2 ^ l) ≡ is_node size (l, j)
node_test size l j some =
    let some_leaves : 0 < 2 ^ l = pow_pos l in
    let whole = le-div_iff_mul-le {k = 2 ^ l} {x = j} {y = size - 1} some_leaves in
    elim (cases_lt (j * 2 ^ l) size) [
      | inl less ↦ let le : j ≤ (size - 1) / 2 ^ l = whole.1 (omega arith) in grind (arith, nat_tests)
      | inr rest ↦
          let more : (size - 1) / 2 ^ l < j = elim (cases_lt ((size - 1) / 2 ^ l) j) [
            | inl above ↦ above
            | inr below ↦ let le : j * 2 ^ l ≤ size - 1 = whole.0 (omega arith) in absurd (omega arith)
          ] in
          grind (arith, nat_tests)
    ]

-- ---- slot by slot

-- one slot more
padded_next : (size : ℕ) (slots : List (ℕ × ℕ)) (slot : ℕ × ℕ) (proof : List (List ℕ)) →
    with_padding size (slots ++ slot ∷ []) proof ≡ with_padding size slots proof
    ++ with_padding size (slot ∷ []) (drop (length (filter (is_node size) slots)) proof)
padded_next size [] slot proof = refl
padded_next size (s ∷ slots) slot proof =
    let last = λ (k : ℕ). with_padding size (slot ∷ []) (drop k proof) in
    let count = length (filter (is_node size) slots) in
    elim (cases_Bool (is_node size s)) [
      | inl t ↦
          let first = map (λ (digest : List ℕ). Hash digest ∷ []) (take 1 proof) in
          let rest = padded_next size slots slot (drop 1 proof)
          ∙ ap (λ ds. with_padding size slots (drop 1 proof) ++ with_padding size (slot ∷ []) ds)
          (drop-drop count 1 proof) in
          let whole : with_padding size (s ∷ (slots ++ slot ∷ [])) proof
          ≡ first ++ with_padding size (slots ++ slot ∷ []) (drop 1 proof) = rw t refl in
          let one : 1 + count ≡ suc count = omega arith in
          whole ∙ ap (λ ys. first ++ ys) rest
          ∙ sym (append_assoc first (with_padding size slots (drop 1 proof)) (last (1 + count)))
          ∙ rw t (ap (λ (k : ℕ). (first ++ with_padding size slots (drop 1 proof)) ++ last k) one)
      | inr n ↦ rw n (ap (λ ys. (Absent ∷ []) ∷ ys) (padded_next size slots slot proof))
    ]

-- the digests of the first slots; `used` of them are the proof's
pub record IsPadded (size : ℕ) (slots : List (ℕ × ℕ)) (proof : List (List ℕ)) (i used : ℕ)
    (digests : List (List Node)) : Type 0 where
  pub counted : used ≡ length (filter (is_node size) (take i slots))
  pub enough : used ≤ length proof
  pub so_far : digests ≡ with_padding size (take i slots) proof

-- the first slots and one more
slots_next : (size : ℕ) (slots : List (ℕ × ℕ)) (proof : List (List ℕ)) (i used : ℕ) (digests : List (List Node)) →
    i < length slots → IsPadded size slots proof i used digests →
    with_padding size (take (i + 1) slots) proof
    ≡ digests ++ with_padding size (get_or slots i (0, 0) ∷ []) (drop used proof)
slots_next size slots proof i used digests h w =
    ap (λ xs. with_padding size xs proof) (take_more slots i (0, 0) h)
    ∙ padded_next size (take i slots) (get_or slots i (0, 0)) proof
    ∙ rw (w.so_far, w.counted) refl

count_next : (size : ℕ) (slots : List (ℕ × ℕ)) (i : ℕ) → i < length slots →
    length (filter (is_node size) (take (i + 1) slots))
    ≡ length (filter (is_node size) (take i slots)) + length (filter (is_node size) (get_or slots i (0, 0) ∷ []))
count_next size slots i h =
    ap (λ xs. length (filter (is_node size) xs)) (take_more slots i (0, 0) h)
    ∙ ap length (filter-append (is_node size) (take i slots) (get_or slots i (0, 0) ∷ []))
    ∙ length-append (filter (is_node size) (take i slots)) (filter (is_node size) (get_or slots i (0, 0) ∷ []))

pub padding_more : (size : ℕ) (slots : List (ℕ × ℕ)) (proof : List (List ℕ)) (i used : ℕ) (old new : List (List Node)) →
    i < length slots → is_node size (get_or slots i (0, 0)) ≡ false → IsPadded size slots proof i used old →
    new ≡ old ++ (Absent ∷ []) ∷ [] → IsPadded size slots proof (i + 1) used new
padding_more size slots proof i used old new h n w is =
    let none : length (filter (is_node size) (get_or slots i (0, 0) ∷ [])) ≡ 0 = rw n refl in
    let last : with_padding size (get_or slots i (0, 0) ∷ []) (drop used proof) ≡ (Absent ∷ []) ∷ [] = rw n refl in
    record {
      counted = omega (arith, w.counted, count_next size slots i h);
      enough = w.enough;
      so_far = is ∙ sym (slots_next size slots proof i used old h w ∙ ap (λ ys. old ++ ys) last);
    }

pub node_more : (size : ℕ) (slots : List (ℕ × ℕ)) (proof : List (List ℕ)) (i used : ℕ) (old new : List (List Node)) →
    i < length slots → is_node size (get_or slots i (0, 0)) ≡ true → used < length proof →
    IsPadded size slots proof i used old → new ≡ old ++ (Hash (get_or proof used []) ∷ []) ∷ [] →
    IsPadded size slots proof (i + 1) (used + 1) new
node_more size slots proof i used old new h t more w is =
    let one : length (filter (is_node size) (get_or slots i (0, 0) ∷ [])) ≡ 1 = rw t refl in
    let last : with_padding size (get_or slots i (0, 0) ∷ []) (drop used proof)
    ≡ (Hash (get_or proof used []) ∷ []) ∷ [] = rw (t, drop-cons proof used [] more) refl in
    record {
      counted = omega (arith, w.counted, count_next size slots i h);
      enough = omega arith;
      so_far = is ∙ sym (slots_next size slots proof i used old h w ∙ ap (λ ys. old ++ ys) last);
    }

-- a node for which no digest is left
pub too_few : (size : ℕ) (slots : List (ℕ × ℕ)) (proof : List (List ℕ)) (i used : ℕ) (digests : List (List Node)) →
    i < length slots → is_node size (get_or slots i (0, 0)) ≡ true → used ≡ length proof →
    IsPadded size slots proof i used digests →
    digests_refusal (length (filter (is_node size) slots)) (length proof) ≡ Some TooFewDigests
too_few size slots proof i used digests h t all w =
    let one : length (filter (is_node size) (get_or slots i (0, 0) ∷ [])) ≡ 1 = rw t refl in
    let front = filter (is_node size) (take (i + 1) slots) in
    let split = ap (filter (is_node size)) (sym (take-append-drop (i + 1) slots))
    ∙ filter-append (is_node size) (take (i + 1) slots) (drop (i + 1) slots) in
    let more : length front ≤ length (filter (is_node size) slots) =
    omega (arith, length-append front (filter (is_node size) (drop (i + 1) slots)), ap length split) in
    let less : length proof < length (filter (is_node size) slots) =
    omega (arith, w.counted, count_next size slots i h) in
    let no : nat_le (length (filter (is_node size) slots)) (length proof) ≡ false = grind (arith, nat_tests) in
    rw no refl

-- ---- filled

-- the digests are filled by the count, where the proof has one for each node
pub padded_filled : (size : ℕ) (slots : List (ℕ × ℕ)) (proof : List (List ℕ)) →
    length proof ≡ length (filter (is_node size) slots) → AreLogDigests size slots (with_padding size slots proof)
padded_filled size [] proof e = tt
padded_filled size ((l, j) ∷ slots) proof e =
    let rest = filter (is_node size) slots in
    elim (cases_Bool (is_node size (l, j))) [
      | inl t ↦
          let more : length proof ≡ suc (length rest) = rw t at e in
          let left : length (drop 1 proof) ≡ length rest = omega (arith, length-drop 1 proof) in
          let first : take 1 proof ≡ get_or proof 0 [] ∷ [] = one_taken proof 0 [] (omega arith) in
          let is : with_padding size ((l, j) ∷ slots) proof
          ≡ (Hash (get_or proof 0 []) ∷ []) ∷ with_padding size slots (drop 1 proof) = rw (t, first) refl in
          rw is (
            record {
              node = λ below. (get_or proof 0 [], refl);
              padding = λ above. let below = ltb-true (j * 2 ^ l) size t in absurd (omega arith);
            },
            padded_filled size slots (drop 1 proof) left,
          )
      | inr n ↦
          let left : length proof ≡ length rest = rw n at e in
          let is : with_padding size ((l, j) ∷ slots) proof ≡ (Absent ∷ []) ∷ with_padding size slots proof =
          rw n refl in
          rw is (
            record {
              node = λ below. absurd (true≢false (sym (lt-ltb (j * 2 ^ l) size below) ∙ n));
              padding = λ above. refl;
            },
            padded_filled size slots proof left,
          )
    ]

pub filled_length : (size : ℕ) (slots : List (ℕ × ℕ)) (digests : List (List Node)) → AreLogDigests size slots digests →
    length digests ≡ length slots
filled_length size [] [] w = refl
filled_length size [] (digest ∷ digests) w = absurd w
filled_length size (slot ∷ slots) [] w = absurd w
filled_length size (slot ∷ slots) (digest ∷ digests) w = ap suc (filled_length size slots digests w.1)
