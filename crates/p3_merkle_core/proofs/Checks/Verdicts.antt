-- The answers under a cap: what is accepted is what is not refused.
use Rattle.std.proofs.Common.{◌≡◌, ◌↔◌, ℕ, zero, suc, ◌<◌, Bool, true, false, eqb, nat_lt, List, [], ◌∷◌, map, refl, ap}
use Rattle.std.proofs.Common.{sym, ◌∙◌, arith, length, get_or, slice_get, Option, Some, None, eq-eqb}
use Rattle.std.proofs.lemmas.Grind.{common_steps}
use Rattle.std.proofs.lemmas.Bool.{and_parts, and_from, eqb-true, ltb-true, lt-ltb, true≢false}
use Rattle.std.proofs.lemmas.List.{length-map}
use Rattle.std.specs.Prelude.{Ok, Decides}
use Rattle.std.specs.Cmp.Lexicographic.{pointwise, pointwise_decides}
use Rattle.std.specs.List.{list_all}
use Rattle.std.specs.Option.{unwrap_or, option_map, option_or}
use Rattle.p3_merkle_core.proofs.Checks.CheckFacts.{accepted_walk, accepted_by_walk}
use Rattle.p3_merkle_core.proofs.Covered.Equivalence.{query_covered, rows_under_is, equivalent}
use Rattle.p3_merkle_core.proofs.Pruned.Answered.{restorable}
use Rattle.p3_answers.proofs.AnswerFacts.{none_parts, unless_none, none_unless, verdict_ok}
use Rattle.p3_merkle_core.proofs.Pruned.NoneFacts.{rows_fit_from}
use Rattle.p3_merkle_core.proofs.Pruned.Unrefused.{unrefused, size_none, each_width}
use Rattle.p3_merkle_core.proofs.Shapes.GateFacts.{gate_lawful}
use Rattle.p3_merkle_core.proofs.Shapes.LeastFacts.{length-widths}
use Rattle.p3_support.specs.Batches.{greatest}
use Rattle.p3_merkle_core.specs.Geometry.{Shape, IsArity, ancestor, heights, widths, IsLawful}
use Rattle.p3_merkle_core.specs.Nodes.{Functions}
use Rattle.p3_merkle_core.specs.Openings.{Opening}
use Rattle.p3_merkle_core.specs.Checks.{IsAccepted, siblings_below, path_digest, params}
use Rattle.p3_merkle_core.specs.Pruning.{PrunedOpening, restored_node, IsCapped, IsPrunedAccepted, IsRestorable}
use Rattle.p3_merkle_core.specs.Refusals.{is_entry, row_width_refusal, refusal_under, answer_under}
use Rattle.p3_answers.specs.Answers.{unless, ok_unless}
use Rattle.p3_merkle_core.specs.Refusals.{pruned_refusal, cap_refusal, pruned_answer_under, form_refusal}
use Rattle.p3_merkle_core.specs.declared.error.MerkleTreeError.TheVariants.{WrongHeight, IndexOutOfBounds, CapMismatch}

-- ---- entries

some_is : {W : Type 0} (digest_eq : W → W → Bool) → ((x y : W) → Decides (digest_eq x y) (x ≡ y)) →
    (o : Option (List W)) (d : List W) →
    (unwrap_or (option_map (λ entry. pointwise digest_eq entry d) o) false ≡ true) ↔ (o ≡ Some d)
some_is digest_eq dec None d = (λ e. absurd (true≢false (sym e)), λ e. absurd cc)
some_is digest_eq dec (Some x) d = (
  λ e. ap (λ y. Some y) ((pointwise_decides dec x d).0 e),
  λ e. (pointwise_decides dec x d).1 (let c : x ≡ d = cc in c),
)

pub entry_is : {W : Type 0} (digest_eq : W → W → Bool) → ((x y : W) → Decides (digest_eq x y) (x ≡ y)) →
    (cap : List (List W)) (j : ℕ) (d : List W) →
    (is_entry (pointwise digest_eq) cap j d ≡ true) ↔ (slice_get cap j ≡ Some d)
entry_is digest_eq dec cap j d = some_is digest_eq dec (slice_get cap j) d

each_true : (p : ℕ → Bool) (xs : List ℕ) → list_all p xs ≡ true → (k : ℕ) → k < length xs → p (get_or xs k 0) ≡ true
each_true p [] e k h = absurd (omega arith)
each_true p (x ∷ xs) e zero h = (and_parts (p x) (list_all p xs) e).0
each_true p (x ∷ xs) e (suc k) h = each_true p xs (and_parts (p x) (list_all p xs) e).1 k (omega arith)

true_each : (p : ℕ → Bool) (xs : List ℕ) → ((k : ℕ) → k < length xs → p (get_or xs k 0) ≡ true) → list_all p xs ≡ true
true_each p [] e = refl
true_each p (x ∷ xs) e =
    and_from (p x) (list_all p xs) (e 0 (omega arith)) (true_each p xs (λ k h. e (suc k) (omega arith)))

-- ---- single openings

-- the form is not refused exactly if the heights are lawful and rows, siblings and index fit them
pub record HasForm {T : Type 0} (s : Shape) (t index : ℕ) (rows : List (List T)) (siblings : ℕ) : Type 0 where
  pub lawful : IsLawful (heights s)
  pub rows_fit : map length rows ≡ widths s
  pub count : siblings ≡ siblings_below s t
  pub in_range : index < greatest (heights s)

pub form_from : {T : Type 0} (s : Shape) (t index : ℕ) (rows : List (List T)) (siblings : ℕ) →
    form_refusal s t index rows siblings ≡ None → HasForm s t index rows siblings
form_from s t index rows siblings e =
    grind (arith, common_steps, eqb-true, ltb-true, none_parts, unless_none, rows_fit_from, gate_lawful, length-widths)

pub form_none : {T : Type 0} (s : Shape) (t index : ℕ) (rows : List (List T)) (siblings : ℕ) →
    HasForm s t index rows siblings → form_refusal s t index rows siblings ≡ None
form_none s t index rows siblings w =
    let m = greatest (heights s) in
    let size = size_none (length s.dimensions) (length rows) (sym (length-widths s) ∙ sym (ap length w.rows_fit)
    ∙ length-map rows length) in
    let gate = (gate_lawful (heights s)).1 w.lawful in
    let height = none_unless (eqb (siblings_below s t) siblings) (WrongHeight (siblings_below s t) siblings)
    (eq-eqb (siblings_below s t) siblings (sym w.count)) in
    let fit : row_width_refusal (widths s) rows ≡ None = rw (← w.rows_fit) (each_width 0 rows) in
    let below = none_unless (nat_lt index m) (IndexOutOfBounds m index) (lt-ltb index m w.in_range) in
    rw (size, gate, height, fit, below) refl

pub accepted_from : {T W : Type 0} (digest_eq : W → W → Bool) (f : Functions T W) (s : Shape) (t : ℕ)
    (cap : List (List W)) (o : Opening T W) → ((x y : W) → Decides (digest_eq x y) (x ≡ y)) →
    answer_under digest_eq (params f s t) cap o ≡ Ok tt → IsAccepted (params f s t) cap o
accepted_from digest_eq f s t cap o dec e =
    let digest = path_digest f s o t in
    let entry = is_entry (pointwise digest_eq) cap (ancestor s t o.index) digest in
    let both = none_parts (form_refusal s t o.index o.rows (length o.siblings)) (unless entry CapMismatch)
    (verdict_ok (refusal_under digest_eq (params f s t) cap o) e) in
    let form = form_from s t o.index o.rows (length o.siblings) both.0 in
    accepted_by_walk f s t cap o form.lawful form.rows_fit form.count form.in_range
    ((entry_is digest_eq dec cap (ancestor s t o.index) digest).0 (unless_none entry CapMismatch both.1))

pub accepted_answer : {T W : Type 0} (digest_eq : W → W → Bool) (f : Functions T W) (s : Shape) (t : ℕ)
    (cap : List (List W)) (o : Opening T W) → ((x y : W) → Decides (digest_eq x y) (x ≡ y)) →
    IsAccepted (params f s t) cap o → answer_under digest_eq (params f s t) cap o ≡ Ok tt
accepted_answer digest_eq f s t cap o dec w =
    let digest = path_digest f s o t in
    let form = form_none s t o.index o.rows (length o.siblings)
    (record { lawful = w.lawful; rows_fit = w.rows_fit; count = w.count; in_range = w.in_range }) in
    let entry = none_unless (is_entry (pointwise digest_eq) cap (ancestor s t o.index) digest) CapMismatch
    ((entry_is digest_eq dec cap (ancestor s t o.index) digest).1 (accepted_walk f s t cap o w)) in
    let none : refusal_under digest_eq (params f s t) cap o ≡ None = rw (form, entry) refl in
    ap (λ refusal. ok_unless refusal (tt {0})) none

-- ---- pruned openings

cap_fits : {T W : Type 0} (digest_eq : W → W → Bool) (f : Functions T W) (s : Shape) (t : ℕ) (cap : List (List W))
    (p : PrunedOpening T W) → ((x y : W) → Decides (digest_eq x y) (x ≡ y)) → length p.rows ≡ length p.indices →
    (cap_refusal digest_eq (params f s t) cap p ≡ None) ↔ IsCapped (params f s t) cap p
cap_fits digest_eq f s t cap p dec paired =
    let test : ℕ →
    Bool = λ i. is_entry (pointwise digest_eq) cap (ancestor s t i)
    (restored_node (params f s t) p t (ancestor s t i)) in (
      λ e j c.
          let all = each_true test p.indices (unless_none (list_all test p.indices) CapMismatch e) in
          let u = rows_under_is s p.indices p.rows t j paired c in
          let at = u.2 in
          rw (← at) ((entry_is digest_eq dec cap (ancestor s t (get_or p.indices (u.0) 0))
          (restored_node (params f s t) p t (ancestor s t (get_or p.indices (u.0) 0)))).0 (all (u.0) (u.1))),
      λ capped. none_unless (list_all test p.indices) CapMismatch (true_each test p.indices (λ k h.
          let j = ancestor s t (get_or p.indices k 0) in
          (entry_is digest_eq dec cap j (restored_node (params f s t) p t j)).1
          (capped j (query_covered s p.indices k t h)))),
    )

-- a pruned opening is answered Ok exactly if it is restorable and the cap has each covered node of its layer
pub pruned_capped : {T W : Type 0} (row_eq : T → T → Bool) (digest_eq : W → W → Bool) (f : Functions T W) (s : Shape)
    (t : ℕ) (cap : List (List W)) (p : PrunedOpening T W) →
    ((x y : T) → Decides (row_eq x y) (x ≡ y)) → ((x y : W) → Decides (digest_eq x y) (x ≡ y)) →
    (pruned_answer_under row_eq digest_eq (params f s t) cap p ≡ Ok tt) ↔ (IsRestorable s t p ×
    IsCapped (params f s t) cap p)
pruned_capped row_eq digest_eq f s t cap p dec dec_w =
    let first = pruned_refusal row_eq s t p in
    let last = cap_refusal digest_eq (params f s t) cap p in (
      λ e.
          let both = none_parts first last (verdict_ok (option_or first last) e) in
          let r = restorable row_eq s t p dec (ap (λ refusal. ok_unless refusal (tt {0})) both.0) in
          (r, (cap_fits digest_eq f s t cap p dec_w r.agreed.in_pairs).0 both.1),
      λ (r, capped).
          let a = verdict_ok first (unrefused row_eq s t p dec r) in
          let b = (cap_fits digest_eq f s t cap p dec_w r.agreed.in_pairs).1 capped in
          let none : option_or first last ≡ None = rw (a, b) refl in
          ap (λ refusal. ok_unless refusal (tt {0})) none,
    )

-- and exactly if it is restorable and each query is accepted with its restored path
pub pruned_accepted : {T W : Type 0} (row_eq : T → T → Bool) (digest_eq : W → W → Bool) (f : Functions T W) (s : Shape)
    (t : ℕ) (cap : List (List W)) (p : PrunedOpening T W) →
    ((x y : T) → Decides (row_eq x y) (x ≡ y)) → ((x y : W) → Decides (digest_eq x y) (x ≡ y)) → IsArity s.arity →
    (pruned_answer_under row_eq digest_eq (params f s t) cap p ≡ Ok tt) ↔ IsPrunedAccepted (params f s t) cap p
pruned_accepted row_eq digest_eq f s t cap p dec dec_w w =
    let capped = pruned_capped row_eq digest_eq f s t cap p dec dec_w in
    let alike = λ (r : IsRestorable s t p). equivalent f s t cap p w r.lawful r.below r.rows_fit r.agreed in (
      λ e.
          let both = capped.0 e in
          record { restorable = both.0; each_accepted = (alike both.0).0 both.1 },
      λ a. capped.1 (a.restorable, (alike a.restorable).1 a.each_accepted),
    )
