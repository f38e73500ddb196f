-- A pruned opening that is not refused has lawful heights, indices below M, rows of their widths, and its rows agree.
use Rattle.std.proofs.Common.{◌≡◌, ℕ, suc, ◌<◌, ◌≤◌, Bool, true, eqb, List, [], ◌∷◌, map, refl, ap, sym, ◌∙◌, arith}
use Rattle.std.proofs.Common.{inl, inr, length, get_or, None, filter, zip}
use Rattle.std.proofs.lemmas.Grind.{common_steps}
use Rattle.std.proofs.lemmas.Bool.{cases_Bool}
use Rattle.std.proofs.lemmas.List.{length-map, get_or_default}
use Rattle.std.specs.Prelude.{Ok, Decides}
use Rattle.std.specs.Cmp.Lexicographic.{pointwise, pointwise_decides}
use Rattle.p3_merkle_core.proofs.Pruned.SlotFacts.{queried_at}
use Rattle.p3_answers.proofs.AnswerFacts.{unless_none, verdict_ok, kept_none, range_none, paired_none}
use Rattle.p3_merkle_core.proofs.Pruned.NoneFacts.{below_from, fit_from}
use Rattle.p3_merkle_core.proofs.Shapes.LeastFacts.{widths_in_pairs}
use Rattle.p3_merkle_core.proofs.Shapes.GateFacts.{gate_lawful}
use Rattle.p3_support.specs.Lists.{is_among}
use Rattle.p3_support.specs.Batches.{greatest}
use Rattle.p3_merkle_core.specs.Geometry.{Shape, exponent, layer_exponent, ancestor, heights, widths}
use Rattle.p3_merkle_core.specs.Gate.{gate_refusal}
use Rattle.p3_merkle_core.specs.Pruning.{PrunedOpening, boundary, IsRestorable}
use Rattle.p3_merkle_core.specs.Refusals.{lead, matrices_at, slots_below, slot_of, queries_refusal}
use Rattle.p3_answers.specs.Answers.{first_of}
use Rattle.p3_merkle_core.specs.Refusals.{duplicate_refusal, width_refusal, row_refusal, group_refusal, pruned_refusal}
use Rattle.p3_merkle_core.specs.Refusals.{pruned_answer, rows_of}
use Rattle.p3_merkle_core.specs.declared.error.PrunedProofError.TheVariants.{InconsistentDuplicateOpenings}
use Rattle.p3_merkle_core.specs.declared.error.PrunedProofError.TheVariants.{InconsistentGroupOpening}
use Rattle.p3_merkle_core.specs.declared.error.MerkleTreeError.TheVariants.{MalformedPrunedProof}

-- none of the reasons holds
record HasNoFault {T W : Type 0} (row_eq : T → T → Bool) (s : Shape) (t : ℕ) (p : PrunedOpening T W) : Type 0 where
  pub gate : gate_refusal (heights s) ≡ None
  pub sizes : length p.rows ≡ length p.indices
  pub index : queries_refusal (greatest (heights s)) p.indices ≡ None
  pub repeat : duplicate_refusal row_eq p ≡ None
  pub count : length p.digests ≡ length (boundary s p.indices t)
  pub width : first_of (λ i. width_refusal s.dimensions (rows_of p i)) (slots_below (greatest (heights s)) p.indices)
      ≡ None
  pub group : group_refusal row_eq s t p ≡ None

no_fault : {T W : Type 0} (row_eq : T → T → Bool) (s : Shape) (t : ℕ) (p : PrunedOpening T W) →
    pruned_refusal row_eq s t p ≡ None → HasNoFault row_eq s t p
no_fault row_eq s t p e = grind (arith, common_steps)

-- each query's row set is that of the first query of its index
rows_are_first : {T W : Type 0} (row_eq : T → T → Bool) (s : Shape) (t : ℕ) (p : PrunedOpening T W) →
    ((x y : T) → Decides (row_eq x y) (x ≡ y)) → HasNoFault row_eq s t p →
    (k : ℕ) → k < length p.indices → get_or p.rows k [] ≡ rows_of p (get_or p.indices k 0)
rows_are_first row_eq s t p dec w k h =
    let i = get_or p.indices k 0 in
    let r = get_or p.rows k [] in
    let one = paired_none (λ (i, rows). _) p.indices p.rows k [] w.repeat w.sizes h in
    (pointwise_decides (pointwise_decides dec) r (rows_of p i)).0
    (unless_none (pointwise (pointwise row_eq) r (rows_of p i))
    (MalformedPrunedProof (InconsistentDuplicateOpenings (slot_of p.indices i))) one)

rows_fit_first : {T W : Type 0} (row_eq : T → T → Bool) (s : Shape) (t : ℕ) (p : PrunedOpening T W) →
    HasNoFault row_eq s t p → (k : ℕ) → k < length p.indices → map length (rows_of p (get_or p.indices k 0)) ≡ widths s
rows_fit_first row_eq s t p w k h =
    let i = get_or p.indices k 0 in
    let below = below_from (greatest (heights s)) p.indices w.index k 0 h in
    fit_from s.dimensions (rows_of p i)
    (kept_none (λ i. width_refusal s.dimensions (rows_of p i)) (is_among p.indices) 0 (greatest (heights s)) i
    w.width (queried_at p.indices k h) (omega arith) (omega arith))

-- a row of a matrix of layer l is that of the lowest index under the same node
row_is_lead : {T W : Type 0} (row_eq : T → T → Bool) (s : Shape) (t : ℕ) (p : PrunedOpening T W) →
    ((x y : T) → Decides (row_eq x y) (x ≡ y)) → HasNoFault row_eq s t p →
    (l k m : ℕ) → l ≤ t → k < length p.indices → m < length (heights s) →
    eqb (exponent (get_or (heights s) m 0)) (layer_exponent s l) ≡ true →
    get_or (rows_of p (get_or p.indices k 0)) m []
    ≡ get_or (rows_of p (lead s p.indices l (ancestor s l (get_or p.indices k 0)))) m []
row_is_lead row_eq s t p dec w l k m le h inside here =
    let i = get_or p.indices k 0 in
    let top = greatest (heights s) in
    let below = below_from top p.indices w.index k 0 h in
    let layer = range_none
    (λ l. first_of (λ i. first_of (row_refusal row_eq s p l i) (matrices_at s l)) (slots_below top p.indices)) 0
    (suc t) l w.group (omega arith) (omega arith) in
    let slot = kept_none (λ i. first_of (row_refusal row_eq s p l i) (matrices_at s l)) (is_among p.indices) 0 top i
    layer (queried_at p.indices k h) (omega arith) (omega arith) in
    let one = kept_none (row_refusal row_eq s p l i) (λ m. eqb (exponent (get_or (heights s) m 0)) (layer_exponent s l))
    0 (length (heights s)) m slot here (omega arith) (omega arith) in
    let x = get_or (rows_of p i) m [] in
    let y = get_or (rows_of p (lead s p.indices l (ancestor s l i))) m [] in
    (pointwise_decides dec x y).0
    (unless_none (pointwise row_eq x y) (MalformedPrunedProof (InconsistentGroupOpening (slot_of p.indices i) m))
    one)

pub same_kept : {T : Type 0} (x : ℕ) (hs : List ℕ) (us vs : List (List T)) → length us ≡ length hs → length vs
    ≡ length hs →
    ((m : ℕ) → m < length hs → eqb (exponent (get_or hs m 0)) x ≡ true → get_or us m [] ≡ get_or vs m []) →
    filter (λ (h, row). eqb (exponent h) x) (zip hs us) ≡ filter (λ (h, row). eqb (exponent h) x) (zip hs vs)
same_kept x [] us vs a b e = refl
same_kept x (h ∷ hs) [] vs a b e = absurd (omega arith)
same_kept x (h ∷ hs) (u ∷ us) [] a b e = absurd (omega arith)
same_kept x (h ∷ hs) (u ∷ us) (v ∷ vs) a b e =
    let rest = same_kept x hs us vs (omega arith) (omega arith) (λ m l. e (suc m) (omega arith)) in
    elim (cases_Bool (eqb (exponent h) x)) [
      | inl t ↦ let here = e 0 (omega arith) t in rw (t, here, rest) refl
      | inr f ↦ rw (f, rest) refl
    ]

pub restorable : {T W : Type 0} (row_eq : T → T → Bool) (s : Shape) (t : ℕ) (p : PrunedOpening T W) →
    ((x y : T) → Decides (row_eq x y) (x ≡ y)) → pruned_answer row_eq s t p ≡ Ok tt → IsRestorable s t p
restorable row_eq s t p dec e =
    let w = no_fault row_eq s t p (verdict_ok (pruned_refusal row_eq s t p) e) in
    let first = rows_are_first row_eq s t p dec w in
    let fits = rows_fit_first row_eq s t p w in
    let long : (k : ℕ) → k < length p.indices → length (get_or p.rows k []) ≡ length (heights s) =
    λ k h. ap length (first k h) ∙ sym (length-map (rows_of p (get_or p.indices k 0)) length) ∙ ap length (fits k h)
    ∙ widths_in_pairs s in
    record {
      lawful = (gate_lawful (heights s)).0 w.gate;
      below = below_from (greatest (heights s)) p.indices w.index;
      count = w.count;
      rows_fit = λ k d h.
          let inside : k < length p.indices = let z = w.sizes in omega arith in
          rw (get_or_default p.rows k d [] h, first k inside) (fits k inside);
      agreed = record {
        in_pairs = w.sizes;
        repeats = λ a b h g same. first a h ∙ ap (rows_of p) same ∙ sym (first b g);
        groups = λ l a b le h g same.
            same_kept (layer_exponent s l) (heights s) (get_or p.rows a []) (get_or p.rows b []) (long a h) (long b g)
            (λ m inside here.
            rw (first a h, first b g)
            (row_is_lead row_eq s t p dec w l a m le h inside here
            ∙ ap (λ j. get_or (rows_of p (lead s p.indices l j)) m []) same
            ∙ sym (row_is_lead row_eq s t p dec w l b m le g inside here)));
      };
    }
