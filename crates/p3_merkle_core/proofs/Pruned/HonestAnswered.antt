-- The honest pruned opening is restorable, so it is not refused. The answers to pruned openings: against those to
-- single ones, and at honest ones.
use Rattle.std.proofs.Common.{◌≡◌, ℕ, ◌<◌, ◌≤◌, eqb, List, [], ◌∷◌, map, refl, ap, sym, ◌∙◌, arith, length, get_or}
use Rattle.std.proofs.Common.{filter, zip, ◌↔◌, Bool}
use Rattle.std.proofs.lemmas.Grind.{common_steps}
use Rattle.std.proofs.lemmas.List.{length-map, get_or-map}
use Rattle.p3_merkle_core.specs.Geometry.{exponent, layer_exponent, halved_index, heights, Shape, IsArity}
use Rattle.p3_merkle_core.specs.Refusals.{answer_under, pruned_answer, pruned_answer_under, IsEquality}
use Rattle.p3_merkle_core.specs.Openings.{honest_rows}
use Rattle.p3_merkle_core.specs.Checks.{params}
use Rattle.p3_merkle_core.specs.Nodes.{Functions, Batch, Matrix, shape, node, dimensions_of, HasFullRows, layer}
use Rattle.p3_merkle_core.specs.Pruning.{boundary, honest_query, IsHonestQuery, IsRestorable, PrunedOpening, opening_at}
use Rattle.p3_support.specs.Batches.{greatest, heights_of}
use Rattle.p3_merkle_core.proofs.Shapes.LadderFacts.{row_is_anc_at, row_below}
use Rattle.p3_merkle_core.proofs.Checks.CheckFacts.{lengths_are}
use Rattle.p3_merkle_core.proofs.Pruned.Answered.{restorable}
use Rattle.p3_merkle_core.proofs.Covered.Restoration.{honest_capped}
use Rattle.p3_merkle_core.proofs.Covered.Equivalence.{equivalent}
use Rattle.p3_merkle_core.proofs.Checks.Verdicts.{accepted_from, accepted_answer, pruned_accepted}
use Rattle.std.specs.Prelude.{Ok}

-- two ways to pick rows that agree at the heights of exponent x
same_rows : {T : Type 0} (x top : ℕ) (first second : ℕ → ℕ) →
    ((h : ℕ) → h ≤ top → exponent h ≡ x → first h ≡ second h) → (ms : List (Matrix T)) →
    greatest (heights_of (dimensions_of ms)) ≤ top →
    filter (λ (h, r). eqb (exponent h) x) (zip (heights_of (dimensions_of ms)) (map (λ m. m.row (first m.height)) ms))
    ≡ filter (λ (h, r). eqb (exponent h) x)
    (zip (heights_of (dimensions_of ms)) (map (λ m. m.row (second m.height)) ms))
same_rows x top first second same [] le = refl
same_rows x top first second same (m ∷ ms) le =
    grind (arith, common_steps, same_rows x top first second same ms (omega arith))

pub honest_restorable : {T W : Type 0} (f : Functions T W) (b : Batch T) (t : ℕ) (indices : List ℕ) →
    IsHonestQuery b t indices → HasFullRows b → IsRestorable (shape b) t (honest_query f b t indices)
honest_restorable f b t indices w widths =
    let s = shape b in
    let rows = map (honest_rows b) indices in
    let in_pairs : length rows ≡ length indices = length-map indices (honest_rows b) in
    let row : (k : ℕ) → k < length indices → get_or rows k [] ≡ honest_rows b (get_or indices k 0) =
    λ k h. get_or-map (honest_rows b) indices k 0 [] h in
    record {
      lawful = w.lawful;
      below = w.queried.below;
      count = length-map (boundary s indices t) (λ (l, k). node f b l k);
      rows_fit = λ k d h.
          rw (get_or-map (honest_rows b) indices k 0 d (omega arith))
          (lengths_are (λ h. halved_index (greatest (heights s)) h (get_or indices k 0)) b.matrices widths
          (λ n e l. row_below s (get_or (heights s) n e) (get_or indices k 0) (w.lawful.on_ladder n e l)
          (w.queried.below k 0 (omega arith))));
      agreed = record {
        in_pairs = in_pairs;
        repeats = λ a c h g same. row a h ∙ ap (honest_rows b) same ∙ sym (row c g);
        groups = λ l a c le h g same.
            let i = get_or indices a 0 in
            let j = get_or indices c 0 in
            rw (row a h, row c g)
            (same_rows (layer_exponent s l) (greatest (heights s)) (λ n. halved_index (greatest (heights s)) n i)
            (λ n. halved_index (greatest (heights s)) n j)
            (λ n top is.
            row_is_anc_at s w.queried.well_shaped n i l top (w.queried.below a 0 h) (sym is)
            ∙ same ∙ sym (row_is_anc_at s w.queried.well_shaped n j l top (w.queried.below c 0 g) (sym is)))
            b.matrices (omega arith));
      };
    }

pub answered_alike : {T W : Type 0} (row_eq : T → T → Bool) (digest_eq : W → W → Bool) (f : Functions T W) (s : Shape)
    (t : ℕ) (cap : List (List W)) (p : PrunedOpening T W) → IsEquality row_eq → IsEquality digest_eq → IsArity s.arity →
    pruned_answer row_eq s t p ≡ Ok tt → (pruned_answer_under row_eq digest_eq (params f s t) cap p ≡ Ok tt) ↔
    ((k : ℕ) → k < length p.indices → answer_under digest_eq (params f s t) cap (opening_at (params f s t) p k) ≡ Ok tt)
answered_alike row_eq digest_eq f s t cap p dec dec_w w ok =
    let whole = pruned_accepted row_eq digest_eq f s t cap p dec dec_w w in (
      λ e k h. accepted_answer digest_eq f s t cap (opening_at (params f s t) p k) dec_w
          ((whole.0 e).each_accepted k h),
      λ each. whole.1 (record {
        restorable = restorable row_eq s t p dec ok;
        each_accepted = λ k h. accepted_from digest_eq f s t cap (opening_at (params f s t) p k) dec_w (each k h);
      }),
    )

pub honest_accepted_pruned : {T W : Type 0} (row_eq : T → T → Bool) (digest_eq : W → W → Bool) (f : Functions T W)
    (b : Batch T) (t : ℕ) (indices : List ℕ) → IsEquality row_eq → IsEquality digest_eq → IsHonestQuery b t indices →
    HasFullRows b →
    pruned_answer_under row_eq digest_eq (params f (shape b) t) (layer f b t) (honest_query f b t indices) ≡ Ok tt
honest_accepted_pruned row_eq digest_eq f b t indices dec dec_w w rows =
    let s = shape b in
    let p = honest_query f b t indices in
    let r = honest_restorable f b t indices w rows in
    let each = (equivalent f s t (layer f b t) p w.queried.well_shaped r.lawful r.below r.rows_fit r.agreed).0
    (honest_capped f b t indices w) in
    (pruned_accepted row_eq digest_eq f s t (layer f b t) p dec dec_w w.queried.well_shaped).1
    (record { restorable = r; each_accepted = each })
