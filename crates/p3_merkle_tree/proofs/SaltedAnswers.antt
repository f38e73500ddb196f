-- What is not refused of rows and salts is accepted, and the other way round.
use Rattle.std.proofs.Common.{◌≡◌, ◌↔◌, ℕ, Bool, List, [], ◌∷◌, refl, sym, ap, ◌∙◌, arith, length, map, zip, None}
use Rattle.std.proofs.Common.{eqb, Some}
use Rattle.std.specs.Prelude.{Err, Ok}
use Rattle.std.specs.Option.{option_or}
use Rattle.p3_merkle_core.specs.Openings.{Opening}
use Rattle.p3_merkle_core.specs.Refusals.{answer_under}
use Rattle.p3_merkle_core.specs.declared.error.MerkleTreeError.{MerkleTreeError}
use Rattle.p3_merkle_tree.proofs.VerdictFacts.{some_when_err}
use Rattle.std.proofs.lemmas.Bool.{eqb-true}
use Rattle.std.proofs.lemmas.List.{length-map}
use Rattle.std.specs.{List.AllZip}
use Rattle.p3_support.specs.declared.matrix.Dimensions.{Dimensions}
use Rattle.p3_support.specs.Batches.{widths_of}
use Rattle.p3_merkle_core.specs.Geometry.{IsArity, Shape}
use Rattle.p3_merkle_core.specs.Refusals.{IsEquality, pruned_refusal, pruned_refusal_under}
use Rattle.p3_answers.specs.Answers.{first_of, ok_unless}
use Rattle.p3_merkle_core.specs.Refusals.{refusal_under, row_width_refusal, size_refusal, width_refusal}
use Rattle.p3_merkle_core.specs.declared.error.MerkleTreeError.{TheVariants.WrongBatchSize}
use Rattle.p3_merkle_core.specs.Checks.{Params}
use Rattle.p3_answers.proofs.AnswerFacts.{none_of_both, none_parts, unless_none, verdict_ok}
use Rattle.p3_merkle_core.proofs.Pruned.NoneFacts.{fit_from}
use Rattle.p3_merkle_core.proofs.Pruned.Answered.{restorable}
use Rattle.p3_merkle_core.proofs.Pruned.Unrefused.{each_width, size_none, unrefused}
use Rattle.p3_merkle_core.proofs.Checks.Verdicts.{accepted_answer, accepted_from, pruned_accepted}
use Rattle.p3_merkle_tree.proofs.SaltFacts.{widening}
use Rattle.p3_merkle_tree.specs.SaltRefusals.{row_and_salt_form_refusal, set_and_salt_form_refusal, widening_refusal}
use Rattle.p3_merkle_tree.specs.SaltRefusals.{salted_pruned_refusal_under, salted_refusal_under, salted_rows_refusal}
use Rattle.p3_merkle_tree.specs.SaltRefusals.{salted_pruned_refusal, salted_sets_refusal}
use Rattle.p3_merkle_tree.specs.SaltedOpenings.{HaveSalts, IsSaltedAccepted, IsSaltedPrunedAccepted}
use Rattle.p3_merkle_tree.specs.SaltedOpenings.{IsSaltedRestorable}
use Rattle.p3_merkle_tree.specs.SaltedOpenings.{SaltedOpening, SaltedPruned, joined, joined_sets}
use Rattle.p3_merkle_tree.specs.SaltedPresented.{presented_salted, presented_salted_pruned}
use Rattle.p3_merkle_core.proofs.Collisions.ExtractionFacts.{IsPresentation}

-- ---- rows and salts

rows_fit : {T : Type 0} (ds : List Dimensions) (rows : List (List T)) → map length rows ≡ widths_of ds →
    width_refusal ds rows ≡ None
rows_fit ds rows fit =
    let size : length ds ≡ length rows = sym (length-map ds (λ (d : Dimensions). d.width)) ∙ sym (ap length fit)
    ∙ length-map rows length in
    none_of_both (size_refusal (length ds) (length rows)) (row_width_refusal (widths_of ds) rows)
    (size_none (length ds) (length rows) size)
    (ap (λ (ws : List ℕ). row_width_refusal ws rows) (sym fit) ∙ each_width 0 rows)

size_from : (expected got : ℕ) → size_refusal expected got ≡ None → got ≡ expected
size_from expected got none =
    sym (eqb-true expected got (unless_none (eqb expected got) (WrongBatchSize expected got) none))

pub have_salts : {T : Type 0} (ds : List Dimensions) (rows salts : List (List T)) →
    (row_and_salt_form_refusal ds rows salts ≡ None) ↔ HaveSalts ds rows salts
have_salts ds rows salts =
    let size = size_refusal (length rows) (length salts) in (
      λ none.
          let both = none_parts (width_refusal ds rows) size none in
          record { rows_fit = fit_from ds rows both.0; in_pairs = size_from (length rows) (length salts) both.1 },
      λ w. none_of_both (width_refusal ds rows) size (rows_fit ds rows w.rows_fit)
          (size_none (length rows) (length salts) (sym w.in_pairs)),
    )

module _ {T : Type 0} (ds : List Dimensions) where
  each_from : (sets salts : List (List (List T))) → length salts ≡ length sets →
      first_of (λ (rows, salt). row_and_salt_form_refusal ds rows salt) (zip sets salts) ≡ None →
      AllZip (HaveSalts ds) sets salts
  each_from [] [] same none = tt
  each_from [] (x ∷ salts) same none = absurd (omega (arith, same))
  each_from (rows ∷ sets) [] same none = absurd (omega (arith, same))
  each_from (rows ∷ sets) (salt ∷ salts) same none =
      let both = none_parts (row_and_salt_form_refusal ds rows salt)
      (first_of (λ (rows, salt). row_and_salt_form_refusal ds rows salt) (zip sets salts)) none in
      ((have_salts ds rows salt).0 both.0, each_from sets salts (omega (arith, same)) both.1)

  each_passes : (sets salts : List (List (List T))) → AllZip (HaveSalts ds) sets salts →
      first_of (λ (rows, salt). row_and_salt_form_refusal ds rows salt) (zip sets salts) ≡ None
  each_passes [] [] w = refl
  each_passes [] (x ∷ salts) w = absurd w
  each_passes (rows ∷ sets) [] w = absurd w
  each_passes (rows ∷ sets) (salt ∷ salts) w =
      none_of_both (row_and_salt_form_refusal ds rows salt)
      (first_of (λ (rows, salt). row_and_salt_form_refusal ds rows salt) (zip sets salts))
      ((have_salts ds rows salt).1 w.0) (each_passes sets salts w.1)

-- ---- answers

module _ {T W : Type 0} (same : W → W → Bool) (e : ℕ) (ds : List Dimensions) (c : Params T W) (cap : List (List W))
    (dec_w : IsEquality same) where
  -- an opening is accepted exactly if it is not refused
  pub salted_accepted : (o : SaltedOpening T W) →
      (salted_refusal_under same e ds c cap o ≡ None) ↔ IsSaltedAccepted e ds c cap o
  salted_accepted o =
      let first = salted_rows_refusal e ds o.rows o.salts in
      let salt = row_and_salt_form_refusal ds o.rows o.salts in
      let wide = widening_refusal e ds in
      let plain = refusal_under same c cap (joined o) in (
        λ none.
            let both = none_parts first plain none in
            let form = none_parts salt wide both.0 in
            record {
              salted = (have_salts ds o.rows o.salts).0 form.0;
              can_widen = (widening e ds).0 form.1;
              accepted = accepted_from same c.functions c.shape c.layer cap (joined o) dec_w
                  (ap (λ refusal. ok_unless refusal (tt {0})) both.1);
            },
        λ w.
            let form = none_of_both salt wide ((have_salts ds o.rows o.salts).1 w.salted)
            ((widening e ds).1 w.can_widen) in
            none_of_both first plain form
            (verdict_ok plain
            (accepted_answer same c.functions c.shape c.layer cap (joined o) dec_w w.accepted)),
      )

  -- so it is presented to an extraction
  pub salted_presentation : (o : SaltedOpening T W) → IsPresentation c cap (presented_salted same e ds c cap o)
  salted_presentation o = record { decided = salted_accepted o; each = λ a k inside. a.accepted }

  -- the same of several indices
  pub salted_pruned_accepted : (eq : T → T → Bool) → IsEquality eq → IsArity c.shape.arity → (p : SaltedPruned T W) →
      (salted_pruned_refusal_under eq same e ds c cap p ≡ None) ↔ IsSaltedPrunedAccepted e ds c cap p
  salted_pruned_accepted eq dec w p =
      let first = salted_sets_refusal e ds p.rows p.salts in
      let sets = set_and_salt_form_refusal ds p.rows p.salts in
      let size = size_refusal (length p.rows) (length p.salts) in
      let each = first_of (λ (rows, salt). row_and_salt_form_refusal ds rows salt) (zip p.rows p.salts) in
      let wide = widening_refusal e ds in
      let plain = pruned_refusal_under eq same c cap (joined_sets p) in
      let meant = pruned_accepted eq same c.functions c.shape c.layer cap (joined_sets p) dec dec_w w in (
        λ none.
            let both = none_parts first plain none in
            let form = none_parts sets wide both.0 in
            let salts = none_parts size each form.0 in
            let paired = size_from (length p.rows) (length p.salts) salts.0 in
            record {
              in_pairs = paired;
              salted = each_from ds p.rows p.salts paired salts.1;
              can_widen = (widening e ds).0 form.1;
              accepted = meant.0 (ap (λ refusal. ok_unless refusal (tt {0})) both.1);
            },
        λ a.
            let salts = none_of_both size each (size_none (length p.rows) (length p.salts) (sym a.in_pairs))
            (each_passes ds p.rows p.salts a.salted) in
            let form = none_of_both sets wide salts ((widening e ds).1 a.can_widen) in
            none_of_both first plain form (verdict_ok plain (meant.1 a.accepted)),
      )

  pub salted_pruned_presentation : (eq : T → T → Bool) → IsEquality eq → IsArity c.shape.arity →
      (p : SaltedPruned T W) → IsPresentation c cap (presented_salted_pruned eq same e ds c cap p)
  salted_pruned_presentation eq dec w p =
      record { decided = salted_pruned_accepted eq dec w p; each = λ a. a.accepted.each_accepted }

-- a salted pruned opening restores exactly if it is not refused
pub salted_restorable : {T W : Type 0} (eq : T → T → Bool) (e : ℕ) (ds : List Dimensions) (s : Shape) (t : ℕ) →
    IsEquality eq → (p : SaltedPruned T W) →
    (salted_pruned_refusal eq e ds s t p ≡ None) ↔ IsSaltedRestorable e ds s t p
salted_restorable eq e ds s t dec p =
    let first = salted_sets_refusal e ds p.rows p.salts in
    let sets = set_and_salt_form_refusal ds p.rows p.salts in
    let size = size_refusal (length p.rows) (length p.salts) in
    let each = first_of (λ (rows, salt). row_and_salt_form_refusal ds rows salt) (zip p.rows p.salts) in
    let wide = widening_refusal e ds in
    let plain = pruned_refusal eq s t (joined_sets p) in (
      λ none.
          let both = none_parts first plain none in
          let form = none_parts sets wide both.0 in
          let salts = none_parts size each form.0 in
          let paired = size_from (length p.rows) (length p.salts) salts.0 in
          record {
            in_pairs = paired;
            salted = each_from ds p.rows p.salts paired salts.1;
            can_widen = (widening e ds).0 form.1;
            restorable = restorable eq s t (joined_sets p) dec (ap (λ refusal. ok_unless refusal (tt {0})) both.1);
          },
      λ a.
          let salts = none_of_both size each (size_none (length p.rows) (length p.salts) (sym a.in_pairs))
          (each_passes ds p.rows p.salts a.salted) in
          let form = none_of_both sets wide salts ((widening e ds).1 a.can_widen) in
          none_of_both first plain form (verdict_ok plain (unrefused eq s t (joined_sets p) dec a.restorable)),
    )

-- rows and salts that are not refused are answered as the plain opening that they are joined to
module _ {T W : Type 0} (same : W → W → Bool) (e : ℕ) (ds : List Dimensions) (c given : Params T W)
    (cap : List (List W)) (o : SaltedOpening T W) (u : Opening T W) (none : salted_rows_refusal e ds o.rows o.salts
    ≡ None)
    (alike : given ≡ c) (is : u ≡ joined o) where
  plain : answer_under same given cap u ≡ answer_under same c cap (joined o)
  plain i = answer_under same (alike i) cap (is i)

  pub passed_after : Ok tt ≡ answer_under same given cap u → salted_refusal_under same e ds c cap o ≡ None
  passed_after answer =
      none_of_both (salted_rows_refusal e ds o.rows o.salts) (refusal_under same c cap (joined o)) none
      (verdict_ok (refusal_under same c cap (joined o)) (sym (answer ∙ plain)))

  pub refused_after : (x : MerkleTreeError) → Err x ≡ answer_under same given cap u →
      salted_refusal_under same e ds c cap o ≡ Some x
  refused_after x answer =
      ap (λ first. option_or first (refusal_under same c cap (joined o))) none
      ∙ some_when_err (refusal_under same c cap (joined o)) x (answer ∙ plain)
