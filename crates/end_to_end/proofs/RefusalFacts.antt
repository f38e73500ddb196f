-- What is accepted is not refused, and which refusal is answered.
use Rattle.std.proofs.Common.{◌≡◌, ◌∙◌, ◌⊎◌, ◌<◌, ◌+◌, ◌^◌, ℕ, List, [], ◌∷◌, Option, Some, None, Bool, ap, arith}
use Rattle.std.proofs.Common.{eq-eqb, false, get_or, inl, inr, nat_le, nat_lt, length, map, refl, sym, zip}
use Rattle.std.proofs.lemmas.Bool.{cond-false, le-ltb, lt-leb}
use Rattle.std.proofs.lemmas.List.{get_or-map, length-map}
use Rattle.std.proofs.lemmas.List.Sums.{position_or_len_is}
use Rattle.std.specs.Prelude.{Ok}
use Rattle.std.specs.List.{AllZip, enumerate_from, position_or_len}
use Rattle.std.specs.Option.{option_map, option_or}
use Rattle.p3_support.specs.Batches.{CanWiden}
use Rattle.p3_support.specs.Batches.{widths_of}
use Rattle.p3_support.specs.declared.matrix.Dimensions.{Dimensions}
use Rattle.p3_merkle_tree.specs.Checks.{IsAccepted, Params}
use Rattle.p3_merkle_tree.specs.Geometry.{IsArity}
use Rattle.p3_merkle_tree.specs.Laws.{OkIsAccepted, OkIsEachAccepted}
use Rattle.p3_merkle_tree.specs.MerkleTreeError.{MerkleTreeError}
use Rattle.p3_merkle_tree.specs.MerkleTreeError.TheVariants.{OutOfMemory, TooLarge}
use Rattle.p3_merkle_tree.specs.Openings.{Opening}
use Rattle.p3_merkle_tree.specs.Pruning.{IsPrunedAccepted, PrunedOpening}
use Rattle.p3_merkle_tree.specs.Refusals.{IsEquality}
use Rattle.p3_merkle_tree.specs.Refusals.{pruned_refusal_under, refusal_under, width_fault}
use Rattle.p3_answers.specs.Answers.{first_of, ok_unless}
use Rattle.p3_merkle_tree.specs.SaltedOpenings.{HaveSalts, IsSaltedAccepted, IsSaltedPrunedAccepted}
use Rattle.p3_merkle_tree.specs.SaltedOpenings.{SaltedOpening, SaltedPruned, joined, joined_sets}
use Rattle.p3_merkle_tree.specs.SaltRefusals.{first_too_wide, row_and_salt_form_refusal, salted_refusal_under}
use Rattle.p3_merkle_tree.specs.SaltRefusals.{salted_pruned_refusal_under, widening_refusal}

-- where nothing is refused, an error is for want of memory
pub memory_alone : (e : MerkleTreeError) (refusal : Option MerkleTreeError) → refusal ≡ None →
    (e ≡ OutOfMemory) ⊎ (refusal ≡ Some e) → e ≡ OutOfMemory
memory_alone e refusal none (inl memory) = memory
memory_alone e refusal none (inr refused) = absurd cc

-- a refusal beside none is itself
pub beside_none : (first second : Option MerkleTreeError) → second ≡ None → option_or first second ≡ first
beside_none None second none = none
beside_none (Some e) second none = refl

-- what is answered Ok is not refused
pub not_refused : (refusal : Option MerkleTreeError) → ok_unless {V = Unit {0}} refusal tt ≡ Ok tt → refusal ≡ None
not_refused None ok = refl
not_refused (Some e) ok = absurd cc

-- ---- plain openings

module _ {T W : Type 0} (row_eq : T → T → Bool) (digest_eq : W → W → Bool) (c : Params T W) (cap : List (List W))
    (row_is : IsEquality row_eq) (digest_is : IsEquality digest_eq) where
  -- an accepted opening is not refused
  pub accepted_unrefused : OkIsAccepted T W → (o : Opening T W) → IsAccepted c cap o →
      refusal_under digest_eq c cap o ≡ None
  accepted_unrefused law o accepted =
      not_refused (refusal_under digest_eq c cap o) ((law digest_eq c cap o digest_is).1 accepted)

  -- an accepted pruned opening is not refused
  pub pruned_unrefused : OkIsEachAccepted T W → IsArity c.shape.arity → (p : PrunedOpening T W) →
      IsPrunedAccepted c cap p → pruned_refusal_under row_eq digest_eq c cap p ≡ None
  pruned_unrefused law arity p accepted =
      not_refused (pruned_refusal_under row_eq digest_eq c cap p)
      ((law row_eq digest_eq c cap p row_is digest_is arity).1 accepted)

-- ---- salted openings

-- where all can be wider, none is too wide
none_too_wide : (e : ℕ) (ds : List Dimensions) → CanWiden e ds → first_too_wide e (widths_of ds) ≡ None
none_too_wide e ds fits =
    let ws = widths_of ds in
    let test = λ (w : ℕ). nat_le (2 ^ 64) (w + e) in
    let long : length ws ≡ length ds = length-map ds (λ (d : Dimensions). d.width) in
    let none : (k : ℕ) → k < length ws → test (get_or ws k 0) ≡ false =
    λ k h.
    let d : Dimensions = record { width = 0; height = 0 } in
    let inside : k < length ds = omega arith in
    let at : get_or ws k 0 ≡ (get_or ds k d).width = get_or-map (λ (d : Dimensions). d.width) ds k d 0 inside in
    lt-leb (2 ^ 64) (get_or ws k 0 + e) (omega (arith, at, fits k d inside)) in
    let end : position_or_len test ws
    ≡ length ws = position_or_len_is test ws (length ws) 0 (omega arith) none (λ h. absurd (omega arith)) in
    cond-false (nat_lt (position_or_len test ws) (length ws)) (Some (position_or_len test ws)) None
    (le-ltb (position_or_len test ws) (length ws) (omega arith))

-- so no width is refused
pub widths_unrefused : (e : ℕ) (ds : List Dimensions) → CanWiden e ds → widening_refusal e ds ≡ None
widths_unrefused e ds fits =
    ap (option_map (λ (m : ℕ). TooLarge m (get_or (widths_of ds) m 0))) (none_too_wide e ds fits)

-- rows of their widths are not refused
fitting_rows : {T : Type 0} (n : ℕ) (ws : List ℕ) (rows : List (List T)) → map length rows ≡ ws →
    first_of width_fault (enumerate_from n (zip ws rows)) ≡ None
fitting_rows n [] rows fit = refl
fitting_rows n (w ∷ ws) [] fit = refl
fitting_rows n (w ∷ ws) (row ∷ rows) fit =
    let first : length row ≡ w = cc in
    let rest : map length rows ≡ ws = cc in
    rw (eq-eqb w (length row) (sym first)) (fitting_rows (n + 1) ws rows rest)

-- rows with salts are not refused
pub salts_unrefused : {T : Type 0} (ds : List Dimensions) (rows salts : List (List T)) → HaveSalts ds rows salts →
    row_and_salt_form_refusal ds rows salts ≡ None
salts_unrefused ds rows salts have =
    let long : length ds ≡ length rows = sym (length-map ds (λ (d : Dimensions). d.width))
    ∙ ap length (sym have.rows_fit) ∙ length-map rows length in
    rw (
      eq-eqb (length ds) (length rows) long,
      fitting_rows 0 (widths_of ds) rows have.rows_fit,
      eq-eqb (length rows) (length salts) (sym have.in_pairs),
    ) refl

-- nor are row sets with salt sets
sets_unrefused : {T : Type 0} (ds : List Dimensions) (sets salts : List (List (List T))) →
    AllZip (HaveSalts ds) sets salts →
    first_of (λ (rows, salt). row_and_salt_form_refusal ds rows salt) (zip sets salts) ≡ None
sets_unrefused ds [] salts have = refl
sets_unrefused ds (rows ∷ sets) [] have = refl
sets_unrefused ds (rows ∷ sets) (salt ∷ salts) have =
    rw (salts_unrefused ds rows salt have.0) (sets_unrefused ds sets salts have.1)

module _ {T W : Type 0} (row_eq : T → T → Bool) (digest_eq : W → W → Bool) (e : ℕ) (ds : List Dimensions)
    (c : Params T W) (cap : List (List W)) (row_is : IsEquality row_eq) (digest_is : IsEquality digest_eq) where
  -- an accepted salted opening is not refused
  pub salted_unrefused : OkIsAccepted T W → (o : SaltedOpening T W) → IsSaltedAccepted e ds c cap o →
      salted_refusal_under digest_eq e ds c cap o ≡ None
  salted_unrefused law o is =
      rw (salts_unrefused ds o.rows o.salts is.salted, widths_unrefused e ds is.can_widen)
      (accepted_unrefused row_eq digest_eq c cap row_is digest_is law (joined o) is.accepted)

  -- an accepted salted opening of several indices is not refused
  pub salted_pruned_unrefused : OkIsEachAccepted T W → IsArity c.shape.arity → (p : SaltedPruned T W) →
      IsSaltedPrunedAccepted e ds c cap p → salted_pruned_refusal_under row_eq digest_eq e ds c cap p ≡ None
  salted_pruned_unrefused law arity p is =
      rw (
        eq-eqb (length p.rows) (length p.salts) (sym is.in_pairs),
        sets_unrefused ds p.rows p.salts is.salted,
        widths_unrefused e ds is.can_widen,
      )
      (pruned_unrefused row_eq digest_eq c cap row_is digest_is law arity (joined_sets p) is.accepted)
