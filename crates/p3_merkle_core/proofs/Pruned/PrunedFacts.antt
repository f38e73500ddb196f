-- The reasons to refuse a pruned opening, those before there are slots and those after.
use Rattle.std.proofs.Common.{◌≡◌, ℕ, ◌<◌, Bool, List, [], ◌∷◌, ◌++◌, map, refl, ap, ◌∙◌, length, arith, get_or, All}
use Rattle.std.proofs.Common.{Option, None, Some}
use Rattle.std.proofs.lemmas.Grind.{common_steps}
use Rattle.std.proofs.lemmas.Bool.{eqb-true, ltb-true}
use Rattle.std.proofs.lemmas.List.{length-map, length-replicate}
use Rattle.p3_support.specs.declared.matrix.Dimensions.{Dimensions}
use Rattle.p3_support.specs.Batches.{greatest}
use Rattle.p3_merkle_core.specs.Geometry.{Shape, heights}
use Rattle.p3_merkle_core.specs.Pruning.{PrunedOpening, boundary}
use Rattle.p3_merkle_core.specs.Refusals.{digest_count_refusal, early_refusal, group_refusal, pruned_refusal}
use Rattle.p3_answers.specs.Answers.{first_of, first_some}
use Rattle.p3_merkle_core.specs.Refusals.{duplicate_refusal, slots_below, width_refusal, rows_of}
use Rattle.p3_merkle_core.specs.Inner.Agreement.{distinct, first_query, late_refusal, layers_refusal}
use Rattle.p3_merkle_core.specs.Inner.Agreement.{opened_of, opened_with, slot_rows}
use Rattle.p3_merkle_core.specs.declared.error.MerkleTreeError.{MerkleTreeError}
use Rattle.p3_answers.proofs.AnswerFacts.{each_none, none_of_both, none_parts, unless_none}
use Rattle.p3_merkle_core.proofs.Pruned.NoneFacts.{below_from, fit_from}
use Rattle.p3_merkle_core.proofs.Pruned.AgreeFacts.{groups_are, widths_are}

-- where none of some reasons holds, those after them decide
past_none : {E : Type 0} (xs ys : List (Option E)) → first_some xs ≡ None → first_some (xs ++ ys) ≡ first_some ys
past_none [] ys e = refl
past_none (x ∷ xs) ys e =
    let both = none_parts x (first_some xs) e in
    rw both.0 (past_none xs ys both.1)

-- where one of some reasons holds, those after them do not matter
at_some : {E : Type 0} (xs ys : List (Option E)) (e : E) → first_some xs ≡ Some e → first_some (xs ++ ys) ≡ Some e
at_some [] ys e is = absurd cc
at_some (None ∷ xs) ys e is = at_some xs ys e is
at_some (Some x ∷ xs) ys e is = is

-- ---- what is known where nothing is refused early

-- as many row sets as indices, and all indices below the tallest height
pub record Asked (hs indices : List ℕ) (sets : ℕ) : Type 0 where
  pub pairs : length indices ≡ sets
  pub highest : greatest indices < greatest hs
  pub below : All (λ i. i < greatest hs) indices

pub asked_from : (hs indices : List ℕ) (sets digests : ℕ) → early_refusal hs indices sets digests ≡ None →
    Asked hs indices sets
asked_from hs indices sets digests e =
    grind (arith, common_steps, eqb-true, ltb-true, below_from, none_parts, unless_none)

-- ---- what is answered late

late_is : {T : Type 0} (row_eq : T → T → Bool) (s : Shape) (t : ℕ) (firsts indices : List ℕ)
    (sets : List (List (List T))) → firsts ≡ map (first_query indices) (distinct indices) →
    Asked (heights s) indices (length sets) →
    late_refusal row_eq s t (distinct indices) firsts sets
    ≡ first_some (first_of (λ i. width_refusal s.dimensions (rows_of (opened_of indices sets) i))
    (slots_below (greatest (heights s)) indices) ∷ group_refusal row_eq s t (opened_of indices sets) ∷ [])
late_is row_eq s t firsts indices sets is asked =
    let widths = widths_are s.dimensions (greatest (heights s)) firsts indices sets is asked.pairs asked.highest in
    let groups = groups_are row_eq s t firsts indices sets is asked.pairs asked.highest in
    ap (λ w. first_some (w ∷ layers_refusal row_eq s t (distinct indices) firsts sets ∷ [])) widths
    ∙ ap (λ g. first_some
    (first_of (λ i. width_refusal s.dimensions (rows_of (opened_of indices sets) i))
    (slots_below (greatest (heights s)) indices) ∷ g ∷ [])) groups

-- where the first of two reasons doesn't hold, the second decides
pub late_from : {E : Type 0} (x y a : Option E) → x ≡ None → y ≡ a → first_some (x ∷ y ∷ []) ≡ a
late_from x y None none is = rw (none, is) refl
late_from x y (Some e) none is = rw (none, is) refl

-- where nothing is refused early, the repeats decide, and then the number of digests
pub pruned_counted : {T : Type 0} (row_eq : T → T → Bool) (s : Shape) (t : ℕ) (indices : List ℕ)
    (sets : List (List (List T))) (n : ℕ) (e : MerkleTreeError) →
    early_refusal (heights s) indices (length sets) n ≡ None →
    first_some (duplicate_refusal row_eq (opened_of indices sets)
    ∷ digest_count_refusal (length (boundary s indices t)) n ∷ []) ≡ Some e →
    pruned_refusal row_eq s t (opened_with indices sets n) ≡ Some e
pruned_counted row_eq s t indices sets n e early counted = grind (arith, common_steps)

-- where nothing else is refused, the answer is the late one
pub pruned_late : {T : Type 0} (row_eq : T → T → Bool) (s : Shape) (t : ℕ) (leaves firsts indices : List ℕ)
    (sets : List (List (List T))) (n : ℕ) (answer : Option MerkleTreeError) →
    leaves ≡ distinct indices → firsts ≡ map (first_query indices) (distinct indices) →
    early_refusal (heights s) indices (length sets) n ≡ None → duplicate_refusal row_eq (opened_of indices sets)
    ≡ None →
    digest_count_refusal (length (boundary s indices t)) n ≡ None → late_refusal row_eq s t leaves firsts sets
    ≡ answer → pruned_refusal row_eq s t (opened_with indices sets n) ≡ answer
pruned_late row_eq s t leaves firsts indices sets n answer listed is early repeats count late =
    grind (arith, common_steps, length-replicate, past_none, asked_from, late_is)

-- ---- rows of their widths are as many as there are matrices

pub full_from : {T : Type 0} (dimensions : List Dimensions) (firsts : List ℕ) (sets : List (List (List T))) →
    first_of (λ query. width_refusal dimensions (get_or sets query [])) firsts ≡ None →
    (k : ℕ) → k < length firsts → length (slot_rows firsts sets k) ≡ length dimensions
full_from dimensions firsts sets e k h = grind (arith, common_steps, length-map, each_none, fit_from)

-- ---- what the callers ask

front_none : {E : Type 0} (xs ys : List (Option E)) → first_some (xs ++ ys) ≡ None → first_some xs ≡ None
front_none [] ys e = refl
front_none (x ∷ xs) ys e =
    let both = none_parts x (first_some (xs ++ ys)) e in
    none_of_both x (first_some xs) both.0 (front_none xs ys both.1)

-- what is asked early, where nothing is refused at all
pub asked_of : {T W : Type 0} (row_eq : T → T → Bool) (s : Shape) (t : ℕ) (p : PrunedOpening T W) →
    pruned_refusal row_eq s t p ≡ None → Asked (heights s) p.indices (length p.rows)
asked_of row_eq s t p e = grind (arith, common_steps, asked_from, front_none)
