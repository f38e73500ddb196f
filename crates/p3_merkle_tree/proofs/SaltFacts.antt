-- Rows that are joined with their salts one by one, and widths that can grow.
use Rattle.std.proofs.Common.{◌≡◌, ◌↔◌, ℕ, zero, suc, ◌+◌, ◌<◌, ◌≤◌, ◌^◌, ◌⊎◌, inl, inr, Bool, List, [], ◌∷◌, ◌++◌}
use Rattle.std.proofs.Common.{refl, sym, ap, ◌∙◌, length, get_or, map, zip, None, Some, Option, nat_le, append-nil}
use Rattle.std.proofs.Common.{append_assoc, arith}
use Rattle.std.proofs.lemmas.Bool.{cases_lt, le-leb, lt-leb}
use Rattle.std.proofs.lemmas.Iterator.Adapters.{position_from-zero}
use Rattle.std.proofs.lemmas.List.{get_or-map, map-append}
use Rattle.std.specs.List.{position_from}
use Rattle.std.specs.Option.{option_map, option_or}
use Rattle.std.specs.declared.vec.Vec.{Vec}
use Rattle.p3_support.specs.Batches.{CanWiden}
use Rattle.p3_support.specs.declared.matrix.Dimensions.{Dimensions}
use Rattle.p3_support.specs.Batches.{widths_of}
use Rattle.p3_support.specs.Shown.{row_lists, row_sets}
use Rattle.p3_answers.specs.Answers.{first_of, first_some}
use Rattle.p3_merkle_core.specs.declared.error.MerkleTreeError.{MerkleTreeError}
use Rattle.p3_merkle_core.specs.declared.error.MerkleTreeError.TheVariants.{TooLarge}
use Rattle.p3_answers.proofs.AnswerFacts.{map_none}
use Rattle.p3_merkle_core.proofs.Pruned.Unrefused.{size_none}
use Rattle.p3_merkle_tree.specs.SaltRefusals.{first_too_wide, row_and_salt_form_refusal, set_and_salt_form_refusal}
use Rattle.p3_merkle_tree.specs.SaltRefusals.{widening_refusal}

-- where either list is at its end, so is either of what it shows
pub shown_end : {A B C D : Type 0} (f : A → C) (g : B → D) (xs : List A) (ys : List B) → (xs ≡ []) ⊎ (ys ≡ []) →
    (map f xs ≡ []) ⊎ (map g ys ≡ [])
shown_end f g xs ys (inl e) = inl (ap (λ (z : List _). map f z) e)
shown_end f g xs ys (inr e) = inr (ap (λ (z : List _). map g z) e)

-- the same of the second list alone
pub second_end : {A B D : Type 0} (g : B → D) (xs : List A) (ys : List B) → (xs ≡ []) ⊎ (ys ≡ []) → (xs ≡ []) ⊎
    (map g ys ≡ [])
second_end g xs ys (inl e) = inl e
second_end g xs ys (inr e) = inr (ap (λ (z : List _). map g z) e)

module _ {A B C : Type 0} (join : A × B → C) where
  none_left : (xs : List A) (ys : List B) → ys ≡ [] → map join (zip xs ys) ≡ []
  none_left [] ys e = refl
  none_left (x ∷ xs) ys e = ap (λ (z : List B). map join (zip (x ∷ xs) z)) e

  -- where either list is at its end, no pairs are left
  pub pairs_end : (xs : List A) (ys : List B) → (xs ≡ []) ⊎ (ys ≡ []) → map join (zip xs ys) ≡ []
  pairs_end xs ys (inl e) = ap (λ (z : List A). map join (zip z ys)) e
  pairs_end xs ys (inr e) = none_left xs ys e

  -- so all are joined
  pub joined_end : (done : List C) (xs : List A) (ys : List B) (all : List C) → (xs ≡ []) ⊎ (ys ≡ []) →
      done ++ map join (zip xs ys) ≡ all → done ≡ all
  joined_end done xs ys all end is = sym (append-nil done) ∙ ap (λ (z : List C). done ++ z) (sym (pairs_end xs ys end))
      ∙ is

  -- one pair more is joined: the first of those that are left
  pub joined_more : {V : Type 0} (shown : V → C) (old new : List V) (v : V) (x : A) (y : B) (xs left : List A)
      (ys other : List B) (all : List C) → left ≡ x ∷ xs → other ≡ y ∷ ys → new ≡ old ++ v ∷ [] →
      shown v ≡ join (x, y) → map shown old ++ map join (zip left other) ≡ all →
      map shown new ++ map join (zip xs ys) ≡ all
  joined_more shown old new v x y xs left ys other all first second pushed is before =
      let now : map shown new ++ map join (zip xs ys) ≡ map shown old ++ map join (zip left other) =
      rw (first, second, pushed, map-append, is, append_assoc) refl in
      now ∙ before

-- where there are as many sets, the first that is refused decides
pub sets_decide : {T : Type 0} (dimensions : List Dimensions) (sets salts : List (List (List T)))
    (refusal : Option MerkleTreeError) → length salts ≡ length sets →
    first_of (λ (rows, salt). row_and_salt_form_refusal dimensions rows salt) (zip sets salts) ≡ refusal →
    set_and_salt_form_refusal dimensions sets salts ≡ refusal
sets_decide dimensions sets salts refusal same is =
    ap (λ (o : Option MerkleTreeError).
    option_or o (first_of (λ (rows, salt). row_and_salt_form_refusal dimensions rows salt) (zip sets salts)))
    (size_none (length sets) (length salts) (sym same)) ∙ is

-- where all sets are gone through, none is refused
pub no_set_refused : {T A B C D : Type 0} (dimensions : List Dimensions) (xs sets : List (Vec (Vec T A) B))
    (ys salts : List (Vec (Vec T C) D)) → length (row_sets salts) ≡ length (row_sets sets) → (xs ≡ []) ⊎ (ys ≡ []) →
    first_of (λ (rows, salt). row_and_salt_form_refusal dimensions rows salt) (zip (row_sets xs) (row_sets ys))
    ≡ first_of (λ (rows, salt). row_and_salt_form_refusal dimensions rows salt) (zip (row_sets sets) (row_sets salts)) →
    set_and_salt_form_refusal dimensions (row_sets sets) (row_sets salts) ≡ None
no_set_refused dimensions xs sets ys salts same end left =
    let none = pairs_end (λ (rows, salt). row_and_salt_form_refusal dimensions rows salt) (row_sets xs) (row_sets ys)
    (shown_end (λ rows. row_lists rows.items) (λ salt. row_lists salt.items) xs ys end) in
    sets_decide dimensions (row_sets sets) (row_sets salts) None same (sym left ∙ ap first_some none)

-- one set more, which is the first of those that are left
module _ {T A B C D : Type 0} (dimensions : List Dimensions) (x : Vec (Vec T A) B) (y : Vec (Vec T C) D)
    (xs left : List (Vec (Vec T A) B)) (ys other : List (Vec (Vec T C) D)) (all : Option MerkleTreeError)
    (rows : left ≡ x ∷ xs) (salts : other ≡ y ∷ ys)
    (before : first_of (λ (rows, salt). row_and_salt_form_refusal dimensions rows salt)
    (zip (row_sets left) (row_sets other)) ≡ all)
  where
    -- it passes, so the others decide
    pub set_passes : row_and_salt_form_refusal dimensions (row_lists x.items) (row_lists y.items) ≡ None →
        first_of (λ (rows, salt). row_and_salt_form_refusal dimensions rows salt) (zip (row_sets xs) (row_sets ys))
        ≡ all
    set_passes none =
        let now : first_of (λ (rows, salt). row_and_salt_form_refusal dimensions rows salt)
        (zip (row_sets left) (row_sets other))
        ≡ first_of (λ (rows, salt). row_and_salt_form_refusal dimensions rows salt) (zip (row_sets xs) (row_sets ys)) =
        rw (rows, salts, none) refl in
        sym now ∙ before

    -- it is refused, and so are all
    pub set_refused : (e : MerkleTreeError) →
        row_and_salt_form_refusal dimensions (row_lists x.items) (row_lists y.items) ≡ Some e → all ≡ Some e
    set_refused e is =
        let now : first_of (λ (rows, salt). row_and_salt_form_refusal dimensions rows salt)
        (zip (row_sets left) (row_sets other))
        ≡ Some e = rw (rows, salts, is) refl in
        sym before ∙ now

-- a width does not fit with e salts
abbrev is_wide : ℕ → ℕ → Bool
is_wide e w = nat_le (2 ^ 64) (w + e)

fit_more : (e : ℕ) (d : Dimensions) (ds : List Dimensions) → d.width + e < 2 ^ 64 → CanWiden e ds → CanWiden e (d ∷ ds)
fit_more e d ds first others zero z h = first
fit_more e d ds first others (suc k) z h = others k z (omega arith)

none_from : (e i : ℕ) (ds : List Dimensions) → (position_from (is_wide e) i (widths_of ds) ≡ None) ↔ CanWiden e ds
none_from e i [] = (λ none k d h. absurd (omega arith), λ fits. refl)
none_from e i (d ∷ ds) =
    elim (cases_lt (d.width + e) (2 ^ 64)) [
      | inl fits ↦ let rest = none_from e (i + 1) ds in rw (lt-leb (2 ^ 64) (d.width + e) fits) (
        λ none. fit_more e d ds fits (rest.0 none),
        λ all. rest.1 (λ k z h. all (suc k) z (omega arith)),
      )
      | inr large ↦ rw (le-leb (2 ^ 64) (d.width + e) large)
          (λ none. absurd cc, λ all. absurd (omega (arith, all 0 d (omega arith))))
    ]

-- no width is refused exactly if all can be wider
pub widening : (e : ℕ) (ds : List Dimensions) → (widening_refusal e ds ≡ None) ↔ CanWiden e ds
widening e ds =
    let size = λ (m : ℕ). TooLarge m (get_or (widths_of ds) m 0) in
    let at = position_from-zero (is_wide e) (widths_of ds) in (
      λ none. (none_from e 0 ds).0 (sym at ∙ map_none size (first_too_wide e (widths_of ds)) none),
      λ fits. ap (option_map size) (at ∙ (none_from e 0 ds).1 fits),
    )

first_from : (e i m : ℕ) (ds : List Dimensions) → m < length ds → (d : Dimensions) →
    ((k : ℕ) → k < m → (get_or ds k d).width + e < 2 ^ 64) → 2 ^ 64 ≤ (get_or ds m d).width + e →
    position_from (is_wide e) i (widths_of ds) ≡ Some (i + m)
first_from e i m [] inside d below wide = absurd (omega arith)
first_from e i zero (x ∷ ds) inside d below wide =
    rw (le-leb (2 ^ 64) (x.width + e) wide) (ap (λ (k : ℕ). Some k) (omega arith))
first_from e i (suc m) (x ∷ ds) inside d below wide =
    rw (lt-leb (2 ^ 64) (x.width + e) (below 0 (omega arith)))
    (first_from e (i + 1) m ds (omega arith) d (λ k h. below (suc k) (omega arith)) wide
    ∙ ap (λ (k : ℕ). Some k) (omega arith))

-- the first width that does not fit with the salts is refused
pub first_wide : (e : ℕ) (ds : List Dimensions) (m : ℕ) (d : Dimensions) → m < length ds →
    ((k : ℕ) → k < m → (d : Dimensions) → (get_or ds k d).width + e < 2 ^ 64) → 2 ^ 64 ≤ (get_or ds m d).width + e →
    widening_refusal e ds ≡ Some (TooLarge m (get_or ds m d).width)
first_wide e ds m d inside below wide =
    let here : 0 + m ≡ m = omega arith in
    ap (option_map (λ (k : ℕ). TooLarge k (get_or (widths_of ds) k 0)))
    (position_from-zero (is_wide e) (widths_of ds) ∙ first_from e 0 m ds inside d (λ k h. below k h d) wide
    ∙ ap (λ (k : ℕ). Some k) here)
    ∙ ap (λ (w : ℕ). Some (TooLarge m w)) (get_or-map (λ (d : Dimensions). d.width) ds m d 0 inside)
