-- Lines after lines.
use Rattle.std.proofs.Common.{◌≡◌, ℕ, ◌+◌, ◌<◌, List, [], ◌∷◌, ◌++◌, length, get_or, take}
use Rattle.std.proofs.Common.{map, sym, ap, ◌∙◌, append_assoc}
use Rattle.std.proofs.lemmas.List.{flat_map_more, map_more, get_or-map, length-map, take_more}
use Rattle.std.specs.Prelude.{flat_map, codes}
use Rattle.std.proofs.lemmas.Simd.{map-map}
use Rattle.std.specs.declared.vec.Vec.{Vec}
use Rattle.mmcs_engine.specs.Text.{labelled, row_line}
use Rattle.mmcs_engine.specs.Inner.Alike.{opened_lines}
use Rattle.p3_support.specs.Shown.{row_lists, row_sets}
use Rattle.p3_merkle_core.specs.Nodes.{Batch}
use Rattle.p3_merkle_core.specs.Openings.{honest_rows}

-- what is opened of one more index
pub queries_more : {T : Type 0} (value : T → ℕ) (b : Batch T) (sets : List (List (List T))) (indices : List ℕ)
    (k index : ℕ) (old before named after : List ℕ) (shown : List (List ℕ)) → sets ≡ map (honest_rows b) indices →
    k < length indices → index
    ≡ get_or indices k 0 → before ≡ old ++ flat_map (opened_lines value b) (take k indices) → named
    ≡ before ++ labelled (codes "index") index →
    after ≡ named ++ flat_map row_line shown → shown ≡ map (map value) (get_or sets k []) → after
    ≡ old ++ flat_map (opened_lines value b) (take (k + 1) indices)
queries_more value b sets indices k index old before named after shown sets_are within index_is before_is named_is
    after_is shown_is =
    let F : ℕ → List ℕ = opened_lines value b in
    let own = get_or indices k 0 in
    let rows : get_or sets k [] ≡ honest_rows b own = ap (λ s. get_or s k []) sets_are
    ∙ get_or-map (honest_rows b) indices k 0 [] within in
    after_is
    ∙ (λ i. (named_is ∙ ap (λ x. before ++ labelled (codes "index") x) index_is) i
    ++ flat_map row_line ((shown_is ∙ ap (map (map value)) rows) i))
    ∙ append_assoc before (labelled (codes "index") own) (flat_map row_line (map (map value) (honest_rows b own)))
    ∙ ap (λ t. t ++ F own) before_is
    ∙ flat_map_more F old (take k indices) own
    ∙ ap (λ xs. old ++ flat_map F xs) (sym (take_more indices k 0 within))

-- the rows that are opened of one index, as they are lent
pub rows_opened : {T A B : Type 0} (value : T → ℕ) (sets : List (Vec (Vec T A) B)) (k : ℕ) (set : Vec (Vec T A) B)
    (lent : List (Vec T A)) → k < length sets → set ≡ get_or sets k set → lent ≡ set.items →
    map (λ row. map value row.items) lent ≡ map (map value) (get_or (row_sets sets) k [])
rows_opened value sets k set lent within set_is lent_is =
    sym (map-map (map value) (λ row. row.items) lent)
    ∙ ap (λ rows. map (map value) (row_lists rows)) lent_is
    ∙ ap (map (map value)) (ap (λ s. row_lists s.items) set_is
    ∙ sym (get_or-map (λ s. row_lists s.items) sets k set [] within))

-- there are as many row sets as indices
pub sets_long : {T A B : Type 0} (sets : List (Vec (Vec T A) B)) (f : ℕ → List (List T)) (indices : List ℕ) →
    row_sets sets ≡ map f indices → length sets ≡ length indices
sets_long sets f indices are =
    sym (length-map sets (λ rows. row_lists rows.items)) ∙ ap length are ∙ length-map indices f

-- one more item, whose text comes after the others'
pub texts_more : {R V : Type 0} (text : V → List ℕ) (value : R → V) (items : List R) (i : ℕ) (item : R)
    (old before after : List ℕ) → i < length items → item ≡ get_or items i item → before
    ≡ old ++ flat_map text (map value (take i items)) → after ≡ before ++ text (value item) → after
    ≡ old ++ flat_map text (map value (take (i + 1) items))
texts_more text value items i item old before after within item_is before_is after_is =
    after_is
    ∙ ap (λ t. t ++ text (value item)) before_is
    ∙ flat_map_more text old (map value (take i items)) (value item)
    ∙ ap (λ xs. old ++ flat_map text xs)
    (sym (map_more value items i item within ∙ ap (λ r. map value (take i items) ++ value r ∷ []) (sym item_is)))
