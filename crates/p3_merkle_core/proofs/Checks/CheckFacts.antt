-- What a check ends in: the digest of its last input, which is the one that the walk reaches. An honest opening is
-- accepted under its cap.
use Rattle.std.proofs.Common.{◌≡◌, ℕ, zero, suc, ◌<◌, true, false, List, [], ◌∷◌, ◌++◌, map, refl, ap, sym, ◌∙◌, inl}
use Rattle.std.proofs.Common.{inr, drop, length, Some, slice_get, get_or, ◌≤◌, arith, All}
use Rattle.std.proofs.lemmas.Grind.{common_steps}
use Rattle.std.proofs.lemmas.Bool.{cases_Bool}
use Rattle.std.proofs.lemmas.Option.{slice_get-get_or}
use Rattle.std.proofs.lemmas.List.{append_assoc}
use Rattle.std.proofs.lemmas.List.FromFn.{length-map-range_with_len, get_or-map-range_with_len}
use Rattle.p3_merkle_core.specs.Geometry.{Shape, IsLawful, ancestor, has_rows, heights, widths, raw_len, layer_len}
use Rattle.p3_merkle_core.specs.Geometry.{padded_len, halved_index}
use Rattle.p3_merkle_core.specs.Nodes.{Functions}
use Rattle.p3_merkle_core.specs.Nodes.{pair, padded, Batch, Matrix, shape, node, layer, dimensions_of, HasFullRows}
use Rattle.p3_merkle_core.specs.Openings.{Opening, honest}
use Rattle.p3_merkle_core.specs.Checks.{Input, IsAccepted, check_digest, group_at, input_digest, inputs, inputs_at}
use Rattle.p3_merkle_core.specs.Checks.{last_input, last_of, layer_words, path_digest, siblings_below, params}
use Rattle.p3_merkle_core.specs.Checks.{leaf_input, words_at, digests_at, Content, Words, Digests}
use Rattle.p3_merkle_core.specs.declared.collision.Place.{Place}
use Rattle.p3_merkle_core.specs.declared.collision.Place.TheVariants.{Group, Rows, Pair}
use Rattle.p3_support.specs.Batches.{greatest, heights_of, widths_of}
use Rattle.p3_merkle_core.proofs.Lists.ListFacts.{joined_more}
use Rattle.p3_merkle_core.proofs.Checks.Completeness.{reached_next}
use Rattle.p3_merkle_core.proofs.Checks.Completeness.{reached_leaf, IsHonest, honest_reaches, honest_count}
use Rattle.p3_merkle_core.proofs.Shapes.LadderFacts.{row_below}
use Rattle.p3_merkle_core.proofs.Shapes.RawFacts.{anc_below}

-- ---- what inputs are made of

content_words : {T W : Type 0} → Content T W → List T
content_words (Words words) = words
content_words (Digests digests) = []

content_digests : {T W : Type 0} → Content T W → List (List W)
content_digests (Words words) = []
content_digests (Digests digests) = digests

-- equal inputs of words have equal words
pub same_words : {T W : Type 0} (p q : Place) (xs ys : List T) → words_at {W = W} p xs ≡ words_at q ys → xs ≡ ys
unfolding content_words
same_words {T} {W} p q xs ys e = ap (λ (x : Input T W). content_words x.content) e

-- and of digests equal digests
pub same_digests : {T W : Type 0} (p q : Place) (xs ys : List (List W)) → digests_at {T = T} p xs ≡ digests_at q ys → xs
    ≡ ys
unfolding content_digests
same_digests {T} {W} p q xs ys e = ap (λ (x : Input T W). content_digests x.content) e

-- ---- the inputs of one level

-- the N digests of level l
abbrev pub full_group : {T W : Type 0} → Functions T W → Shape → Opening T W → ℕ → List (List W)
full_group f s o l = padded s.arity f.default_digest (group_at f s o l (path_digest f s o l))

pub inputs_with_rows : {T W : Type 0} (f : Functions T W) (s : Shape) (o : Opening T W) (l : ℕ) → has_rows s (suc l)
    ≡ true →
    inputs_at f s o l ≡ digests_at (Group l) (full_group f s o l) ∷ words_at (Rows l) (layer_words s o.rows (suc l))
    ∷ digests_at (Pair l)
    (pair f s.arity (f.compression (full_group f s o l)) (f.hash (layer_words s o.rows (suc l)))) ∷ []
inputs_with_rows f s o l e = rw e refl

pub inputs_alone : {T W : Type 0} (f : Functions T W) (s : Shape) (o : Opening T W) (l : ℕ) →
    has_rows s (suc l) ≡ false → inputs_at f s o l ≡ digests_at (Group l) (full_group f s o l) ∷ []
inputs_alone f s o l e = rw e refl

-- the N digests are its first input
pub group_first : {T W : Type 0} (f : Functions T W) (s : Shape) (o : Opening T W) (l : ℕ) →
    inputs_at f s o l ≡ digests_at (Group l) (full_group f s o l) ∷ drop 1 (inputs_at f s o l)
group_first f s o l = elim (cases_Bool (has_rows s (suc l))) [ inl t ↦ rw t refl | inr n ↦ rw n refl ]

pub same_group : {T W : Type 0} (f : Functions T W) (s : Shape) (o : Opening T W) (l : ℕ) (group : List (List W))
    (others : List (Input T W)) → digests_at (Group l) group ∷ others ≡ inputs_at f s o l → group ≡ full_group f s o l
same_group {T} f s o l group others e =
    let first = group_first f s o l in same_digests {T = T} (Group l) (Group l) group (full_group f s o l) cc

-- ---- the last of them

-- the last input, after which no other stands, has the digest that the walk reaches
last_reached : {T W : Type 0} (f : Functions T W) (s : Shape) (t : ℕ) (o : Opening T W) → (before : List (Input T W)) ×
    (x : Input T W) × (inputs (params f s t) o ≡ before ++ x ∷ []) × (input_digest f x ≡ path_digest f s o t)
last_reached f s zero o = ([], leaf_input s o, refl, sym (reached_leaf f s o))
last_reached f s (suc t) o =
    let below = inputs (params f s t) o in
    let words = layer_words s o.rows (suc t) in
    let group = full_group f s o t in
    let last = pair f s.arity (f.compression group) (f.hash words) in
    let next = reached_next f s o t in
    elim (cases_Bool (has_rows s (suc t))) [
      | inl e ↦ (
        below ++ digests_at (Group t) group ∷ words_at (Rows t) words ∷ [],
        digests_at (Pair t) last,
        rw (joined_more (inputs_at f s o) t, inputs_with_rows f s o t e)
            (sym (append_assoc below (digests_at (Group t) group ∷ words_at (Rows t) words ∷ [])
            (digests_at (Pair t) last ∷ []))),
        sym (rw e at next),
      )
      | inr n ↦ (
        below,
        digests_at (Group t) group,
        rw (joined_more (inputs_at f s o) t, inputs_alone f s o t n) refl,
        sym (rw n at next),
      )
    ]

last_after : {X : Type 0} (x y : X) (xs : List X) → last_of x (xs ++ y ∷ []) ≡ y
last_after x y [] = refl
last_after x y (z ∷ xs) = last_after z y xs

pub last_is : {T W : Type 0} (f : Functions T W) (s : Shape) (t : ℕ) (o : Opening T W) → (before : List (Input T W)) ×
    (inputs (params f s t) o ≡ before ++ last_input (params f s t) o ∷ [])
last_is f s t o =
    let r = last_reached f s t o in
    let e = ap (λ xs. last_of (leaf_input s o) xs) (r.2) ∙ last_after (leaf_input s o) (r.1) (r.0) in
    (r.0, r.2 ∙ ap (λ x. r.0 ++ x ∷ []) (sym e))

-- the walk reaches the digest in which the check ends
pub walk_reaches : {T W : Type 0} (f : Functions T W) (s : Shape) (t : ℕ) (o : Opening T W) → path_digest f s o t
    ≡ check_digest (params f s t) o
walk_reaches f s t o =
    let r = last_reached f s t o in
    let e = ap (λ xs. last_of (leaf_input s o) xs) (r.2) ∙ last_after (leaf_input s o) (r.1) (r.0) in
    sym (ap (λ x. input_digest f x) e ∙ r.3)

-- ---- accepted, by the walk

-- the cap's entry is what the walk of an accepted opening reaches
pub accepted_walk : {T W : Type 0} (f : Functions T W) (s : Shape) (t : ℕ) (cap : List (List W)) (o : Opening T W) →
    IsAccepted (params f s t) cap o → slice_get cap (ancestor s t o.index) ≡ Some (path_digest f s o t)
accepted_walk f s t cap o a = a.authentic ∙ ap (λ d. Some d) (sym (walk_reaches f s t o))

-- and where it is, and the rest fits, the opening is accepted
pub accepted_by_walk : {T W : Type 0} (f : Functions T W) (s : Shape) (t : ℕ) (cap : List (List W)) (o : Opening T W) →
    IsLawful (heights s) → map length o.rows ≡ widths s → length o.siblings ≡ siblings_below s t →
    o.index < greatest (heights s) →
    slice_get cap (ancestor s t o.index) ≡ Some (path_digest f s o t) → IsAccepted (params f s t) cap o
accepted_by_walk f s t cap o lawful rows_fit count in_range entry = grind (arith, common_steps, walk_reaches)

pub padded_ge : (r n : ℕ) → r ≤ padded_len r n
padded_ge r n = grind (arith, common_steps)

pub lengths_are : {T : Type 0} (row : ℕ → ℕ) (ms : List (Matrix T)) →
    All (λ m. (j : ℕ) → j < m.height → length (m.row j) ≡ m.width) ms →
    All (λ h. row h < h) (heights_of (dimensions_of ms)) →
    map length (map (λ m. m.row (row m.height)) ms) ≡ widths_of (dimensions_of ms)
lengths_are row [] e low = refl
lengths_are row (m ∷ ms) e low =
    rw (
      e 0 m (omega arith) (row m.height) (low 0 0 (omega arith)),
      lengths_are row ms (λ k d h. e (suc k) d (omega arith)) (λ k d h. low (suc k) d (omega arith)),
    ) refl

pub honest_accepted : {T W : Type 0} (f : Functions T W) (b : Batch T) (t i : ℕ) → IsHonest b t i → HasFullRows b →
    IsAccepted (params f (shape b) t) (layer f b t) (honest f b t i)
honest_accepted f b t i w widths =
    let s = shape b in
    let j = ancestor s t i in
    let below = anc_below s w.well_shaped i w.below t w.in_tree in
    let in_layer : j < layer_len s t = omega (arith, padded_ge (raw_len s t) b.arity) in
    accepted_by_walk f s t (layer f b t) (honest f b t i) w.lawful
    (lengths_are (λ h. halved_index (greatest (heights s)) h i) b.matrices widths
    (λ k d h. row_below s (get_or (heights s) k d) i (w.lawful.on_ladder k d h) w.below))
    (honest_count f b t i w) w.below
    (slice_get-get_or (layer f b t) j f.default_digest
    (omega (arith, length-map-range_with_len (node f b t) 0 (layer_len s t)))
    ∙ ap (λ d. Some d) (get_or-map-range_with_len (node f b t) 0 (layer_len s t) j j f.default_digest in_layer
    (omega arith) ∙ sym (honest_reaches f b t i w t (omega arith))))
