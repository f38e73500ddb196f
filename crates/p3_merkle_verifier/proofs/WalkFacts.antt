-- The checks of two openings, one level higher.
use Rattle.std.proofs.Common.{◌≡◌, ℕ, zero, suc, ◌+◌, ◌<◌, Bool, true, List, subst, sym, ◌∙◌, inl, inr, add-one, arith}
use Rattle.std.proofs.Common.{Option, None}
use Rattle.std.specs.Cmp.Lexicographic.{pointwise}
use Rattle.std.specs.Option.{option_or}
use Rattle.std.proofs.lemmas.Bool.{cases_Bool, cases_eq, eq-eqb}
use Rattle.p3_merkle_core.specs.Extraction.{input_eq, last_difference}
use Rattle.p3_merkle_core.specs.Geometry.{Shape, ancestor}
use Rattle.p3_merkle_core.specs.Nodes.{Functions}
use Rattle.p3_merkle_core.specs.Openings.{Opening}
use Rattle.p3_merkle_core.specs.Checks.{Input, inputs_at, layer_words, leaf_input, words_at}
use Rattle.p3_answers.specs.Answers.{unless}
use Rattle.p3_answers.proofs.AnswerFacts.{none_parts, unless_none}
use Rattle.p3_merkle_core.specs.declared.collision.Place.TheVariants.{Leaf}
use Rattle.p3_merkle_core.specs.declared.collision.InputPair.{InputPair}
use Rattle.p3_merkle_verifier.specs.Inner.Checks.{IsLevelOfCheck, IsPathState, leaf_difference, level_difference}
use Rattle.p3_merkle_verifier.specs.Inner.Collisions.{IsDifference, Shows, level_inputs}
use Rattle.p3_merkle_verifier.specs.declared.path.PathLevel.{PathLevel}
use Rattle.p3_merkle_verifier.specs.declared.path.PathState.{PathState}
use Rattle.p3_merkle_verifier.proofs.SharedFacts.{difference_below, shows_later}

-- the checks of two openings stand at layer l, and this is the last difference below it
pub record StandTogether {T W : Type 0} (test : Input T W → Input T W → Bool) (f : Functions T W) (s : Shape)
    (o u : Opening T W) (l : ℕ) (first second : PathState (List W)) (last : Option (InputPair T
    (List W))) : Type 0 where
  pub first_state : IsPathState f s o l first
  pub second_state : IsPathState f s u l second
  pub found : Shows last (difference_below test f s o u l)

-- ---- at the leaf

pub shows_unless : {T W : Type 0} (found : Option (InputPair T (List W))) (same : Bool) (pair : Input T W × Input T W) →
    IsDifference found same pair → Shows found (unless same pair)
shows_unless found same pair e = elim (cases_Bool same) [
  | inl t ↦ let c = rw t at e in rw t c
  | inr f ↦ let c = rw f at e in rw f c
]

pub found_leaf : {T W : Type 0} (eq : T → T → Bool) (same : W → W → Bool) (s : Shape) (o u : Opening T W)
    {mine theirs : List T} (found : Option (InputPair T (List W))) → o.index ≡ u.index →
    mine ≡ layer_words s o.rows 0 → theirs ≡ layer_words s u.rows 0 →
    IsDifference found (pointwise eq mine theirs) (words_at Leaf mine, words_at Leaf theirs) →
    Shows found (leaf_difference (input_eq eq same) s o u)
found_leaf eq same s o u found e a b is =
    rw (eq-eqb o.index u.index e) (shows_unless found (pointwise eq (layer_words s o.rows 0) (layer_words s u.rows 0))
    (leaf_input s o, leaf_input s u) (rw (a, b) at is))

-- ---- on one more level

-- where both checks stand at one node above the level, what is shown of the two levels is the last difference there
pub found_here : {T W : Type 0} (test : Input T W → Input T W → Bool) {f : Functions T W} {s : Shape} {l : ℕ}
    {o u : Opening T W} (found : Option (InputPair T (List W))) {mine theirs : PathLevel (List W) (List (List W))}
    {a b : List T} → IsLevelOfCheck f s o l mine → IsLevelOfCheck f s u l theirs →
    a ≡ layer_words s o.rows (suc l) → b ≡ layer_words s u.rows (suc l) → mine.above.node ≡ theirs.above.node →
    Shows found (last_difference test (level_inputs mine.level a mine) (level_inputs mine.level b theirs)) →
    Shows found (level_difference test f s l o u)
found_here test {f} {s} {l} {o} {u} found {mine} {theirs} m n is_a is_b one shown =
    rw (eq-eqb (ancestor s (suc l) o.index) (ancestor s (suc l) u.index)
    (sym m.state.at_node ∙ one ∙ n.state.at_node))
    (subst (λ (both : List (Input _ _) × List (Input _ _)). Shows found (last_difference test both.0 both.1))
    ((λ i. (level_inputs (m.at_level i) (is_a i) mine, level_inputs (m.at_level i) (is_b i) theirs))
    ∙ (λ i. (m.inputs_are i, n.inputs_are i))) shown)

-- the last difference there, else the one below
pub found_next : {T W : Type 0} (test : Input T W → Input T W → Bool) (f : Functions T W) (s : Shape) (l : ℕ)
    (o u : Opening T W) (found last : Option (InputPair T (List W))) {next : Option (InputPair T (List W))} →
    Shows last (difference_below test f s o u l) → Shows found (level_difference test f s l o u) →
    next ≡ option_or found last → Shows next (difference_below test f s o u (l + 1))
found_next test f s l o u found last below here is =
    rw (add-one, is) (shows_later found last (level_difference test f s l o u) (difference_below test f s o u l) here
    below)

-- ---- where nothing differs

-- two checks that differ nowhere have the same words at a leaf that both share
pub same_at_leaf : {T W : Type 0} (eq : T → T → Bool) (same : W → W → Bool) (s : Shape) (o u : Opening T W)
    {mine theirs : List T} → o.index ≡ u.index → mine ≡ layer_words s o.rows 0 → theirs ≡ layer_words s u.rows 0 →
    leaf_difference (input_eq eq same) s o u ≡ None → pointwise eq mine theirs ≡ true
same_at_leaf eq same s o u e a b none =
    rw (a, b) (unless_none (pointwise eq (layer_words s o.rows 0) (layer_words s u.rows 0))
    (leaf_input s o, leaf_input s u) (rw (eq-eqb o.index u.index e) at none))

-- and the same inputs on a level that both share
pub same_on_level : {T W : Type 0} (test : Input T W → Input T W → Bool) {f : Functions T W} {s : Shape} {l : ℕ}
    {o u : Opening T W} {mine theirs : PathLevel (List W) (List (List W))} {a b : List T} →
    IsLevelOfCheck f s o l mine → IsLevelOfCheck f s u l theirs → a ≡ layer_words s o.rows (suc l) →
    b ≡ layer_words s u.rows (suc l) → mine.above.node ≡ theirs.above.node → level_difference test f s l o u ≡ None →
    last_difference test (level_inputs mine.level a mine) (level_inputs mine.level b theirs) ≡ None
same_on_level test {f} {s} {l} {o} {u} {mine} {theirs} {a} {b} m n is_a is_b one none =
    let here : last_difference test (inputs_at f s o l) (inputs_at f s u l) ≡ None =
    rw (eq-eqb (ancestor s (suc l) o.index) (ancestor s (suc l) u.index)
    (sym m.state.at_node ∙ one ∙ n.state.at_node)) at none in
    let mine_is : level_inputs mine.level a mine ≡ inputs_at f s o l =
    (λ i. level_inputs (m.at_level i) (is_a i) mine) ∙ m.inputs_are in
    let theirs_is : level_inputs mine.level b theirs ≡ inputs_at f s u l =
    (λ i. level_inputs (m.at_level i) (is_b i) theirs) ∙ n.inputs_are in
    (λ i. last_difference test (mine_is i) (theirs_is i)) ∙ here

-- no difference below a layer is none at the leaf
pub none_at_leaf : {T W : Type 0} (test : Input T W → Input T W → Bool) (f : Functions T W) (s : Shape)
    (o u : Opening T W) (t : ℕ) → difference_below test f s o u t ≡ None → leaf_difference test s o u ≡ None
none_at_leaf test f s o u zero none = none
none_at_leaf test f s o u (suc t) none =
    none_at_leaf test f s o u t
    (none_parts (level_difference test f s t o u) (difference_below test f s o u t) none).1

-- and none on each level below it
pub none_on_level : {T W : Type 0} (test : Input T W → Input T W → Bool) (f : Functions T W) (s : Shape)
    (o u : Opening T W) (t : ℕ) → difference_below test f s o u t ≡ None → (l : ℕ) → l < t →
    level_difference test f s l o u ≡ None
none_on_level test f s o u zero none l below = absurd (omega arith)
none_on_level test f s o u (suc t) none l below =
    let both = none_parts (level_difference test f s t o u) (difference_below test f s o u t) none in
    elim (cases_eq l t) [
      | inl e ↦ rw e both.0
      | inr ne ↦ none_on_level test f s o u t both.1 l (omega arith)
    ]
