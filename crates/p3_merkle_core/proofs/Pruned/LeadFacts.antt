-- The lowest slot under a node, and the rows that are compared with its rows.
use Rattle.std.proofs.Common.{◌++◌, All, ◌≡◌, ◌≢◌, ℕ, zero, suc, ◌+◌, ◌-◌, ◌/◌, ◌^◌, ◌<◌, ◌≤◌, Bool, true, false, eqb}
use Rattle.std.proofs.Common.{List, [], ◌∷◌, map, refl, ap, sym, ◌∙◌, arith, inl, inr, length, filter, get_or, eq-eqb}
use Rattle.std.proofs.Common.{Option, None, Vec, drop, drop-cons, add-one}
use Rattle.std.proofs.lemmas.Grind.{common_steps}
use Rattle.std.proofs.lemmas.Bool.{cases_Bool, eqb-true, false_from_ne_true, ne_eqb, true≢false, cases_lt}
use Rattle.std.proofs.lemmas.List.Folds.{list_any_at}
use Rattle.std.proofs.lemmas.Cmp.{lists_equiv}
use Rattle.std.proofs.lemmas.List.{append_assoc, drop_all, get_or_default, get_or-map, length-map}
use Rattle.std.specs.List.{list_any, range_with_len}
use Rattle.std.specs.Option.{option_or}
use Rattle.std.specs.Cmp.{IsEquivalence}
use Rattle.std.specs.{List.Sorted.IsStrictlyIncreasing}
use Rattle.p3_support.specs.Shown.{row_lists, row_sets}
use Rattle.p3_support.specs.Lists.{is_among}
use Rattle.p3_support.specs.Batches.{greatest, heights_of}
use Rattle.p3_support.specs.declared.matrix.Dimensions.{Dimensions}
use Rattle.p3_merkle_core.specs.Geometry.{Shape, ancestor, exponent, heights, layer_exponent, IsArity}
use Rattle.p3_answers.specs.Answers.{first_of}
use Rattle.p3_answers.proofs.AnswerFacts.{kept_or}
use Rattle.p3_merkle_core.specs.Inner.Agreement.{first_query, matrices_with}
use Rattle.p3_merkle_core.specs.Inner.Agreement.{rows_refusal, slot_rows, nodes_refusal, IsAscending}
use Rattle.p3_merkle_core.specs.declared.error.MerkleTreeError.{MerkleTreeError}
use Rattle.p3_merkle_core.proofs.Shapes.LadderFacts.{shifted_is_anc}
use Rattle.p3_merkle_core.proofs.Shapes.LevelFacts.{exponent_low}
use Rattle.p3_merkle_core.proofs.Shapes.StepFacts.{anc_start}
use Rattle.p3_merkle_core.proofs.Lists.RisingFacts.{listed_at, listed_in, none_kept, rising_from}
use Rattle.p3_merkle_core.proofs.Pruned.SlotFacts.{first_place, rising_order}

-- ---- the first place of a number

pub first_there : (xs : List ℕ) (v : ℕ) → is_among xs v ≡ true → get_or xs (first_query xs v) 0 ≡ v
first_there [] v c = absurd (true≢false (sym c))
first_there (x ∷ xs) v c =
    elim (cases_Bool (eqb x v)) [
      | inl t ↦ rw t (eqb-true x v t)
      | inr f ↦ rw f (first_there xs v (rw f at c))
    ]

pub first_before : (xs : List ℕ) (v j : ℕ) → j < first_query xs v → get_or xs j 0 ≢ v
first_before [] v j h = absurd (omega arith)
first_before (x ∷ xs) v zero h = grind (arith, common_steps)
first_before (x ∷ xs) v (suc j) h =
    elim (cases_Bool (eqb x v)) [
      | inl t ↦ absurd (omega (arith, rw t at h))
      | inr f ↦ let l : suc j < suc (first_query xs v) = rw f at h in first_before xs v j (omega arith)
    ]

-- two places that are first are one
pub first_unique : (xs : List ℕ) (v k : ℕ) → k < length xs → get_or xs k 0 ≡ v → ((j : ℕ) → j < k → get_or xs j 0 ≢ v) →
    k ≡ first_query xs v
first_unique xs v k l e none =
    let c : is_among xs v ≡ true = rw e at (listed_at xs k 0 l) in
    let q = first_query xs v in
    elim (cases_lt q k) [
      | inl less ↦ absurd (none q less (first_there xs v c))
      | inr rest ↦ elim (cases_lt k q) [
        | inl less ↦ absurd (first_before xs v k less e)
        | inr same ↦ omega arith
      ]
    ]

-- ---- from slot to slot

first_slot_before : (nodes : List ℕ) (k first : ℕ) → k < length nodes → first
    ≡ first_query nodes (get_or nodes (k - 1) 0) → get_or nodes first 0 ≡ get_or nodes (k - 1) 0
first_slot_before nodes k first l e = ap (λ i. get_or nodes i 0) e
    ∙ first_there nodes (get_or nodes (k - 1) 0) (listed_at nodes (k - 1) 0 (omega arith))

pub first_slot_kept : (nodes : List ℕ) (k first : ℕ) → k < length nodes → first
    ≡ first_query nodes (get_or nodes (k - 1) 0) → get_or nodes k 0 ≡ get_or nodes first 0 →
    first ≡ first_query nodes (get_or nodes k 0)
first_slot_kept nodes k first l e same =
    e ∙ ap (first_query nodes) (sym (first_slot_before nodes k first l e) ∙ sym same)

pub first_slot_new : (nodes : List ℕ) (k first : ℕ) → IsAscending nodes → k < length nodes → first
    ≡ first_query nodes (get_or nodes (k - 1) 0) → get_or nodes k 0 ≢ get_or nodes first 0 → k
    ≡ first_query nodes (get_or nodes k 0)
first_slot_new nodes k first up l e differ =
    first_unique nodes (get_or nodes k 0) k l refl (λ j h same.
    let low = up j (k - 1) (omega arith) (omega arith) in
    let high = up (k - 1) k (omega arith) l in
    let top : get_or nodes k 0 ≡ get_or nodes (k - 1) 0 = omega arith in
    differ (top ∙ sym (first_slot_before nodes k first l e)))

-- ---- the matrices of a layer

-- one turn over the matrices: those so far, and the rest's
pub record IsMatrixTurn (hs : List ℕ) (x n m : ℕ) (so_far total : List ℕ) : Type 0 where
  pub skipped : exponent (get_or hs m 0) ≢ x →
      so_far ++ filter (λ m. eqb (exponent (get_or hs m 0)) x) (range_with_len (m + 1) (n - (m + 1))) ≡ total
  pub taken : exponent (get_or hs m 0) ≡ x →
      so_far ++ (m ∷ []) ++ filter (λ m. eqb (exponent (get_or hs m 0)) x) (range_with_len (m + 1) (n - (m + 1)))
      ≡ total

pub matrix_turn : (hs : List ℕ) (x n m : ℕ) (so_far total : List ℕ) → m < n →
    so_far ++ filter (λ m. eqb (exponent (get_or hs m 0)) x) (range_with_len m (n - m)) ≡ total →
    IsMatrixTurn hs x n m so_far total
matrix_turn hs x n m so_far total h is =
    let cut : n - m ≡ suc (n - (m + 1)) = omega arith in
    let here = rw cut at is in
    let rest = filter (λ m. eqb (exponent (get_or hs m 0)) x) (range_with_len (m + 1) (n - (m + 1))) in
    record {
      skipped = λ e. rw (ne_eqb (exponent (get_or hs m 0)) x e) at here;
      taken = λ e. append_assoc so_far (m ∷ []) rest ∙ (rw (eq-eqb (exponent (get_or hs m 0)) x e) at here);
    }

-- a list of matrices has only places of matrices
pub matrices_inside : (hs : List ℕ) (x n : ℕ) → length hs ≡ n → All (λ m. m < n) (matrices_with hs x)
matrices_inside hs x n e k d h =
    let p = λ (m : ℕ). eqb (exponent (get_or hs m 0)) x in
    let ms = matrices_with hs x in
    let inside = listed_in p 0 (length hs) (get_or ms k 0) (listed_at ms k 0 h) in
    omega (arith, inside.0, get_or_default ms k d 0 h)

-- ---- the slots of a layer

-- one turn over the slots
pub slots_next : (g : ℕ → Option MerkleTreeError) (n k : ℕ) (total : Option MerkleTreeError) → k < n →
    first_of g (range_with_len k (n - k)) ≡ total →
    option_or (g k) (first_of g (range_with_len (k + 1) (n - (k + 1)))) ≡ total
slots_next g n k total h so_far =
    let cut : n - k ≡ suc (n - (k + 1)) = omega arith in
    rw cut at so_far

-- one turn over the levels
pub levels_next : (h : ℕ → Option MerkleTreeError) (t l : ℕ) (total : Option MerkleTreeError) → l < t →
    first_of h (range_with_len (l + 1) (t - l)) ≡ total →
    option_or (h (l + 1)) (first_of h (range_with_len (l + 1 + 1) (t - (l + 1)))) ≡ total
levels_next h t l total below so_far =
    let cut : t - l ≡ suc (t - (l + 1)) = omega arith in
    rw cut at so_far

-- ---- what the code reads

pub firsts_next : (h : ℕ → Option MerkleTreeError) (xs : List ℕ) (n : ℕ) (total : Option MerkleTreeError) →
    n < length xs → first_of h (drop n xs) ≡ total → option_or (h (get_or xs n 0)) (first_of h (drop (n + 1) xs))
    ≡ total
firsts_next h xs n total l so_far = rw add-one (rw (drop-cons xs n 0 l) at so_far)

-- none is left to refuse, so none is refused
pub all_fit : (read firsts : List ℕ) (h : ℕ → Option MerkleTreeError) (n : ℕ) → length read ≤ n → read ≡ firsts →
    first_of h (drop n read) ≡ first_of h read → first_of h firsts ≡ None
all_fit read firsts h n all is so_far =
    ap (first_of h) (sym is) ∙ sym so_far ∙ ap (first_of h) (drop_all n read all)

height_is : (dimensions : List Dimensions) (m e : ℕ) → m < length dimensions → e
    ≡ exponent (get_or dimensions m (record { width = 0; height = 0 })).height → e
    ≡ exponent (get_or (heights_of dimensions) m 0)
height_is dimensions m e h is = is
    ∙ ap exponent (sym (get_or-map (λ d. d.height) dimensions m (record { width = 0; height = 0 }) 0 h))

pub height_read : (dimensions : List Dimensions) (m e x : ℕ) → m < length dimensions → e
    ≡ exponent (get_or dimensions m (record { width = 0; height = 0 })).height → e ≡ x →
    exponent (get_or (heights_of dimensions) m 0) ≡ x
height_read dimensions m e x h is same = sym (height_is dimensions m e h is) ∙ same

pub height_missed : (dimensions : List Dimensions) (m e x : ℕ) → m < length dimensions → e
    ≡ exponent (get_or dimensions m (record { width = 0; height = 0 })).height → e ≢ x →
    exponent (get_or (heights_of dimensions) m 0) ≢ x
height_missed dimensions m e x h is other = λ same. other (height_is dimensions m e h is ∙ same)

-- the refusal of slot k
abbrev pub slot_fault : {T : Type 0} → (T → T → Bool) → List ℕ → List ℕ → List ℕ → List (List (List T)) → ℕ →
    Option MerkleTreeError
slot_fault row_eq matrices nodes firsts sets k =
    rows_refusal row_eq matrices k (slot_rows firsts sets k)
    (slot_rows firsts sets (first_query nodes (get_or nodes k 0)))

none_of : (g : ℕ → Option MerkleTreeError) (xs : List ℕ) → ((k : ℕ) → g k ≡ None) → first_of g xs ≡ None
none_of g [] none = refl
none_of g (x ∷ xs) none = rw (none x) (none_of g xs none)

-- nothing is compared where no matrix has the exponent
pub no_matrix : {T : Type 0} (row_eq : T → T → Bool) (hs : List ℕ) (x : ℕ) (nodes firsts : List ℕ)
    (sets : List (List (List T))) → list_any (λ h. eqb (exponent h) x) hs ≡ false →
    nodes_refusal row_eq (matrices_with hs x) nodes firsts sets ≡ None
no_matrix row_eq hs x nodes firsts sets none =
    grind (arith, common_steps, false_from_ne_true, true≢false, list_any_at, none_kept, none_of)

pub slot_read : {T : Type 0} (row_eq : T → T → Bool) (matrices nodes firsts : List ℕ)
    (sets : List (List (List T))) (k first : ℕ) (mine theirs : List (List T)) (o : Option MerkleTreeError) →
    mine ≡ slot_rows firsts sets k → theirs ≡ slot_rows firsts sets first → first
    ≡ first_query nodes (get_or nodes k 0) → rows_refusal row_eq matrices k mine theirs ≡ o →
    slot_fault row_eq matrices nodes firsts sets k ≡ o
slot_read row_eq matrices nodes firsts sets k first mine theirs o is_mine is_theirs is_first e =
    grind (arith, common_steps)

-- rows are those of their own slot
own_rows : {T : Type 0} (row_eq : T → T → Bool) → IsEquivalence row_eq → (matrices : List ℕ) (k : ℕ)
    (rows : List (List T)) → rows_refusal row_eq matrices k rows rows ≡ None
own_rows row_eq laws matrices k rows = grind (arith, common_steps, lists_equiv, none_of)

-- a first slot is not refused
pub first_slot_agrees : {T : Type 0} (row_eq : T → T → Bool) → IsEquivalence row_eq → (matrices nodes firsts : List ℕ)
    (sets : List (List (List T))) (k : ℕ) → k ≡ first_query nodes (get_or nodes k 0) →
    slot_fault row_eq matrices nodes firsts sets k ≡ None
first_slot_agrees row_eq laws matrices nodes firsts sets k is = grind (arith, common_steps, slot_read, own_rows)

-- no slot is before the first
pub first_start : (nodes : List ℕ) → 0 ≡ first_query nodes (get_or nodes 0 0)
first_start [] = refl
first_start (x ∷ xs) = rw (eq-eqb x x refl) refl

-- so the slots after it decide
pub slots_start : {T : Type 0} (row_eq : T → T → Bool) → IsEquivalence row_eq → (matrices nodes firsts : List ℕ)
    (sets : List (List (List T))) →
    first_of (slot_fault row_eq matrices nodes firsts sets) (range_with_len 1 (length nodes - 1))
    ≡ nodes_refusal row_eq matrices nodes firsts sets
slots_start row_eq laws matrices [] firsts sets = refl
slots_start row_eq laws matrices (x ∷ xs) firsts sets =
    let nodes = x ∷ xs in
    let fault = slot_fault row_eq matrices nodes firsts sets in
    let total = nodes_refusal row_eq matrices nodes firsts sets in
    let whole : length nodes - 0 ≡ length nodes = omega arith in
    kept_or (fault 0) (first_of fault (range_with_len 1 (length nodes - 1))) total
    (slots_next fault (length nodes) 0 total (omega arith) (rw whole refl))
    (first_slot_agrees row_eq laws matrices nodes firsts sets 0 (first_start nodes))

-- the row set of a slot, as the code reads it
pub rows_read : {T : Type 0} (sets : List (List (List T))) (firsts : List ℕ) (k query : ℕ) → k < length firsts →
    query ≡ get_or firsts k query → slot_rows firsts sets k ≡ get_or sets query []
rows_read sets firsts k query inside is =
    ap (λ q. get_or sets q []) (get_or_default firsts k 0 query inside ∙ sym is)

none_within : (g : ℕ → Option MerkleTreeError) (a n : ℕ) → ((k : ℕ) → k < a + n → g k ≡ None) →
    first_of g (range_with_len a n) ≡ None
none_within g a zero none = refl
none_within g a (suc n) none =
    rw (none a (omega arith)) (none_within g (a + 1) n (λ k h. none k (omega arith)))

pub first_slot_place : (nodes : List ℕ) (k first : ℕ) → k < length nodes → first
    ≡ first_query nodes (get_or nodes k 0) → first < length nodes
first_slot_place nodes k first l e = omega (arith, first_place nodes (get_or nodes k 0) (listed_at nodes k 0 l))

-- ---- from layer to layer

-- the refusal of layer l
abbrev pub layer_fault : {T : Type 0} → (T → T → Bool) → Shape → List ℕ → List ℕ → List (List (List T)) → ℕ →
    Option MerkleTreeError
layer_fault row_eq s leaves firsts sets l =
    nodes_refusal row_eq (matrices_with (heights s) (layer_exponent s l)) (map (ancestor s l) leaves) firsts sets

pub nodes_start : (s : Shape) (leaves : List ℕ) → leaves ≡ map (ancestor s 0) leaves
nodes_start s [] = refl
nodes_start s (i ∷ leaves) = rw (anc_start s i) (ap (λ xs. i ∷ xs) (nodes_start s leaves))

-- the nodes of a layer: the leaves without the bits by which its exponent is below theirs
pub nodes_by_bits : (s : Shape) → IsArity s.arity → (l bits : ℕ) →
    bits ≡ exponent (greatest (heights s)) - layer_exponent s l → (leaves : List ℕ) →
    All (λ i. i < greatest (heights s)) leaves → map (λ i. i / 2 ^ bits) leaves ≡ map (ancestor s l) leaves
nodes_by_bits s w l bits is [] below = refl
nodes_by_bits s w l bits is (i ∷ leaves) below =
    let here : i / 2 ^ bits ≡ ancestor s l i =
    rw is (shifted_is_anc s w l i (below 0 0 (omega arith)) (exponent_low s l)) in
    rw (here, nodes_by_bits s w l bits is leaves (λ k d h. below (suc k) d (omega arith))) refl

-- rows of all matrices
pub matrices_full : {T : Type 0} (dimensions : List Dimensions) (firsts read matrices : List ℕ)
    (sets : List (List (List T))) (x : ℕ) →
    ((k : ℕ) → k < length firsts → length (slot_rows firsts sets k) ≡ length dimensions) → matrices
    ≡ matrices_with (heights_of dimensions) x → read ≡ firsts →
    (k : ℕ) → k < length read → All (λ m. m < length (slot_rows read sets k)) matrices
matrices_full dimensions firsts read matrices sets x full is is_read k h =
    grind (arith, common_steps, length-map, matrices_inside)

-- distinct leaves are first slots
pub leaves_agree : {T : Type 0} (row_eq : T → T → Bool) → IsEquivalence row_eq → (s : Shape) (leaves firsts : List ℕ)
    (sets : List (List (List T))) → IsStrictlyIncreasing leaves → layer_fault row_eq s leaves firsts sets 0 ≡ None
leaves_agree row_eq laws s leaves firsts sets up =
    let matrices = matrices_with (heights s) (layer_exponent s 0) in
    let alone : nodes_refusal row_eq matrices leaves firsts sets ≡ None =
    none_within (slot_fault row_eq matrices leaves firsts sets) 0 (length leaves)
    (λ k h. first_slot_agrees row_eq laws matrices leaves firsts sets k
    (first_unique leaves (get_or leaves k 0) k (omega arith) refl (λ j low same.
    let less = rising_order 0 leaves (rising_from leaves up) j k low (omega arith) in omega arith))) in
    ap (λ nodes. nodes_refusal row_eq matrices nodes firsts sets) (sym (nodes_start s leaves)) ∙ alone

pub layer_read : {T : Type 0} (row_eq : T → T → Bool) (s : Shape) (leaves firsts read matrices nodes : List ℕ)
    (sets : List (List (List T))) (l x : ℕ) (o : Option MerkleTreeError) →
    x ≡ layer_exponent s l → matrices ≡ matrices_with (heights s) x → nodes ≡ map (ancestor s l) leaves → read
    ≡ firsts → nodes_refusal row_eq matrices nodes read sets ≡ o → layer_fault row_eq s leaves firsts sets l ≡ o
layer_read row_eq s leaves firsts read matrices nodes sets l x o is_x is_matrices is_nodes is_read e =
    ap (λ y. nodes_refusal row_eq (matrices_with (heights s) y) (map (ancestor s l) leaves) firsts sets) (sym is_x)
    ∙ ap (λ ms. nodes_refusal row_eq ms (map (ancestor s l) leaves) firsts sets) (sym is_matrices)
    ∙ ap (λ ys. nodes_refusal row_eq matrices ys firsts sets) (sym is_nodes)
    ∙ ap (λ ys. nodes_refusal row_eq matrices nodes ys sets) (sym is_read)
    ∙ e
