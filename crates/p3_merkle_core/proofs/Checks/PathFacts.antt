-- Paths made of values of nodes: their length, and the groups that they complete.
use Rattle.std.proofs.Common.{◌≡◌, ℕ, zero, suc, ◌+◌, ◌-◌, ◌*◌, ◌/◌, ◌<◌, ◌≤◌, List, map, refl, ap, ◌∙◌, arith, length}
use Rattle.std.proofs.Common.{get_or, remove, length-append, sym}
use Rattle.std.proofs.lemmas.Grind.{common_steps}
use Rattle.std.proofs.lemmas.List.FromFn.{length-map-range_with_len, get_or-map-range_with_len}
use Rattle.std.specs.List.{range_with_len}
use Rattle.p3_merkle_core.specs.Geometry.{Shape, step, ancestor, position_in_group, IsArity}
use Rattle.p3_merkle_core.specs.Nodes.{Functions}
use Rattle.p3_merkle_core.specs.Openings.{Opening}
use Rattle.p3_merkle_core.specs.Checks.{siblings_below, siblings_at, group_at}
use Rattle.p3_merkle_core.proofs.Shapes.StepFacts.{anc_next, step_above_1}
use Rattle.p3_merkle_core.proofs.Lists.ListFacts.{joined_piece, insert-remove, length-remove, joined, joined_more}

pub joined_same : {A : Type 0} (g h : ℕ → List A) (t : ℕ) → ((l : ℕ) → l < t → g l ≡ h l) → joined g t ≡ joined h t
joined_same g h zero e = refl
joined_same g h (suc t) e = joined_more g t ∙ rw (joined_same g h t (λ l k. e l (omega arith)), e t (omega arith))
    (sym (joined_more h t))

pub map_same : {X : Type 0} (g h : ℕ → X) (a n : ℕ) → ((k : ℕ) → a ≤ k → k < a + n → g k ≡ h k) →
    map g (range_with_len a n) ≡ map h (range_with_len a n)
map_same g h a zero e = refl
map_same g h a (suc n) e =
    rw (e a (omega arith) (omega arith), map_same g h (a + 1) n (λ k p q. e k (omega arith) (omega arith))) refl

-- the values of the children of node j of layer l + 1
abbrev pub group_values : {X : Type 0} → Shape → (ℕ → ℕ → X) → ℕ → ℕ → List X
group_values s v l j = map (λ k. v l (step s l * j + k)) (range_with_len 0 (step s l))

-- the siblings of leaf i in layer l
abbrev pub piece : {X : Type 0} → Shape → (ℕ → ℕ → X) → ℕ → ℕ → List X
piece s v i l = remove (group_values s v l (ancestor s (suc l) i)) (position_in_group s l i)

pub piece_length : {X : Type 0} (s : Shape) → IsArity s.arity → (v : ℕ → ℕ → X) (i l : ℕ) → length (piece s v i l)
    ≡ step s l - 1
piece_length s w v i l = grind (arith, common_steps, length-map-range_with_len, step_above_1, length-remove)

pub path_length : {X : Type 0} (s : Shape) → IsArity s.arity → (v : ℕ → ℕ → X) (i l : ℕ) →
    length (joined (piece s v i) l) ≡ siblings_below s l
unfolding siblings_below
path_length s w v i zero = refl
path_length s w v i (suc l) =
    ap length (joined_more (piece s v i) l)
    ∙ length-append (joined (piece s v i) l) (piece s v i l)
    ∙ (let p = path_length s w v i l in let q = piece_length s w v i l in omega arith)

-- the path's siblings of a level complete the group of the node on it
pub path_group : {T W : Type 0} (f : Functions T W) (s : Shape) → IsArity s.arity →
    (v : ℕ → ℕ → List W) (t : ℕ) (o : Opening T W) → o.siblings ≡ joined (piece s v o.index) t →
    (l : ℕ) → l < t → group_at f s o l (v l (ancestor s l o.index)) ≡ group_values s v l (ancestor s (suc l) o.index)
path_group f s w v t o is l h =
    let i = o.index in
    let a = step_above_1 s l w.above_1 in
    let j = ancestor s (suc l) i in
    let p = position_in_group s l i in
    let n : length (group_values s v l j)
    ≡ step s l = length-map-range_with_len (λ k. v l (step s l * j + k)) 0 (step s l) in
    let up : j ≡ ancestor s l i / step s l = anc_next s l i in
    let place : step s l * j + p ≡ ancestor s l i = rw up (omega arith) in
    let own : get_or (group_values s v l j) p f.default_digest ≡ v l (ancestor s l i) =
    get_or-map-range_with_len (λ k. v l (step s l * j + k)) 0 (step s l) p p f.default_digest (omega arith)
    (omega arith) ∙ ap (λ k. v l k) place in
    let here : siblings_at s o l
    ≡ piece s v i l = rw (is, ← piece_length s w v i l, ← path_length s w v i l)
    (joined_piece (piece s v i) l t h) in
    rw (here, ← own) (insert-remove (group_values s v l j) p f.default_digest (omega arith))
