-- Nodes of a log's tree as slots of the tree of arity 2, and back.
use Rattle.std.proofs.Common.{◌≡◌, ℕ, suc, ◌<◌, Bool, List, [], ◌∷◌, ◌++◌, map, filter, length, get_or, refl, ap}
use Rattle.std.proofs.Common.{◌∙◌, All, arith, inl, inr, subst}
use Rattle.std.proofs.lemmas.Bool.{cases_Bool}
use Rattle.std.proofs.lemmas.List.{get_or-map, length-map, map-append}
use Rattle.tlog_tree.specs.Trees.{id_of}
use Rattle.tlog_tree.specs.declared.node_id.NodeId.{NodeId}
use Rattle.tlog_multiproof.specs.Instance.{nodes_at, slot_of, slots_of}

-- there and back
pub slots_back : (slots : List (ℕ × ℕ)) → slots_of (nodes_at slots) ≡ slots
slots_back [] = refl
slots_back ((l, j) ∷ slots) = ap (λ (xs : List (ℕ × ℕ)). (l, j) ∷ xs) (slots_back slots)

pub as_many : (slots : List (ℕ × ℕ)) → length (nodes_at slots) ≡ length slots
as_many [] = refl
as_many (slot ∷ slots) = ap suc (as_many slots)

-- nodes that pass by their slots
pub kept_nodes : (p : ℕ × ℕ → Bool) (nodes : List NodeId) →
    filter (λ (node : NodeId). p (slot_of node)) nodes ≡ nodes_at (filter p (slots_of nodes))
kept_nodes p [] = refl
kept_nodes p (node ∷ nodes) = elim (cases_Bool (p (slot_of node))) [
  | inl t ↦ rw t (ap (λ (xs : List NodeId). node ∷ xs) (kept_nodes p nodes))
  | inr f ↦ rw f (kept_nodes p nodes)
]

-- some nodes of a layer more
slots_in : (l : ℕ) (js : List ℕ) → slots_of (map (id_of l) js) ≡ map (λ j. (l, j)) js
slots_in l [] = refl
slots_in l (j ∷ js) = ap (λ (xs : List (ℕ × ℕ)). (l, j) ∷ xs) (slots_in l js)

pub slots_more : (l : ℕ) (old new : List NodeId) (js : List ℕ) → new ≡ old ++ map (id_of l) js →
    slots_of new ≡ slots_of old ++ map (λ j. (l, j)) js
slots_more l old new js is =
    ap slots_of is ∙ map-append slot_of old (map (id_of l) js)
    ∙ ap (λ (xs : List (ℕ × ℕ)). slots_of old ++ xs) (slots_in l js)

-- a node of a list, as a slot
pub slot_at : (nodes : List NodeId) (k : ℕ) → k < length nodes →
    get_or (slots_of nodes) k (0, 0) ≡ slot_of (get_or nodes k (id_of 0 0))
slot_at nodes k h = get_or-map slot_of nodes k (id_of 0 0) (0, 0) h

-- what holds of the slots holds of the nodes
pub all_slots : (P : ℕ × ℕ → Type 0) (nodes : List NodeId) → All P (slots_of nodes) →
    All (λ (node : NodeId). P (slot_of node)) nodes
all_slots P nodes all k d h =
    let inside : k < length (slots_of nodes) = omega (arith, length-map nodes slot_of) in
    subst P (get_or-map slot_of nodes k d (slot_of d) h) (all k (slot_of d) inside)
