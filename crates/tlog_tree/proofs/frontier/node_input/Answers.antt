-- A byte 1 and both children, put into their places, are the input of the definition.
use Rattle.std.proofs.Common.{◌≡◌, ℕ, List, [], ◌∷◌, ◌++◌, take, drop, length, length-append, ap, ◌∙◌, arith, refl}
use Rattle.std.proofs.lemmas.List.{append-nil, length-drop, nil_from_length, take_at}
use Rattle.tlog_tree.proofs.frontier.node_input.Goals as goal

-- both children are written over the bytes that were there
written : (left right was : List ℕ) → length left ≡ 32 → length was ≡ 32 →
    take 32 (left ++ was) ++ (right ++ drop 32 (drop 32 (left ++ was))) ≡ left ++ right
written left right was l w =
    let rest = drop 32 (drop 32 (left ++ was)) in
    let none : rest ≡ [] = nil_from_length rest
    (omega (arith, length-drop 32 (drop 32 (left ++ was)), length-drop 32 (left ++ was), length-append left was)) in
    ap (λ (xs : List ℕ). xs ++ (right ++ rest)) (take_at left was 32 l)
    ∙ ap (λ (xs : List ℕ). left ++ (right ++ xs)) none ∙ ap (λ (xs : List ℕ). left ++ xs) (append-nil right)

pub returns : goal.returns
returns c = rw (c.copy_from_slice.ensures.after, c.copy_from_slice-2.ensures.after)
    (ap (λ (xs : List ℕ). 1 ∷ xs) (written c.args.left.now c.args.right.now _ c.told-left refl))
