-- Matrices as the definitions read them, and tests of equality of rows and of row sets, which the code has as lists of
-- lists.
use Rattle.std.proofs.Common.{arith, ◌≡◌, ℕ, List, [], ◌∷◌, map, refl, rules, ◌↔◌, IsTrue, Bool, ◌&&◌}
use Rattle.std.proofs.lemmas.Grind.{common_steps}
use Rattle.p3_support.specs.Batches.{dimensions_in}
use Rattle.p3_support.specs.Shown.{row_lists, row_sets}
use Rattle.p3_merkle_core.specs.Nodes.{dimensions_of}
use Rattle.p3_merkle_core.specs.Views.{matrix_of}
use Rattle.p3_merkle_core.specs.Refusals.{IsEquality}
use Rattle.std.specs.declared.vec.Vec.{Vec}
use Rattle.std.specs.Cmp.Lexicographic.{pointwise, pointwise_decides}

-- they have the dimensions that their types say
pub dimensions_are : {T M : Type 0} (height width : M → ℕ) (row : M → ℕ → List T) (ms : List M) →
    dimensions_of (map (matrix_of height width row) ms) ≡ dimensions_in height width ms
dimensions_are height width row [] = refl
dimensions_are height width row (m ∷ ms) = grind (arith, common_steps, dimensions_are height width row ms)

-- a test of the two parts of a pair
pub both_parts : {A B : Type 0} (a b : Bool) (p q : A × B) → IsTrue a ↔ (p.0 ≡ q.0) → IsTrue b ↔ (p.1 ≡ q.1) →
    IsTrue (a && b) ↔ (p ≡ q)
both_parts a b p q first second = grind (arith, common_steps)

-- a test of what two values show, pair by pair of two lists
same_shown : {X Y : Type 0} (h : X → Y) {test : X → X → Bool} → ((x y : X) → IsTrue (test x y) ↔ (h x ≡ h y)) →
    (xs ys : List X) → IsTrue (pointwise test xs ys) ↔ (map h xs ≡ map h ys)
same_shown h is [] [] = (λ t. refl, λ e. cc)
same_shown h is [] (y ∷ ys) = search rules
same_shown h is (x ∷ xs) [] = search rules
same_shown h is (x ∷ xs) (y ∷ ys) = grind (arith, common_steps, same_shown h is xs ys)

-- rows are the same lists
pub same_rows : {T A : Type 0} {eq : T → T → Bool} → IsEquality eq → (xs ys : List (Vec T A)) →
    IsTrue (pointwise (λ x y. pointwise eq x.items y.items) xs ys) ↔ (row_lists xs ≡ row_lists ys)
same_rows is = same_shown (λ row. row.items) (λ x y. pointwise_decides is x.items y.items)

-- row sets are the same lists of rows
pub same_sets : {T A B : Type 0} {eq : T → T → Bool} → IsEquality eq → (xs ys : List (Vec (Vec T A) B)) →
    IsTrue (pointwise (λ x y. pointwise (λ z w. pointwise eq z.items w.items) x.items y.items) xs ys) ↔
    (row_sets xs ≡ row_sets ys)
same_sets is = same_shown (λ rows. row_lists rows.items) (λ x y. same_rows is x.items y.items)
