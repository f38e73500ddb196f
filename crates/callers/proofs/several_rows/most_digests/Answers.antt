-- An accepted proof has a digest for each boundary node, and these are at most one on each level for each index.
use Rattle.std.proofs.Common.{◌≡◌, ◌∙◌, ◌≤◌, ◌<◌, ◌*◌, ◌-◌, ℕ, List, Option, None, Some, IfSome, SomeIff, arith, length}
use Rattle.std.proofs.Math.Nat.{mul-le-mul_left}
use Rattle.p3_merkle_tree.specs.Checks.{Params, siblings_below}
use Rattle.p3_merkle_tree.specs.Geometry.{IsArity, levels}
use Rattle.p3_merkle_tree.specs.Laws.{BoundaryIsFew}
use Rattle.p3_merkle_tree.specs.Pruning.{IsPrunedAccepted, PrunedOpening}
use Rattle.callers.proofs.several_rows.most_digests.Goals as goal

-- no accepted proof of so many indices has more digests
bounded : {T W : Type 0} (c : Params T W) (steps queries limit : ℕ) (most : Option ℕ) → BoundaryIsFew →
    IsArity c.shape.arity → c.layer ≤ levels c.shape → siblings_below c.shape c.layer ≤ (2 - 1) * steps →
    SomeIff most (steps * queries < limit) (steps * queries) →
    IfSome most (λ n. (cap : List (List W)) (p : PrunedOpening T W) → IsPrunedAccepted c cap p →
    length p.indices ≤ queries → length p.digests ≤ n)
bounded c steps queries limit None few arity in_tree siblings made = tt
bounded c steps queries limit (Some n) few arity in_tree siblings made = λ cap p a asked.
    let restorable = a.restorable in
    let bound = (few c.shape p.indices c.layer
    (record { well_shaped = arity; below = restorable.below; in_tree = in_tree })).all in
    let below = siblings_below c.shape c.layer in
    let fewer : below * length p.indices ≤ below * queries = mul-le-mul_left below asked in
    let lower : queries * below ≤ queries * steps = mul-le-mul_left queries (omega arith) in
    omega (arith, restorable.count, made.1)

pub returns : goal.returns
returns c =
    let scheme = c.args.scheme.now in
    bounded _ _ c.args.queries _ c.checked_mul.result c.boundary.ensures.few scheme.arity (omega arith)
    c.in_ok-steps.ensures.few_siblings (rw c.len.ensures at c.checked_mul.ensures)
