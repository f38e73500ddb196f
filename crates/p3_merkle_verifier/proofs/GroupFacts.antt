-- One more digest: of a group, of a pair, of a query's rows.
use Rattle.std.proofs.Common.{◌≡◌, ◌∙◌, ℕ, suc, ◌-◌, ◌*◌, ◌/◌, ◌≤◌, List, [], ◌∷◌, ◌++◌, map, ap, sym, arith, length}
use Rattle.std.proofs.Common.{length-drop, get_or, drop, replicate, take, zip}
use Rattle.std.proofs.Math.Nat.{div-mul-le_self, mul-le-mul_left, mul-suc, mul_comm}
use Rattle.std.proofs.lemmas.List.{get_or-map, length-map, length-take-le}
use Rattle.std.proofs.lemmas.List.FromFn.{fill_by_all}
use Rattle.std.proofs.lemmas.Slice.Zip.{get_or-zip, length-zip}
use Rattle.std.specs.List.{range_with_len}
use Rattle.p3_merkle_hashing.specs.Inner.Slots.{IsFilled}
use Rattle.p3_merkle_verifier.specs.Inner.NodeDigests.{group_digest, pair_digest}

-- compressions of children with default digests are the digests of groups
pub groups_compressed : {W : Type 0} (compression : List (List W) → List W) (d : List W) (n step : ℕ)
    (children slots : List (List W)) →
    IsFilled (λ j. compression (take step (drop (step * j) children) ++ replicate (n - step) d))
    (length children / step) (length children / step) slots →
    slots ≡ map (group_digest compression n d step children) (range_with_len 0 (length children / step))
groups_compressed compression d n step children slots filled =
    let k = length children / step in
    fill_by_all (group_digest compression n d step children) slots k [] filled.long
    (λ j h.
    let more : step * suc j ≤ step * k = mul-le-mul_left step h in
    let all : step * k ≤ length children = rw (mul_comm step k) (div-mul-le_self (length children) step) in
    let group = take step (drop (step * j) children) in
    let whole : length group ≡ step = length-take-le step (drop (step * j) children)
    (omega (arith, length-drop (step * j) children, more, all, mul-suc step j)) in
    filled.filled j h ∙ ap (λ l. compression (group ++ replicate (n - l) d)) (sym whole))

-- each node's digest compressed with that of its rows
pub pairs_injected : {W : Type 0} (compression : List (List W) → List W) (n : ℕ) (d : List W)
    (nodes rows slots : List (List W)) → length rows ≡ length nodes →
    IsFilled (λ j. compression (get_or nodes j [] ∷ get_or rows j [] ∷ replicate (n - 2) d)) (length rows)
    (length nodes) slots → slots ≡ map (pair_digest compression n d) (zip nodes rows)
pairs_injected compression n d nodes rows slots same filled =
    let pair = pair_digest compression n d in
    let joined = λ (j : ℕ). compression (get_or nodes j [] ∷ get_or rows j [] ∷ replicate (n - 2) d) in
    let long : length (zip nodes rows) ≡ length nodes = omega (arith, length-zip nodes rows) in
    fill_by_all joined slots (length nodes) [] filled.long (λ j h. filled.filled j (omega arith))
    ∙ sym (fill_by_all joined (map pair (zip nodes rows)) (length nodes) [] (length-map (zip nodes rows) pair ∙ long)
    (λ j h. get_or-map pair (zip nodes rows) j ([], []) [] (omega arith)
    ∙ ap pair (get_or-zip nodes rows j ([], []) h (omega arith))))
