-- Each place has the exclusive or of what stands there in both digests.
use Rattle.std.proofs.Common.{rules, ◌≡◌, ◌<◌, ◌∙◌, sym, length, bit_xor}
use Rattle.std.specs.Simd.Lanes.{zip2}
use Rattle.std.proofs.lemmas.List.{ext_get_or}
use Rattle.std.proofs.lemmas.Simd.{get_or-zip2, length-zip2}
use Rattle.test_library.proofs.exclusive_or.exclusive_or.Goals as goal

pub returns : goal.returns
returns c =
    let left = c.args.left.now in
    let right = c.args.right.now in
    let left_long : length left ≡ 32 = search rules in
    let right_long : length right ≡ 32 = search rules in
    let long : length (zip2 bit_xor left right) ≡ 32 = length-zip2 bit_xor left right (left_long ∙ sym right_long)
    ∙ left_long in
    ext_get_or 0 c.loop-e.digest (zip2 bit_xor left right) (c.loop-e.invariant.0 ∙ sym long) (λ k h.
    let below : k < 32 = rw (← c.loop-e.invariant.0) h in
    c.loop-e.invariant.1 k (search rules)
    ∙ sym (get_or-zip2 bit_xor left right k 0 0 0 (rw left_long below) (rw right_long below)))
