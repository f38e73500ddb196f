-- The groups that are compressed are the children with default digests.
use Rattle.std.proofs.Common.{rules, ◌≡◌, ◌∙◌, ◌*◌, ◌/◌, ◌≤◌, ap, arith, drop, length, replicate}
use Rattle.std.proofs.Math.Nat.{div-mul-le_self, mul_comm}
use Rattle.std.proofs.lemmas.List.{take_at}
use Rattle.std.proofs.lemmas.List.FromFn.{length-map-range_with_len}
use Rattle.p3_merkle_verifier.specs.Inner.NodeDigests.{group_digest}
use Rattle.p3_merkle_verifier.proofs.GroupFacts.{groups_compressed}
use Rattle.p3_merkle_verifier.proofs.pruned_check.Checker+P+PW+H+C+array+N+array+D+PW+Value+N+D.group_digests.Goals as goal

pub compress_children-requires : goal.compress_children-requires
compress_children-requires g c =
    let step = c.args.step in
    let n = length c.args.children.now in
    let long : length c.deref_mut.result.now ≡ n / step =
    omega (arith, c.deref_mut.ensures.len, c.in_ok-digests.ensures.len) in
    let most : step * (n / step) ≤ n = rw (mul_comm step (n / step)) (div-mul-le_self n step) in
    let inside : step * length c.deref_mut.result.now ≤ n = rw long most in
    search (rules, inside)

pub returns : goal.returns
returns g c =
    let children = c.args.children.now in
    let n = length children / c.args.step in
    let compression = g.C.PseudoCompressionFunction.compression c.args.self.now.compress.now in
    let default = replicate g.row.D g.PW.PackedValue.default_value in
    let made = c.in_ok-digests in
    let out = c.compress_children.new.slots in
    let filled = c.in_ok-compress_children.ensures in
    let long : length c.deref_mut.result.now ≡ n = omega (arith, c.deref_mut.ensures.len, made.ensures.len) in
    let size : length out ≡ made.digests.len = filled.long ∙ c.deref_mut.ensures.len in
    let are = take_at out (drop (length out) made.digests.items) made.digests.len size
    ∙ groups_compressed compression default g.row.N c.args.step children out (rw long at filled) in
    record {
      count = ap length are
          ∙ length-map-range_with_len (group_digest compression g.row.N default c.args.step children) 0 n;
      digests = are;
    }
