-- Different children are different inputs of the hash function, and a collision if they have one hash.
use Rattle.std.proofs.Common.{◌≡◌, length, ap, sym, ◌∙◌, arith}
use Rattle.std.specs.Cmp.Lexicographic.{bytes_decides}
use Rattle.tlog.proofs.Accepted.{equal}
use Rattle.tlog.proofs.TwoWalks.{children, unequal}
use Rattle.tlog.proofs.binding.node_collision.Goals.{else-eq-via-then-eq+else-eq-2, else-eq-via-else-eq}
use Rattle.tlog.proofs.binding.node_collision.Goals as goal

pub returns-clause-collision : goal.returns-clause-collision
returns-clause-collision g c =
    let left : length c.args.left.now ≡ g.row.D = omega (arith, c.told-left) in
    let other : length c.args.other_left.now ≡ g.row.D = omega (arith, c.told-other_left) in
    let hashes = (bytes_decides c.node_hash.result c.node_hash-2.result).0 (equal _ c.if-ne.ensures) in
    record {
      differ = λ same.
          let both = children g.row.D c.args.left.now c.args.right.now c.args.other_left.now c.args.other_right.now left
          other (sym c.in_ok-first.ensures ∙ same ∙ c.in_ok-second.ensures) in
          elim c.else-eq.branch [
            | else-eq-via-then-eq+else-eq-2 w ↦
                unequal c.args.right.now c.args.other_right.now _ w.eq-then-eq.ensures w.if-eq-2.false both.1
            | else-eq-via-else-eq w ↦ unequal c.args.left.now c.args.other_left.now _ c.eq.ensures w.if-eq.false both.0
          ];
      same_hash =
          ap g.H.LogHash.hash c.in_ok-first.ensures ∙ sym c.node_hash.ensures ∙ hashes ∙ c.node_hash-2.ensures
          ∙ sym (ap g.H.LogHash.hash c.in_ok-second.ensures);
    }
