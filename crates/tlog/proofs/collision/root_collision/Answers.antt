-- Each turn goes down to halves that differ, and that have one root.
use Rattle.std.proofs.Common.{sym, ap, ◌∙◌, arith}
use Rattle.std.specs.Cmp.Lexicographic.{bytes_decides}
use Rattle.tlog.specs.Collisions.{entries_of}
use Rattle.tlog.proofs.Accepted.{different, equal}
use Rattle.tlog.proofs.Entries.{left_entries, length-entries, right_entries, root_is_hashed, same_halves, same_list}
use Rattle.tlog.proofs.collision.root_collision.Goals.{then-are_equal-2, else-are_equal-2}
use Rattle.tlog.proofs.collision.root_collision.Goals as goal

pub returns-then-ne-2-clause-collision : goal.returns-then-ne-2-clause-collision
returns-then-ne-2-clause-collision g c =
    let other = different _ c.if-ne-2.ensures in
    record {
      differ = λ same. let yes = (bytes_decides c.in_ok-first.first.items c.in_ok-second.second.items).1 same in absurd
          cc;
      same_hash =
          ap g.H.LogHash.hash c.in_ok-first.ensures
          ∙ root_is_hashed g.H.LogHash.hash (entries_of c.loop-first.part.now)
          ∙ c.loop-first.invariant.roots
          ∙ sym (root_is_hashed g.H.LogHash.hash (entries_of c.loop-first.other_part.now))
          ∙ sym (ap g.H.LogHash.hash c.in_ok-second.ensures);
    }

pub split-requires : goal.split-requires
split-requires g c =
    let same = (bytes_decides c.in_ok-first.first.items c.in_ok-second.second.items).0 (equal _ c.if-ne-2.ensures) in
    let h = same_halves g.H.LogHash.hash g.row.D g.met.H.LogHash.length_hash (entries_of c.loop-first.part.now)
    (entries_of c.loop-first.other_part.now) (sym c.in_ok-first.ensures ∙ same ∙ c.in_ok-second.ensures)
    c.loop-first.invariant.differ in
    let len = length-entries c.loop-first.part.now in
    omega (arith, h.more)

pub split-requires-in-loop-first : goal.split-requires-in-loop-first
split-requires-in-loop-first g c =
    let same = (bytes_decides c.in_ok-first.first.items c.in_ok-second.second.items).0 (equal _ c.if-ne-2.ensures) in
    let h = same_halves g.H.LogHash.hash g.row.D g.met.H.LogHash.length_hash (entries_of c.loop-first.part.now)
    (entries_of c.loop-first.other_part.now) (sym c.in_ok-first.ensures ∙ same ∙ c.in_ok-second.ensures)
    c.loop-first.invariant.differ in
    let len = length-entries c.loop-first.other_part.now in
    omega (arith, h.other_more)

pub loop-first-preserved : goal.loop-first-preserved
loop-first-preserved g c =
    let same = (bytes_decides c.in_ok-first.first.items c.in_ok-second.second.items).0 (equal _ c.if-ne-2.ensures) in
    let h = same_halves g.H.LogHash.hash g.row.D g.met.H.LogHash.length_hash (entries_of c.loop-first.part.now)
    (entries_of c.loop-first.other_part.now) (sym c.in_ok-first.ensures ∙ same ∙ c.in_ok-second.ensures)
    c.loop-first.invariant.differ in
    let k = c.split.ensures.value in
    let i = c.split-in-loop-first.ensures.value in
    let left = left_entries c.loop-first.part.now c.split_at.result.0.now c.split.result k c.split_at.ensures.front in
    let right = right_entries c.loop-first.part.now c.split_at.result.1.now c.split.result k c.split_at.ensures.back in
    let other_left = left_entries c.loop-first.other_part.now c.split_at-in-loop-first.result.0.now
    c.split-in-loop-first.result
    i
    c.split_at-in-loop-first.ensures.front in
    let other_right = right_entries c.loop-first.other_part.now c.split_at-in-loop-first.result.1.now
    c.split-in-loop-first.result
    i c.split_at-in-loop-first.ensures.back in
    elim c.if-are_equal-2.branch [
      | then-are_equal-2 w ↦ record {
        roots = rw (w.part-is, w.other_part-is, ← right, ← other_right) h.right;
        differ = λ s. let rest = rw (w.part-is, w.other_part-is) at s in
            let lefts = c.are_equal-in-loop-first.ensures.0 w.if-are_equal-2.true in
            c.loop-first.invariant.differ (same_list (entries_of c.loop-first.part.now)
            (entries_of c.loop-first.other_part.now)
            (left ∙ lefts ∙ sym other_left) (right ∙ rest ∙ sym other_right));
      }
      | else-are_equal-2 w ↦ record {
        roots = rw (w.part-is, w.other_part-is, ← left, ← other_left) h.left;
        differ = λ s. let lefts = rw (w.part-is, w.other_part-is) at s in
            let yes = c.are_equal-in-loop-first.ensures.1 lefts in
            let no = w.if-are_equal-2.false in absurd cc;
      }
    ]
