-- The parts of the sets so far, and those of the sets that are left, are those of all sets; the pairs are the matrices
-- of the tree.
use Rattle.std.proofs.Common.{◌∙◌, ap, append-nil, arith, map, refl}
use Rattle.std.proofs.lemmas.List.{nil_from_length}
use Rattle.std.specs.Vec.Iter.{into_iter_items}
use Rattle.p3_support.specs.Shown.{row_lists, row_sets}
use Rattle.p3_merkle_tree.proofs.DrawFacts.{same_more}
use Rattle.p3_merkle_tree.specs.Inner.SaltedParts.{left_widths, salt_parts, unsalted_parts}
use Rattle.p3_merkle_tree.proofs.hiding_open.split_row_sets.Goals as goal

pub loop-rows-preserved : goal.loop-rows-preserved
loop-rows-preserved g c =
    let widths = left_widths (map (λ p. p.now) c.in_ok-pairs.pairs.items) in
    let turn = c.in-Some.ensures.steps.0 in
    let set = row_lists c.in-Some.rows.items in
    let pairs = ap (map (λ p. p.now)) c.deref.ensures.value in
    let left = row_sets (into_iter_items c.loop-rows.rows-iterator) in
    let rest = row_sets (into_iter_items c.next.new.self) in
    let all = row_sets c.args.sets.items in
    record {
      rows_so_far =
          same_more (λ rows. row_lists rows.items) c.loop-rows.unsalted.items c.push.new.self.items c.in_ok-front.front
          (unsalted_parts widths set) (map (unsalted_parts widths) left) (map (unsalted_parts widths) rest)
          (map (unsalted_parts widths) all) (ap (λ sets. map (unsalted_parts widths) (row_sets sets)) turn)
          (c.in_ok-front.ensures.rows ∙ (λ i. unsalted_parts (left_widths (pairs i)) set)) c.in_ok-push.ensures.items
          c.loop-rows.invariant.rows_so_far;
      salts_so_far =
          same_more (λ rows. row_lists rows.items) c.loop-rows.salts.items c.push-in-loop-rows.new.self.items
          c.in_ok-front.back (salt_parts widths set) (map (salt_parts widths) left) (map (salt_parts widths) rest)
          (map (salt_parts widths) all) (ap (λ sets. map (salt_parts widths) (row_sets sets)) turn)
          (c.in_ok-front.ensures.salts ∙ (λ i. salt_parts (left_widths (pairs i)) set)) c.in_ok-push-2.ensures.items
          c.loop-rows.invariant.salts_so_far;
    }

pub returns : goal.returns
returns g c =
    let it = c.loop-rows.rows-iterator in
    let left = nil_from_length (into_iter_items it) (omega (arith, it.rest.ok.0, c.in-None.ensures.steps.0)) in
    let rows = rw (left, append-nil) at c.loop-rows.invariant.rows_so_far in
    let salts = rw (left, append-nil) at c.loop-rows.invariant.salts_so_far in
    let sets = row_sets c.args.sets.items in
    record {
      rows = rows ∙ ap (λ pairs. map (unsalted_parts (left_widths pairs)) sets) c.in_ok-pairs.ensures.matrices;
      salts = salts ∙ ap (λ pairs. map (salt_parts (left_widths pairs)) sets) c.in_ok-pairs.ensures.matrices;
      memory = refl;
    }
