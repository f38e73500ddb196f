-- The builder of more leaves has their frontier, and the values of its wanted nodes among them.
use Rattle.std.proofs.Common.{arith, length, map, ap, sym, subst, ◌∙◌, ◌++◌, ◌≡◌}
use Rattle.std.proofs.lemmas.List.{with_items_is}
use Rattle.std.proofs.lemmas.List.Elements.{All-same}
use Rattle.std.specs.List.Sorted.{IsNonDecreasingBy, IsPermutation}
use Rattle.std.specs.Vec.{with_items}
use Rattle.sha2.specs.Sha256.{sha256}
use Rattle.tlog_tree.specs.Builders.{indexed, indexed_of}
use Rattle.tlog_tree.specs.Wanted.{HasValue, end_of}
use Rattle.tlog_tree.specs.Inner.Wanted.{updated}
use Rattle.tlog_tree.proofs.Kept.{ids_stay, values_grow}
use Rattle.tlog_tree.proofs.Ordered.{end_stays, order_stays}
use Rattle.tlog_tree.proofs.builder.TreeBuilder.push_many.Goals as goal

pub returns-clause-built : goal.returns-clause-built
returns-clause-built c = λ leaves nodes is.
    let ws = c.args.self.wanted.items in
    let next = updated sha256 0 (length leaves) (leaves ++ c.args.hashes.now) in
    let items : (with_items c.args.self.wanted c.push_kept.new.wanted).items ≡ map next ws =
    with_items_is c.args.self.wanted c.push_kept.new.wanted
    (omega (arith, c.push_kept.auto.wanted, ap length c.deref_mut.ensures.value, c.args.self.wanted.ok))
    ∙ c.in_ok-push_kept.ensures.wanted leaves is.frontier
    (subst (IsNonDecreasingBy end_of) (sym c.deref_mut.ensures.value) is.in_order)
    ∙ ap (map next) c.deref_mut.ensures.value in
    record {
      frontier = c.in_ok-push_kept.ensures.grown leaves is.frontier;
      at = subst (IsPermutation (indexed nodes))
          (sym (ap (map indexed_of) items
          ∙ ids_stay sha256 (length leaves) (leaves ++ c.args.hashes.now) ws)) is.at;
      in_order = order_stays end_of next ws _ (end_stays sha256 (length leaves) (leaves ++ c.args.hashes.now))
          is.in_order items;
      values = All-same (HasValue sha256 (leaves ++ c.args.hashes.now)) _ _ items
          (values_grow sha256 leaves c.args.hashes.now ws is.values);
    }
