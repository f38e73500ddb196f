-- The wanted nodes have the positions in which they were named, also once they are sorted by their ends.
use Rattle.std.proofs.Common.{arith, sym, ap, ◌∙◌, ◌++◌, ◌∷◌, [], ◌≡◌, List, ℕ, length, map, get_or, rules, subst}
use Rattle.std.proofs.lemmas.List.{map_push}
use Rattle.std.proofs.lemmas.List.FromFn.{map-range_with_len_more}
use Rattle.std.proofs.lemmas.List.Sorted.{IsNonDecreasingBy-from_sort_by_key, IsPermutation-map}
use Rattle.std.specs.List.{range_with_len}
use Rattle.std.specs.List.Sorted.{IsPermutation}
use Rattle.sha2.specs.Sha256.{sha256}
use Rattle.tlog_tree.specs.Builders.{indexed_of}
use Rattle.tlog_tree.specs.Wanted.{end_of}
use Rattle.tlog_tree.specs.Trees.{id_of}
use Rattle.tlog_tree.specs.declared.node_id.NodeId.{NodeId}
use Rattle.tlog_tree.proofs.Kept.{none_has_value}
use Rattle.tlog_tree.proofs.builder.TreeBuilder.new.Goals as goal

pub loop-index-preserved : goal.loop-index-preserved
loop-index-preserved c =
    let i = c.loop-index.index in
    let number : ℕ → ℕ × NodeId = λ k. (k, get_or c.args.nodes.now k (id_of 0 0)) in
    ap (map indexed_of) c.in_ok-push.ensures.items
    ∙ map_push indexed_of c.loop-index.wanted.items _
    ∙ ap (λ (ps : List (ℕ × NodeId)). ps ++ number i ∷ []) c.loop-index.invariant
    ∙ sym (map-range_with_len_more number 0 i i (omega arith))

pub returns : goal.returns
returns c =
    let ws = c.loop-index.wanted.items in
    let sorted = c.sort_unstable_by_key.new.self.items in
    let number : ℕ → ℕ × NodeId = λ k. (k, get_or c.args.nodes.now k (id_of 0 0)) in
    let end : c.loop-index.index ≡ length c.args.nodes.now = omega (arith, c.loop-index-test.false) in
    record {
      frontier = c.new.ensures;
      at = subst (λ ps. IsPermutation ps (map indexed_of sorted))
          (c.loop-index.invariant ∙ ap (λ n. map number (range_with_len 0 n)) end)
          (IsPermutation-map indexed_of ws sorted c.sort_unstable_by_key.ensures.permutation);
      in_order = IsNonDecreasingBy-from_sort_by_key end_of _ c.sort_unstable_by_key.ensures.sorted
          (λ a r q k. search rules);
      values = λ k d h. none_has_value sha256 (get_or sorted k d);
    }
