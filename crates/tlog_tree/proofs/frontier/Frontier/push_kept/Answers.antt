-- The nodes are the frontier of the log with the hashes so far (`grown`), and the wanted nodes are those of that log
-- (`wanted`).
use Rattle.std.proofs.Common.{arith, length, take, drop, sym, ap, ◌∙◌, List, ℕ, ◌++◌, ◌≡◌, ◌-◌, append_assoc}
use Rattle.std.proofs.Common.{leb, length-append, rules, ◌+◌}
use Rattle.std.proofs.lemmas.List.{append-nil, length-take-le}
use Rattle.std.proofs.lemmas.List.Sorted.{IsNonDecreasingBy-take, IsPartitionPoint-from_clause, IsPartitionedBy-leb}
use Rattle.sha2.specs.Sha256.{sha256}
use Rattle.tlog_tree.specs.Wanted.{end_of}
use Rattle.tlog_tree.specs.Trees.{whole_nodes}
use Rattle.tlog_tree.proofs.Kept.{wanted_more, wanted_none}
use Rattle.tlog_tree.proofs.Ordered.{due_alone, end_stays, order_stays}
use Rattle.tlog_tree.proofs.Whole.{next_piece}
use Rattle.tlog_tree.proofs.frontier.Frontier.push_kept.Goals as goal

pub loop-rest-init : goal.loop-rest-init
loop-rest-init c =
    let X = c.args.hashes.now in
    let none : length X - length X ≡ 0 = omega arith in
    record {
      within = omega arith;
      size = omega arith;
      rest = sym (ap (λ (n : ℕ). drop n X) none);
      grown = λ leaves is.
          c.in_ok-nodes.ensures.items ∙ c.deref.ensures.value ∙ is.nodes
          ∙ ap (whole_nodes sha256) (sym (append-nil leaves) ∙ ap (λ (n : ℕ). leaves ++ take n X) (sym none));
      wanted = λ leaves is up.
          wanted_none sha256 0 (length leaves) (leaves ++ take (length X - length X) X) c.args.wanted.now
          (omega (
            arith,
            length-append leaves (take (length X - length X) X),
            length-take-le (length X - length X) X (omega arith),
          ));
    }

pub loop-rest-preserved : goal.loop-rest-preserved
loop-rest-preserved c =
    let X = c.args.hashes.now in
    let rest = c.loop-rest.rest.now in
    let d = length X - length rest in
    let kept = c.loop-rest.invariant in
    let next = next_piece X rest c.split_at.result.0.now c.split_at.result.1.now c.min.result kept.within kept.rest
    (omega arith) c.split_at.ensures.front c.split_at.ensures.back in
    record {
      within = next.within;
      size = omega (arith, kept.size, next.count);
      rest = next.left;
      grown = λ leaves is.
          let long : length (leaves ++ take d X) ≡ c.loop-rest.size =
          length-append leaves (take d X) ∙ omega (arith, length-take-le d X (omega arith), is.size, kept.size) in
          c.in_ok-nodes-2.ensures.whole (leaves ++ take d X) long (c.deref-in-loop-rest.ensures.value
          ∙ kept.grown leaves is)
          ∙ ap (whole_nodes sha256) (append_assoc leaves (take d X) c.split_at.result.0.now
          ∙ ap (λ (xs : List (List ℕ)). leaves ++ xs) (sym next.taken));
      wanted = λ leaves is up.
          let A = leaves ++ take d X in
          let chunk = c.split_at.result.0.now in
          let ws = c.loop-rest.wanted in
          let start = c.partition_point-start.result in
          let end = c.partition_point-end.result in
          let len = length-append leaves (take d X) in
          let long : length A ≡ c.loop-rest.size = len
          ∙ omega (arith, length-take-le d X (omega arith), is.size, kept.size) in
          let all : leaves ++ take (length X - length c.split_at.result.1.now) X ≡ A ++ chunk =
          ap (λ (xs : List (List ℕ)). leaves ++ xs) next.taken ∙ sym (append_assoc leaves (take d X) chunk) in
          let before = kept.wanted leaves is up in
          let order = order_stays end_of _ c.args.wanted.now ws (end_stays sha256 (length leaves) A) up before in
          let count : c.loop-rest.size + length chunk ≡ length (A ++ chunk) =
          omega (arith, length-append A chunk, long) in
          let first = IsPartitionPoint-from_clause (λ w. leb (end_of w) c.loop-rest.size) _ _
          c.partition_point-start.ensures.partitioned
          (IsPartitionedBy-leb end_of _ c.loop-rest.size (IsNonDecreasingBy-take end_of end ws order))
          (λ a r q k. search rules) in
          let last = IsPartitionPoint-from_clause (λ w. leb (end_of w) (length (A ++ chunk))) _ _
          c.partition_point-end.ensures.partitioned (IsPartitionedBy-leb end_of _ _ order)
          (λ a r q k. rw (← count) (search rules)) in
          let due = due_alone sha256 c.loop-rest.size (A ++ chunk) ws c.grown.new.wanted start end
          (omega (arith, count)) (omega (arith, count))
          (omega (
            arith,
            c.partition_point-start.ensures.bound,
            length-take-le end ws c.partition_point-end.ensures.bound,
          ))
          c.partition_point-end.ensures.bound first last
          (c.in_ok-nodes-2.ensures.wanted A long (c.deref-in-loop-rest.ensures.value ∙ kept.grown leaves is)) in
          wanted_more sha256 (length leaves) c.loop-rest.size A chunk
          (leaves ++ take (length X - length c.split_at.result.1.now) X) c.args.wanted.now ws
          _ (omega arith) (sym long) all before due;
    }
