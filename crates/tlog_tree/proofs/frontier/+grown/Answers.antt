-- The whole nodes of a layer are those of the layer above, and its last node if that has no sibling.
use Rattle.std.proofs.Common.{arith, length, sym, ap, ◌∙◌, List, ℕ, [], ◌++◌, ◌≡◌, ◌≤◌, ◌<◌, ◌+◌, ◌*◌, ◌/◌, ◌%◌}
use Rattle.std.proofs.Common.{length-append, drop, vec_len}
use Rattle.std.proofs.lemmas.List.{append-nil, nil_from_length}
use Rattle.std.proofs.lemmas.Bool.Decides.{nat_tests}
use Rattle.std.proofs.lemmas.Result.{IfOk-weaker}
use Rattle.sha2.specs.Sha256.{sha256}
use Rattle.tlog_tree.specs.Inner.Layers.{parents_of}
use Rattle.tlog_tree.specs.Trees.{whole_nodes}
use Rattle.tlog_tree.proofs.Kept.{wanted_none, wanted_step}
use Rattle.tlog_tree.proofs.Whole.{cut_whole, length-parents, parents-append, single, single_is, whole_grows}
use Rattle.tlog_tree.proofs.frontier.+grown.Goals as goal

pub grown-requires : goal.grown-requires
grown-requires t c =
    let layer : length c.deref.result.now ≡ length c.split_at.result.1.now + length c.args.more.now =
    ap length (c.deref.ensures.value ∙ c.in_ok-extend_from_slice.ensures.items)
    ∙ length-append c.in_ok-layer.layer.items c.args.more.now
    ∙ ap (λ (n : ℕ). n + length c.args.more.now) (ap length c.in_ok-layer.ensures.items) in
    let above : length c.deref-2.result.now ≡ length c.deref.result.now / 2 =
    ap length (c.deref-2.ensures.value ∙ c.in_ok-above.ensures) ∙ length-parents sha256 c.deref.result.now in
    let some : 0 < length c.args.more.now = grind (arith, nat_tests) in
    let short : length c.split_at.result.1.now ≤ c.args.size % 2 =
    omega (arith, c.split_at.ensures.back_len, c.saturating_sub.ensures) in
    let less : c.args.size / 2 + length c.deref-2.result.now < c.args.size + length c.args.more.now = omega arith in
    (omega (arith, less, c.decreases), omega (arith, less, c.requires))

pub returns-clause-whole : goal.returns-clause-whole
returns-clause-whole t c = λ L long are.
    let X = c.args.more.now in
    let cut = cut_whole sha256 L c.args.nodes.now c.split_at.result.0.now c.split_at.result.1.now c.args.size
    c.saturating_sub.result long are c.saturating_sub.ensures c.split_at.ensures.front c.split_at.ensures.back in
    let layer : c.deref.result.now ≡ single L ++ X =
    c.deref.ensures.value ∙ c.in_ok-extend_from_slice.ensures.items
    ∙ ap (λ (nodes : List (List ℕ)). nodes ++ X) (c.in_ok-layer.ensures.items ∙ cut.back) in
    let above : c.deref-2.result.now ≡ parents_of sha256 (single L ++ X) =
    c.deref-2.ensures.value ∙ c.in_ok-above.ensures ∙ ap (parents_of sha256) layer in
    let half : length (parents_of sha256 L) ≡ c.args.size / 2 =
    length-parents sha256 L ∙ ap (λ (n : ℕ). n / 2) long in
    let deep : c.in_ok-whole.whole.items
    ≡ whole_nodes sha256 (parents_of sha256 L ++ parents_of sha256 (single L ++ X)) =
    c.in_ok-whole.ensures.whole (parents_of sha256 L) half cut.front
    ∙ ap (λ (nodes : List (List ℕ)). whole_nodes sha256 (parents_of sha256 L ++ nodes)) above in
    let same : c.deref-3.result.now ≡ single L ++ X = c.deref-3.ensures.value ∙ sym c.deref.ensures.value ∙ layer in
    let count : vec_len c.extend_from_slice.new.self ≡ length (single L ++ X) = sym c.deref-3.ensures.len
    ∙ ap length same in
    let last : c.split_at-2.result.1.now ≡ single (single L ++ X) =
    c.split_at-2.ensures.back ∙ ap (λ (nodes : List (List ℕ)). drop (2 * (c.len.result / 2)) nodes) same
    ∙ single_is (single L ++ X) (c.len.result / 2) (ap (λ (n : ℕ). n / 2) (c.len.ensures ∙ count)) in
    c.in_ok-extend_from_slice-2.ensures.items ∙ rw (deep, last) (sym (whole_grows sha256 L X))

pub returns-clause-wanted : goal.returns-clause-wanted
returns-clause-wanted t c = λ L long are.
    let X = c.args.more.now in
    let cut = cut_whole sha256 L c.args.nodes.now c.split_at.result.0.now c.split_at.result.1.now c.args.size
    c.saturating_sub.result long are c.saturating_sub.ensures c.split_at.ensures.front c.split_at.ensures.back in
    let half : length (parents_of sha256 L) ≡ c.args.size / 2 =
    length-parents sha256 L ∙ ap (λ (n : ℕ). n / 2) long in
    let layer : c.deref.result.now ≡ single L ++ X =
    c.deref.ensures.value ∙ c.in_ok-extend_from_slice.ensures.items
    ∙ ap (λ (nodes : List (List ℕ)). nodes ++ X) (c.in_ok-layer.ensures.items ∙ cut.back) in
    let up : parents_of sha256 L ++ c.deref-2.result.now ≡ parents_of sha256 (L ++ X) =
    ap (λ (nodes : List (List ℕ)). parents_of sha256 L ++ nodes)
    (c.deref-2.ensures.value ∙ c.in_ok-above.ensures ∙ ap (parents_of sha256) layer)
    ∙ sym (parents-append sha256 L X) in
    wanted_step sha256 c.args.layer_number c.args.size L X (parents_of sha256 L ++ c.deref-2.result.now)
    c.args.wanted.now c.keep.new.wanted c.grown.new.wanted long up c.keep.ensures
    (c.in_ok-whole.ensures.wanted (parents_of sha256 L) half cut.front)

pub returns-then-is_empty-clause-whole : goal.returns-then-is_empty-clause-whole
returns-then-is_empty-clause-whole t c =
    let none : c.args.more.now ≡ [] =
    nil_from_length c.args.more.now (grind (arith, nat_tests)) in
    IfOk-weaker c.from_slice.result _ _
    (λ whole is layer long are. is ∙ are ∙ ap (whole_nodes sha256) (sym (append-nil layer)
    ∙ ap (λ (nodes : List (List ℕ)). layer ++ nodes) (sym none)))
    c.from_slice.ensures.items

pub returns-then-is_empty-clause-wanted : goal.returns-then-is_empty-clause-wanted
returns-then-is_empty-clause-wanted t c =
    let none : c.args.more.now ≡ [] = nil_from_length c.args.more.now (grind (arith, nat_tests)) in
    IfOk-weaker c.from_slice.result _ _ (λ whole is layer long are.
    wanted_none sha256 c.args.layer_number c.args.size (layer ++ c.args.more.now) c.args.wanted.now
    (omega (arith, length-append layer c.args.more.now, ap length none))) c.from_slice.ensures.items
