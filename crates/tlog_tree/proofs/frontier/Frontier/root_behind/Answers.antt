-- The frontier behind its first nodes, as many as `whole` has ones, is that of the leaves behind the whole nodes.
use Rattle.std.proofs.Common.{arith, length, drop, sym, ap, ◌∙◌, List, ℕ, ◌≡◌, ◌*◌, ◌/◌, ◌^◌, min, Some}
use Rattle.std.specs.Prelude.{count_ones}
use Rattle.std.proofs.lemmas.Bool.Decides.{nat_tests}
use Rattle.sha2.specs.Sha256.{sha256}
use Rattle.tlog_tree.specs.Trees.{whole_nodes}
use Rattle.tlog_tree.proofs.Whole.{behind_layer, count_whole, fewer_ones, no_rest, root_by_rest}
use Rattle.tlog_tree.proofs.frontier.Frontier.root_behind.Goals as goal

-- the whole nodes after those of the first nodes of a layer
behind_is : (L nodes behind : List (List ℕ)) (layer whole at : ℕ) → nodes ≡ whole_nodes sha256 L →
    whole ≡ length L / 2 ^ layer → at ≡ count_ones whole → behind ≡ drop at nodes →
    behind ≡ whole_nodes sha256 (drop (whole * 2 ^ layer) L)
behind_is L nodes behind layer whole at are place first rest =
    rest ∙ ap (λ (n : ℕ). drop n nodes) (first ∙ ap count_ones place)
    ∙ ap (drop (count_ones (length L / 2 ^ layer))) are
    ∙ behind_layer layer sha256 L ∙ ap (λ (n : ℕ). whole_nodes sha256 (drop (n * 2 ^ layer) L)) (sym place)

-- no more nodes are passed than there are
passed : (L nodes : List (List ℕ)) (layer whole at : ℕ) → nodes ≡ whole_nodes sha256 L →
    whole ≡ length L / 2 ^ layer → at ≡ min (count_ones whole) (length nodes) → at ≡ count_ones whole
passed L nodes layer whole at are place least =
    let count = ap length are ∙ count_whole sha256 L in
    let few = fewer_ones layer (length L) in
    let same = ap count_ones place in
    omega arith

pub returns : goal.returns
returns c = λ L layer is place.
    let nodes = c.args.self.now.nodes.items in
    let first = passed L nodes layer c.args.whole c.min.result is.nodes place
    (omega (arith, c.min.ensures, c.len.ensures, c.args.self.now.nodes.ok)) in
    let are = behind_is L nodes c.split_at.result.1.now layer c.args.whole c.min.result is.nodes place first
    (c.split_at.ensures.back ∙ ap (drop c.min.result) c.deref.ensures.value) in
    ap (λ (node : List ℕ). Some node) c.root_of_nodes.ensures
    ∙ root_by_rest sha256 (drop (c.args.whole * 2 ^ layer) L) c.split_at.result.1.now are (grind (arith, nat_tests))

pub returns-then-is_empty : goal.returns-then-is_empty
returns-then-is_empty c = λ L layer is place.
    let nodes = c.args.self.now.nodes.items in
    let first = passed L nodes layer c.args.whole c.min.result is.nodes place
    (omega (arith, c.min.ensures, c.len.ensures, c.args.self.now.nodes.ok)) in
    let are = behind_is L nodes c.split_at.result.1.now layer c.args.whole c.min.result is.nodes place first
    (c.split_at.ensures.back ∙ ap (drop c.min.result) c.deref.ensures.value) in
    no_rest sha256 (drop (c.args.whole * 2 ^ layer) L) c.split_at.result.1.now are (grind (arith, nat_tests))
