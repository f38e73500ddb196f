-- The tree is that of the matrices that were given.
use Rattle.std.proofs.Common.{◌≡◌, ◌∙◌, ◌++◌, List, None, map, refl, sym, ap, subst, ⊎_elim, inl, inr, rules}
use Rattle.std.proofs.lemmas.Result.{err_from_is_err_and}
use Rattle.std.specs.Prelude.{flat_map}
use Rattle.std.specs.Option.{option_or}
use Rattle.p3_support.specs.Batches.{greatest}
use Rattle.p3_support.specs.Shown.{roots_of, row_sets}
use Rattle.p3_merkle_core.specs.Commitments.{IsCommitment, cap_over}
use Rattle.p3_merkle_core.specs.Geometry.{heights, shape_of, Shape}
use Rattle.p3_merkle_core.specs.Nodes.{shape, Batch}
use Rattle.p3_merkle_core.specs.Openings.{honest_rows}
use Rattle.p3_merkle_core.specs.Pruning.{pruned_len, pruned_of, PrunedOpening}
use Rattle.p3_merkle_core.specs.Views.{pruned_borrowed, pruned_owned}
use Rattle.p3_merkle_core.specs.Refusals.{pruned_len_refusal, queries_refusal}
use Rattle.p3_merkle_prover.specs.Parts.{layers_of, tree_batch}
use Rattle.p3_merkle_tree.specs.Schemes.{cap_layer_of, params_of}
use Rattle.mmcs_engine.specs.Inner.Stored.{stored_batch}
use Rattle.mmcs_engine.specs.Inner.Alike.{opened_lines, opened_text}
use Rattle.mmcs_engine.specs.Text.{digest_lines, hex_lines, ok_line}
use Rattle.mmcs_engine.proofs.TreesInNumbers.{check_printed, commit_printed, open_printed, stored_shape}
use Rattle.mmcs_engine.proofs.TextFacts.{sets_long}
use Rattle.mmcs_engine.proofs.ReplyFacts.{accepted_lent}
use Rattle.mmcs_engine.specs.declared.command.Action.{Action}
use Rattle.mmcs_engine.specs.declared.command.Action.TheVariants.{Commit, Open, Check}
use Rattle.mmcs_engine.proofs.engine.act.Given.{Over}
use Rattle.mmcs_engine.proofs.engine.act.Goals.{After-check_indices}
use Rattle.mmcs_engine.proofs.engine.act.Goals as goal

abbrev batch_given : (g : Over) → After-check_indices g → Batch g.row.W.Denot
batch_given g c = stored_batch g.row.N c.args.matrices.items

same_batch : (g : Over) (c : After-check_indices g) → tree_batch c.in_ok-roots.tree ≡ batch_given g c
same_batch g c = ap (stored_batch g.row.N) c.in_ok-roots.ensures.matrices

-- it is committed to
own : (g : Over) (c : After-check_indices g) → IsCommitment (params_of c.args.scheme.now (shape (batch_given g c)))
    (roots_of c.in_ok-roots.roots) (batch_given g c) (layers_of c.in_ok-roots.tree)
own g c = subst (λ (b : Batch g.row.W.Denot). IsCommitment (params_of c.args.scheme.now (shape b))
    (roots_of c.in_ok-roots.roots) b (layers_of c.in_ok-roots.tree)) (same_batch g c) c.in_ok-roots.ensures.committed

-- the test of the indices is that of the tallest matrix
same_test : (g : Over) (c : After-check_indices g) →
    queries_refusal (greatest (heights (shape (batch_given g c)))) c.args.args.now.indices.items
    ≡ queries_refusal c.get_max_height.result c.as_slice-indices.result.now
same_test g c = λ i. queries_refusal
    (sym (c.get_max_height.ensures ∙ ap (λ (b : Batch g.row.W.Denot). greatest (heights (shape b))) (same_batch g c)) i)
    (sym c.as_slice-indices.ensures.value i)

-- nothing is refused
taken : (g : Over) (c : After-check_indices g) →
    queries_refusal c.get_max_height.result c.as_slice-indices.result.now ≡ None →
    pruned_len_refusal (shape (batch_given g c)) c.args.args.now.indices.items ≡ None
taken g c below = λ i. option_or (c.in_ok-roots.ensures.answer i) ((same_test g c ∙ below) i)

pub returns-in_err-roots-clause-answer : goal.returns-in_err-roots-clause-answer
returns-in_err-roots-clause-answer g c =
    let r = c.from_residual-in_err-roots in
    let left = err_from_is_err_and r.result r.ensures.1 in
    let tallest = greatest (heights (shape (stored_batch g.row.N c.args.matrices.items))) in
    rw (left.1, left.2)
    (⊎_elim inl
    (λ due. inr (ap (λ gate. option_or gate (queries_refusal tallest c.args.args.now.indices.items)) due))
    c.in_err-roots.ensures.answer)

pub returns-in_err-check_indices-clause-answer : goal.returns-in_err-check_indices-clause-answer
returns-in_err-check_indices-clause-answer g c =
    let at = (goal.at.returns-in_err-check_indices-clause-answer g c).After-check_indices in
    let r = c.from_residual-in_err-check_indices in
    let left = err_from_is_err_and r.result r.ensures.1 in
    rw (left.1, left.2) (inr (λ i. option_or (c.in_ok-roots.ensures.answer i)
    ((same_test g at ∙ c.in_err-check_indices.ensures.answer) i)))

pub returns-in-Commit-clause-text : goal.returns-in-Commit-clause-text
returns-in-Commit-clause-text g c =
    let w = g.met.W.Word in
    let at = (goal.at.returns-in-Commit-clause-text g c).After-check_indices in
    let lines = λ (ds : List (List g.row.W.Denot)). hex_lines g.W.Word.HEX_DIGITS (map (map g.W.Word.value) ds) in
    rw c.in-Commit.is
    (c.in_ok-push_digests.ensures
    ∙ (λ i. c.new-text.ensures.bytes i ++ lines ((c.roots.ensures ∙ (own g at).own_cap) i))
    ∙ commit_printed g.W.Word.value w.some_word w.one_word c.requires.scheme (batch_given g at)
    c.args.args.now.indices.items)

pub returns-in-Commit-clause-answer : goal.returns-in-Commit-clause-answer
returns-in-Commit-clause-answer g c =
    taken g (goal.at.returns-in-Commit-clause-answer g c).After-check_indices c.in_ok-check_indices.ensures.answer

pub returns-in-Open-clause-text : goal.returns-in-Open-clause-text
returns-in-Open-clause-text g c =
    let w = g.met.W.Word in
    let at = (goal.at.returns-in-Open-clause-text g c).After-check_indices in
    let b = tree_batch c.in_ok-roots.tree in
    let indices = c.args.args.now.indices.items in
    let value = g.W.Word.value in
    let width = g.W.Word.HEX_DIGITS in
    let opened = c.in_ok-opening.ensures.opened.in_layers in
    let layer_at = λ (x : Batch g.row.W.Denot). cap_layer_of c.args.scheme.now (shape x) in
    rw c.in-Open.is
    (c.in_ok-text_of_opening.ensures b
    (ap row_sets c.deref-in-Open.ensures.value ∙ ap (λ (z : PrunedOpening _ _). z.rows) opened)
    ∙ ap (λ ds. flat_map (opened_lines value b) c.as_slice-indices.result.now
    ++ digest_lines width (map (map value) ds))
    (c.deref-in-Open-2.ensures.value ∙ ap (λ (z : PrunedOpening _ _). z.digests) opened)
    ∙ (λ i. opened_text value width (same_batch g at i) (layers_of c.in_ok-roots.tree)
    (c.as_slice-indices.ensures.value i) (layer_at (same_batch g at i)))
    ∙ ap (λ nodes. opened_text value width (batch_given g at) nodes indices (layer_at (batch_given g at)))
    (own g at).own_layers
    ∙ open_printed value w.some_word w.one_word c.requires.scheme (batch_given g at) indices)

pub returns-in-Open-clause-answer : goal.returns-in-Open-clause-answer
returns-in-Open-clause-answer g c =
    taken g (goal.at.returns-in-Open-clause-answer g c).After-check_indices c.in_ok-check_indices.ensures.answer

pub text_of_opening-requires : goal.text_of_opening-requires
text_of_opening-requires g c = (
  search rules,
  sets_long c.deref-in-Open.result.now (honest_rows (tree_batch c.in_ok-roots.tree)) c.as_slice-indices.result.now
      (ap row_sets c.deref-in-Open.ensures.value
      ∙ ap (λ (z : PrunedOpening _ _). z.rows) c.in_ok-opening.ensures.opened.in_layers),
)

-- the tree is the scheme's own, so that its opening is accepted, and has as many digests as it should
pub returns-in_err-verify_batch_pruned-clause-answer :
    goal.returns-in_err-verify_batch_pruned-clause-answer
returns-in_err-verify_batch_pruned-clause-answer g c =
    let at = (goal.at.returns-in_err-verify_batch_pruned-clause-answer g c).After-check_indices in
    let r = c.from_residual-in_err-verify_batch_pruned in
    let left = err_from_is_err_and r.result r.ensures.1 in
    let params = params_of c.args.scheme.now in
    let b = tree_batch c.in_ok-roots.tree in
    let opening = c.in_ok-opening.opening in
    let is = c.as_slice-indices.result.now in
    let committed = c.in_ok-roots.ensures.committed in
    let shapes = stored_shape c.deref.result.now c.args.matrices.items c.in_ok-dimensions.dimensions.items
    c.deref-2.result.now g.row.N c.deref-2.ensures.value c.in_ok-dimensions.ensures
    c.deref.ensures.value ∙ ap shape (sym (same_batch g at)) in
    let told = c.verify_batch_pruned.ensures.verdict.accepted_is_ok
    (accepted_lent params (shape_of g.row.N c.deref-2.result.now) (shape b) (roots_of c.in_ok-roots.roots)
    (cap_over (params (shape b)) b) (pruned_borrowed is c.deref-3.result.now opening.pruned_proof)
    (pruned_owned is opening) shapes committed.own_cap
    (ap (λ sets. pruned_of is (row_sets sets) opening.pruned_proof.sibling_hashes.items)
    c.deref-3.ensures.value)
    (c.in_ok-opening.ensures.opened.is_accepted (cap_over (params (shape b)) b)
    (record { own_layers = committed.own_layers; own_cap = refl }))) in
    rw (left.1, left.2)
    (⊎_elim inl (λ none. absurd cc) (rw c.in_err-verify_batch_pruned.was at told))

-- what is no other action is a check
check_left : (a : Action) → (a ≡ Commit → ⊥) → (a ≡ Open → ⊥) → a ≡ Check
check_left Commit no_commit no_open = absurd (no_commit refl)
check_left Open no_commit no_open = absurd (no_open refl)
check_left Check no_commit no_open = refl

pub returns-clause-text : goal.returns-clause-text
returns-clause-text g c =
    let w = g.met.W.Word in
    let at = (goal.at.returns-clause-text g c).After-check_indices in
    let is = c.as_slice-indices.result.now in
    let opening = c.in_ok-opening.opening in
    let shapes = stored_shape c.deref.result.now c.args.matrices.items c.in_ok-dimensions.dimensions.items
    c.deref-2.result.now g.row.N c.deref-2.ensures.value c.in_ok-dimensions.ensures
    c.deref.ensures.value in
    let count_of = λ (s : Shape). pruned_len s is (cap_layer_of c.args.scheme.now s) in
    rw (check_left c.args.args.now.command.action c.in_default.not-Commit c.in_default-action.not-Open)
    (c.in_ok-format.ensures.ok
    ∙ ap ok_line (c.len-count.ensures ∙ opening.pruned_proof.sibling_hashes.ok.0
    ∙ (c.in_ok-verify_batch_pruned.ensures.verdict.ok_is_accepted refl).restorable.count ∙ ap count_of shapes)
    ∙ (λ i. ok_line (pruned_len (shape (batch_given g at)) (c.as_slice-indices.ensures.value i)
    (cap_layer_of c.args.scheme.now (shape (batch_given g at)))))
    ∙ check_printed g.W.Word.value w.some_word w.one_word c.requires.scheme (batch_given g at)
    c.args.args.now.indices.items)
