-- Each turn gives a verdict on one query, and none is left where either list is at its end.
use Rattle.std.proofs.Common.{◌≡◌, ◌⊎◌, ◌∙◌, List, [], ap, inl, inr, subst, sym, zip}
use Rattle.std.proofs.lemmas.List.{nil_from_length}
use Rattle.std.specs.Iterator.Adapters.{zip_first, zip_second}
use Rattle.std.specs.Slice.Iter.{iter_rest}
use Rattle.p3_support.specs.Shown.{roots_of, row_lists, row_sets}
use Rattle.p3_merkle_tree.specs.Geometry.{shape_of}
use Rattle.p3_merkle_tree.specs.Openings.{Opening, opening_of}
use Rattle.p3_merkle_tree.specs.Presented.{IsExactVerdict, presented}
use Rattle.p3_merkle_tree.specs.Schemes.{params_of}
use Rattle.p3_merkle_tree.specs.Views.{shown_path, shown_paths}
use Rattle.end_to_end.specs.Inner.QueryVerdicts.{IsVerdictOn}
use Rattle.end_to_end.proofs.PathFacts.{verdict_end, verdict_more}
use Rattle.end_to_end.proofs.by_paths.verify_each.Goals as goal

pub loop-path-preserved : goal.loop-path-preserved
loop-path-preserved g c =
    let k = params_of c.args.scheme.now (shape_of g.row.N c.args.dimensions.now) in
    let cap = roots_of c.args.commit.now in
    let digest_eq = g.PW.Value.PartialEq.eq in
    let turn = c.in-Some.ensures.steps in
    let it = c.loop-path.path-iterator in
    let next = c.next.new.self in
    let path = c.in-Some.path.now in
    let set = c.in-Some.set.now in
    let rows = ap row_lists (c.new-opening.ensures.values ∙ c.deref.ensures.value) in
    let siblings = ap (λ z. z.items) c.new-opening.ensures.proof in
    let verdict = subst (λ (o : Opening _ _). IsExactVerdict (presented digest_eq k cap o) c.verify_batch.result)
    (λ i. opening_of path.leaf_index (rows i) (siblings i)) c.verify_batch.ensures in
    verdict_more (IsVerdictOn digest_eq k cap) (zip (shown_paths c.args.paths.now) (row_sets c.args.rows.now))
    c.loop-path.verdicts.items c.push.new.self.items (shown_path path) (row_lists set.items) c.verify_batch.result
    (shown_paths (iter_rest (zip_first next))) (shown_paths (iter_rest (zip_first it)))
    (row_sets (iter_rest (zip_second next))) (row_sets (iter_rest (zip_second it))) (ap shown_paths turn.0)
    (ap row_sets turn.1) c.in_ok-push.ensures.items verdict c.loop-path.invariant

pub returns : goal.returns
returns g c =
    let k = params_of c.args.scheme.now (shape_of g.row.N c.args.dimensions.now) in
    let it = c.loop-path.path-iterator in
    let left = iter_rest (zip_first it) in
    let others = iter_rest (zip_second it) in
    let ended : (shown_paths left ≡ []) ⊎ (row_sets others ≡ []) =
    elim c.in-None.ensures.steps [
      | inl first ↦ inl (ap shown_paths (nil_from_length left first.1.0))
      | inr second ↦ inr (ap row_sets (nil_from_length others second.1.0))
    ] in
    verdict_end (IsVerdictOn g.PW.Value.PartialEq.eq k (roots_of c.args.commit.now))
    (zip (shown_paths c.args.paths.now) (row_sets c.args.rows.now)) c.loop-path.verdicts.items (shown_paths left)
    (row_sets others) ended c.loop-path.invariant
