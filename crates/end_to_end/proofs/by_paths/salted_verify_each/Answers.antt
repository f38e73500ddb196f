-- Each turn gives a verdict on one query.
use borrow.Author.Count.{below_more}
use Rattle.std.proofs.Common.{◌≡◌, ◌∙◌, ◌+◌, ◌<◌, ℕ, List, [], ◌∷◌, ap, arith, get_or, length, length-append, subst}
use Rattle.std.proofs.Common.{sym}
use Rattle.std.proofs.lemmas.List.{get_or-map, get_or_append_left, get_or_push}
use Rattle.std.specs.Prelude.{Ok, Result}
use Rattle.p3_support.specs.Shown.{roots_of, row_lists, row_sets}
use Rattle.p3_merkle_tree.specs.HidingSchemes.{salted_params_of}
use Rattle.p3_merkle_tree.specs.MerkleTreeError.{MerkleTreeError}
use Rattle.p3_merkle_tree.specs.Presented.{IsExactVerdict}
use Rattle.p3_merkle_tree.specs.SaltedOpenings.{SaltedOpening, salted_of}
use Rattle.p3_merkle_tree.specs.SaltedPresented.{presented_salted}
use Rattle.p3_merkle_tree.specs.Views.{shown_path, shown_paths}
use Rattle.end_to_end.specs.Inner.QueryVerdicts.{IsSaltedVerdictOn, query_at}
use Rattle.end_to_end.proofs.by_paths.salted_verify_each.Goals as goal

pub loop-query-preserved : goal.loop-query-preserved
loop-query-preserved g c =
    let digest_eq = g.PW.Value.PartialEq.eq in
    let e = g.row.SALT_ELEMS in
    let ds = c.args.dimensions.now in
    let k = salted_params_of c.args.scheme.now ds in
    let cap = roots_of c.args.commit.now in
    let at = c.loop-query.query in
    let paths = c.args.paths.now in
    let rows = c.args.rows.now in
    let salts = c.args.salts.now in
    let old = c.loop-query.verdicts.items in
    let new = c.push.new.self.items in
    let r = c.verify_batch.result in
    let path = c.index-paths-query.result in
    let set = c.index-rows-query.result in
    let salt_set = c.index-salts-query.result in
    let inside : at < length paths = omega arith in
    let of_path = get_or-map shown_path paths at path (0, []) inside ∙ ap shown_path (sym c.index-paths-query.is) in
    let of_rows = get_or-map (λ set. row_lists set.items) rows at set [] (omega arith)
    ∙ ap (λ set. row_lists set.items) (sym c.index-rows-query.is) in
    let of_salts = get_or-map (λ set. row_lists set.items) salts at salt_set [] (omega arith)
    ∙ ap (λ set. row_lists set.items) (sym c.index-salts-query.is) in
    let proof = c.from-lent.ensures.1 ∙ c.new-opening.ensures.proof in
    let rows_are = ap row_lists (c.from-lent.ensures.0 ∙ ap (λ v. v.items) c.new-opening.ensures.values)
    ∙ c.in_ok-copies_of-2.ensures ∙ ap row_lists c.deref-in-loop-query-2.ensures.value in
    let salts_are = ap (λ z. row_lists z.0.items) proof ∙ c.in_ok-copies_of.ensures
    ∙ ap row_lists c.deref-in-loop-query.ensures.value in
    let siblings_are = ap (λ z. z.1.items) proof ∙ c.in_ok-siblings.ensures.items ∙ c.deref.ensures.value in
    let verdict = subst (λ (o : SaltedOpening _ _). IsExactVerdict (presented_salted digest_eq e ds k cap o) r)
    (λ i. salted_of path.leaf_index (rows_are i) (salts_are i) (siblings_are i)) c.verify_batch.ensures in
    let pushed = c.in_ok-push.ensures.items in
    let last : get_or new at (Ok tt) ≡ r = ap (λ (vs : List _). get_or vs at (Ok tt)) pushed
    ∙ get_or_push old r (Ok tt) at c.loop-query.invariant.count in
    let here = subst (λ (z : ((ℕ × List _) × (List (List _) × List (List _))) × Result (Unit {0}) MerkleTreeError).
    IsSaltedVerdictOn digest_eq e ds k cap z.0 z.1)
    (λ i. ((sym of_path i, (sym of_rows i, sym of_salts i)), sym last i)) verdict in
    record {
      count = omega (arith, simp length-append at (ap length pushed), c.loop-query.invariant.count);
      each = below_more (λ i. IsSaltedVerdictOn digest_eq e ds k cap
          (query_at (shown_paths paths) (row_sets rows) (row_sets salts) i) (get_or new i (Ok tt))) at
          (λ i below. subst (IsSaltedVerdictOn digest_eq e ds k cap
          (query_at (shown_paths paths) (row_sets rows) (row_sets salts) i))
          (sym (ap (λ (vs : List _). get_or vs i (Ok tt)) pushed
          ∙ get_or_append_left old (r ∷ []) (Ok tt) i (omega (arith, c.loop-query.invariant.count))))
          (c.loop-query.invariant.each i below)) here;
    }
