-- If neighbours of one index have one leaf hash, so have all entries of one index, since they stand side by side.
use Rattle.std.proofs.Common.{◌≡◌, ◌∙◌, ◌-◌, Bool, true, false, not, [], ap, refl, arith, eqb, get_or, inl, inr, suc}
use Rattle.std.proofs.Common.{sym}
use Rattle.std.proofs.lemmas.Bool.{cases_eq, not-true, true≢false}
use Rattle.std.specs.Cmp.Lexicographic.{bytes_decides, pointwise}
use Rattle.tlog_multiproof.proofs.AscentVerdicts.{neighbours_agree, neighbours_differ}
use Rattle.tlog_multiproof.proofs.ascending.is_one_leaf_each.Goals.{else-index-via-else-index}
use Rattle.tlog_multiproof.proofs.ascending.is_one_leaf_each.Goals.{else-index-via-then-index+else-ne}
use Rattle.tlog_multiproof.proofs.ascending.is_one_leaf_each.Goals as goal

not_false : (b : Bool) → not b ≡ false → b ≡ true
not_false true e = refl
not_false false e = cc

pub returns-then-ne : goal.returns-then-ne
returns-then-ne g c =
    let indices = g.E.AscendingEntries.indices c.args.entries.now in
    let leaves = g.E.AscendingEntries.leaves c.args.entries.now in
    let k = c.loop-k.k - 1 in
    let next : suc k ≡ c.loop-k.k = omega (arith, c.loop-k.auto.k) in
    let differ : pointwise eqb c.leaf.result c.leaf-then-index.result ≡ false =
    not-true (pointwise eqb c.leaf.result c.leaf-then-index.result) (sym c.ne.ensures ∙ c.if-ne.true) in
    sym (neighbours_differ indices leaves k (g.met.E.AscendingEntries.in_pairs c.args.entries.now)
    (omega (arith, c.loop-k-test.true, c.len-k-end.ensures))
    (sym c.index.ensures ∙ c.if-index.true ∙ c.index-in-loop-k.ensures ∙ ap (λ i. get_or indices i 0) (sym next))
    (λ same. true≢false (sym ((bytes_decides c.leaf.result c.leaf-then-index.result).1 (c.leaf.ensures ∙ same
    ∙ ap (λ i. get_or leaves i []) next ∙ sym c.leaf-then-index.ensures)) ∙ differ)))

pub loop-k-preserved : goal.loop-k-preserved
loop-k-preserved g c = λ i inside e.
    let indices = g.E.AscendingEntries.indices c.args.entries.now in
    let leaves = g.E.AscendingEntries.leaves c.args.entries.now in
    elim (cases_eq (suc i) c.loop-k.k) [
      | inr before ↦ c.loop-k.invariant i (omega (arith, before)) e
      | inl last ↦
          let at : i ≡ c.loop-k.k - 1 = omega arith in
          elim c.else-index.branch [
            | else-index-via-else-index w ↦ absurd (w.if-index.false (c.index.ensures
                ∙ ap (λ x. get_or indices x 0) (sym at) ∙ e ∙ ap (λ x. get_or indices x 0) last
                ∙ sym c.index-in-loop-k.ensures))
            | else-index-via-then-index+else-ne w ↦
                let same : pointwise eqb w.leaf.result w.leaf-then-index.result ≡ true =
                not_false (pointwise eqb w.leaf.result w.leaf-then-index.result) (sym w.ne.ensures ∙ w.if-ne.false) in
                ap (λ x. get_or leaves x []) at ∙ sym w.leaf.ensures
                ∙ (bytes_decides w.leaf.result w.leaf-then-index.result).0 same ∙ w.leaf-then-index.ensures
                ∙ ap (λ x. get_or leaves x []) (sym last)
          ]
    ]

pub returns : goal.returns
returns g c =
    let indices = g.E.AscendingEntries.indices c.args.entries.now in
    let leaves = g.E.AscendingEntries.leaves c.args.entries.now in
    sym (neighbours_agree indices leaves (g.met.E.AscendingEntries.in_pairs c.args.entries.now)
    (g.met.E.AscendingEntries.ascending c.args.entries.now)
    (λ i inside e. c.loop-k.invariant i (omega (arith, c.loop-k-test.false, c.len-k-end.ensures)) e))
