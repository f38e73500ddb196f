-- The honest proof of the entry there is a second accepted one, with another leaf hash.
use Rattle.std.proofs.Common.{refl, sym, ap, ◌∙◌}
use Rattle.std.specs.Cmp.Lexicographic.{bytes_decides}
use Rattle.tlog.specs.Rfc9162.{leaf_hash}
use Rattle.tlog.proofs.TwoWalks.{leaf_at, leaf_fixed, same_none, unequal}
use Rattle.tlog.proofs.binding.leaf_collision.Goals as goal

pub returns-then-eq-clause-none : goal.returns-then-eq-clause-none
returns-then-eq-clause-none g c = (
  λ none small is.
      (bytes_decides c.args.leaf.now c.leaf_hash-expected.result).0 (sym c.eq.ensures ∙ c.if-eq.true)
      ∙ c.leaf_hash-expected.ensures
      ∙ ap (leaf_hash g.H.LogHash.hash) (c.deref.ensures.value ∙ sym (leaf_at c.args.entries.now c.args.index
      c.index-entries-index.result c.if-index-entries.false c.index-entries-index.is)),
  λ fixed. refl,
)

pub returns-clause-none : goal.returns-clause-none
returns-clause-none g c =
    let expected = c.leaf_hash-expected.ensures
    ∙ ap (leaf_hash g.H.LogHash.hash) (c.deref.ensures.value ∙ sym (leaf_at c.args.entries.now c.args.index
    c.index-entries-index.result c.if-index-entries.false c.index-entries-index.is)) in
    let other = unequal c.args.leaf.now c.leaf_hash-expected.result c.eq.result c.eq.ensures c.if-eq.false in
    let both = leaf_fixed g.H.LogHash.hash c.args.entries.now c.args.index c.args.leaf.now c.args.proof.now
    c.leaf_hash-expected.result c.deref-2.result.now c.root-own_root.result c.if-index-entries.false expected
    (c.deref-2.ensures.value ∙ c.in_ok-honest.ensures) c.root-own_root.ensures other in
    same_none c.proof_collision.result both c.proof_collision.ensures.none
