-- Either the leaf hashes differ, and a leaf collision is looked for, or two different entries have one leaf hash.
use Rattle.std.proofs.Common.{refl, sym, ap, ◌∙◌, arith}
use Rattle.std.specs.Cmp.Lexicographic.{bytes_decides}
use Rattle.tlog.specs.Collisions.{entries_of}
use Rattle.tlog.specs.Rfc9162.{leaf_hash}
use Rattle.tlog.proofs.Accepted.{different}
use Rattle.tlog.proofs.Entries.{length-entries}
use Rattle.tlog.proofs.TwoWalks.{accepted_by, entry_fixed, leaf_at, same_none, unequal}
use Rattle.tlog.proofs.binding.entry_collision.Goals as goal

pub returns-then-eq-clause-none : goal.returns-then-eq-clause-none
returns-then-eq-clause-none g c =
    let is = accepted_by _ c.verify.ensures.accepted c.is_err.ensures.value c.if-is_err.false in (
      λ none small also.
          (bytes_decides c.args.entry.now c.as_slice.result.now).0 (sym c.eq.ensures ∙ c.if-eq.true)
          ∙ c.as_slice.ensures.value
          ∙ sym (leaf_at c.args.entries.now c.args.index c.index-entries-index.result is.1.within
          c.index-entries-index.is),
      λ fixed. refl,
    )

pub returns-then-ne-clause-none : goal.returns-then-ne-clause-none
returns-then-ne-clause-none g c =
    let is = accepted_by _ c.verify.ensures.accepted c.is_err.ensures.value c.if-is_err.false in
    let expected = c.leaf_hash.ensures
    ∙ ap (leaf_hash g.H.LogHash.hash) (c.deref.ensures.value ∙ sym (leaf_at c.args.entries.now c.args.index
    c.index-entries-index.result is.1.within c.index-entries-index.is)) in
    let other = unequal c.leaf_hash-leaf.result c.leaf_hash.result _ refl
    (different _ (sym c.if-ne.true ∙ c.ne.ensures)) in
    let both = entry_fixed g.H.LogHash.hash (entries_of c.args.entries.now) c.args.index c.args.entry.now
    c.leaf_hash-leaf.result c.args.proof.now c.leaf_hash-leaf.ensures (λ same. other (same ∙ sym expected)) in
    same_none c.leaf_collision.result both c.leaf_collision.ensures.none

pub returns-clause-none : goal.returns-clause-none
returns-clause-none g c =
    let is = accepted_by _ c.verify.ensures.accepted c.is_err.ensures.value c.if-is_err.false in
    let len = length-entries c.args.entries.now in
    let other = unequal c.args.entry.now c.as_slice.result.now c.eq.result c.eq.ensures c.if-eq.false in (
      λ no. cc,
      λ fixed. absurd (other (fixed (let small = is.0 in omega arith)
          (rw (c.leaf_hash-leaf.ensures, c.root.ensures, ← len) at is.1)
          ∙ leaf_at c.args.entries.now c.args.index c.index-entries-index.result is.1.within c.index-entries-index.is
          ∙ sym c.as_slice.ensures.value)),
    )
