-- Leaf hashes are compared first, then bytes.
use Rattle.std.proofs.Common.{◌∙◌, List, map, subst, sym, All}
use Rattle.tlog.specs.Collisions.{entries_of}
use Rattle.tlog_text.specs.Texts.{entries_fields, entry_fields}
use Rattle.tlog_text.specs.declared.entries.Entry.{Entry}
use Rattle.fohlazu_commands.proofs.CollisionFacts.{have_leaves, own_leaves}
use Rattle.fohlazu_commands.specs.Inner.{HasLeafIn}
use Rattle.fohlazu_commands.proofs.collisions.proved_collision.Goals as goal

pub returns-then-is_some-clause-none : goal.returns-then-is_some-clause-none
returns-then-is_some-clause-none c =
    let by_index = rw (c.deref-3.ensures.value, c.in_ok-indices.ensures, c.deref.ensures.value)
    at c.in_ok-found.ensures.none in
    let iff = rw (c.deref-4.ensures.value, c.in_ok-leaves.ensures, c.deref-2.ensures.value, c.deref-5.ensures.value)
    at by_index in (
      λ none. let some = sym c.if-is_some.true ∙ c.is_some.ensures in absurd cc,
      λ own. iff.1 (own_leaves (entries_of c.args.entries.now) (entries_fields c.args.proof.now) own),
    )

pub bytes_collision-requires : goal.bytes_collision-requires
bytes_collision-requires c =
    let D = entries_of c.args.entries.now in
    let by_index = rw (c.deref-3.ensures.value, c.in_ok-indices.ensures, c.deref.ensures.value)
    at c.in_ok-found.ensures.none in
    let iff = rw (c.deref-4.ensures.value, c.in_ok-leaves.ensures, c.deref-2.ensures.value, c.deref-5.ensures.value)
    at by_index in
    subst (λ (es : List Entry). All (HasLeafIn D) (map entry_fields es)) (sym c.deref-6.ensures.value)
    (have_leaves D (entries_fields c.args.proof.now) c.requires (iff.0 (sym c.is_some.ensures ∙ c.if-is_some.false)))

pub returns-clause-none : goal.returns-clause-none
returns-clause-none c = rw c.deref-6.ensures.value at c.bytes_collision.ensures.none
