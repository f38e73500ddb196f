-- Entry by entry: each is the one of its number, or differs from it.
use Rattle.std.proofs.Common.{◌-◌, ◌<◌, ◌≡◌, ◌∙◌, ◌++◌, ◌∷◌, [], Global, List, Vec, ap, arith, get_or, length, map}
use Rattle.std.proofs.Common.{refl, subst, sym, take, ℕ, All, take_all}
use Rattle.std.proofs.lemmas.List.{map_more}
use Rattle.std.proofs.lemmas.List.Elements.{All-push}
use Rattle.sha2.specs.Sha256.{sha256}
use Rattle.tlog.proofs.Entries.{length-entries}
use Rattle.tlog.proofs.TwoWalks.{leaf_at}
use Rattle.tlog.specs.Collisions.{entries_of}
use Rattle.tlog.specs.Rfc9162.{leaf_hash}
use Rattle.tlog_text.specs.Texts.{entry_fields}
use Rattle.tlog_text.specs.declared.entries.Entry.{Entry}
use Rattle.fohlazu_commands.proofs.CollisionFacts.{mapped_at}
use Rattle.fohlazu_commands.specs.Collisions.{IsEntryOf}
use Rattle.fohlazu_commands.specs.Inner.{HasLeafIn}
use Rattle.fohlazu_commands.proofs.collisions.bytes_collision.Goals as goal

-- the entry of a turn has a leaf hash of the file, and there is one of its number
turn : (v : List (Vec ℕ Global)) (proved : List Entry) (k : ℕ) (e : Entry) → k < length proved → e ≡ get_or proved k e →
    All (HasLeafIn (entries_of v)) (map entry_fields proved) →
    HasLeafIn (entries_of v) (entry_fields e) × (e.number - 1 < length v)
turn v proved k e room is have =
    let has = mapped_at (HasLeafIn (entries_of v)) entry_fields proved k e room is have in
    (has, omega (arith, has.from_1, has.within, length-entries v))

pub overflow_sub-entry : goal.overflow_sub-entry
overflow_sub-entry c =
    (turn c.args.entries.now c.args.proved.now _ _ c.loop-entry-test.true c.entry-item.is c.requires).0.from_1

pub offset_bounds-entries-entry : goal.offset_bounds-entries-entry
offset_bounds-entries-entry c =
    omega (arith, (turn c.args.entries.now c.args.proved.now _ _ c.loop-entry-test.true c.entry-item.is c.requires).1)

pub bounds-entries-entry : goal.bounds-entries-entry
bounds-entries-entry c =
    (turn c.args.entries.now c.args.proved.now _ _ c.loop-entry-test.true c.entry-item.is c.requires).1

pub entry_collision-requires : goal.entry_collision-requires
entry_collision-requires c =
    let v = c.args.entries.now in
    let (has, room) = turn v c.args.proved.now _ _ c.loop-entry-test.true c.entry-item.is c.requires in
    let at = leaf_at v (c.entry-item.result.number - 1) c.index-entries-entry.result room c.index-entries-entry.is in
    ap (leaf_hash sha256) c.deref.ensures.value ∙ has.leaf
    ∙ ap (leaf_hash sha256) (at ∙ sym c.deref-in-loop-entry.ensures.value)

pub returns-then-is_some-clause-none : goal.returns-then-is_some-clause-none
returns-then-is_some-clause-none c =
    let v = c.args.entries.now in
    let e = c.entry-item.result in
    let (has, room) = turn v c.args.proved.now _ _ c.loop-entry-test.true c.entry-item.is c.requires in
    let at = leaf_at v (e.number - 1) c.index-entries-entry.result room c.index-entries-entry.is in (
      λ none. let some = sym c.if-is_some.true ∙ c.is_some.ensures in absurd cc,
      λ own. c.in_ok-found.ensures.none.1 (c.deref.ensures.value
          ∙ (mapped_at (IsEntryOf (entries_of v)) entry_fields c.args.proved.now _ e c.loop-entry-test.true
          c.entry-item.is own).bytes ∙ at ∙ sym c.deref-in-loop-entry.ensures.value),
    )

pub loop-entry-preserved : goal.loop-entry-preserved
loop-entry-preserved c =
    let v = c.args.entries.now in
    let proved = c.args.proved.now in
    let i = c.loop-entry.entry-index in
    let e = c.entry-item.result in
    let (has, room) = turn v proved i e c.loop-entry-test.true c.entry-item.is c.requires in
    let at = leaf_at v (e.number - 1) c.index-entries-entry.result room c.index-entries-entry.is in
    let same = c.in_ok-found.ensures.none.0 (sym c.is_some.ensures ∙ c.if-is_some.false) in
    let own : IsEntryOf (entries_of v) (entry_fields e) = record {
      from_1 = has.from_1;
      within = has.within;
      bytes = sym c.deref.ensures.value ∙ same ∙ c.deref-in-loop-entry.ensures.value ∙ sym at;
    } in
    subst (All (IsEntryOf (entries_of v)))
    (sym (map_more entry_fields proved i e c.loop-entry-test.true
    ∙ ap (λ (x : Entry). map entry_fields (take i proved) ++ entry_fields x ∷ []) (sym c.entry-item.is)))
    (All-push (IsEntryOf (entries_of v)) (map entry_fields (take i proved)) (entry_fields e) c.loop-entry.invariant own)

pub returns-clause-none : goal.returns-clause-none
returns-clause-none c = (
  λ none. subst (λ (es : List Entry). All (IsEntryOf (entries_of c.args.entries.now)) (map entry_fields es))
      (take_all c.loop-entry.entry-index c.args.proved.now c.loop-entry-test.false) c.loop-entry.invariant,
  λ own. refl,
)
