-- Whole entries are read, where none is open and there are any, else bytes of the open one.
use Rattle.std.proofs.Common.{◌≡◌, ◌+◌, ◌-◌, ◌∙◌, ◌++◌, [], List, ℕ, Bor, ap, arith, drop, length, length-append, map}
use Rattle.std.proofs.Common.{refl, subst, sym, take}
use Rattle.std.proofs.lemmas.Bool.{eqb-false}
use Rattle.std.proofs.lemmas.Simd.{map-map}
use Rattle.std.proofs.lemmas.List.{length-map, nil_from_length}
use Rattle.sha2.specs.Sha256.{sha256}
use Rattle.tlog.specs.Rfc9162.{leaf_hash}
use Rattle.tlog_files.specs.Inner.Splitting.{HoldsOpen}
use Rattle.tlog_files.specs.Inner.Wanted.{HoldsWanted}
use Rattle.tlog_files.specs.declared.splitter.Splitter.{Splitter}
use Rattle.tlog_files.proofs.{FramingFacts.bytes_of, FramingFacts.fewer_left}
use Rattle.tlog_files.proofs.SplitterFacts.{fewer_after_whole, open_ended, open_grown, ready_after, whole_read}
use Rattle.tlog_files.proofs.splitter.Splitter.read.Goals as goal

pub returns-then-not-is_empty-clause-read : goal.returns-then-not-is_empty-clause-read
returns-then-not-is_empty-clause-read c =
    let s = c.args.self.now in
    let found = c.in_ok-entries.entries.items in
    let entries = map bytes_of found in
    let (few, head) = c.in_ok-entries.ensures in
    let many : c.len.result ≡ length entries =
    c.len.ensures ∙ c.in_ok-entries.entries.ok.0 ∙ sym (length-map found bytes_of) in
    let hashed = c.in_ok-leaf_hashes.ensures
    ∙ ap (map (λ (e : Bor (List ℕ)). leaf_hash sha256 e.now)) c.deref-then-not-is_empty.ensures.value
    ∙ sym (map-map (leaf_hash sha256) bytes_of found) in
    λ wanted front ended b.
    let none = nil_from_length b.open_bytes (omega (arith, c.if-self-eq0.true, b.holds.opened.counted)) in
    let t : Splitter = record s { count = s.count + c.len.result; wanted = c.copy.new.self } in
    whole_read wanted s t front c.args.bytes.now c.in_ok-entries.rest.now ended entries _ c.requires.ready.framing
    refl b none head hashed (record {
      counted = omega (arith, b.holds.counted, many, length-append ended entries);
      within = omega
          (arith, b.holds.counted, b.holds.within, few, length-map found bytes_of, length-append ended entries);
      opened = subst (HoldsOpen s.open_entry) none b.holds.opened;
      kept = subst (λ xs. HoldsWanted c.copy.new.self wanted (ended ++ map bytes_of xs) []) c.deref.ensures.value
          (c.in_ok-copy.ensures.holds wanted ended b.holds.counted
          (subst (HoldsWanted s.wanted wanted ended) none b.holds.kept));
    })

pub returns-then-not-is_empty-clause-ready : goal.returns-then-not-is_empty-clause-ready
returns-then-not-is_empty-clause-ready c =
    ready_after c.args.self.now _ c.args.bytes.now c.in_ok-entries.rest.now _ c.requires.ready refl
    c.in_ok-copy.ensures.places (returns-then-not-is_empty-clause-read c)

pub returns-then-not-is_empty-clause-fewer : goal.returns-then-not-is_empty-clause-fewer
returns-then-not-is_empty-clause-fewer c =
    let found = c.in_ok-entries.entries in
    let some = eqb-false found.len 0 (sym c.is_empty.ensures ∙ c.if-not-is_empty.true) in
    fewer_after_whole c.args.self.now.framing c.args.bytes.now c.in_ok-entries.rest.now (map bytes_of found.items)
    c.requires.ready.framing c.in_ok-entries.ensures.1
    (omega (arith, some, found.ok.0, length-map found.items bytes_of))

pub returns-in_ok-end-in-Some-clause-read : goal.returns-in_ok-end-in-Some-clause-read
returns-in_ok-end-in-Some-clause-read c =
    let s = c.args.self.now in
    let t = c.end.new.self in
    let bytes = c.args.bytes.now in
    let more = c.in-Some.more.now in
    let rest = c.in-Some.rest.now in
    λ wanted front ended b.
    let parts = c.in-Some.ensures b.open_bytes b.holds.opened.counted b.at.opens in
    let with_end = c.in_ok-end-in-Some.ensures.holds wanted ended (b.open_bytes ++ more) (record {
      counted = b.holds.counted;
      within = b.holds.within;
      opened = c.push.ensures b.open_bytes b.holds.opened;
      kept = c.in_ok-push-in-Some.ensures.holds wanted ended b.open_bytes b.holds.counted b.holds.kept;
    }) in
    rw with_end.1
    (open_ended wanted s t front bytes more rest ended c.requires.ready.framing
    c.in_ok-end-in-Some.ensures.unchanged.0 b parts.0 parts.1 with_end.0)

pub returns-in_ok-end-in-Some-clause-ready : goal.returns-in_ok-end-in-Some-clause-ready
returns-in_ok-end-in-Some-clause-ready c =
    ready_after c.args.self.now c.end.new.self c.args.bytes.now c.in-Some.rest.now _ c.requires.ready
    c.in_ok-end-in-Some.ensures.unchanged.0 c.in_ok-end-in-Some.ensures.places (returns-in_ok-end-in-Some-clause-read c)

pub returns-in_ok-end-in-Some-clause-fewer : goal.returns-in_ok-end-in-Some-clause-fewer
returns-in_ok-end-in-Some-clause-fewer c =
    let (wanted, front, ended, b) = c.requires.ready.stands in
    let parts = c.in-Some.ensures b.open_bytes b.holds.opened.counted b.at.opens in
    fewer_left c.args.self.now.framing b.open_bytes c.in-Some.more.now c.in-Some.rest.now c.args.bytes.now b.at.opens
    parts.1 parts.0

nothing_left : (bytes : List ℕ) → take (length bytes - length bytes) (drop (length bytes) bytes) ≡ []
nothing_left bytes =
    let none : length bytes - length bytes ≡ 0 = omega arith in
    ap (λ n. take n (drop (length bytes) bytes)) none

pub returns-in_ok-push-in-None-clause-read : goal.returns-in_ok-push-in-None-clause-read
returns-in_ok-push-in-None-clause-read c =
    let s = c.args.self.now in
    let bytes = c.args.bytes.now in
    λ wanted front ended b.
    rw c.new.ensures.items
    (open_grown wanted s _ front bytes _ ended refl b (nothing_left bytes)
    (c.in-None.ensures b.open_bytes b.holds.opened.counted b.at.opens) (record {
      counted = b.holds.counted;
      within = b.holds.within;
      opened = c.push-in-None.ensures b.open_bytes b.holds.opened;
      kept = c.in_ok-push-in-None.ensures.holds wanted ended b.open_bytes b.holds.counted b.holds.kept;
    }))

pub returns-in_ok-push-in-None-clause-ready : goal.returns-in_ok-push-in-None-clause-ready
returns-in_ok-push-in-None-clause-ready c =
    ready_after c.args.self.now _ c.args.bytes.now _ _ c.requires.ready refl c.in_ok-push-in-None.ensures.places
    (returns-in_ok-push-in-None-clause-read c)
