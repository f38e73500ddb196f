-- The next wanted entry is copied to its place.
use Rattle.std.proofs.Common.{◌≡◌, ℕ, ◌-◌, ◌<◌, ◌++◌, [], ◌∙◌, All, ap, arith, drop, get_or, length, map, length-append}
use Rattle.std.proofs.Common.{length-drop, set, subst, sym, take, take_all}
use Rattle.std.proofs.lemmas.List.{get_or-append_right, get_or-map, length-map, length-set, map-set}
use Rattle.std.proofs.lemmas.List.Elements.{All-drop, All-weaker}
use Rattle.tlog_files.specs.Inner.Wanted.{IsAscending, IsKept}
use Rattle.tlog_files.proofs.FramingFacts.{bytes_of}
use Rattle.tlog_files.proofs.WantedFacts.{ascends_lower, kept_copy, next_left}
use Rattle.tlog_files.proofs.wanted.WantedEntries.copy.Goals as goal

pub wanted-preserved : goal.wanted-preserved
wanted-preserved c =
    let w = c.wanted.self in
    let left = w.left.now in
    let p = c.in-Some.next.now in
    let entries = c.args.entries.now in
    let E = map bytes_of entries in
    let at = c.saturating_sub-at.result in
    let copy = c.in_ok-self.field-0 in
    let rest = take (length left - 1) (drop 1 left) in
    let follow = take_all (length left - 1) (drop 1 left) (omega (arith, length-drop 1 left)) in
    let inside : at < length entries = omega (arith, c.if-at-entries.false) in
    let far : at ≡ p.0 - c.args.first = c.saturating_sub-at.ensures in
    let kept = length-set w.entries.items p.1 copy in
    let Old = λ (q : ℕ × ℕ). q.1 < length w.entries.items in
    let New = λ (q : ℕ × ℕ). q.1 < length (set w.entries.items p.1 copy) in
    record {
      places = subst (All New) (sym follow)
          (All-drop New 1 left (All-weaker Old New (λ q h. omega (arith, h, kept)) left c.wanted.invariant.places));
      holds = λ wanted ended is holds.
          let within : p.0 < length (ended ++ E) =
          omega (arith, far, inside, is, length-append ended E, length-map entries bytes_of) in
          let read = c.in_ok-self.ensures.items ∙ sym (get_or-map bytes_of entries at _ [] inside)
          ∙ ap (λ n. get_or E n []) far in
          let some = c.wanted.invariant.holds wanted ended is holds in
          let parts = next_left left rest p c.in-Some.ensures.value follow in
          let up = subst (IsAscending c.args.first) parts some.ascending in
          let copied = read ∙ sym (get_or-append_right ended E c.args.first p.0 [] (sym is) up.0) in
          record {
            kept = subst (λ xs. IsKept wanted (ended ++ E) xs rest)
                (sym (map-set (λ e. e.items) w.entries.items p.1 copy))
                (kept_copy wanted (ended ++ E) _ p rest copy.items within copied
                (subst (IsKept wanted (ended ++ E) _) parts
                some.kept));
            ascending = ascends_lower c.args.first p.0 rest up.0 up.1;
            begun = some.begun;
          };
    }
