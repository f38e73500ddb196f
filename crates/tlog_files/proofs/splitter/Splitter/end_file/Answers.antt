-- The open entry is the last, or is left out, or the file is refused.
use Rattle.std.proofs.Common.{◌≡◌, ◌⊎◌, ◌≤◌, ◌∙◌, [], ℕ, List, arith, false, inl, inr, leb-false, leb-true, nat_le}
use Rattle.std.proofs.Common.{refl, sym}
use Rattle.std.proofs.lemmas.List.{nil_from_length}
use Rattle.tlog_files.proofs.SplitterFacts.{all_when_closed, all_when_full, all_when_included, all_when_left_out}
use Rattle.tlog_files.proofs.SplitterFacts.{refused_when_open}
use Rattle.tlog_files.proofs.splitter.Splitter.end_file.Goals.{then-is_full-via-then-is_full}
use Rattle.tlog_files.proofs.splitter.Splitter.end_file.Goals.{then-is_full-via-else-is_full+then-self-eq0}
use Rattle.tlog_files.proofs.splitter.Splitter.end_file.Goals as goal

no_rest : (rest : List ℕ) (limit count : ℕ) → nat_le limit count ≡ false → (rest ≡ []) ⊎ (limit ≤ count) → rest ≡ []
no_rest rest limit count room (inl none) = none
no_rest rest limit count room (inr full) = absurd (omega (arith, full, leb-false limit count room))

pub returns-then-is_full-clause-all : goal.returns-then-is_full-clause-all
returns-then-is_full-clause-all c =
    let s = c.args.self.now in
    λ wanted front rest ended b end.
    rw c.new.ensures.items
    (elim c.then-is_full.branch [
      | then-is_full-via-then-is_full w ↦
          all_when_full wanted s front rest ended b
          (leb-true s.limit s.count (sym c.is_full.ensures ∙ w.if-is_full.true))
      | then-is_full-via-else-is_full+then-self-eq0 w ↦
          all_when_closed wanted s front rest ended b
          (no_rest rest s.limit s.count (sym c.is_full.ensures ∙ w.if-is_full.false) end)
          (nil_from_length b.open_bytes (omega (arith, w.if-self-eq0.true, b.holds.opened.counted)))
    ])

pub returns-in-Refuse-clause-refused : goal.returns-in-Refuse-clause-refused
returns-in-Refuse-clause-refused c =
    let s = c.args.self.now in
    let room = sym c.is_full.ensures ∙ c.if-is_full.false in
    λ wanted front rest ended b end.
    let (refused, all) = refused_when_open wanted s front rest ended b (no_rest rest s.limit s.count room end)
    (sym c.partial.ensures ∙ c.in-Refuse.is) (leb-false s.limit s.count room)
    (λ none. c.if-self-eq0.false (omega (arith, none, b.holds.opened.counted))) in
    inr (refl, refused, all)

pub returns-in-LeaveOut-clause-all : goal.returns-in-LeaveOut-clause-all
returns-in-LeaveOut-clause-all c =
    let s = c.args.self.now in
    λ wanted front rest ended b end.
    rw c.new-in-LeaveOut.ensures.items
    (all_when_left_out wanted s front rest ended b
    (no_rest rest s.limit s.count (sym c.is_full.ensures ∙ c.if-is_full.false) end)
    (sym c.partial.ensures ∙ c.in-LeaveOut.is))

pub returns-in_ok-end-in-Include-clause-all : goal.returns-in_ok-end-in-Include-clause-all
returns-in_ok-end-in-Include-clause-all c =
    let s = c.args.self.now in
    let w = c.end.new.self.wanted in
    let room = sym c.is_full.ensures ∙ c.if-is_full.false in
    λ wanted front rest ended b end.
    let with_end = c.in_ok-end-in-Include.ensures.holds wanted ended b.open_bytes b.holds in
    rw with_end.1
    (all_when_included wanted s front rest ended b w (no_rest rest s.limit s.count room end)
    (sym c.partial.ensures ∙ c.in-Include.is) (leb-false s.limit s.count room)
    (λ none. c.if-self-eq0.false (omega (arith, none, b.holds.opened.counted))) with_end.0.kept)
