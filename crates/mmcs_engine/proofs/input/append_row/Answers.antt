-- The bytes so far are the numbers that were appended, and the digits of one that may go on.
use Rattle.std.proofs.Common.{◌+◌, ◌≡◌, ◌≤◌, ◌++◌, Option, ℕ, length, map, sym, refl, ◌∙◌, subst, arith}
use Rattle.std.specs.Prelude.{All}
use Rattle.std.proofs.lemmas.List.{length-map}
use Rattle.mmcs_engine.specs.Numbers.{IsNumberBelow}
use Rattle.mmcs_engine.specs.Input.{numbers_of, numerals_of}
use Rattle.mmcs_engine.proofs.RowFacts.{RowSoFar, none_told, row_start, row_gap, row_ended, row_more, row_refused}
use Rattle.mmcs_engine.proofs.RowFacts.{row_counted, row_end, row_end_number, row_fits, some_told, words_push}
use Rattle.mmcs_engine.proofs.input.append_row.Given.{Over}
use Rattle.mmcs_engine.proofs.input.append_row.Goals.{After-len, then-is_gap+in-Some+in_ok-push}
use Rattle.mmcs_engine.proofs.input.append_row.Goals.{then-is_gap+in_default, else-is_gap+else-is_none}
use Rattle.mmcs_engine.proofs.input.append_row.Goals.{in-Some-number+in_ok-push-2, in_default-number}
use Rattle.mmcs_engine.proofs.input.append_row.Goals as goal

pub loop-byte-init : goal.loop-byte-init
loop-byte-init g c = row_start (g.W.Word.MAX + 1) c.args.line.now (map g.W.Word.value c.args.values.now.items)

-- a byte that makes no number
pub returns-then-is_none-clause-none : goal.returns-then-is_none-clause-none
returns-then-is_none-clause-none g c =
    row_refused (g.W.Word.MAX + 1) c.args.line.now (map g.W.Word.value c.args.values.now.items) c.loop-byte.byte-index _
    (map g.W.Word.value c.loop-byte.values.items) c.loop-byte-test.true refl c.loop-byte.number
    (sym c.if-is_gap.ensures) c.loop-byte.invariant
    (none_told c.with_digit-number.result _ c.if-is_none.ensures (rw c.MAX.ensures at c.with_digit-number.ensures.none))

pub loop-byte-preserved : goal.loop-byte-preserved
loop-byte-preserved g c =
    let limit = g.W.Word.MAX + 1 in
    let line = c.args.line.now in
    let before = (map g.W.Word.value c.args.values.now.items) in
    let n = c.loop-byte.byte-index in
    let values = (map g.W.Word.value c.loop-byte.values.items) in
    elim c.if-is_gap.branch [
      | then-is_gap+in-Some+in_ok-push w ↦
          rw (
            w.values-is,
            w.number-is,
            w.in_ok-push.ensures.items,
            w.take.ensures.after,
            words_push g.W.Word.value c.loop-byte.values.items w.from_number.result w.in-Some.word
                w.from_number.ensures,
          )
          (row_ended limit line before n _ values c.loop-byte-test.true refl w.in-Some.word (sym w.if-is_gap.ensures)
          (subst (λ (o : Option ℕ). RowSoFar limit line n before values o) (sym w.take.ensures.value ∙ w.in-Some.is)
          c.loop-byte.invariant))
      | then-is_gap+in_default w ↦
          rw (w.values-is, w.number-is, w.take.ensures.after)
          (row_gap limit line before n _ values c.loop-byte-test.true refl (sym w.if-is_gap.ensures)
          (subst (λ (o : Option ℕ). RowSoFar limit line n before values o) (sym w.take.ensures.value ∙ w.in_default.is)
          c.loop-byte.invariant))
      | else-is_gap+else-is_none w ↦
          rw (w.values-is, w.number-is)
          (row_more limit line before n _ values c.loop-byte-test.true refl c.loop-byte.number (sym w.if-is_gap.ensures)
          c.loop-byte.invariant w.with_digit-number.result
          (some_told w.with_digit-number.result _ w.if-is_none.ensures
          (rw w.MAX.ensures at w.with_digit-number.ensures.some)))
    ]

-- the whole line was seen
whole : (g : Over) (c : After-len g) →
    ((map g.W.Word.value c.match-number.values.items) ≡ (map g.W.Word.value c.args.values.now.items)
    ++ numbers_of c.args.line.now) × All (IsNumberBelow (g.W.Word.MAX + 1)) (numerals_of c.args.line.now)
whole g c =
    let limit = g.W.Word.MAX + 1 in
    let line = c.args.line.now in
    let before = (map g.W.Word.value c.args.values.now.items) in
    let n = c.loop-byte.byte-index in
    let values = (map g.W.Word.value c.loop-byte.values.items) in
    let ended : length line ≤ n = omega (arith, c.loop-byte-test.false) in
    elim c.match-number.branch [
      | in-Some-number+in_ok-push-2 w ↦
          rw (
            w.values-is,
            w.in_ok-push-2.ensures.items,
            words_push g.W.Word.value c.loop-byte.values.items w.from_number-in-Some-number.result
                w.in-Some-number.word w.from_number-in-Some-number.ensures,
          )
          (row_end_number limit line before n values ended w.in-Some-number.word
          (subst (λ (o : Option ℕ). RowSoFar limit line n before values o) w.in-Some-number.is
          c.loop-byte.invariant))
      | in_default-number w ↦
          rw w.values-is
          (row_end limit line before n values ended
          (subst (λ (o : Option ℕ). RowSoFar limit line n before values o) w.in_default-number.is
          c.loop-byte.invariant))
    ]

pub overflow_sub-result : goal.overflow_sub-result
overflow_sub-result g c =
    (row_counted (g.W.Word.MAX + 1) c.args.line.now (map g.W.Word.value c.args.values.now.items)
    (map g.W.Word.value c.match-number.values.items) c.len.result c.len-len.result
    (omega (arith, c.len.ensures, c.match-number.values.ok.0, length-map c.match-number.values.items g.W.Word.value))
    (omega (arith, c.len-len.ensures, c.args.values.now.ok.0, length-map c.args.values.now.items g.W.Word.value))
    (whole g c)).0

pub returns-clause-row : goal.returns-clause-row
returns-clause-row g c =
    (row_counted (g.W.Word.MAX + 1) c.args.line.now (map g.W.Word.value c.args.values.now.items)
    (map g.W.Word.value c.match-number.values.items) c.len.result c.len-len.result
    (omega (arith, c.len.ensures, c.match-number.values.ok.0, length-map c.match-number.values.items g.W.Word.value))
    (omega (arith, c.len-len.ensures, c.args.values.now.ok.0, length-map c.args.values.now.items g.W.Word.value))
    (whole g (goal.at.returns-clause-row g c).After-len)).1

-- a number that was read is a word's
pub from_number-requires : goal.from_number-requires
from_number-requires g c =
    row_fits g.W.Word.MAX c.args.line.now c.loop-byte.byte-index (map g.W.Word.value c.args.values.now.items)
    (map g.W.Word.value c.loop-byte.values.items) c.in-Some.word
    (subst (λ (o : Option ℕ). RowSoFar (g.W.Word.MAX + 1) c.args.line.now c.loop-byte.byte-index
    (map g.W.Word.value c.args.values.now.items) (map g.W.Word.value c.loop-byte.values.items) o)
    (sym c.take.ensures.value ∙ c.in-Some.is) c.loop-byte.invariant)

pub from_number-requires-in-Some-number : goal.from_number-requires-in-Some-number
from_number-requires-in-Some-number g c =
    row_fits g.W.Word.MAX c.args.line.now c.loop-byte.byte-index (map g.W.Word.value c.args.values.now.items)
    (map g.W.Word.value c.loop-byte.values.items) c.in-Some-number.word
    (subst (λ (o : Option ℕ). RowSoFar (g.W.Word.MAX + 1) c.args.line.now c.loop-byte.byte-index
    (map g.W.Word.value c.args.values.now.items) (map g.W.Word.value c.loop-byte.values.items) o)
    c.in-Some-number.is c.loop-byte.invariant)
