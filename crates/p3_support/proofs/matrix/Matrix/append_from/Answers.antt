-- Each turn appends one more element.
use Rattle.std.proofs.Common.{arith, ◌≡◌, ℕ, ◌+◌, ◌-◌, ◌++◌, ◌∙◌, [], ◌∷◌, ap, append-nil, append_assoc, drop, sym}
use Rattle.std.proofs.Common.{length-drop, take}
use Rattle.std.proofs.lemmas.List.{take_all}
use Rattle.std.specs.Prelude.{slice_get, Some}
use Rattle.p3_support.proofs.RowReads.{take_one_more}
use Rattle.p3_support.proofs.matrix.Matrix.append_from.Goals as goal

pub loop-next-init : goal.loop-next-init
loop-next-init g c = let none : c.args.column - c.args.column ≡ 0 = omega arith in
    record { within = omega arith; appended = rw none (sym (append-nil c.args.words.now.items)) }

pub loop-next-preserved : goal.loop-next-preserved
loop-next-preserved g c =
    let row = g.Self.Matrix.row_of c.args.self.now c.args.row in
    let column = c.args.column in
    let next = c.loop-next.next in
    let word = c.get.result in
    let xs = c.args.words.now.items in
    let n : ℕ = next - column in
    let at : slice_get row (column + n) ≡ Some word =
    ap (slice_get row) (omega (arith, c.loop-next.invariant.within)) ∙ c.get.ensures in
    let more : next + 1 - column ≡ n + 1 = omega (arith, c.loop-next.invariant.within) in
    record {
      within = omega (arith, c.loop-next.invariant.within);
      appended = c.in_ok-push.ensures.items
          ∙ ap (λ l. l ++ (word ∷ [])) c.loop-next.invariant.appended
          ∙ append_assoc xs (take n (drop column row)) (word ∷ [])
          ∙ ap (λ l. xs ++ l) (sym (take_one_more row column n word at)
          ∙ ap (λ k. take k (drop column row)) (sym more));
    }

pub returns : goal.returns
returns g c =
    let row = g.Self.Matrix.row_of c.args.self.now c.args.row in
    let column = c.args.column in
    let long = g.met.Self.Matrix.length_row_of c.args.self.now c.args.row c.requires.row_in in
    c.loop-next.invariant.appended
    ∙ ap (λ l. c.args.words.now.items ++ l)
    (take_all (c.loop-next.next - column) (drop column row) (omega (
      arith,
      long,
      length-drop column row,
      c.loop-next-test.false,
      c.width-next-end.ensures,
    )))
