-- Each turn writes one more element.
use Rattle.std.proofs.Common.{arith, ◌++◌, ◌∙◌, [], ◌∷◌, ap, drop, length-drop, length-set, sym}
use Rattle.std.proofs.lemmas.List.{take_all, take_more_set}
use Rattle.p3_support.proofs.RowReads.{take_one_more}
use Rattle.p3_support.proofs.matrix.Matrix.write_from.Goals as goal

pub loop-i-preserved : goal.loop-i-preserved
loop-i-preserved g c =
    let row = g.Self.Matrix.row_of c.args.self.now c.args.row in
    let out = c.loop-i.out in
    let i = c.loop-i.i in
    let word = c.get.result in
    record {
      long = length-set out i word ∙ c.loop-i.invariant.long;
      written = take_more_set out i word (omega arith) ∙ ap (λ l. l ++ (word ∷ [])) c.loop-i.invariant.written
          ∙ sym (take_one_more row c.args.column i word c.get.ensures);
    }

pub returns : goal.returns
returns g c =
    let rest = drop c.args.column (g.Self.Matrix.row_of c.args.self.now c.args.row) in
    let out = c.loop-i.out in
    let i = c.loop-i.i in
    let long = g.met.Self.Matrix.length_row_of c.args.self.now c.args.row c.requires.row_in in
    sym (take_all i out (omega (arith, c.loop-i-test.false, c.loop-i.invariant.long)))
    ∙ c.loop-i.invariant.written
    ∙ take_all i rest (omega (
      arith,
      c.loop-i-test.false,
      c.requires.row_fills,
      long,
      length-drop c.args.column (g.Self.Matrix.row_of c.args.self.now c.args.row),
    ))
