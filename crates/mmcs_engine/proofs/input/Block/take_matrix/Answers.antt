-- The values of rows of one width are a matrix.
use Rattle.std.proofs.Common.{◌*◌, length, sym, ap, ◌∙◌, arith}
use Rattle.std.proofs.lemmas.List.{length-map}
use Rattle.p3_support.specs.RowMajor.{row_count}
use Rattle.mmcs_engine.specs.Input.{numbers_of}
use Rattle.mmcs_engine.proofs.MatrixFacts.{block_shown, length_of_rows}
use Rattle.mmcs_engine.proofs.input.Block.take_matrix.Goals as goal

pub new-requires-else-width-eq0 : goal.new-requires-else-width-eq0
new-requires-else-width-eq0 g c =
    let lines = c.requires.1 in
    let block = c.requires.2 in
    record {
      divides = (
        length lines,
        ap (λ v. length v.items) c.replace-values.ensures.value
            ∙ sym (length-map c.args.self.now.values.items g.W.Word.value) ∙ ap length block.values_are
            ∙ length_of_rows numbers_of c.args.self.now.width lines block.widths
            ∙ ap (λ w. length lines * w) (sym c.take-width.ensures.value),
      );
    }

pub returns-else-width-eq0-clause-matrix : goal.returns-else-width-eq0-clause-matrix
returns-else-width-eq0-clause-matrix g c = λ limit lines block.
    block_shown g.W.Word.value limit c.new-else-width-eq0.result lines c.args.self.now.values.items
    c.args.self.now.width (omega (arith, c.if-width-eq0.false, c.take-width.ensures.value))
    (c.new-else-width-eq0.ensures.values ∙ ap (λ v. v.items) c.replace-values.ensures.value)
    (c.new-else-width-eq0.ensures.width ∙ c.take-width.ensures.value)
    (sym (ap (λ v. length v.items) c.replace-values.ensures.value) ∙ c.new-else-width-eq0.ensures.height
    ∙ ap (λ w. row_count c.new-else-width-eq0.result * w) c.take-width.ensures.value) block
