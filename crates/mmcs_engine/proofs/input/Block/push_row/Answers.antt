-- A line becomes a row, or is the first faulty one.
use Rattle.std.proofs.Common.{◌≡◌, [], length, sym, refl, ⊎_elim, inl, inr, arith}
use Rattle.std.proofs.lemmas.List.Elements.{All-get_or}
use Rattle.mmcs_engine.specs.Input.{numbers_of}
use Rattle.mmcs_engine.proofs.BlockFacts.{block_more}
use Rattle.mmcs_engine.proofs.input.Block.push_row.Goals as goal

-- the rows above have the width of the first
pub returns-then-expected-got-clause-fault : goal.returns-then-expected-got-clause-fault
returns-then-expected-got-clause-fault g c = λ lines block.
    let told = rw c.in-Some.is at c.in_ok-got.ensures.row in
    let some = block.some_above_0 (omega arith) in
    inr (
      refl,
      some,
      sym (All-get_or (λ l. length (numbers_of l) ≡ c.args.self.now.width) lines 0 [] some block.widths),
      told.1,
      omega arith,
      told.2,
    )

pub returns-clause-row : goal.returns-clause-row
returns-clause-row g c = λ lines block.
    let told = rw c.in-Some.is at c.in_ok-got.ensures.row in
    block_more block c.args.text.now c.requires.full told.2 told.0 (sym told.1)
    (⊎_elim (λ both. inr both.1) inl c.else-expected-ne0.either)
