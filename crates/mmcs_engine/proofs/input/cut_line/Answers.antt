-- A line ends at the first line feed, if there is one.
use Rattle.std.proofs.Common.{◌≡◌, ◌==◌, false, length, arith, subst}
use Rattle.std.proofs.lemmas.List.{take_all}
use Rattle.std.proofs.lemmas.List.Splits.{slice_split_none}
use Rattle.std.specs.Prelude.{All}
use Rattle.mmcs_engine.proofs.InputFacts.{cut_at, no_line_feed}
use Rattle.mmcs_engine.proofs.input.cut_line.Goals as goal

pub returns-in-Some-clause-cut : goal.returns-in-Some-clause-cut
returns-in-Some-clause-cut c =
    let first = c.in-Some.ensures in
    cut_at c.args.input.now c.in-Some.at first.0.high first.0.before first.1

pub returns-in-None-clause-last : goal.returns-in-None-clause-last
returns-in-None-clause-last c =
    let input = c.args.input.now in
    slice_split_none (λ b. b == 10) input
    (subst (All (λ b. (b == 10) ≡ false)) (take_all (length input) input (omega arith))
    (no_line_feed input (length input) (omega arith) c.in-None.ensures))
