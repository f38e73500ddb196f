use Rattle.std.proofs.Common.{◌∙◌, ap, arith, [], map}
use Rattle.std.specs.List.{fold}
use Rattle.p3_hashes.specs.Fold.{fold_hash, take_in}
use Rattle.p3_support.proofs.LaneReads.{alone}
use Rattle.p3_hashes.proofs.FoldSteps.{absorbed_alone, fold_hash-append}
use Rattle.p3_hashes.proofs.fold.hash_words.Goals as goal

pub returns : goal.returns
returns g c =
    let words = c.args.words.now in
    absorbed_alone c.absorb_words.new.state c.initial_state-state.result words (c.absorb_words.ensures 0 (omega arith))
    ∙ ap (map (λ s. fold take_in s words))
    (alone 0 c.initial_state-state.result (fold_hash g.row.D []) c.initial_state-state.ensures)
    ∙ fold_hash-append g.row.D [] words
