-- The words of the parts are those of the rows.
use Rattle.std.proofs.Common.{◌∙◌, ap}
use Rattle.std.specs.List.{flat_map}
use Rattle.p3_support.specs.Batches.{heights_of}
use Rattle.p3_support.specs.Rows.{parts_of}
use Rattle.p3_merkle_verifier.proofs.PartFacts.{words_of_parts}
use Rattle.p3_merkle_verifier.proofs.openings.OpenedWords.new.Goals as goal

pub returns : goal.returns
returns g c =
    ap (flat_map (λ part. part)) c.new.ensures
    ∙ words_of_parts c.args.exponent (heights_of c.args.dimensions.now) (parts_of c.args.rows)
