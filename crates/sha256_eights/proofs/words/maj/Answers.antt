use Rattle.std.proofs.Common.{bit_and, bit_xor, slice_index, ◌∙◌}
use Rattle.sha256_eights.proofs.Lanewise.{itself, zipped}
use Rattle.sha256_eights.proofs.Majority.{maj_of_differences}
use Rattle.sha256_eights.proofs.words.maj.Goals as goal

pub returns : goal.returns
returns c = λ j below.
    let y = itself c.args.y c.fits-y.0 in
    let result = zipped bit_xor y (zipped bit_and (zipped bit_xor (itself c.args.x c.fits-x.0) y)
    (zipped bit_xor y (itself c.args.z c.fits-z.0))) in
    result.each j below ∙ maj_of_differences (slice_index c.args.x j) (slice_index c.args.y j) (slice_index c.args.z j)
