use Rattle.std.proofs.Common.{bit_and, bit_xor, w32}
use Rattle.std.specs.Int.{bit_not}
use Rattle.sha256_eights.proofs.Lanewise.{itself, zipped, mapped}
use Rattle.sha256_eights.proofs.words.ch.Goals as goal

pub returns : goal.returns
returns c =
    let x = itself c.args.x c.fits-x.0 in
    (zipped bit_xor (zipped bit_and x (itself c.args.y c.fits-y.0))
    (zipped bit_and (mapped (bit_not w32) x) (itself c.args.z c.fits-z.0))).each
