use Rattle.std.proofs.Common.{bit_xor}
use Rattle.sha256_eights.proofs.Lanewise.{itself, zipped}
use Rattle.sha256_eights.proofs.words.xor3.Goals as goal

pub returns : goal.returns
returns c = (zipped bit_xor (zipped bit_xor (itself c.args.x c.fits-x.0) (itself c.args.y c.fits-y.0))
    (itself c.args.z c.fits-z.0)).each
