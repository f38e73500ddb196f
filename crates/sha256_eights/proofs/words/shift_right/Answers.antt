use Rattle.std.proofs.Common.{ℕ, ◌/◌, ◌^◌}
use Rattle.sha256_eights.proofs.Lanewise.{itself, zipped, splatted}
use Rattle.sha256_eights.proofs.words.shift_right.Goals as goal

pub returns : goal.returns
returns c = (zipped (λ (x n : ℕ). x / 2 ^ n) (itself c.args.x c.fits-x.0) (splatted c.args.k)).each
