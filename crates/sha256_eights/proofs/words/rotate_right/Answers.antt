use Rattle.std.proofs.Common.{◌≡◌, ℕ, ◌-◌, ◌*◌, ◌/◌, ◌%◌, ◌^◌, bit_or, arith}
use Rattle.sha256_eights.proofs.Lanewise.{itself, zipped, splatted}
use Rattle.sha256_eights.proofs.words.rotate_right.Goals as goal

pub returns : goal.returns
returns c = λ j below.
    let x = itself c.args.x c.fits-x.0 in
    let right = zipped (λ (a n : ℕ). a / 2 ^ n) x (splatted c.args.k) in
    let left = zipped (λ (a n : ℕ). a * 2 ^ n % 2 ^ 32) x (splatted (32 - c.args.k)) in
    let by : c.args.k % 32 ≡ c.args.k = omega arith in
    let back : (32 - c.args.k) % 32 ≡ 32 - c.args.k = omega arith in
    rw (by, back) ((zipped bit_or right left).each j below)
