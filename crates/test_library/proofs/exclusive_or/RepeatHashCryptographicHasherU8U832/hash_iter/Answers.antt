use Rattle.std.proofs.Common.{ap, replicate}
use Rattle.test_library.proofs.exclusive_or.RepeatHashCryptographicHasherU8U832.hash_iter.Goals as goal

pub returns : goal.returns
returns g c =
    let run = c.first_byte.ensures in
    (run.0, run.1, run.2, ap (replicate 32) run.3)
