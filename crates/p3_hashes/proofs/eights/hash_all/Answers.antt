use Rattle.std.proofs.Common.{arith}
use Rattle.sha256_eights.proofs.Written.{more_written}
use Rattle.p3_hashes.proofs.eights.hash_all.Goals as goal

pub returns : goal.returns
returns g c =
    more_written c.hash_eights.ensures c.hash_rest-2.ensures (omega arith) (omega (arith, c.hash_eights.ensures.long))
    c.hash_eights.ensures.long
