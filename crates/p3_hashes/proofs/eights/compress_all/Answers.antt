use Rattle.std.proofs.Common.{arith}
use Rattle.sha256_eights.proofs.Written.{more_written}
use Rattle.p3_hashes.proofs.eights.compress_all.Goals as goal

pub returns : goal.returns
returns g c =
    more_written c.compress_eights.ensures c.compress_rest-2.ensures (omega arith)
    (omega (arith, c.compress_eights.ensures.long)) c.compress_eights.ensures.long
