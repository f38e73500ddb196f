-- One message of all bytes.
use Rattle.std.proofs.Common.{length, rules}
use Rattle.test_merkle.proofs.sha256.by_each_call.Goals as goal

pub hash_many-requires : goal.hash_many-requires
hash_many-requires g c = (search rules, (length c.args.message.now, search rules))
