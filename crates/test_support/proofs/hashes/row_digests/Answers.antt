-- One message of all words.
use Rattle.std.proofs.Common.{length, rules}
use Rattle.test_support.proofs.hashes.row_digests.Goals as goal

pub hash_many-requires : goal.hash_many-requires
hash_many-requires g c = (search rules, (length c.args.row.now, search rules))
