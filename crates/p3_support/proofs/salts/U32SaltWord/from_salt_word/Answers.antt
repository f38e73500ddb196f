use Rattle.std.proofs.lemmas.Nat.{and_mask}
use Rattle.p3_support.proofs.salts.U32SaltWord.from_salt_word.Goals as goal

pub returns : goal.returns
returns c = and_mask c.args.w 32
