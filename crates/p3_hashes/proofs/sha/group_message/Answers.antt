-- Each turn appends one digest, which has 32 bytes.
use Rattle.std.proofs.{Common.rules, Common.◌<◌, Common.◌∙◌, Common.[], Common.ap, Common.length}
use Rattle.std.proofs.lemmas.List.{get_or_default}
use Rattle.p3_hashes.proofs.Pieces.{concat_more}
use Rattle.p3_hashes.proofs.sha.group_message.Goals as goal

pub loop-digest-preserved : goal.loop-digest-preserved
loop-digest-preserved c =
    let digests = c.args.digests.now in
    let i = c.loop-digest.digest-index in
    let below : i < length digests = search rules in
    rw (concat_more digests i below) (search rules)

pub returns-clause-digests : goal.returns-clause-digests
returns-clause-digests c = λ k d below.
    ap length (get_or_default c.args.digests.now k d [] below) ∙ c.told-digests k below
