-- All entries are wanted, as many as the checkpoint has.
use Rattle.std.proofs.Common.{◌∙◌, Ok, arith, refl}
use Rattle.std.proofs.lemmas.Iterator.{items_from_collect, YieldsList-from_range}
use Rattle.tlog_text.specs.Texts.{checkpoint_fields}
use Rattle.fohlazu_commands.proofs.CollisionFacts.{read_all}
use Rattle.fohlazu_commands.proofs.collisions.read_entries_under.Goals as goal

pub returns : goal.returns
returns c =
    let size = c.in_ok-checkpoint.checkpoint.size in
    read_all c.args.source c.args.framing c.args.checkpoint.now c.args.file.now
    (checkpoint_fields c.in_ok-checkpoint.checkpoint) c.deref.result.now c.in_ok-log.log c.in_ok-checkpoint.ensures.said
    c.in_ok-log.ensures
    (c.deref.ensures.value
    ∙ items_from_collect {E = Unit {0}} (Ok c.in_ok-indices.indices) c.in_ok-indices.ensures.ran
    (YieldsList-from_range 0 size size refl (omega arith)))
