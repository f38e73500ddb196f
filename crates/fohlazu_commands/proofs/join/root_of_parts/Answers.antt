-- The tree is of the roots of the parts.
use Rattle.std.proofs.Common.{◌∙◌, [], ap}
use Rattle.sha2.specs.Sha256.{sha256}
use Rattle.tlog_tree.specs.Trees.{leaves_root}
use Rattle.fohlazu_commands.proofs.join.root_of_parts.Goals as goal

pub returns-in-Ok : goal.returns-in-Ok
returns-in-Ok c =
    c.root.ensures c.deref.result.now (c.in-Ok.ensures.grown [] c.new-frontier.ensures)
    ∙ ap (leaves_root sha256) (c.deref.ensures.value ∙ c.in_ok-roots.ensures)
