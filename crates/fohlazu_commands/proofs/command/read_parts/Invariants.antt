use Rattle.std.specs.Prelude.{All, map}
use Rattle.std.specs.Vec.Iter.{into_iter_items}
use Rattle.fohlazu_commands.proofs.RunFacts.{IsShort, MakesAll}
use Rattle.fohlazu_commands.specs.Outcomes.{bytes_in}
use Rattle.fohlazu_commands.proofs.command.read_parts.Given as goal

-- what is read of the inputs that are left makes all, after the texts so far, none of which is too long
abbrev pub invariant-loop-part : goal.invariant-loop-part
invariant-loop-part g l = record {
  makes : MakesAll g.R.Read.remaining (into_iter_items l.part-iterator) l.fn.parts.items l.texts.items;
  short : All IsShort (map bytes_in l.texts.items);
}
