use Rattle.std.proofs.Common.{◌≡◌, ◌++◌, map, zip}
use Rattle.std.specs.Iterator.Adapters.{zip_first, zip_second}
use Rattle.std.specs.Slice.Iter.{iter_rest}
use Rattle.std.specs.Vec.Iter.{into_iter_items}
use Rattle.tlog_text.specs.Texts.{entry_fields}
use Rattle.fohlazu_commands.specs.Inner.{entry_of}
use Rattle.fohlazu_commands.specs.Outcomes.{bytes_in}
use Rattle.fohlazu_commands.proofs.prove.numbered.Given as goal

-- the entries so far, and those that are left
abbrev pub invariant-loop-number : goal.invariant-loop-number
invariant-loop-number l =
    map entry_fields l.numbered.items ++ map entry_of (zip (iter_rest (zip_first l.number-iterator))
    (map bytes_in (into_iter_items (zip_second l.number-iterator))))
    ≡ map entry_of (zip l.numbers (map bytes_in l.fn.bytes.items))
