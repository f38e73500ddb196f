use Rattle.std.proofs.Common.{◌≡◌, take}
use Rattle.p3_support.specs.Shown.{row_lists}
use Rattle.end_to_end.proofs.by_paths.copies_of.Given as goal

abbrev pub invariant-loop-list : goal.invariant-loop-list
invariant-loop-list g l = row_lists l.copies.items ≡ row_lists (take l.list-index l.lists)
