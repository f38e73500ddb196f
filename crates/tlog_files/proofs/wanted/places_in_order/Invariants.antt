use Rattle.std.proofs.Common.{◌≡◌, map}
use Rattle.std.specs.List.{range_with_len}
use Rattle.tlog_files.specs.Inner.Wanted.{place_of}
use Rattle.tlog_files.proofs.wanted.places_in_order.Given as goal

abbrev pub invariant-loop-place : goal.invariant-loop-place
invariant-loop-place l = l.places.items ≡ map (place_of l.wanted) (range_with_len 0 l.place)
