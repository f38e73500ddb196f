use Rattle.std.proofs.Common.{◌≡◌, ◌++◌, drop, map, Err, List, Ok, Result, ℕ}
use Rattle.fohlazu_commands.specs.Outcomes.{bytes_in, parts_in}
use Rattle.fohlazu_commands.specs.declared.error.Error.{Error}
use Rattle.fohlazu_commands.proofs.join.read_parts.Given as goal

-- the parts after some that were read
abbrev pub onto : List (ℕ × List ℕ) → Result (List (ℕ × List ℕ)) Error → Result (List (ℕ × List ℕ)) Error
onto done (Ok ps) = Ok (done ++ ps)
onto done (Err error) = Err error

-- what follows is read after the parts so far
abbrev pub invariant-loop-k : goal.invariant-loop-k
invariant-loop-k l =
    onto l.parts.items (parts_in l.k (map bytes_in (drop l.k l.texts))) ≡ parts_in 0 (map bytes_in l.texts)
