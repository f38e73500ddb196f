use Rattle.std.proofs.Common.{◌≡◌, take, map, string_bytes}
use Rattle.std.specs.Str.Parse.{digits_value}
use Rattle.mmcs_engine.proofs.command.Args.parse.Given as goal

abbrev pub invariant-loop-arg : goal.invariant-loop-arg
invariant-loop-arg l = l.indices.items ≡ map (λ w. digits_value 10 (string_bytes w)) (take l.arg-index l.index_args)
