-- Exit codes.
use Rattle.std.specs.Prelude.{ℕ}
use Rattle.mmcs_engine.specs.declared.fault.Fault.{Fault}
use Rattle.mmcs_engine.specs.declared.fault.Fault.TheVariants.{Usage}

-- 2 for `Usage`, else 1
abbrev pub status_of : Fault → ℕ
status_of Usage = 2
status_of fault = 1
