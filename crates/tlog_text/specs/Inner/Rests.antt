-- What is left of a text.
use Rattle.std.specs.Prelude.{List, ℕ, Result}
use Rattle.std.specs.Result.{result_map_both}
use Rattle.tlog_text.specs.Reading.{Reads}
use Rattle.tlog_text.specs.declared.error.Stop.{Stop}

-- what is left after what was read
abbrev pub rest_of : {V : Type 0} → Reads V → Result (List ℕ) Stop
rest_of read = result_map_both (λ r. r.1) (λ stop. stop) read
