use Rattle.std.proofs.Common.{rules}
use Rattle.mmcs_engine.proofs.fault.Fault.status.Goals as goal

pub returns-in-Usage : goal.returns-in-Usage
returns-in-Usage c = search rules
