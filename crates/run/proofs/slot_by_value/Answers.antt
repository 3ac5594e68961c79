-- The number and the place of the refusal. Assumes nothing.
use Rattle.run.specs.Exact.{promises}
use Rattle.run.proofs.slot_by_value.Goals as goal

pub returns-in-Ok : goal.returns-in-Ok
returns-in-Ok c = promises c.in-Ok.ensures

pub returns-in-Err : goal.returns-in-Err
returns-in-Err c = rw c.from.ensures (promises c.in-Err.ensures)
