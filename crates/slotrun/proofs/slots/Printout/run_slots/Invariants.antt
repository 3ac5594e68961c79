-- Each turn leaves less than a slot in the block. Assumes nothing.
use Rattle.std.proofs.Common.{◌<◌}
use Rattle.slotrun.proofs.slots.Printout.run_slots.Given as goal

abbrev pub invariant-loop : goal.invariant-loop
invariant-loop l = l.block.have < l.block.count
