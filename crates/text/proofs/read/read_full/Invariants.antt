-- The bytes read stay within the room, and what is left of it falls. Assumes nothing.
use Rattle.std.proofs.Common.{length, ◌-◌, ◌≤◌}
use Rattle.text.proofs.read.read_full.Given as goal

abbrev pub invariant-loop-done : goal.invariant-loop-done
invariant-loop-done g l = l.done ≤ length l.fn.room

abbrev pub decreases-loop-done : goal.decreases-loop-done
decreases-loop-done g l = length l.fn.room - l.done
