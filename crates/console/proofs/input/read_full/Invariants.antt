-- Each read brings at least one byte of those that are missing. Assumes nothing.
use Rattle.std.proofs.Common.{length, ◌-◌, ◌≤◌, ◌≡◌}
use Rattle.console.specs.Got.{TakesTo}
use Rattle.console.proofs.input.read_full.Given as goal

abbrev pub invariant-loop-done : goal.invariant-loop-done
invariant-loop-done g l = (l.from ≤ l.done) × (l.done ≤ length l.fn.into) × (length l.into ≡ length l.fn.into) × TakesTo (g.R.Read.remaining l.fn.input) (g.R.Read.remaining l.input) l.from l.done l.fn.into l.into

abbrev pub decreases-loop-done : goal.decreases-loop-done
decreases-loop-done g l = length l.initial.into - l.done
