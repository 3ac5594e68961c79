-- The bytes so far are as they are shown. Assumes nothing.
use Rattle.std.proofs.Common.{ℕ, ◌<◌, get_or}
use Rattle.console.specs.Shown.{Shown}
use Rattle.console.proofs.arguments.tell_unknown.Given as goal

abbrev pub invariant-loop-b : goal.invariant-loop-b
invariant-loop-b g l = (k : ℕ) → k < l.b-index → Shown (get_or l.b-items k 0)
