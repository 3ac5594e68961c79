-- The least of the first i numbers, one more each turn. Assumes nothing.
use Rattle.std.proofs.Common.{◌≡◌, ◌-◌, get_or}
use Rattle.curve.specs.Least.{least}
use Rattle.verdict.proofs.search.least_of.Given as goal

abbrev pub invariant-loop-i : goal.invariant-loop-i
invariant-loop-i l = l.best ≡ least (λ k. get_or l.tries k 0) (l.i - 1)
