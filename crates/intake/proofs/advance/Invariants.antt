-- Each turn of the loop reads what stood there at first, so after j turns j numbers of the new table are written; the last comes after the loop. Assumes nothing.
use Rattle.std.proofs.Common.{◌≡◌}
use Rattle.intake.specs.Advance.{advancing}
use Rattle.intake.proofs.advance.Given as goal

abbrev pub invariant-loop-j : goal.invariant-loop-j
invariant-loop-j l = l.ahead ≡ advancing l.own l.initial.ahead l.period l.rate l.total l.j
