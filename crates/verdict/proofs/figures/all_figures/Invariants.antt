-- One session after the other, as `Done` says; past the last the figures are all. Assumes nothing.
use Rattle.verdict.specs.Figured.{Done}
use Rattle.verdict.proofs.figures.all_figures.Given as goal

abbrev pub invariant-loop-i : goal.invariant-loop-i
invariant-loop-i l = Done l.sheet.bytes.now l.i l.figures
