-- The figures stand as far as they were put. Assumes nothing.
use Rattle.std.proofs.Common.{◌+◌, ◌*◌, ◌≤◌, length}
use Rattle.slotrun.specs.Text.{nexts}
use Rattle.console.specs.Put.{Put}
use Rattle.slotrun.proofs.lines.put_figures.Given as goal

abbrev pub invariant-loop-figure : goal.invariant-loop-figure
invariant-loop-figure g l = Put l.fn.page (nexts l.figures l.figure-index) l.page × (length l.page ≤ length l.fn.page + 11 * l.figure-index)
