-- After i turns the first i values are written. Assumes nothing.
use Rattle.std.proofs.Common.{◌≡◌, ◌+◌, get_or}
use Rattle.words.specs.Words.{words}
use Rattle.layout.specs.Over.{puts}
use Rattle.opening.proofs.writing.copy_table.Given as goal

abbrev pub invariant-loop-i : goal.invariant-loop-i
invariant-loop-i l = l.block ≡ puts l.initial.block (λ j. l.at + j) (λ j. get_or (words l.table.0.now) j 0) l.i
