-- The numbers so far came one after another. Assumes nothing.
use Rattle.std.proofs.Common.{◌≡◌, length, take}
use Rattle.text.specs.Numbers.{Numbers}
use Rattle.text.proofs.number.numbers.Given as goal

abbrev pub invariant-loop-value : goal.invariant-loop-value
invariant-loop-value g l = (length l.value-items ≡ g.row.N) × Numbers l.line (take l.value-index l.value-items) l.rest
