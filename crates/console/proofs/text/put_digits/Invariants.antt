-- The digits from the place on stand, and those of the rest belong before them. Assumes nothing.
use Rattle.std.proofs.Common.{length}
use Rattle.console.proofs.Digits.{Stands}
use Rattle.console.proofs.text.put_digits.Given as goal

abbrev pub invariant-loop-i : goal.invariant-loop-i
invariant-loop-i l = Stands l.room l.i l.rest (length l.fn.room) l.n
