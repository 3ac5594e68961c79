-- The writer took the text's front, and the rest is left. Assumes nothing.
use Rattle.std.proofs.Common.{length}
use Rattle.console.proofs.Known.{Took}
use Rattle.console.proofs.output.write_all.Given as goal

abbrev pub invariant-loop-rest : goal.invariant-loop-rest
invariant-loop-rest g l = Took (g.W.Write.contents l.fn.output) (g.W.Write.contents l.output) l.text l.rest

abbrev pub decreases-loop-rest : goal.decreases-loop-rest
decreases-loop-rest g l = length l.rest
