-- The writer took the text's front, and the rest is left. Assumes nothing.
use Rattle.console.proofs.Known.{Took}
use Rattle.console.proofs.failure.hand.Given as goal

abbrev pub invariant-loop : goal.invariant-loop
invariant-loop g l = Took (g.W.Write.contents l.fn.writer) (g.W.Write.contents l.writer) l.text l.rest
