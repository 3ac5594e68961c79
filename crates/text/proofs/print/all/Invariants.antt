-- Known contents grew by what the values so far print. Assumes nothing.
use Rattle.std.proofs.Common.{IfSome, OnOk, take}
use Rattle.std.specs.Io.KnownBytes.{Appends}
use Rattle.text.specs.Printed.{spaced}
use Rattle.text.proofs.print.all.Given as goal

abbrev pub invariant-loop-value : goal.invariant-loop-value
invariant-loop-value g l = OnOk l.done (IfSome (spaced g.T.Display.output (take l.value-index l.values)) (Appends (g.W.Write.contents l.fn.to) (g.W.Write.contents l.to)))
