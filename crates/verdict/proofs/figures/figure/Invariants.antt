-- The largest of the delays over the envelope's positions, kept as `Figured` says. Assumes nothing.
use Rattle.curve.specs.Drawn.{drawn}
use Rattle.verdict.specs.Figured.{Figured}
use Rattle.verdict.proofs.figures.figure.Given as goal

abbrev pub invariant-loop-x : goal.invariant-loop-x
invariant-loop-x l = Figured l.period.0 (drawn l.session.envelope) (drawn l.session.service) l.x l.largest
