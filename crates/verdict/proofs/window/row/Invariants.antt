-- A row value by value: those looked up, then those a period apart from one that stands already. Assumes nothing.
use Rattle.curve.specs.Drawn.{drawn}
use Rattle.verdict.specs.Window.{Rowed}
use Rattle.verdict.proofs.window.row.Given as goal

abbrev pub invariant-near : goal.invariant-near
invariant-near l = Rowed l.period.0 (drawn l.curve) l.end l.place l.j l.initial.values l.values

abbrev pub invariant-far : goal.invariant-far
invariant-far l = Rowed l.fn.period.0 (drawn l.curve) l.end l.place l.j l.initial.values l.values
