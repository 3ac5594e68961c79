-- The reader goes from session to session as `Reached` says. Assumes nothing.
use Rattle.sheet.specs.Walk.{Reached}
use Rattle.sheet.proofs.read_sessions.Given as goal

abbrev pub invariant-sessions : goal.invariant-sessions
invariant-sessions l = Reached l.bytes l.i l.at l.starts
