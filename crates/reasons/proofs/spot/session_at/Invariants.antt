-- The walk goes from session to session as `Reached` says. Assumes nothing.
use Rattle.reasons.specs.Spot.{Reached}
use Rattle.reasons.proofs.spot.session_at.Given as goal

abbrev pub invariant-loop-index : goal.invariant-loop-index
invariant-loop-index l = Reached l.bytes l.place l.index l.start
