-- The choice among the sessions so far. Assumes nothing.
use Rattle.std.proofs.Common.{◌≡◌, ◌<◌}
use Rattle.send.specs.Choice.{head_due, chosen_to}
use Rattle.send.proofs.pick.Given as goal

abbrev pub invariant-loop-session : goal.invariant-loop-session
invariant-loop-session l = (l.best < l.count) × (chosen_to l.run l.count l.session ≡ l.best) × (l.least ≡ head_due l.run l.best)
