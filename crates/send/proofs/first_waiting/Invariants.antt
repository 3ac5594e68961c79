-- None of the sessions so far has a packet that waits. Assumes nothing.
use Rattle.std.proofs.Common.{◌≡◌}
use Rattle.send.specs.Choice.{chosen_to}
use Rattle.send.proofs.first_waiting.Given as goal

abbrev pub invariant-loop-session : goal.invariant-loop-session
invariant-loop-session l = chosen_to l.run l.count l.session ≡ l.count
