-- Each turn of the loop adds one session's shares and the packets that wait; sixteen sessions stay far below what 32 bits hold. Assumes nothing.
use Rattle.run.specs.Summed.{Summed}
use Rattle.run.proofs.tally.sum_up.Given as goal

abbrev pub invariant-loop-session : goal.invariant-loop-session
invariant-loop-session l =
    Summed l.run l.offers l.session l.sums.offered l.sums.taken_in l.sums.over l.sums.no_room l.sums.waiting
