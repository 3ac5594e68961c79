-- Each turn of the loop lends a block that the turns before left alone, and tells its three numbers. Assumes nothing.
use Rattle.std.proofs.Common.{◌≡◌, length}
use Rattle.intake.specs.Intakes.{intakes_of, outcomes_of}
use Rattle.run.proofs.intakes.intake_all.Given as goal

abbrev pub invariant-loop-session : goal.invariant-loop-session
invariant-loop-session l =
    (length l.run ≡ length l.initial.run)
    × (length l.outcomes ≡ length l.initial.outcomes)
    × (l.run ≡ intakes_of l.initial.run l.offers l.period l.done l.session)
    × (l.outcomes ≡ outcomes_of l.initial.run l.offers l.initial.outcomes l.session)
