-- Each turn of the loop looks one packet up in what lies ahead, which the ring leaves alone, and writes its deadline; the next look-up begins where this one ended. Assumes nothing.
use mathlib.Core.Path.{◌≡◌}
use lib.ListN.{length}
use Rattle.layout.specs.Layout.{service_ahead}
use Rattle.curve.specs.Lookup.{Begins}
use Rattle.intake.specs.Append.{packet, appended}
use Rattle.intake.proofs.append.Given as goal

abbrev pub invariant-packets : goal.invariant-packets
invariant-packets l =
    (length l.block ≡ length l.initial.block)
    × (l.block ≡ appended l.initial.block l.fn.period l.done l.q)
    × Begins (service_ahead l.initial.block).table (packet l.initial.block l.q) l.start
