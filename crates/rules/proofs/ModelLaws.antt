-- Laws of specs/Model.antt. One slot as document 01 has it, rule by rule and in its order, over a sheet and the whole past: nothing of an older slot is forgotten. The rules are
-- definitions that compute, and at the end 01's examples are run on them: a wrong rule shows there as another run. Assumes nothing.
--
-- Sessions are indexed from 0 here; a packet carries its session as 01 counts it, from 1. What happened in slot u + 1 stands at index u of a list.
use Rattle.std.specs.Prelude.{refl}
use Rattle.curve.specs.Least.{least}
use Rattle.curve.specs.Total.{total}
use Rattle.curve.specs.Curve.{entry, value, at}
use Rattle.curve.specs.Delay.{come, find, delay}
use Rattle.sheet.specs.Sheet.{session}
use Rattle.rules.specs.Steps.{steps}
use Rattle.rules.specs.Count.{ind, count}
use Rattle.rules.specs.Pick.{keep, extract, send}
use Rattle.rules.specs.Deadline.{later, shift, if_any, deadline}
use Rattle.rules.specs.Model.{envelope_of, service_of, delay_of, took, of_session, waiting_of, headroom, headroom_of, over, takes, no_room, listed, up_to, joined, taken_in, packet, arrivals, then_by, compare_due, tie, first, sends, one_slot, after, Runs}

-- THE MODEL RUNS THEM SO
pub runs : Runs
unfolding after steps one_slot sends arrivals taken_in packet joined up_to listed no_room takes over waiting_of headroom_of headroom of_session took first tie
    compare_due then_by envelope_of service_of delay_of session least total count send extract keep at value entry come later shift find delay if_any deadline ind
runs = record { k2 = refl; k2-over = refl; k2-room = refl; k12 = refl; tied = refl; crowded = refl }
