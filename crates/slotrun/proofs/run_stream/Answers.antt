-- The run that was opened has a right number of sessions. Assumes nothing.
use Rattle.slotrun.specs.Laws.{running}
use Rattle.slotrun.proofs.run_stream.Goals as goal

pub run_slots-requires : goal.run_slots-requires
run_slots-requires c =
    let r = running c.in-Ok.ensures in
    (r.0, r.1)
