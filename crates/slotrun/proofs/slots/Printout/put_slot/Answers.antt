-- The text is that of what the slot answered. Assumes nothing.
use Rattle.std.proofs.Common.{refl, arith}
use Rattle.std.specs.Prelude.{Ok, Err}
use Rattle.run.specs.Slot.{slots-few}
use Rattle.slotrun.specs.Text.{slot_text, refusal_of}
use Rattle.slotrun.specs.Laws.{shows}
use Rattle.slotrun.proofs.slots.Printout.put_slot.Goals as goal

pub put_packets-requires : goal.put_packets-requires
put_packets-requires c =
    let did = rw c.in-Ok.is at c.slot_by_value-slotted.ensures in
    (omega arith, (slots-few _ _ _ _ _ _ _ _ _ _ did.machine _ refl, omega (arith, c.requires)))

pub returns-in-Ok : goal.returns-in-Ok
unfolding slot_text refusal_of
returns-in-Ok c =
    let did = rw c.in-Ok.is at c.slot_by_value-slotted.ensures in
    let p = c.put_packets.ensures in
    shows (Ok c.in-Ok.sent) did (omega arith) (omega arith) p.put refl p.few

pub returns-in-Err : goal.returns-in-Err
unfolding slot_text refusal_of
returns-in-Err c =
    let did = rw c.in-Err.is at c.slot_by_value-slotted.ensures in
    let p = c.put_refused.ensures in
    shows (Err c.in-Err.refusal) did (omega arith) (omega arith) (rw c.number.ensures at p.put) refl (omega (arith, p.few))
