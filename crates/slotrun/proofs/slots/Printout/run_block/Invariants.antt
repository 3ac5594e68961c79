-- The page keeps room for a slot. Assumes nothing.
use Rattle.std.proofs.Common.{◌+◌, ◌<◌, ◌≤◌, length}
use Rattle.std.specs.Slice.Iter.{chunks_exact_size}
use Rattle.slotrun.specs.Shows.{slot_bytes}
use Rattle.slotrun.proofs.slots.Printout.run_block.Given as goal

abbrev pub invariant-loop-offers : goal.invariant-loop-offers
invariant-loop-offers l = (length l.self.page.text + slot_bytes ≤ 65536) × (0 < chunks_exact_size l.offers-iterator)
