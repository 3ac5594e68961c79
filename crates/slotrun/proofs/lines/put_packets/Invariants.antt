-- The lines of the packets so far stand, and the numbers of the others are left. Assumes nothing.
use Rattle.std.proofs.Common.{◌≡◌}
use Rattle.std.specs.Slice.Iter.{chunks_exact_rest, chunks_exact_size}
use Rattle.slotrun.proofs.Notes.{Listed}
use Rattle.slotrun.proofs.lines.put_packets.Given as goal

abbrev pub invariant-loop-note : goal.invariant-loop-note
invariant-loop-note g l = Listed l.fn.page l.slot l.notes l.sent (chunks_exact_rest l.note-iterator) l.page × (chunks_exact_size l.note-iterator ≡ 3)
