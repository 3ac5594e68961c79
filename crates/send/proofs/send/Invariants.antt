-- Packet after packet, the run and the notes are those of the sending so far. Assumes nothing.
use Rattle.std.proofs.Common.{◌≡◌, length}
use Rattle.send.specs.Send.{Sending}
use Rattle.send.proofs.send.Given as goal

abbrev pub invariant-loop-k : goal.invariant-loop-k
invariant-loop-k l = (length l.run ≡ length l.initial.run) × (length l.sent ≡ length l.initial.sent) × Sending l.initial.run l.initial.sent l.count l.k l.run l.sent
