-- What is left of the line falls, and the room stays the one that was lent. Assumes nothing.
use Rattle.std.proofs.Common.{◌≡◌, length}
use Rattle.text.proofs.hex.line_bytes.Given as goal

abbrev pub invariant-loop-rest : goal.invariant-loop-rest
invariant-loop-rest l = (l.written.bytes.ghost_name ≡ l.initial.written.bytes.ghost_name) × (length l.written.bytes.now ≡ length l.fn.bytes)

abbrev pub decreases-loop-rest : goal.decreases-loop-rest
decreases-loop-rest l = length l.rest
