-- Where the place is in no later session, the walk ends; else the next session is reached. Assumes nothing.
use Rattle.std.proofs.Common.{arith}
use Rattle.reasons.specs.Spot.{reached-first, reached-next, next_start}
use Rattle.reasons.proofs.spot.session_at.Goals as goal

pub loop-index-init : goal.loop-index-init
loop-index-init c = reached-first c.args.bytes.now c.args.place

pub returns-then-place-after : goal.returns-then-place-after
returns-then-place-after c =
    record { reached = c.loop-index.invariant; to = λ _. rw (← next_start c.loop-index.invariant c.record_at.ensures.0) c.if-place-after.true }

pub loop-index-preserved : goal.loop-index-preserved
loop-index-preserved c = reached-next c.loop-index.invariant (omega arith) c.record_at.ensures.0 c.record_at.ensures.1 (omega arith)
