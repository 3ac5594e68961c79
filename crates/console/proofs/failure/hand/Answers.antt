-- What a write takes comes after what was taken before; one that failed took nothing. Assumes nothing.
use Rattle.std.proofs.lemmas.List.{take_rest}
use Rattle.console.proofs.Known.{took_more, took_kept}
use Rattle.console.proofs.failure.hand.Goals as goal
use Rattle.console.proofs.failure.hand.Goals.{in-Ok, in-Err}

pub loop-preserved : goal.loop-preserved
loop-preserved g c = elim c.match-write.branch [
  | in-Ok w ↦ rw w.rest-is (rw (take_rest c.loop.rest.now w.in-Ok.n) (took_more w.in-Ok.n c.loop.invariant w.in-Ok.ensures.bound w.in-Ok.ensures.bytes))
  | in-Err w ↦ rw w.rest-is (took_kept c.loop.invariant w.in-Err.ensures.bytes)
]
