-- One more call failed, or the last one answered. Assumes nothing.
use Rattle.std.proofs.Common.{◌≡◌, refl, rules}
use Rattle.std.proofs.lemmas.Fn.{FoldsTo-push}
use Rattle.console.proofs.wait.retry.Goals as goal
use Rattle.console.proofs.wait.retry.Goals.{in_default-via-in-Err+else-again, in_default-via-in-Ok-1}

pub loop-preserved : goal.loop-preserved
loop-preserved g c = (_, FoldsTo-push _ _ _ _ c.in-Err.error _ c.loop.invariant.1 (rw (← c.in-Err.is) (_, _, _, _, refl, refl, refl, refl, c.call.ensures)))

pub returns : goal.returns
returns g c = record { failures = _; between = _; failed = c.loop.invariant.1; last = (_, _, _, _, refl, refl, refl, refl, c.call-2.ensures) }

pub returns-in_default : goal.returns-in_default
returns-in_default g c =
    let same : c.in_default-1.done ≡ c.call.result = elim c.in_default-1.branch [ in_default-via-in-Err+else-again w ↦ search rules | in_default-via-in-Ok-1 w ↦ search rules ] in
    record { failures = _; between = _; failed = c.loop.invariant.1; last = rw same (_, _, _, _, refl, refl, refl, refl, c.call.ensures) }
