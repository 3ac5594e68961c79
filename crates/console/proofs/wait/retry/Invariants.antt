-- The calls so far failed. Assumes nothing.
use Rattle.std.specs.Prelude.{List}
use Rattle.std.specs.List.{FoldsTo}
use Rattle.std.specs.declared.io.Error.{Error}
use Rattle.std.specs.declared.result.Result.TheVariants.{Err}
use Rattle.console.specs.Again.{CallsAt}
use Rattle.console.proofs.wait.retry.Given as goal

abbrev pub invariant-loop : goal.invariant-loop
invariant-loop g l = (failures : List Error) × FoldsTo (λ p e q. CallsAt (λ x z r y w. goal.F-post g l.call x z r y w) p (Err e) q) (l.fn.stream, l.fn.room) failures (l.stream, l.room)
