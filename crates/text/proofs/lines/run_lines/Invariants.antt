-- Where the lines to come are run from here on and none has failed, all are. Assumes nothing.
use Rattle.std.proofs.Common.{List, ℕ, ◌==◌, length, Ok, OnOk}
use Rattle.std.specs.List.{FoldsTo, slice_split}
use Rattle.text.specs.Runs.{RunsLine}
use Rattle.text.proofs.lines.run_lines.Given as goal

abbrev pub turn : (g : goal.Over) → g.row.F.Denot × g.row.W.Denot → List ℕ → g.row.F.Denot × g.row.W.Denot → Type 0
turn g = RunsLine g.W.Write.contents (λ f w line v h. goal.F-step g f w line (Ok tt) v h)

abbrev pub invariant-loop-rest : goal.invariant-loop-rest
invariant-loop-rest g l =
    goal.F-IsAlwaysCallable g l.run
    × OnOk l.done ((last : _) → FoldsTo (turn g) (l.run, l.to) (slice_split (λ b. b == 10) l.rest) last → FoldsTo (turn g) (l.fn.run, l.fn.to) (slice_split (λ b. b == 10) l.text) last)

abbrev pub decreases-loop-rest : goal.decreases-loop-rest
decreases-loop-rest g l = length l.rest
