-- Before value i is tried the table's first fault is that of the values from i on. Assumes nothing.
use Rattle.std.proofs.Common.{◌≡◌, ◌+◌, ◌*◌, drop}
use Rattle.words.specs.Words.{words}
use Rattle.sheet.specs.Refusal.{first}
use Rattle.sheet.specs.Reading.{value_lines}
use Rattle.sheet.proofs.sessions.check_values.Given as goal

abbrev pub invariant-loop-i : goal.invariant-loop-i
invariant-loop-i l = first (value_lines (words l.table.0.now) 0 l.place) ≡ first (value_lines (drop l.i (words l.table.0.now)) l.before (l.place + 2 * l.i))
