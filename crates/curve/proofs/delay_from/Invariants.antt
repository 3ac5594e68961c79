-- D(q) is found in the table, or in the table's last period after as many periods as take its last value to q. Assumes nothing.
use Rattle.std.proofs.Common.{ℕ, ◌+◌, ◌≤◌, ◌<◌, length, get_or}
use Rattle.curve.specs.Lookup.{curve_with, Periods}
use Rattle.curve.proofs.delay_from.Given as goal

abbrev pub invariant-table : goal.invariant-table
invariant-table g l = (j : ℕ) → j < l.i → get_or (g.T.Table.values l.table) j 0 < l.want

abbrev pub invariant-period : goal.invariant-period
invariant-period g l =
    Periods (curve_with (g.T.Table.values l.table) l.fn.rate.0) l.want l.periods
    × ((j : ℕ) → length (g.T.Table.values l.table) ≤ j + l.fn.period.0 → j < l.k → get_or (g.T.Table.values l.table) j 0 < l.rest)
