-- A kept table as a curve of the same period and rate. Assumes nothing.
use Rattle.std.specs.Prelude.{List, ℕ}
use Rattle.curve.specs.Curve.{Curve}

-- a table that is kept for F, as a curve
abbrev pub kept_curve : Curve → List ℕ → Curve
kept_curve F l = record { table = l; rate = F.rate }
