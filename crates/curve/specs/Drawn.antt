-- The curve that a curve of a sheet stands for. Assumes nothing.
use Rattle.curve.specs.Curve.{Curve}
use Rattle.curve.specs.Lookup.{curve_of}
use Rattle.curve.specs.declared.Curve.{Curve as Drawing}

-- its table in two-byte numbers, and its rate
abbrev pub drawn : Drawing → Curve
drawn F = curve_of F.table.0.now F.rate.0
