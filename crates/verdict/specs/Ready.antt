-- What the verdict's functions may take for granted of a session taken apart. Assumes nothing.
use Rattle.std.specs.Prelude.{ℕ, ◌≤◌}
use Rattle.curve.specs.Drawn.{drawn}
use Rattle.sheet.specs.Limits.{longest_period}
use Rattle.sheet.specs.Sheet.{WellMadeCurve}
use Rattle.sheet.specs.declared.fields.Session.{Session}

-- its curves are well made under the period P
pub record Drawn (P : ℕ) (s : Session) : Type 0 where
  pub service : WellMadeCurve P (drawn s.service)
  pub envelope : WellMadeCurve P (drawn s.envelope)
  pub promises : 1 ≤ s.service.rate.0
  pub few : P ≤ longest_period
