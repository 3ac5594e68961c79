-- What the theorems about a run ask of a sheet: that its services and envelopes are curves, and that its load stays within c·t. Both follow from what a
-- reader and the verdict make sure of. Assumes nothing.
use Prim.Native.Nat.{ℕ, ◌≤◌, ◌<◌}
use Rattle.curve.specs.Rises.{IsCurve}
use Rattle.sheet.specs.Sheet.{Sheet, session, session_count}
use Rattle.verdict.specs.Verdict.{load_of, can_send}

pub record Curves (sheet : Sheet) : Type 0 where
  pub services : (i : ℕ) → i < session_count sheet → IsCurve sheet.period (session sheet i).service
  pub envelopes : (i : ℕ) → i < session_count sheet → IsCurve sheet.period (session sheet i).envelope

-- 01's inequality 14: for every positive t, the sum of (b*S)(t) over all sessions is at most c·t
abbrev pub WithinCapacity : Sheet → Type 0
WithinCapacity sheet = (t : ℕ) → 1 ≤ t → load_of sheet t ≤ can_send sheet.capacity t
