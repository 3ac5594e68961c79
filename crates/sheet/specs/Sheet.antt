-- A sheet as document 01 has it: c packets a slot, a period, and for each session a service curve, an envelope and a room. Assumes nothing.
use Rattle.std.specs.Prelude.{List, [], ℕ, ◌≤◌, ◌<◌, length, get_or}
use Rattle.curve.specs.Curve.{Curve}
use Rattle.curve.specs.Rises.{IsCurve}
use Rattle.sheet.specs.Limits.{most_capacity, longest_period, most_sessions, longest_table, largest_value, largest_rate, largest_room}

pub record Session : Type 0 where
  pub service : Curve
  pub envelope : Curve
  pub room : ℕ

pub record Sheet : Type 0 where
  pub capacity : ℕ
  pub period : ℕ
  pub sessions : List Session

-- a session past the last: it promises and takes in nothing
abbrev pub nobody : Session
nobody =
    record { service = record { table = []; rate = 0 }; envelope = record { table = []; rate = 0 }; room = 0 }

-- the session at an index from 0
unfoldable pub session : Sheet → ℕ → Session
session sheet i = get_or sheet.sessions i nobody

abbrev pub session_count : Sheet → ℕ
session_count sheet = length sheet.sessions

-- a curve within 01's limits: table length in P..64, values in 0..500, rate at most 256, and it never falls
pub record WellMadeCurve (P : ℕ) (F : Curve) : Type 0 where
  pub curve : IsCurve P F
  pub short : length F.table ≤ longest_table
  pub values : (i : ℕ) → i < length F.table → get_or F.table i 0 ≤ largest_value
  pub rate : F.rate ≤ largest_rate

pub record WellMadeSession (P : ℕ) (s : Session) : Type 0 where
  pub service : WellMadeCurve P s.service
  pub envelope : WellMadeCurve P s.envelope
  pub promises : 1 ≤ s.service.rate
  pub some-room : 1 ≤ s.room
  pub room : s.room ≤ largest_room

pub record WellMade (sheet : Sheet) : Type 0 where
  pub some-capacity : 1 ≤ sheet.capacity
  pub capacity : sheet.capacity ≤ most_capacity
  pub some-period : 1 ≤ sheet.period
  pub period : sheet.period ≤ longest_period
  pub some-session : 1 ≤ session_count sheet
  pub few : session_count sheet ≤ most_sessions
  pub each : (i : ℕ) → i < session_count sheet → WellMadeSession sheet.period (session sheet i)
