-- What the test of refusal 14 asks of a session's block: the ranges that make every index, sum and division of a slot safe, for a run from anywhere. Assumes nothing.
use Rattle.std.specs.Prelude.{◌≡◌, List, ℕ, ◌+◌, ◌*◌, ◌≤◌, ◌<◌, length, get_or}
use Rattle.curve.specs.Curve.{Curve}
use Rattle.curve.specs.Rises.{IsCurve}
use Rattle.sheet.specs.Limits.{most_capacity, longest_period, longest_table, largest_value, largest_rate, largest_room}
use Rattle.layout.specs.Layout.{block_numbers, service_length_at, envelope_length_at, room_at, service_rate_at, envelope_rate_at, taken_at, sent_at, envelope_ahead_at, service, envelope, service_ahead, envelope_ahead}

-- a run has at most this many slots, and nothing that lies ahead passes this
abbrev pub most_slots : ℕ
most_slots = 1000000

abbrev pub most_ahead : ℕ
most_ahead = 64001000

-- no value of a table is above v
abbrev pub Below : ℕ → Curve → Type 0
Below v F = (i : ℕ) → i < length F.table → get_or F.table i 0 ≤ v

-- a block's plain numbers
pub record Numbers (b : List ℕ) (P done : ℕ) : Type 0 where
  pub service-long : P ≤ get_or b service_length_at 0
  pub service-short : get_or b service_length_at 0 ≤ longest_table
  pub envelope-long : P ≤ get_or b envelope_length_at 0
  pub envelope-short : get_or b envelope_length_at 0 ≤ longest_table
  pub room : get_or b room_at 0 ≤ largest_room
  pub promises : 1 ≤ get_or b service_rate_at 0
  pub service-rate : get_or b service_rate_at 0 ≤ largest_rate
  pub envelope-rate : get_or b envelope_rate_at 0 ≤ largest_rate
  -- sent of those taken in, at most c a slot, and those waiting fit the room
  pub in_order : get_or b sent_at 0 ≤ get_or b taken_at 0
  pub sent-few : get_or b sent_at 0 ≤ most_capacity * done
  pub waiting : get_or b taken_at 0 ≤ get_or b sent_at 0 + get_or b room_at 0
  -- headroom is never negative
  pub headed : get_or b taken_at 0 ≤ get_or b envelope_ahead_at 0

pub record Sound (b : List ℕ) (P done : ℕ) : Type 0 where
  pub size : length b ≡ block_numbers
  pub period : 1 ≤ P
  pub few : P ≤ longest_period
  pub numbers : Numbers b P done
  pub service-small : Below largest_value (service b)
  pub envelope-small : Below largest_value (envelope b)
  pub service-ahead : IsCurve P (service_ahead b)
  pub service-ahead-small : Below most_ahead (service_ahead b)
  pub envelope-ahead : IsCurve P (envelope_ahead b)
  pub envelope-ahead-small : Below most_ahead (envelope_ahead b)
