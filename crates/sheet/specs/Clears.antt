-- What the numbers of a head, of a session's fields and of a table are where no line of their group applies. So what reads and what is written meet in facts and not in tests. Assumes nothing.
use Rattle.std.specs.Prelude.{◌≡◌, ℕ, ◌-◌, ◌≤◌, ◌<◌}
use mathlib.Core.List.{List, ◌∷◌}
use Rattle.std.proofs.Math.ListN.{length, get_or}
use Rattle.sheet.specs.Limits.{version, most_capacity, longest_period, most_sessions, longest_table, largest_value, largest_rate, head_bytes, length_bytes, most_following}
use Rattle.sheet.specs.Bytes.{following, version_of, capacity_of, period_of, count_of, service_length, envelope_length, service_rate, envelope_rate, record_bytes}

-- the head's numbers are in range
pub record HeadReads (bytes : List ℕ) : Type 0 where
  pub long : head_bytes ≤ length bytes
  pub little : following bytes ≤ most_following
  pub all : following bytes ≡ length bytes - length_bytes
  pub one : version_of bytes ≡ version
  pub some-capacity : 1 ≤ capacity_of bytes
  pub capacity : capacity_of bytes ≤ most_capacity
  pub some-period : 1 ≤ period_of bytes
  pub period : period_of bytes ≤ longest_period
  pub some-session : 1 ≤ count_of bytes
  pub few : count_of bytes ≤ most_sessions

-- a session's record is all there and its numbers are in range
pub record FieldsRead (P : ℕ) (rest : List ℕ) : Type 0 where
  pub service-long : P ≤ service_length rest
  pub service-short : service_length rest ≤ longest_table
  pub envelope-long : P ≤ envelope_length rest
  pub envelope-short : envelope_length rest ≤ longest_table
  pub promises : 1 ≤ service_rate rest
  pub service-rate : service_rate rest ≤ largest_rate
  pub envelope-rate : envelope_rate rest ≤ largest_rate
  pub all : record_bytes rest ≤ length rest

-- each value is at most 500 and at least the one before it
pub record ValuesRead (vs : List ℕ) (before : ℕ) : Type 0 where
  pub small : (i : ℕ) → i < length vs → get_or vs i 0 ≤ largest_value
  pub rises : (i : ℕ) → i < length vs → get_or (before ∷ vs) i 0 ≤ get_or vs i 0
