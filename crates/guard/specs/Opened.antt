-- What refusal 14 asks of a run's numbers: the mark of an opened run, a head in range, and a sound block for each session. All zeros fail it. Assumes nothing.
use Rattle.std.specs.Prelude.{◌≡◌, List, ℕ, ◌≤◌, ◌<◌, get_or}
use Rattle.std.proofs.Common.{arith}
use Rattle.sheet.specs.Limits.{most_capacity, longest_period, most_sessions}
use Rattle.layout.specs.Layout.{mark, mark_at, capacity_at, period_at, count_at, done_at, block}
use Rattle.layout.specs.Sound.{most_slots, Sound}

pub record Opened (run : List ℕ) : Type 0 where
  pub marked : get_or run mark_at 0 ≡ mark
  pub some-capacity : 1 ≤ get_or run capacity_at 0
  pub capacity : get_or run capacity_at 0 ≤ most_capacity
  pub some-period : 1 ≤ get_or run period_at 0
  pub period : get_or run period_at 0 ≤ longest_period
  pub some-session : 1 ≤ get_or run count_at 0
  pub few : get_or run count_at 0 ≤ most_sessions
  pub done : get_or run done_at 0 ≤ most_slots
  pub blocks : (i : ℕ) → i < get_or run count_at 0 → Sound (block run i) (get_or run period_at 0) (get_or run done_at 0)

-- a slice that was never opened, all zeros, is refused
pub zeros_fail : (run : List ℕ) → ((i : ℕ) → get_or run i 0 ≡ 0) → Opened run → ⊥
zeros_fail run z o = omega (arith, o.marked, z mark_at)
