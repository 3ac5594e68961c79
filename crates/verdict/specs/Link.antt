-- What the stop rule asks of a link, and the slot count by which every walk ends. Assumes nothing.
use Rattle.std.specs.Prelude.{ℕ, ◌+◌, ◌*◌, ◌≤◌}
use Rattle.verdict.specs.Stop.{Gains}

-- what the link can send in t slots gains R in every P slots past 128, where no session's two tables reach; and up to 128 it is small enough
-- for every walk to end by `end`
pub record Link (C : ℕ → ℕ) (R P end : ℕ) : Type 0 where
  pub gains : Gains C R P 128
  pub most : ℕ
  pub below : (s : ℕ) → s ≤ 128 → C s ≤ most
  pub far : 128 + P + most * P ≤ end

-- where every walk has settled: 128 + 16 + 64 · 128 · 16
abbrev pub walk_end : ℕ
walk_end = 131216
