-- What the reader keeps on its way from session to session. Assumes nothing.
use Rattle.std.specs.Prelude.{◌≡◌, List, length, get_or, drop}
use Prim.Native.Nat.{ℕ, ◌-◌, ◌≤◌}
use Rattle.sheet.specs.Limits.{most_sessions}
use Rattle.sheet.specs.Refusal.{first}
use Rattle.sheet.specs.Bytes.{period_of, count_of}
use Rattle.sheet.specs.Reading.{body_lines, reading}
use Rattle.sheet.specs.Starts.{start_of}
use Rattle.sheet.specs.Told.{placed}

-- before session i: it starts at `at`, and what is left to refuse is what its bytes and those after it give
pub record Reached (bytes : List ℕ) (i at : ℕ) (starts : List ℕ) : Type 0 where
  pub within : i ≤ count_of bytes
  pub start : at ≡ start_of bytes i
  pub inside : at ≤ length bytes
  pub left : reading bytes ≡ first (body_lines (period_of bytes) (drop at bytes) at (count_of bytes - i))
  pub sixteen : length starts ≡ most_sessions
  pub each : (j : ℕ) → get_or starts j 0 ≡ placed bytes i j
