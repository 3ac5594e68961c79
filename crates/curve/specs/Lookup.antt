-- What the look-ups on a table of bytes ask, and the closed forms that they compute by. Assumes nothing.
use Rattle.std.specs.Prelude.{List, ℕ, ◌+◌, ◌-◌, ◌*◌, ◌≤◌, ◌<◌, length, get_or}
use Rattle.words.specs.Words.{words}
use Rattle.curve.specs.Curve.{Curve}

-- the curve whose table lies in bytes, two for each value
abbrev pub curve_of : List ℕ → ℕ → Curve
curve_of bytes rate = record { table = words bytes; rate = rate }

-- and the curve whose table lies in numbers
abbrev pub curve_with : List ℕ → ℕ → Curve
curve_with table rate = record { table = table; rate = rate }

-- where a look-up may begin: the table's first `start` numbers are below what is wanted
abbrev pub Begins : List ℕ → ℕ → ℕ → Type 0
Begins table want start = (start ≤ length table) × ((j : ℕ) → j < start → get_or table j 0 < want)

-- what keeps the look-ups' numbers within 32 bits
pub record Sized (P : ℕ) (F : Curve) : Type 0 where
  pub period : 1 ≤ P
  pub few : P ≤ 16
  pub long : P ≤ length F.table
  pub short : length F.table ≤ 64
  pub rate : F.rate ≤ 1024

-- the look-ups go to slot counts below this
abbrev pub farthest : ℕ
farthest = 262144

-- and to packet counts up to this
abbrev pub most : ℕ
most = 67108864

-- x, past a table of n, lies k periods after a place of the table's last period
pub record Back (n P x k : ℕ) : Type 0 where
  pub under : k * P < x
  pub within : x ≤ k * P + n
  pub near : n + k * P < x + P
  pub few : k ≤ x

-- past the table: j periods take the table's last value to q or above, j - 1 do not
pub record Periods (F : Curve) (q j : ℕ) : Type 0 where
  pub short : get_or F.table (length F.table - 1) 0 < q
  pub up : q ≤ get_or F.table (length F.table - 1) 0 + j * F.rate
  pub down : get_or F.table (length F.table - 1) 0 + j * F.rate < q + F.rate
  pub few : j ≤ q
