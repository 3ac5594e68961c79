-- What the reader's answer tells of the bytes, for those who call it: the reading's result, the sheet's numbers and its sessions' starts. Assumes nothing.
use Rattle.std.specs.Prelude.{◌≡◌, List, ℕ, ◌<◌, get_or}
use Rattle.sheet.specs.Refusal.{none}
use Rattle.sheet.specs.Bytes.{capacity_of, period_of, count_of}
use Rattle.sheet.specs.Reading.{reading}
use Rattle.sheet.specs.Starts.{start_of}

-- else the bytes read, and these are their numbers
pub record ReadTells (bytes : List ℕ) (c period m : ℕ) (starts : List ℕ) : Type 0 where
  pub reads : reading bytes ≡ none
  pub capacity : c ≡ capacity_of bytes
  pub period-is : period ≡ period_of bytes
  pub count : m ≡ count_of bytes
  pub each : (i : ℕ) → i < m → get_or starts i 0 ≡ start_of bytes i
