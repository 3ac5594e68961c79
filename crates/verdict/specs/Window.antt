-- The values of the sessions' curves at 128 slot counts, as the search keeps them: session i has 256 places, a row of the envelope's values and a row of the service's. Assumes nothing.
use Rattle.std.specs.Prelude.{◌≡◌, List, ◌⊎◌, ℕ, ◌+◌, ◌-◌, ◌*◌, ◌≤◌, ◌<◌, length, get_or}
use Rattle.curve.specs.Curve.{Curve, at}
use Rattle.sheet.specs.Sheet.{session}
use Rattle.sheet.specs.Bytes.{sheet_of}

-- a row has the values of this many slot counts; a session has two rows, and sixteen sessions fill a window
abbrev pub row_places : ℕ
row_places = 128

abbrev pub session_places : ℕ
session_places = 256

abbrev pub window_places : ℕ
window_places = 4096

-- a row that ends here or later begins at the end of the longest table
abbrev pub past_tables : ℕ
past_tables = 191

-- the first n values of a row: j places on stands that of the slot count j apart from `end`. Nothing else is changed
pub record Rowed (P : ℕ) (F : Curve) (end place n : ℕ) (old new : List ℕ) : Type 0 where
  pub places : length new ≡ window_places
  pub each : (j : ℕ) → j < n → get_or new (place + j) 0 ≡ at P F (end - j + (j - end))
  pub others : (k : ℕ) → (k < place) ⊎ (place + row_places ≤ k) → get_or new k 0 ≡ get_or old k 0

-- the rows of the sessions, at the places below n
pub record Window (bytes : List ℕ) (P end n : ℕ) (values : List ℕ) : Type 0 where
  pub places : length values ≡ window_places
  pub envelope : (i j : ℕ) → j < row_places → session_places * i + j < n → get_or values (session_places * i + j) 0 ≡ at P (session (sheet_of bytes) i).envelope (end - j + (j - end))
  pub service : (i j : ℕ) → j < row_places → session_places * i + j < n → get_or values (session_places * i + j + row_places) 0 ≡ at P (session (sheet_of bytes) i).service (end - j + (j - end))
