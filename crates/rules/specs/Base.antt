-- A history of offers as a function of the slot. Assumes nothing.
use Rattle.std.specs.Prelude.{List, [], ℕ, get_or}

-- the offers of slot u + 1 in a history
abbrev pub offers_of : List (List ℕ) → ℕ → List ℕ
offers_of history u = get_or history u []
