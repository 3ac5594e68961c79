-- What it is for the numbers of a list to be bytes. Assumes nothing.
use Rattle.std.specs.Prelude.{List, ℕ, ◌<◌, get_or}

-- each number is a byte
abbrev pub AllBytes : List ℕ → Type 0
AllBytes bytes = (i : ℕ) → get_or bytes i 0 < 256
