-- What is shown of an argument that a program does not know. Definitions alone.
use Rattle.std.specs.Prelude.{List, [], ◌∷◌, ℕ, ◌≤◌, ◌<◌, ◌≢◌, length, get_or}

-- a byte that neither ends nor disturbs a line
abbrev pub Shown : ℕ → Type 0
Shown b = (32 ≤ b) × (b ≢ 127)

abbrev pub AllShown : List ℕ → Type 0
AllShown word = (k : ℕ) → k < length word → Shown (get_or word k 0)

-- unknown argument:
abbrev pub unknown_argument : List ℕ
unknown_argument = 117 ∷ 110 ∷ 107 ∷ 110 ∷ 111 ∷ 119 ∷ 110 ∷ 32 ∷ 97 ∷ 114 ∷ 103 ∷ 117 ∷ 109 ∷ 101 ∷ 110 ∷ 116 ∷ 58 ∷ 32 ∷ []
