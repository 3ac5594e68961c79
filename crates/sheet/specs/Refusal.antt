-- Refusals as document 01 tables them: a list of lines in the order of the reading, of which the first that applies is answered. Assumes nothing.
use Rattle.std.specs.Prelude.{◌≡◌, Bool, true, false, ◌||◌, List, [], ◌∷◌, ℕ, ltb}

-- nothing to refuse, or a refusal: its number and its place
pub data Refusal : Type 0 where
  none : Refusal
  refused : ℕ → ℕ → Refusal

-- a line of 01's table: its number, when it applies, its place
pub data Line : Type 0 where
  line : ℕ → Bool → ℕ → Line

-- the first line that applies
unfoldable pub first : List Line → Refusal
first [] = none
first (line number applies place ∷ ls) = elim applies [ true ↦ refused number place | false ↦ first ls ]

-- x lies outside low..high
unfoldable pub outside : ℕ → ℕ → ℕ → Bool
outside low high x = ltb x low || ltb high x

-- the one, or else the other
unfoldable pub or_else : Refusal → Refusal → Refusal
or_else none s = s
or_else (refused number place) s = refused number place

-- READS: no line applies
abbrev pub Clear : List Line → Type 0
Clear ls = first ls ≡ none
