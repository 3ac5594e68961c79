-- What the functions that read a line ask of each other and of a test of its bytes: that places stay within the line and within the room for the line's bytes. Assumes nothing.
use Rattle.std.specs.Prelude.{◌≡◌, Bool, List, ℕ, ◌≤◌, None, Some, length, take}
use Rattle.std.specs.Borrow.{Bor}
use Rattle.std.specs.declared.option.Option.{Option}

-- each call of f at a byte answers what p says of the byte, and leaves f as it was
abbrev pub Tests : {F : Type 0} → (F → Bor ℕ → Bool → F → Type 0) → F → (ℕ → Bool) → Type 0
Tests call f p = (x : Bor ℕ) (b : Bool) (g : _) → call f x b g → (g ≡ f) × (b ≡ p x.now)

-- the first n of a list's numbers are within it, and are n
abbrev pub Counts : ℕ → List ℕ → Type 0
Counts n xs = (n ≤ length xs) × (n ≡ length (take n xs))

-- the bracket began no later than the word, and the word within the bytes written, for which there is room
pub record Ordered (most bracket word written : ℕ) : Type 0 where
  pub bracket_first : bracket ≤ word
  pub word_within : word ≤ written
  pub room : written ≤ most

-- a line's bytes stand at the start of `bytes`
abbrev pub Fits : List ℕ → Option ℕ → Type 0
Fits bytes (Some n) = Counts n bytes
Fits bytes None = Unit
