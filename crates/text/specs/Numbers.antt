-- Decimal numbers written in a line. Assumes nothing.
use Rattle.std.specs.Prelude.{◌≡◌, not, List, [], ◌∷◌, ◌++◌, ℕ, ◌-◌, ◌^◌, ◌<◌, length, min, replicate}
use Rattle.std.specs.Char.{is_ascii_digit}
use Rattle.std.specs.List.{before_first}
use Rattle.std.specs.Str.Parse.{digits_value}

-- the digits that a text begins with
abbrev pub digits : List ℕ → List ℕ
digits text = before_first (λ b. not (is_ascii_digit b)) text

-- a text begins with a number: all its digits, and their value as far as 64 bits hold it
pub record Number (text : List ℕ) (value : ℕ) (rest : List ℕ) : Type 0 where
  pub some : 0 < length (digits text)
  pub whole : digits text ++ rest ≡ text
  pub value_is : value ≡ min (digits_value 10 (digits text)) (2 ^ 64 - 1)

-- a number of a line comes next, after any spaces
pub record Next (line : List ℕ) (value : ℕ) (rest : List ℕ) : Type 0 where
  pub spaces : ℕ
  pub word : List ℕ
  pub begins : replicate spaces 32 ++ word ≡ line
  pub number : Number word value rest

-- these numbers come one after another, and then the rest
abbrev pub Numbers : List ℕ → List ℕ → List ℕ → Type 0
Numbers line [] rest = rest ≡ line
Numbers line (n ∷ more) rest = (after : List ℕ) × Next line n after × Numbers after more rest
