-- A number's digits in a base, as bytes, and how many it takes. Assumes nothing.
use Rattle.std.specs.Prelude.{ℕ, zero, suc, ◌+◌, ◌-◌, ◌/◌, ◌%◌, ◌^◌, ◌<◌, ◌≤◌, cond, List, [], ◌∷◌, ◌++◌, ltb}

-- the byte of a digit below 16: `0` to `9`, then `a` to `f`
abbrev pub digit_byte : ℕ → ℕ
digit_byte d = cond (ltb d 10) (48 + d) (87 + d)

-- the last k digits of n in base b, the most significant first
abbrev pub last_digits : ℕ → ℕ → ℕ → List ℕ
last_digits b zero n = []
last_digits b (suc k) n = last_digits b k (n / b) ++ (digit_byte (n % b) ∷ [])

-- n takes k digits in base b, where zeros in front make them `width` at the least
abbrev pub IsDigitCount : ℕ → ℕ → ℕ → ℕ → Type 0
IsDigitCount b width n k = (width ≤ k) × (n < b ^ k) × (width < k → b ^ (k - 1) ≤ n)
