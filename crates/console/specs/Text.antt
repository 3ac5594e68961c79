-- Text as lists of bytes: numbers in decimal, and the line of a refusal, which every program prints alike. Assumes nothing.
use Rattle.std.specs.Prelude.{◌≡◌, cond, List, [], ◌∷◌, ◌++◌, ◌⊎◌, ℕ, zero, suc, ◌-◌, ◌*◌, ◌/◌, ◌^◌, ◌≤◌, ◌<◌, ltb}
use Rattle.std.proofs.Common.{ap, inl, inr, pow-suc, div-lt_iff_lt-mul, le-div_iff_mul-le, arith, lt-ltb, le-ltb}
use Rattle.std.proofs.Math.Nat.{one-le-pow, pow-le-pow_right}
use Rattle.std.proofs.lemmas.Bool.{cases_lt}
use Rattle.console.specs.Digits.{last_digits, IsDigitCount}

-- how many decimal digits a number has, told right for numbers of up to `most` + 1 digits
unfoldable pub places : ℕ → ℕ → ℕ
places zero n = 1
places (suc most) n = cond (ltb n 10) 1 (suc (places most (n / 10)))

-- a number of 32 bits in decimal
abbrev pub decimal : ℕ → List ℕ
decimal n = last_digits 10 (places 9 n) n

-- a space, and a number after it
abbrev pub next : ℕ → List ℕ
next n = 32 ∷ decimal n

-- no line takes more than this
abbrev pub line_bytes : ℕ
line_bytes = 256

-- refused NUMBER PLACE
unfoldable pub refused_line : ℕ → ℕ → List ℕ
refused_line number place = (114 ∷ 101 ∷ 102 ∷ 117 ∷ 115 ∷ 101 ∷ 100 ∷ []) ++ (next number ++ (next place ++ (10 ∷ [])))

-- the fewest digits that hold a number are those counted
pub places_are : (most k n : ℕ) → k ≤ suc most → IsDigitCount 10 1 n k → k ≡ places most n
unfolding places
places_are zero k n h f = omega (arith, f.0)
places_are (suc most) zero n h f = absurd (omega (arith, f.0))
places_are (suc most) (suc zero) n h f = rw (lt-ltb n 10 f.1)
places_are (suc most) (suc (suc k)) n h f =
    let e : suc (suc k) - 1 ≡ suc k = omega arith in
    let low : 10 ^ k * 10 ≤ n = rw (e, pow-suc 10 k) at (f.2 (omega arith)) in
    let high : n < 10 ^ suc k * 10 = rw (pow-suc 10 (suc k)) at f.1 in
    let some : 1 ≤ 10 ^ k = one-le-pow k 10 (omega arith) in
    let j : suc k - 1 ≡ k = omega arith in
    let less : IsDigitCount 10 1 (n / 10) (suc k) = (omega arith, (div-lt_iff_lt-mul {k = 10} (omega arith)).1 high, λ _. rw j ((le-div_iff_mul-le {k = 10} (omega arith)).1 low)) in
    rw (le-ltb n 10 (omega arith)) (ap suc (places_are most (suc k) (n / 10) (omega arith) less))

-- a number of 32 bits has at most ten digits
pub ten_digits : (n k : ℕ) → n < 4294967296 → IsDigitCount 10 1 n k → k ≤ 10
ten_digits n k h f = go (cases_lt 10 k)
  where
    go : (10 < k) ⊎ (k ≤ 10) → k ≤ 10
    go (inr few) = few
    go (inl many) =
        let low : 10 ^ (k - 1) ≤ n = f.2 (omega arith) in
        let more : 10 ^ 10 ≤ 10 ^ (k - 1) = pow-le-pow_right {n = 10} (omega arith) {i = 10} {j = k - 1} (omega arith) in
        absurd (omega arith)

-- the digits that `io` makes of such a number are its text
pub decimal-is : (n k : ℕ) → n < 4294967296 → IsDigitCount 10 1 n k → last_digits 10 k n ≡ decimal n
decimal-is n k h f = ap (λ j. last_digits 10 j n) (places_are 9 k n (ten_digits n k h f) f)
