-- What a byte, two bytes and four bytes at a place say, and a run of two-byte numbers as a list. Assumes nothing.
use Rattle.std.specs.Prelude.{◌≡◌, refl, List, [], ◌∷◌, ℕ, zero, suc, ◌+◌, ◌*◌, ◌/◌, ◌<◌, length, get_or}
use Rattle.std.proofs.Common.{arith}

-- the byte at a place, 0 past the end
abbrev pub byte_at : List ℕ → ℕ → ℕ
byte_at bytes i = get_or bytes i 0

-- the number of two bytes at a place
abbrev pub word_at : List ℕ → ℕ → ℕ
word_at bytes i = byte_at bytes i * 256 + byte_at bytes (i + 1)

-- the number of four bytes at a place
abbrev pub long_at : List ℕ → ℕ → ℕ
long_at bytes i = word_at bytes i * 65536 + word_at bytes (i + 2)

-- the numbers of two bytes each, from the start on; a single byte left over is none
unfoldable pub words : List ℕ → List ℕ
words [] = []
words (a ∷ []) = []
words (a ∷ b ∷ s) = (a * 256 + b) ∷ words s

pub length-words : (s : List ℕ) → length (words s) ≡ length s / 2
unfolding words
length-words [] = refl
length-words (a ∷ []) = refl
length-words (a ∷ b ∷ s) = omega (arith, length-words s)

-- the i-th of them stands at byte 2·i
pub word_of : (s : List ℕ) (i : ℕ) → i < length s / 2 → get_or (words s) i 0 ≡ word_at s (2 * i)
unfolding words
word_of [] i h = omega arith
word_of (a ∷ []) i h = omega arith
word_of (a ∷ b ∷ s) zero h = refl
word_of (a ∷ b ∷ s) (suc i) h =
    let e : 2 * suc i ≡ suc (suc (2 * i)) = omega arith in
    let f : 2 * suc i + 1 ≡ suc (suc (2 * i + 1)) = omega arith in
    rw (f, e) (word_of s i (omega arith))
