-- Numbers written as bytes, the highest first, and that they read back. Assumes nothing.
use Rattle.std.specs.Prelude.{◌≡◌, refl, List, [], ◌∷◌, ◌++◌, ℕ, ◌+◌, ◌*◌, ◌/◌, ◌%◌, length}
use Rattle.std.proofs.Common.{arith}
use Rattle.words.specs.Words.{words}

-- a number as two bytes
abbrev pub two_bytes : ℕ → List ℕ
two_bytes v = v / 256 ∷ v % 256 ∷ []

-- a number as four bytes
abbrev pub four_bytes : ℕ → List ℕ
four_bytes v = two_bytes (v / 65536) ++ two_bytes (v % 65536)

-- each number as two bytes
unfoldable pub each_two : List ℕ → List ℕ
each_two [] = []
each_two (v ∷ vs) = v / 256 ∷ v % 256 ∷ each_two vs

pub length-each_two : (vs : List ℕ) → length (each_two vs) ≡ 2 * length vs
unfolding each_two
length-each_two [] = refl
length-each_two (v ∷ vs) = omega (arith, length-each_two vs)

-- what was written reads back
pub words-each_two : (vs : List ℕ) → words (each_two vs) ≡ vs
unfolding each_two words
words-each_two [] = refl
words-each_two (v ∷ vs) =
    let e : v / 256 * 256 + v % 256 ≡ v = omega arith in
    rw (e, words-each_two vs)
