-- Counting: how many of a list pass a test, and how many of the numbers 1..n. The theorems about a run count packets and never reorder them. Assumes nothing.
use Rattle.std.specs.Prelude.{Bool, ℕ, zero, suc, ◌+◌}
use Rattle.std.proofs.Math.Bool.{true, false}
use mathlib.Core.List.{List, [], ◌∷◌}

-- 1 for a test that passes
unfoldable pub ind : Bool → ℕ
ind true = 1
ind false = 0

module _ {X : Type 0} where
  -- how many of a list pass a test
  unfoldable pub count : (X → Bool) → List X → ℕ
  count p [] = 0
  count p (x ∷ l) = ind (p x) + count p l

  -- the same over a list of lists, one for each slot
  unfoldable pub count_all : (X → Bool) → List (List X) → ℕ
  count_all p [] = 0
  count_all p (l ∷ ls) = count p l + count_all p ls

-- how many of q = 1..n pass a test
unfoldable pub count_to : (ℕ → Bool) → ℕ → ℕ
count_to p zero = 0
count_to p (suc n) = count_to p n + ind (p (suc n))
