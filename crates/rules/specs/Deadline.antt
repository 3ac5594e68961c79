-- Deadlines in document 01's words (rule 3 of one slot), and the number that stands for one. Assumes nothing.
use Prim.Native.Nat.{ℕ, zero, suc, ◌+◌, ◌-◌, max}
use Rattle.curve.specs.Total.{total}
use Rattle.curve.specs.Delay.{Due, slot, never}

-- the larger of two deadlines
unfoldable pub later : Due → Due → Due
later (slot d) (slot e) = slot (max d e)
later (slot d) never = never
later never e = never

-- j slots further on
unfoldable pub shift : ℕ → Due → Due
shift j (slot d) = slot (j + d)
shift j never = never

-- d, if any packets were taken in
unfoldable pub if_any : ℕ → Due → Due
if_any zero d = slot 0
if_any (suc a) d = d

-- the largest of k - 1 + D(N - A(k-1)) over the slots k = 1..u in which packets were taken in: a j of them in slot j + 1, A = total a
unfoldable pub deadline : (ℕ → Due) → (ℕ → ℕ) → ℕ → ℕ → Due
deadline D a N zero = slot 0
deadline D a N (suc j) = later (deadline D a N j) (if_any (a j) (shift j (D (N - total a j))))

-- the deadline that a number stands for, in the run and in what a slot writes
abbrev pub due_as : ℕ → Due
due_as n = slot n
