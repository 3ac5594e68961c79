-- The delay look-up of a curve: D(q), the least m ≥ 1 with S(m) ≥ q, or never where S stays below q. Assumes nothing.
use Rattle.std.specs.Prelude.{◌≡◌, ◌↔◌, Bool, true, false, leb}
use Prim.Native.Nat.{ℕ, zero, suc, ◌+◌, ◌*◌, ◌≤◌, ◌<◌}
use Rattle.std.proofs.Math.Dec.{T}
use Rattle.std.proofs.Math.ListN.{length}
use Rattle.curve.specs.Curve.{Curve, at}

-- a slot, or never
pub data Due : Type 0 where
  slot : ℕ → Due
  never : Due

-- it has come when it is at most t
unfoldable pub come : Due → ℕ → Bool
come (slot d) t = leb d t
come never t = false

-- the slot it comes in, as a number; 0 stands for never
unfoldable pub slots_of : Due → ℕ
slots_of (slot m) = m
slots_of never = 0

-- the first of the k numbers m, m + 1, .. at which f is at least q
unfoldable pub find : (ℕ → ℕ) → ℕ → ℕ → ℕ → Due
find f q zero m = never
find f q (suc k) m = elim (leb q (f m)) [ true ↦ slot m | false ↦ find f q k (suc m) ]

-- D(q): the least m ≥ 1 with S(m) ≥ q. What a curve ever gives it gives within n + P·q slots (`at-within`), so no more are tried
unfoldable pub delay : ℕ → Curve → ℕ → Due
delay P S q = find (at P S) q (length S.table + q * P) 1

-- what a search from m on finds, where one of the numbers it tries is large enough: the first such
pub record Found (f : ℕ → ℕ) (q m : ℕ) (d : Due) : Type 0 where
  pub place : ℕ
  pub is : d ≡ slot place
  pub from : m ≤ place
  pub reaches : q ≤ f place
  pub before : (x : ℕ) → m ≤ x → x < place → f x < q

-- what is asked of D: for m ≥ 1, D(q) has come by m exactly when S(m) ≥ q
abbrev pub Delays : (ℕ → Due) → (ℕ → ℕ) → Type 0
Delays D S = (q m : ℕ) → 1 ≤ m → T (come (D q) m) ↔ (q ≤ S m)

-- m is the least number from 1 on at which f is at least q
pub record First (f : ℕ → ℕ) (q m : ℕ) : Type 0 where
  pub from : 1 ≤ m
  pub reaches : q ≤ f m
  pub before : (x : ℕ) → 1 ≤ x → x < m → f x < q
