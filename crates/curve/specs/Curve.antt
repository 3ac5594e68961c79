-- A curve as document 01 has it: a table and a linear tail, and its three rules as what any function may follow. Assumes nothing.
use Rattle.std.specs.Prelude.{◌≡◌, List, true, false, leb, get_or}
use Prim.Native.Nat.{ℕ, zero, suc, ◌+◌, ◌-◌, ◌<◌}
use Rattle.std.proofs.Math.ListN.{length}

-- the table F(1)..F(n), and the rate r in packets for each period
pub record Curve : Type 0 where
  pub table : List ℕ
  pub rate : ℕ

-- F(0) = 0, and the x-th value of the table
unfoldable pub entry : List ℕ → ℕ → ℕ
entry table zero = 0
entry table (suc i) = get_or table i 0

-- the table up to n, and F(x) = F(x-P) + r past it. The first argument bounds how often P is taken off
unfoldable pub value : ℕ → ℕ → Curve → ℕ → ℕ
value zero P F x = 0
value (suc k) P F x = elim (leb x (length F.table)) [ true ↦ entry F.table x | false ↦ value k P F (x - P) + F.rate ]

-- F(x) under the period P: P is taken off at most x times
unfoldable pub at : ℕ → Curve → ℕ → ℕ
at P F x = value x P F x

-- 01's three rules, of any function
pub record Follows (P : ℕ) (F : Curve) (f : ℕ → ℕ) : Type 0 where
  pub none : f 0 ≡ 0
  pub table : (i : ℕ) → i < length F.table → f (suc i) ≡ get_or F.table i 0
  pub past : (x : ℕ) → length F.table < x → f x ≡ f (x - P) + F.rate
