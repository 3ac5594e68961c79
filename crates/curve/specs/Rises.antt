-- What makes a table and a rate a curve of document 01: it never falls. Assumes nothing.
use Rattle.std.specs.Prelude.{ℕ, suc, ◌+◌, ◌-◌, ◌≤◌, ◌<◌, length}
use Rattle.curve.specs.Curve.{Curve, entry}

-- n is at least P; each table value is at least the one before it (0 before the first); at the join F(n+1-P) + r is at least F(n)
pub record IsCurve (P : ℕ) (F : Curve) : Type 0 where
  pub period : 1 ≤ P
  pub long : P ≤ length F.table
  pub steps : (x : ℕ) → x < length F.table → entry F.table x ≤ entry F.table (suc x)
  pub join : entry F.table (length F.table) ≤ entry F.table (length F.table + 1 - P) + F.rate
