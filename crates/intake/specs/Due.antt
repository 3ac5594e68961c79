-- What the look-up in a table of numbers asks: the table and the rate are a curve, and its sums stay within 32 bits; and where the next look-up may begin. Assumes nothing.
use Rattle.std.specs.Prelude.{◌≡◌, ◌⊎◌, ℕ, suc, ◌+◌, ◌-◌, ◌*◌, ◌≤◌, ◌<◌, length}
use Rattle.std.proofs.Common.{inl, inr, le→leb}
use native.Mathlib.Omega.{arith}
use native.Mathlib.Nat.{mul-le-mul}
use Rattle.std.proofs.Math.Dec.{leb→le}
use Rattle.std.proofs.Math.ListN.{get_or}
use Rattle.curve.proofs.OrderLaws.{le_or_lt}
use Rattle.curve.specs.Curve.{Curve, at}
use Rattle.curve.proofs.CurveLaws.{at_table}
use Rattle.curve.specs.Delay.{slot, come, delay}
use Rattle.curve.proofs.DelayLaws.{delay-from, delay-law}
use Rattle.curve.specs.Lookup.{Begins}
use Rattle.curve.specs.Rises.{IsCurve}
use Rattle.sheet.specs.Limits.{longest_period, longest_table, largest_rate}
use Rattle.layout.specs.Sound.{most_ahead, Below}

-- want is a number of packets: no more are ever asked for than can lie ahead
pub record Seeks (P : ℕ) (F : Curve) (want : ℕ) : Type 0 where
  pub curve : IsCurve P F
  pub few : P ≤ longest_period
  pub short : length F.table ≤ longest_table
  pub promises : 1 ≤ F.rate
  pub rate : F.rate ≤ largest_rate
  pub small : Below most_ahead F
  pub wanted : want ≤ most_ahead

-- no look-up tells a number of slots above this: a table, and a period for each packet
abbrev pub most_delay : ℕ
most_delay = longest_table + most_ahead * longest_period

module _ (P : ℕ) (F : Curve) (want : ℕ) (s : Seeks P F want) where
  pub delay-most : (m : ℕ) → m ≤ length F.table + want * P → m ≤ most_delay
  delay-most m h = omega (arith, h, s.short, mul-le-mul s.wanted s.few)

module _ (P : ℕ) (F : Curve) (good : IsCurve P F) (want m : ℕ) (told : delay P F want ≡ slot m) where
  -- what a look-up tells is a slot count from 1 on
  pub told-some : 1 ≤ m
  unfolding come
  told-some = delay-from P F want m (rw told (le→leb m m (omega arith)))

  -- and whoever wants more may begin there
  pub begins-after : (more start : ℕ) → want ≤ more → start ≤ m - 1 → start ≤ length F.table → Begins F.table more start
  unfolding come
  begins-after more start w l n = (n, λ j h. below j h (le_or_lt want (get_or F.table j 0)))
    where
      below : (j : ℕ) → j < start → (want ≤ get_or F.table j 0) ⊎ (get_or F.table j 0 < want) → get_or F.table j 0 < more
      below j h (inl a) =
          let e : want ≤ at P F (suc j) = rw (at_table P F j (omega arith)) a in
          absurd (omega (arith, leb→le m (suc j) (rw told at ((delay-law P F good want (suc j) (omega arith)).1 e))))
      below j h (inr a) = omega arith
