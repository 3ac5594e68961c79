-- Laws of specs/Lookup.antt. What the look-ups on a table of bytes ask, and the closed forms that they compute by. Assumes nothing.
use Rattle.std.specs.Prelude.{◌≡◌, ◌⊎◌, ℕ, zero, suc, ◌+◌, ◌-◌, ◌*◌, ◌/◌, ◌≤◌, ◌<◌, length, get_or}
use Rattle.std.proofs.Common.{ap, ◌∙◌, inl, inr, div-mul-le_self, mul-le-mul_left, add-one, arith}
use Rattle.std.proofs.Math.Nat.{lt-div-mul-add}
use Rattle.std.specs.Int.{div_ceil}
use Rattle.std.proofs.lemmas.Grind.{div_ceil_times}
use Rattle.curve.proofs.OrderLaws.{le_or_lt}
use Rattle.curve.specs.Curve.{Curve, at}
use Rattle.curve.proofs.CurveLaws.{at_table, at-periods}
use Rattle.curve.specs.Rises.{IsCurve}
use Rattle.curve.proofs.RisesLaws.{at-rises}
use Rattle.curve.specs.Delay.{First}
use Rattle.curve.specs.Lookup.{Back, Periods}

pub back : (n P x : ℕ) → 1 ≤ P → P ≤ n → n < x → Back n P x ((x - n - 1) / P + 1)
back n P x h l g =
    let a = x - n - 1 in
    let k = a / P in
    let low : k * P ≤ a = div-mul-le_self a P in
    let high : a < k * P + P = lt-div-mul-add h in
    let more : k * 1 ≤ k * P = mul-le-mul_left k h in
    let e : (k + 1) * P ≡ k * P + P = omega arith in
    record { under = omega arith; within = omega arith; near = omega arith; few = omega arith }

-- F(x) past the table, by a value of the table
pub at_back : (P : ℕ) (F : Curve) (x k : ℕ) → 1 ≤ P → Back (length F.table) P x k → at P F x ≡ get_or F.table (x - k * P - 1) 0 + k * F.rate
at_back P F x k p b =
    let y = x - k * P - 1 in
    let under : k * P < x = b.under in
    let within : x ≤ k * P + length F.table = b.within in
    let near : length F.table + k * P < x + P = b.near in
    let e : suc y + k * P ≡ x = omega arith in
    let f : at P F x ≡ at P F (suc y) + k * F.rate = rw e at (at-periods P F p k (suc y) (omega arith)) in
    f ∙ ap (λ v. v + k * F.rate) (at_table P F y (omega arith))

-- the first value of the table that is at least q
pub first_in : (P : ℕ) (F : Curve) (q i : ℕ) → i < length F.table → q ≤ get_or F.table i 0
    → ((j : ℕ) → j < i → get_or F.table j 0 < q)
    → First (at P F) q (i + 1)
first_in P F q i h w b = record { from = omega arith; reaches = rw (add-one i, at_table P F i h) w; before = below }
  where
    below : (x : ℕ) → 1 ≤ x → x < i + 1 → at P F x < q
    below zero l m = absurd (omega arith)
    below (suc x) l m = rw (at_table P F x (omega arith)) (b x (omega arith))

-- the least j whose rates make up what the table's last value lacks
pub periods_by : (F : Curve) (q j : ℕ) → 1 ≤ F.rate → get_or F.table (length F.table - 1) 0 < q
    → q - get_or F.table (length F.table - 1) 0 ≤ j * F.rate
    → j * F.rate < q - get_or F.table (length F.table - 1) 0 + F.rate
    → Periods F q j
periods_by F q j r s low high = record { short = s; up = omega arith; down = omega arith; few = few j high }
  where
    few : (j : ℕ) → j * F.rate < q - get_or F.table (length F.table - 1) 0 + F.rate → j ≤ q
    few zero h = omega arith
    few (suc j) h =
        let e : suc j * F.rate ≡ j * F.rate + F.rate = omega arith in
        let more : j * 1 ≤ j * F.rate = mul-le-mul_left j r in
        omega arith

-- as the quotient that is rounded up
pub periods : (F : Curve) (q : ℕ) → 1 ≤ F.rate → get_or F.table (length F.table - 1) 0 < q
    → Periods F q ((q - get_or F.table (length F.table - 1) 0 + (F.rate - 1)) / F.rate)
periods F q r s =
    let g = q - get_or F.table (length F.table - 1) 0 in
    let a = g + (F.rate - 1) in
    let low : a / F.rate * F.rate ≤ a = div-mul-le_self a F.rate in
    let high : a < a / F.rate * F.rate + F.rate = lt-div-mul-add r in
    periods_by F q (a / F.rate) r s (omega arith) (omega arith)

-- and as the program computes it
pub periods_up : (F : Curve) (q : ℕ) → 1 ≤ F.rate → get_or F.table (length F.table - 1) 0 < q
    → Periods F q (div_ceil (q - get_or F.table (length F.table - 1) 0) F.rate)
periods_up F q r s =
    let t = div_ceil_times (q - get_or F.table (length F.table - 1) 0) F.rate r in
    periods_by F q _ r s t.0 t.1

-- a value that is still below q is not the last
pub inside : (F : Curve) (q j k : ℕ) → Periods F q j → k < length F.table → get_or F.table k 0 + j * F.rate < q → k + 1 < length F.table
inside F q j k g h b = go (le_or_lt (length F.table) (k + 1))
  where
    go : (length F.table ≤ k + 1) ⊎ (k + 1 < length F.table) → k + 1 < length F.table
    go (inl a) =
        let e : k ≡ length F.table - 1 = omega arith in
        absurd (omega (arith, g.up, ap (λ i. get_or F.table i 0) e))
    go (inr a) = a

module _ (P : ℕ) (F : Curve) (good : IsCurve P F) (q : ℕ) where
  -- the first of the table's last period that, j periods on, is at least q
  pub first_past : (j k : ℕ) → Periods F q j → length F.table ≤ k + P → k < length F.table → q ≤ get_or F.table k 0 + j * F.rate
      → ((i : ℕ) → length F.table ≤ i + P → i < k → get_or F.table i 0 + j * F.rate < q)
      → First (at P F) q (k + 1 + j * P)
  first_past zero k g lo hi w b = absurd (omega (arith, g.short, g.up))
  first_past (suc j) k g lo hi w b =
      record {
        from = omega arith;
        reaches = rw (here k lo hi) w;
        before = λ x l m. go x (le_or_lt x (length F.table + j * P)) m;
      }
    where
      here : (i : ℕ) → length F.table ≤ i + P → i < length F.table → at P F (i + 1 + suc j * P) ≡ get_or F.table i 0 + suc j * F.rate
      here i a h =
          let p : 1 ≤ P = good.period in
          rw (at-periods P F p (suc j) (i + 1) (omega arith), add-one i, at_table P F i h)

      -- up to j - 1 periods past the table's last value
      low : at P F (length F.table + j * P) < q
      low =
          let p : 1 ≤ P = good.period in
          let e : length F.table ≡ suc (length F.table - 1) = omega arith in
          let f : at P F (length F.table) ≡ get_or F.table (length F.table - 1) 0 = ap (at P F) e ∙ at_table P F (length F.table - 1) (omega arith) in
          let m : suc j * F.rate ≡ j * F.rate + F.rate = omega arith in
          omega (arith, at-periods P F p j (length F.table) (omega arith), g.down)

      go : (x : ℕ) → (x ≤ length F.table + j * P) ⊎ (length F.table + j * P < x) → x < k + 1 + suc j * P → at P F x < q
      go x (inl a) m = omega (arith, low, at-rises P F good x (length F.table + j * P) a)
      go x (inr a) m =
          let l : P ≤ length F.table = good.long in
          let i = x - 1 - suc j * P in
          let s : suc j * P ≡ j * P + P = omega arith in
          let e : i + 1 + suc j * P ≡ x = omega arith in
          let v : at P F x ≡ get_or F.table i 0 + suc j * F.rate = rw e at (here i (omega arith) (omega arith)) in
          omega (arith, b i (omega arith) (omega arith))

-- one more place, from lo on
pub from_more : (Q : ℕ → Type 0) (lo : ℕ → Type 0) (i : ℕ) → ((j : ℕ) → lo j → j < i → Q j) → Q i → (j : ℕ) → lo j → j < i + 1 → Q j
from_more Q lo i h new j l b = go (le_or_lt i j)
  where
    go : (i ≤ j) ⊎ (j < i) → Q j
    go (inl a) =
        let e : j ≡ i = omega arith in
        rw e new
    go (inr a) = h j l a
