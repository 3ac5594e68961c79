-- Which ways to share t slots between an envelope and a service need be tried for (b*S)(t): those with one side within its table.
-- A share past both tables can be moved, a period at a time, towards the smaller rate without growing. Assumes nothing.
use Rattle.std.specs.Prelude.{◌≡◌, ◌⊎◌, ℕ, zero, suc, ◌+◌, ◌-◌, ◌≤◌, ◌<◌, length}
use Rattle.std.proofs.Common.{inl, inr, arith}
use Rattle.curve.proofs.OrderLaws.{le_or_lt}
use Rattle.curve.specs.Curve.{Curve, at}
use Rattle.curve.proofs.CurveLaws.{at_tail}
use Rattle.curve.specs.Conv.{conv}
use Rattle.curve.proofs.ConvLaws.{conv_best}

-- a way to share t slots that gives at most v, with one side within its table (or at 0)
pub record Near (P : ℕ) (b S : Curve) (t v : ℕ) : Type 0 where
  pub s : ℕ
  pub u : ℕ
  pub sum : s + u ≡ t
  pub near : (s ≤ length b.table) ⊎ (u ≤ length S.table)
  pub below : at P b s + at P S u ≤ v

-- with S the slower side, periods go from b to S until one is within its table
down : (P : ℕ) (b S : Curve) → 1 ≤ P → P ≤ length b.table → S.rate ≤ b.rate
    → (k t s u : ℕ) → s ≤ k → s + u ≡ t → Near P b S t (at P b s + at P S u)
down P b S p l r zero t s u h e = record { s = s; u = u; sum = e; near = inl (omega arith); below = omega arith }
down P b S p l r (suc k) t s u h e = go (down P b S p l r k t (s - P) (u + P)) (le_or_lt s (length b.table)) (le_or_lt u (length S.table))
  where
    moved : length b.table < s → length S.table < u → at P b (s - P) + at P S (u + P) ≤ at P b s + at P S u
    moved a c =
        let y = s - P in
        let back : y + P ≡ s = omega arith in
        let here : at P b s ≡ at P b y + b.rate = rw back at (at_tail P b p y (omega arith)) in
        omega (arith, at_tail P S p u (omega arith))

    go : (s - P ≤ k → s - P + (u + P) ≡ t → Near P b S t (at P b (s - P) + at P S (u + P)))
        → (s ≤ length b.table) ⊎ (length b.table < s)
        → (u ≤ length S.table) ⊎ (length S.table < u)
        → Near P b S t (at P b s + at P S u)
    go ih (inl a) d = record { s = s; u = u; sum = e; near = inl a; below = omega arith }
    go ih (inr a) (inl c) = record { s = s; u = u; sum = e; near = inr c; below = omega arith }
    go ih (inr a) (inr c) =
        let m = ih (omega arith) (omega arith) in
        record { s = m.s; u = m.u; sum = m.sum; near = m.near; below = omega (arith, m.below, moved a c) }

-- the two sides change places
flip : (P : ℕ) (b S : Curve) (t v : ℕ) → Near P S b t v → Near P b S t v
flip P b S t v m = record { s = m.u; u = m.s; sum = omega (arith, m.sum); near = other m.near; below = omega (arith, m.below) }
  where
    other : (m.s ≤ length S.table) ⊎ (m.u ≤ length b.table) → (m.u ≤ length b.table) ⊎ (m.s ≤ length S.table)
    other (inl h) = inr h
    other (inr h) = inl h

module _ (P : ℕ) (b S : Curve) (p : 1 ≤ P) (lb : P ≤ length b.table) (lS : P ≤ length S.table) where
  -- no share is smaller than all of the near ones
  pub near : (t s u : ℕ) → s + u ≡ t → Near P b S t (at P b s + at P S u)
  near t s u e = go (le_or_lt S.rate b.rate)
    where
      same : at P S u + at P b s ≡ at P b s + at P S u
      same = omega arith

      go : (S.rate ≤ b.rate) ⊎ (b.rate < S.rate) → Near P b S t (at P b s + at P S u)
      go (inl r) = down P b S p lb r s t s u (omega arith) e
      go (inr r) = rw same at (flip P b S t (at P S u + at P b s) (down P S b p lS (omega arith) u t u s (omega arith) (omega arith)))

  -- (b*S)(t) is the least of the near shares
  pub conv-is : (t m : ℕ) → conv (at P b) (at P S) t ≤ m
      → ((s u : ℕ) → s + u ≡ t → (s ≤ length b.table) ⊎ (u ≤ length S.table) → m ≤ at P b s + at P S u)
      → m ≡ conv (at P b) (at P S) t
  conv-is t m low all =
      let w = conv_best (at P b) (at P S) t in
      let n = near t w.s w.u w.sum in
      omega (arith, low, w.value, n.below, all n.s n.u n.sum n.near)

  -- tables have at most 64 values, so 64 slots on either side are enough: one loop over x = 0..64, up to t, sees every share that counts
  pub conv-tried : length b.table ≤ 64 → length S.table ≤ 64
      → (t m : ℕ) → conv (at P b) (at P S) t ≤ m
      → ((x : ℕ) → x ≤ t → x ≤ 64 → m ≤ at P b x + at P S (t - x))
      → ((x : ℕ) → x ≤ t → x ≤ 64 → m ≤ at P b (t - x) + at P S x)
      → m ≡ conv (at P b) (at P S) t
  conv-tried sb sS t m low first second = conv-is t m low each
    where
      each : (s u : ℕ) → s + u ≡ t → (s ≤ length b.table) ⊎ (u ≤ length S.table) → m ≤ at P b s + at P S u
      each s u e (inl k) =
          let d : t - s ≡ u = omega arith in
          rw d at (first s (omega arith) (omega arith))
      each s u e (inr k) =
          let d : t - u ≡ s = omega arith in
          rw d at (second u (omega arith) (omega arith))
