-- Laws of specs/Bends.antt. Past the tables the load bends down along a period: it grows by no more in the next period than in the last. This is what lets a
-- finite walk speak of every slot count. Assumes nothing.
use Rattle.std.specs.Prelude.{◌≡◌, ◌⊎◌, ℕ, zero, suc, ◌+◌, ◌-◌, ◌≤◌, ◌<◌, length}
use Rattle.std.proofs.Common.{inl, inr, arith}
use Rattle.curve.proofs.OrderLaws.{le_or_lt}
use Rattle.curve.specs.Curve.{Curve, at}
use Rattle.curve.proofs.CurveLaws.{at_tail}
use Rattle.curve.specs.Conv.{conv}
use Rattle.curve.proofs.ConvLaws.{conv-le, Best, conv_best}
use Rattle.verdict.specs.Load.{load, Tables}
use Rattle.verdict.proofs.LoadLaws.{load-none, load-more}
use Rattle.verdict.specs.Bends.{Bends}

-- take the best share of t + P: one side is past its table, and there a period more and a period less are shares of t + 2P and of t
pub conv-bends : (P : ℕ) (b S : Curve) → 1 ≤ P → P ≤ length b.table → P ≤ length S.table
    → Bends (conv (at P b) (at P S)) P (length b.table + length S.table)
conv-bends P b S p lb lS t h = go (conv_best (at P b) (at P S) (t + P))
  where
    go : Best (at P b) (at P S) (t + P)
        → conv (at P b) (at P S) (t + P + P) + conv (at P b) (at P S) t ≤ conv (at P b) (at P S) (t + P) + conv (at P b) (at P S) (t + P)
    go m = side (le_or_lt s (length b.table))
      where
        s : ℕ
        s = m.s

        u : ℕ
        u = m.u

        e : s + u ≡ t + P
        e = m.sum

        side : (s ≤ length b.table) ⊎ (length b.table < s)
            → conv (at P b) (at P S) (t + P + P) + conv (at P b) (at P S) t ≤ conv (at P b) (at P S) (t + P) + conv (at P b) (at P S) (t + P)
        side (inr a) =
            let y = s - P in
            let back : y + P ≡ s = omega (arith, e) in
            let here : at P b s ≡ at P b y + b.rate = rw back at (at_tail P b p y (omega (arith, e))) in
            let more = conv-le (at P b) (at P S) (t + P + P) (s + P) u (omega (arith, e)) in
            let less = conv-le (at P b) (at P S) t y u (omega (arith, e)) in
            omega (arith, here, at_tail P b p s (omega arith), more, less, m.value)
        side (inl a) =
            let y = u - P in
            let back : y + P ≡ u = omega (arith, e) in
            let here : at P S u ≡ at P S y + S.rate = rw back at (at_tail P S p y (omega (arith, e))) in
            let more = conv-le (at P b) (at P S) (t + P + P) s (u + P) (omega (arith, e)) in
            let less = conv-le (at P b) (at P S) t s y (omega (arith, e)) in
            omega (arith, here, at_tail P S p u (omega (arith, e)), more, less, m.value)

module _ (P : ℕ) (b S : ℕ → Curve) (m : ℕ) (p : 1 ≤ P) (g : Tables P b S m) where
  -- a load of m sessions, past a place that no two tables of a session reach together
  pub load-bends-past : (T0 : ℕ) → ((i : ℕ) → i < m → length (b i).table + length (S i).table ≤ T0) → Bends (load P b S m) P T0
  load-bends-past T0 both = up_to m (omega arith)
    where
      up_to : (i : ℕ) → i ≤ m → Bends (load P b S i) P T0
      up_to zero l t h = omega (arith, load-none P b S t, load-none P b S (t + P), load-none P b S (t + P + P))
      up_to (suc i) l t h =
          let one = conv-bends P (b i) (S i) p (g.envelope-long i l) (g.service-long i l) t (omega (arith, both i l)) in
          omega (arith, one, up_to i (omega arith) t h, load-more P b S i t, load-more P b S i (t + P), load-more P b S i (t + P + P))

  -- past 128 in any sheet: the two tables of a session have at most 64 values each
  pub load-bends : Bends (load P b S m) P 128
  load-bends = load-bends-past 128 (λ i l. omega (arith, g.envelope-short i l, g.service-short i l))
