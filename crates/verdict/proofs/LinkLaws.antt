-- Laws of specs/Link.antt. What the stop rule asks of a link, and that the link of document 01 has it, which sends up to c packets in every slot: with c up to 64 every walk ends by 131,216. Assumes nothing.
use Rattle.std.specs.Prelude.{ℕ, ◌*◌, ◌≤◌}
use Rattle.std.proofs.Common.{mul-le-mul, mul-le-mul_left, arith}
use Rattle.verdict.specs.Stop.{Gains}
use Rattle.verdict.specs.Verdict.{can_send}
use Rattle.verdict.specs.Link.{Link, walk_end}

-- c·t gains c·P in every P slots, and never falls
module _ (c : ℕ) where
  pub even-gains : (P T0 : ℕ) → Gains (can_send c) (c * P) P T0
  even-gains P T0 t h = omega arith

  pub even-most : (T0 s : ℕ) → s ≤ T0 → can_send c s ≤ can_send c T0
  even-most T0 s h = mul-le-mul_left c h

  pub even : (P : ℕ) → c ≤ 64 → P ≤ 16 → Link (can_send c) (c * P) P walk_end
  even P few short =
      let all : c * 128 * P ≤ 64 * 128 * 16 = mul-le-mul {n₁ = c * 128} {n₂ = 64 * 128} (omega arith) short in
      record { gains = even-gains P 128; most = c * 128; below = even-most 128; far = omega arith }
