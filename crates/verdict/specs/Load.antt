-- The load of a sheet: the sum of (b*S)(t) over its sessions, which the verdict holds against c·t. Assumes nothing.
use Rattle.std.specs.Prelude.{ℕ, ◌≤◌, ◌<◌, length}
use Rattle.curve.specs.Total.{total}
use Rattle.curve.specs.Curve.{Curve, at}
use Rattle.curve.specs.Conv.{conv}

-- the sum of (b*S)(t) over the first m sessions: b has the envelopes by session, S the services
unfoldable pub load : ℕ → (ℕ → Curve) → (ℕ → Curve) → ℕ → ℕ → ℕ
load P b S m t = total (λ i. conv (at P (b i)) (at P (S i)) t) m

-- table lengths as a sheet may have them: P..64
pub record Tables (P : ℕ) (b S : ℕ → Curve) (m : ℕ) : Type 0 where
  pub envelope-long : (i : ℕ) → i < m → P ≤ length (b i).table
  pub envelope-short : (i : ℕ) → i < m → length (b i).table ≤ 64
  pub service-long : (i : ℕ) → i < m → P ≤ length (S i).table
  pub service-short : (i : ℕ) → i < m → length (S i).table ≤ 64
