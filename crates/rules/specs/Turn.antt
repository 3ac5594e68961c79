-- The packets of a session up to a number. Assumes nothing.
use Rattle.std.specs.Prelude.{Bool, ◌&&◌}
use Prim.Native.Nat.{ℕ}
use Rattle.std.proofs.Math.Dec.{leb}
use Rattle.rules.specs.Model.{Packet, of_session}

-- a packet of session i with a number up to n
abbrev pub up_to_number : ℕ → ℕ → Packet → Bool
up_to_number i n x = of_session i x && leb x.number n
