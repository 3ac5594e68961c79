-- The packets that wait together in a slot. Assumes nothing.
use Rattle.std.specs.Prelude.{length}
use mathlib.Core.List.{List, ◌++◌}
use Prim.Native.Nat.{ℕ}
use Rattle.sheet.specs.Sheet.{Sheet}
use Rattle.rules.specs.Model.{Packet, took, taken_in, arrivals, past}

-- THE PACKETS THAT WAIT TOGETHER in slot t + 1: those that waited at the end of slot t, and those that it took in
abbrev pub together : Sheet → (ℕ → List ℕ) → ℕ → List Packet
together sheet told t = (past sheet told t).waiting ++ arrivals sheet (took (taken_in sheet (past sheet told t) (told t))) (length (past sheet told t).taken)
