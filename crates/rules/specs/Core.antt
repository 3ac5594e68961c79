-- What the argument for a sheet that passes speaks of, over functions of slots alone: a window of slots in which only packets of one kind were sent, and how
-- many packets are due. Assumes nothing.
use Rattle.std.specs.Prelude.{◌≡◌, ◌≢◌, Bool, ℕ, ◌+◌, ◌≤◌, ◌<◌}
use Rattle.curve.specs.Total.{total}
use Rattle.rules.specs.Count.{count_to}

-- WINDOW LEMMA. At the end of slot t, W t packets of some kind wait, and G t of that kind were taken in during slots 1..t; slot t+1 sends cap t packets.
-- In each slot none of that kind is left, or all that were sent are of that kind. Then there is a last slot s at whose end none waited, and from there on
-- all that was sent was of that kind.
pub record Window (W G cap : ℕ → ℕ) (t : ℕ) : Type 0 where
  pub s : ℕ
  pub within : s ≤ t
  pub clear : W s ≡ 0
  pub counted : W t + total cap t + G s ≤ G t + total cap s
  pub busy : (u : ℕ) → s < u → u ≤ t → W u ≢ 0

-- One session: a u packets are taken in during slot u+1, and due u q says that the q-th of them is due by a fixed slot. It has the number A(u) + q, where
-- A is `total a`. How many of those taken in during slots 1..t are due
unfoldable pub due_in : (a : ℕ → ℕ) (due : ℕ → ℕ → Bool) → ℕ → ℕ
due_in a due = total (λ u. count_to (due u) (a u))
